use Rattle.cap_pcap.proofs.Again.{header_read-law, header_again-law, record_again-law}
use Rattle.cap_pcap.proofs.Splitting.{one_record-law, one_split-law, every_split-law, split_items-law, record_read-law}
use Rattle.cap_pcap.proofs.laws.grammar_laws.Goals as goal

pub returns-clause-record : goal.returns-clause-record
returns-clause-record c = one_record-law

pub returns-clause-one : goal.returns-clause-one
returns-clause-one c = one_split-law

pub returns-clause-every : goal.returns-clause-every
returns-clause-every c = every_split-law

pub returns-clause-items : goal.returns-clause-items
returns-clause-items c = split_items-law

pub returns-clause-header_spelled : goal.returns-clause-header_spelled
returns-clause-header_spelled c = header_read-law

pub returns-clause-packet_spelled : goal.returns-clause-packet_spelled
returns-clause-packet_spelled c = record_read-law

pub returns-clause-header : goal.returns-clause-header
returns-clause-header c = header_again-law

pub returns-clause-packet : goal.returns-clause-packet
returns-clause-packet c = record_again-law
