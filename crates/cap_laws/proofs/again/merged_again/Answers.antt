use Rattle.cap_laws.proofs.again.Grouped as grouped
use Rattle.cap_laws.proofs.again.Instances.{one_interface-law}
use Rattle.cap_laws.proofs.again.MergedFiles.{merge-law}
use Rattle.cap_laws.proofs.again.MergedPcap.{merged-pcap}
use Rattle.cap_laws.proofs.again.Renumbered.{merged_again-law}
use Rattle.cap_laws.proofs.again.merged_again.Goals as goal

pub returns-clause-files : goal.returns-clause-files
returns-clause-files c = merge-law

pub returns-clause-packets : goal.returns-clause-packets
returns-clause-packets c = merged_again-law

pub returns-clause-interfaces : goal.returns-clause-interfaces
returns-clause-interfaces c = one_interface-law

pub returns-clause-clocks : goal.returns-clause-clocks
returns-clause-clocks c = grouped.clock-law

pub returns-clause-pcap : goal.returns-clause-pcap
returns-clause-pcap c = merged-pcap
