use Rattle.std.proofs.Common.{rules}
use Rattle.cap_pcap.proofs.readers.PcapReader.new.Goals as goal

pub returns-clause-opened : goal.returns-clause-opened
returns-clause-opened g c = search rules

pub invariant_of-result : goal.invariant_of-result
invariant_of-result g c = search rules
