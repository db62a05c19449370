use Rattle.std.proofs.Common.{rules}
use Rattle.cap_write.proofs.pcap.put_pcap.Goals as goal

pub returns-in-None-clause-text : goal.returns-in-None-clause-text
returns-in-None-clause-text g c = search rules
