use Rattle.std.proofs.Common.{rules}
use Rattle.cap_pcap.proofs.readers.PcapReader.known.Goals as goal

pub returns : goal.returns
returns g c = search rules
