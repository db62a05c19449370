use Rattle.std.proofs.Common.{rules}
use Rattle.cap_pcap.specs.Split.{record_at}
use Rattle.cap_pcap.proofs.records.record_in.Goals as goal

pub returns : goal.returns
unfolding record_at
returns c = search rules
