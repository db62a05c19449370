use Rattle.cap_laws.proofs.Diffs.{same-as-converted}
use Rattle.cap_laws.proofs.laws.diff_converted.Goals as goal

pub returns : goal.returns
returns c = same-as-converted c.pcap_again.ensures c.pcapng_again.ensures
