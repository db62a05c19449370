use Rattle.cap_laws.proofs.DigestLaws.{converted-digest}
use Rattle.cap_laws.proofs.digests.converted_digest.Goals as goal

pub returns : goal.returns
returns c = converted-digest c.pcapng_again.ensures c.pcap_again.ensures
