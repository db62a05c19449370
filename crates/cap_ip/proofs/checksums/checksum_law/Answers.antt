use Rattle.cap_ip.proofs.ChecksumLaw.{checksum-law}
use Rattle.cap_ip.proofs.checksums.checksum_law.Goals as goal

pub returns : goal.returns
returns c = checksum-law
