use Rattle.cap_laws.proofs.again.PcapngAgain.{pcapng_again-law}
use Rattle.cap_laws.proofs.again.pcapng_again.Goals as goal

pub returns : goal.returns
returns c = pcapng_again-law
