use Rattle.cap_ipv6.proofs.ChainLaw.{chain-law}
use Rattle.cap_ipv6.proofs.packets.chain_law.Goals as goal

pub returns : goal.returns
returns c = chain-law
