use Rattle.cap_talks.proofs.Ipv6Law.{ipv6-law}
use Rattle.cap_talks.proofs.table.laws.ipv6_law.Goals as goal

pub returns : goal.returns
returns c = ipv6-law
