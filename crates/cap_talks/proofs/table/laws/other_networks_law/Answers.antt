use Rattle.cap_talks.proofs.OtherNetworks.{networks-sum}
use Rattle.cap_talks.proofs.table.laws.other_networks_law.Goals as goal

pub returns : goal.returns
returns c = networks-sum
