use Rattle.cap_laws.proofs.JsonFaults.{network-line}
use Rattle.cap_laws.proofs.laws.json_networks.Goals as goal

pub returns : goal.returns
returns c = network-line
