use Rattle.cap_class.proofs.Steps.{one-class}
use Rattle.cap_laws.proofs.laws.one_class.Goals as goal

pub returns : goal.returns
returns c = one-class
