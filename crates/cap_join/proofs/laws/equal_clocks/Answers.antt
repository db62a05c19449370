use Rattle.cap_join.proofs.EqualClocks.{same-groups}
use Rattle.cap_join.proofs.laws.equal_clocks.Goals as goal

pub returns : goal.returns
returns c = same-groups
