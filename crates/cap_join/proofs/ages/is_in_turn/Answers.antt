use Rattle.std.proofs.Common.{rules}
use Rattle.cap_join.proofs.ages.is_in_turn.Goals as goal

pub returns-in-Some-latest : goal.returns-in-Some-latest
returns-in-Some-latest c = search rules
