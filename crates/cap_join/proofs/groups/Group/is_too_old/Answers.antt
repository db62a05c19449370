use Rattle.std.proofs.Common.{rules}
use Rattle.cap_join.proofs.groups.Group.is_too_old.Goals as goal

pub returns-in-Some : goal.returns-in-Some
returns-in-Some c = search rules
