use Rattle.std.proofs.Common.{rules}
use Rattle.cap_time.proofs.stamps.Unit.in_second.Goals as goal

pub returns-in-Micro : goal.returns-in-Micro
returns-in-Micro c = search rules
