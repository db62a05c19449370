use Rattle.std.proofs.Common.{arith}
use Rattle.std.proofs.lemmas.Int.{ints}
use Rattle.cap_time.specs.Unit.{in_second}
use Rattle.cap_time.proofs.WholeUnits.{whole_some, whole_none, in_second_positive}
use Rattle.cap_time.proofs.stamps.Stamp.whole_in.Goals as goal

pub returns-in-Some-clause-whole : goal.returns-in-Some-clause-whole
returns-in-Some-clause-whole c = whole_some (in_second c.args.unit) c.in-Some.units _ c.args.self
    (in_second_positive c.args.unit) (grind (arith, ints))

pub returns-in-None-clause-inexact : goal.returns-in-None-clause-inexact
returns-in-None-clause-inexact c = whole_none (in_second c.args.unit) c.args.self (in_second_positive c.args.unit)
    (grind arith)
