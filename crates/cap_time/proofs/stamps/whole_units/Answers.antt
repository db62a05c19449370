use Rattle.std.proofs.Common.{arith, rules}
use Rattle.cap_time.proofs.WholeUnits.{whole_same}
use Rattle.cap_time.proofs.stamps.whole_units.Goals as goal

pub returns-then-denominator-from : goal.returns-then-denominator-from
returns-then-denominator-from c = whole_same c.args.numerator c.args.denominator c.args.in_second (omega arith)
    (omega arith)

pub returns-then-scaled-denominator-eq0 : goal.returns-then-scaled-denominator-eq0
returns-then-scaled-denominator-eq0 c = search rules
