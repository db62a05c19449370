use Rattle.std.proofs.Common.{◌∙◌, refl, ap, arith}
use Rattle.std.proofs.lemmas.Int.{ints}
use Rattle.cap_time.specs.Stamp.{stamp_plus, time_of, printed_of}
use Rattle.cap_time.proofs.StampForms.{same_stamp, time_of-plus, printed_of-plus}
use Rattle.cap_time.proofs.stamps.Stamp.plus_seconds.Goals as goal

pub returns-clause-stamp : goal.returns-clause-stamp
unfolding stamp_plus
returns-clause-stamp c = same_stamp _ _ _ _ _ _ _ _ _ refl (grind (arith, c.from.ensures, c.from-2.ensures))
    (omega (arith, ints, c.from.ensures, c.from-2.ensures))

pub returns-clause-time : goal.returns-clause-time
returns-clause-time c = ap time_of (returns-clause-stamp c) ∙ time_of-plus c.args.self c.args.seconds

pub returns-clause-printed : goal.returns-clause-printed
returns-clause-printed c = ap printed_of (returns-clause-stamp c) ∙ printed_of-plus c.args.self c.args.seconds
