use Rattle.std.proofs.Common.{ℤ, ◌≡◌, to_z, of_z, w32, w64, ◌^◌, ◌∙◌, ap, sym, subst, arith}
use Rattle.std.proofs.lemmas.Int.{ints}
use Rattle.std.specs.Prelude.{◌≤ℤ◌, ◌<ℤ◌, neg_ℤ, pos}
use Rattle.cap_time.specs.declared.stamps.Stamp.{Stamp}
use Rattle.cap_time.specs.Time.{floor_of, remainder_of}
use Rattle.cap_time.specs.Stamp.{stamp_in, time_of, printed_of, seconds_of}
use Rattle.cap_time.proofs.StampForms.{same_stamp, time_of-stamp_in, printed_of-stamp_in, least_in, most_in}
use Rattle.cap_time.proofs.stamps.Stamp.new.Goals as goal

pub returns-clause-stamp : goal.returns-clause-stamp
unfolding stamp_in
returns-clause-stamp c =
    let offset : to_z w64 (of_z w64 c.args.interface.now.offset) ≡ c.args.interface.now.offset = omega (arith, ints) in
    let high : to_z w32 (of_z w32 c.halves-low.result.1) ≡ c.halves-low.result.1 = omega (arith, ints) in
    same_stamp _ _ _ _ _ _ _ _ _ (c.from.ensures ∙ c.code.ensures.value)
    (c.halves-low.ensures.low ∙ ap (λ (z : ℤ). remainder_of z (2 ^ 64)) offset)
    (high ∙ c.halves-low.ensures.high ∙ ap (λ (z : ℤ). floor_of z (2 ^ 64)) offset)

pub returns-clause-time : goal.returns-clause-time
returns-clause-time c = ap time_of (returns-clause-stamp c) ∙ time_of-stamp_in c.args.units c.args.interface.now

pub returns-clause-printed : goal.returns-clause-printed
returns-clause-printed c = ap printed_of (returns-clause-stamp c)
    ∙ printed_of-stamp_in c.args.units c.args.interface.now

pub returns-clause-least : goal.returns-clause-least
returns-clause-least c = subst (λ (s : Stamp). neg_ℤ (pos (2 ^ 63)) ≤ℤ seconds_of s) (sym (returns-clause-stamp c))
    (least_in c.args.units c.args.interface.now (omega (arith, ints)))

pub returns-clause-most : goal.returns-clause-most
returns-clause-most c = subst (λ (s : Stamp). seconds_of s <ℤ pos (2 ^ 65)) (sym (returns-clause-stamp c))
    (most_in c.args.units c.args.interface.now (omega arith) (omega (arith, ints)))
