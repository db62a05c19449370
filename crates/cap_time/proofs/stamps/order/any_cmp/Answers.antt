use Rattle.std.proofs.Common.{◌≡◌, ◌∙◌, sym, arith, Ordering, Equal}
use Rattle.std.specs.Ordering.{int_cmp, ordering_then}
use Rattle.std.proofs.lemmas.Int.{ints}
use Rattle.cap_time.specs.Stamp.{seconds_of}
use Rattle.cap_time.specs.inner.StampLaws.{stamp_cmp-parts, fraction_cmp}
use Rattle.cap_time.proofs.stamps.order.any_cmp.Goals as goal

-- the first comparison decides if it isn't `Equal`
decided : (r s : Ordering) → (r ≡ Equal → ⊥) → ordering_then r s ≡ r
decided r s n = grind arith

pub returns-then-own-others : goal.returns-then-own-others
returns-then-own-others c = grind (arith, stamp_cmp-parts)

pub returns-else-own-others : goal.returns-else-own-others
returns-else-own-others c =
    let a = c.args.a in
    let b = c.args.b in
    let own = c.seconds-own.ensures in
    let others = c.seconds-others.ensures in
    let apart : int_cmp (seconds_of a) (seconds_of b) ≡ Equal → ⊥ = grind (arith, ints, own, others) in
    let told : c.cmp.result ≡ int_cmp (seconds_of a) (seconds_of b) = grind (arith, ints, own, others, c.cmp.ensures) in
    told ∙ sym (stamp_cmp-parts a b ∙ decided (int_cmp (seconds_of a) (seconds_of b)) (fraction_cmp a b) apart)
