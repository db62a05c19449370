-- Why stamps are in a total order, and why equal ones hash alike.
use Rattle.std.proofs.Common.{◌≡◌, ℕ, ◌*◌, ◌/◌, ◌^◌, ◌<◌, ◌++◌, refl, sym, ap, ◌∙◌, subst, arith, Ordering, Less, Equal}
use Rattle.std.proofs.Common.{Greater}
use Rattle.std.specs.Ordering.{int_cmp, nat_cmp, ordering_then, as_partial_cmp, is_lt, is_gt}
use Rattle.std.specs.Cmp.{IsTotalOrder, IsEquivalence, IsPartialEquivalence, IsPartialOrder, nat_cmp_total}
use Rattle.std.specs.Cmp.{int_cmp_total, on_total, then_total, Equal-is, eq_by_cmp_equiv, partial_equiv_from_equiv, po}
use Rattle.std.specs.Cmp.{ranked, int_ranked}
use Rattle.std.proofs.Math.Nat.{mul-div-mul_right}
use Rattle.std.proofs.lemmas.Bool.{true≢false}
use Rattle.std.proofs.lemmas.Nat.{mod_below}
use Rattle.std.specs.Prelude.{IsTrue}
use Rattle.std.specs.Hash as fed
use Rattle.cap_time.specs.declared.stamps.Stamp.{Stamp}
use Rattle.cap_time.specs.ResolutionLaws.{code_positive}
use Rattle.cap_time.specs.Stamp.{seconds_of, numerator_of, denominator_of, stamp_cmp, stamp_eq}
use Rattle.cap_time.specs.inner.TimeLaws.{units_cmp, units_trans, units_congr, time_cmp-units}

-- a second has a unit at least
pub denominator_positive : (a : Stamp) → 0 < denominator_of a
denominator_positive a = code_positive a.code a.allowed

-- a fraction is below a second
pub numerator_below : (a : Stamp) → numerator_of a < denominator_of a
numerator_below a = mod_below a.units (denominator_of a) (denominator_positive a)

-- stamps compare by their seconds, and then by their numerators crosswise
pub stamp_cmp-parts : (a b : Stamp) → stamp_cmp a b
    ≡ ordering_then (int_cmp (seconds_of a) (seconds_of b))
    (nat_cmp (numerator_of a * denominator_of b) (numerator_of b * denominator_of a))
unfolding stamp_cmp
stamp_cmp-parts a b = time_cmp-units (seconds_of a) (seconds_of b) (numerator_of a) (denominator_of a)
    (numerator_of b) (denominator_of b) (numerator_below a) (numerator_below b)

-- the second part of that comparison
abbrev pub fraction_cmp : Stamp → Stamp → Ordering
fraction_cmp a b = units_cmp (numerator_of a) (denominator_of a) (numerator_of b) (denominator_of b)

fraction_cmp_total : IsTotalOrder fraction_cmp
fraction_cmp_total = record {
  antisymm = λ a b. nat_cmp_total.antisymm (numerator_of a * denominator_of b) (numerator_of b * denominator_of a);
  trans = λ a b c. units_trans (numerator_of a) (denominator_of a) (numerator_of b) (denominator_of b)
      (numerator_of c) (denominator_of c) (denominator_positive a);
  congr = λ a b c. units_congr (numerator_of a) (denominator_of a) (numerator_of b) (denominator_of b)
      (numerator_of c) (denominator_of c) (denominator_positive a) (denominator_positive b);
}

-- `Ord`'s law
pub stamp_cmp_total : IsTotalOrder stamp_cmp
stamp_cmp_total = subst IsTotalOrder (λ i a b. sym (stamp_cmp-parts a b) i)
    (then_total (on_total seconds_of int_cmp_total) fraction_cmp_total)

-- the laws of `Eq`, `PartialEq` and `PartialOrd`
pub stamp_eq_equivalence : IsEquivalence stamp_eq
stamp_eq_equivalence = eq_by_cmp_equiv stamp_cmp_total

pub stamp_eq_partial : IsPartialEquivalence stamp_eq
stamp_eq_partial = partial_equiv_from_equiv stamp_eq_equivalence

pub stamp_partial_order : IsPartialOrder stamp_eq (as_partial_cmp stamp_cmp)
stamp_partial_order = po stamp_cmp_total (λ a b. refl)

-- the first 64 binary places of n / d, as a whole number
abbrev pub binary_places : ℕ → ℕ → ℕ
binary_places n d = n * 2 ^ 64 / d

-- equal fractions have equal binary places
same_quotient : (n d m e k : ℕ) → 0 < d → 0 < e → n * e ≡ m * d → n * k / d ≡ m * k / e
same_quotient n d m e k p q same =
    let scaled : n * e * k ≡ m * d * k = ap (λ (x : ℕ). x * k) same in
    let tops : n * k * e ≡ m * k * d = omega (arith, scaled) in
    let bottoms : d * e ≡ e * d = omega arith in
    sym (mul-div-mul_right (n * k) d q) ∙ ap (λ (x : ℕ). x / (d * e)) tops ∙ ap (λ (x : ℕ). m * k * d / x) bottoms
    ∙ mul-div-mul_right (m * k) e p

-- what is written to a hasher: the seconds and the binary places, which depend on the time alone
abbrev pub stamp_hash : Stamp → fed.HashWrites
stamp_hash a = fed.i128 (seconds_of a) ++ fed.u128 (binary_places (numerator_of a) (denominator_of a))

-- one comparison and then another is `Equal` if both are
pub both_equal : (r s : Ordering) → ordering_then r s ≡ Equal → (r ≡ Equal) × (s ≡ Equal)
both_equal Less s e = absurd (true≢false (ap is_lt e))
both_equal Equal s e = (refl, e)
both_equal Greater s e = absurd (true≢false (ap is_gt e))

-- equal times have equal seconds and equal cross products
pub same_parts : (a b : Stamp) → stamp_cmp a b ≡ Equal → (seconds_of a ≡ seconds_of b)
    × (numerator_of a * denominator_of b ≡ numerator_of b * denominator_of a)
same_parts a b e =
    let both : (int_cmp (seconds_of a) (seconds_of b) ≡ Equal)
    × (fraction_cmp a b ≡ Equal) = both_equal (int_cmp (seconds_of a) (seconds_of b)) (fraction_cmp a b)
    (sym (stamp_cmp-parts a b) ∙ e) in (
      int_ranked (seconds_of a) (seconds_of b) Equal (sym both.0),
      ranked (numerator_of a * denominator_of b) (numerator_of b * denominator_of a) Equal (sym both.1),
    )

-- `Hash`'s law
pub stamp_hash-same : (a b : Stamp) → IsTrue (stamp_eq a b) → stamp_hash a ≡ stamp_hash b
stamp_hash-same a b h =
    let parts : (seconds_of a ≡ seconds_of b)
    × (numerator_of a * denominator_of b ≡ numerator_of b * denominator_of a) =
    same_parts a b ((Equal-is (stamp_cmp a b)).0 h) in
    let places : binary_places (numerator_of a) (denominator_of a) ≡ binary_places (numerator_of b) (denominator_of b) =
    same_quotient (numerator_of a) (denominator_of a) (numerator_of b) (denominator_of b)
    (2 ^ 64) (denominator_positive a) (denominator_positive b) parts.1 in
    λ i. fed.i128 (parts.0 i) ++ fed.u128 (places i)

-- two stamps count the same units from the same second
abbrev pub CountAlike : Stamp → Stamp → Type 0
CountAlike a b = (a.code ≡ b.code) × (a.low ≡ b.low) × (a.high ≡ b.high)
