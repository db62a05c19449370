-- The least of some things in an order, one after another: of those alike the one that came first.
use Rattle.std.proofs.Common.{arith, ◌≡◌, true, false, cond, ap, Ordering, Option, Some, None}
use Rattle.std.specs.Ordering.{is_lt}
use Rattle.std.specs.Cmp.{IsTotalOrder}
use Rattle.cap_time.specs.inner.Orderings.{is_less}

-- of two things the one that comes first, else the former, or the only one
abbrev pub chosen : {X : Type 0} → (X → X → Ordering) → Option X → Option X → Option X
chosen cmp None b = b
chosen cmp (Some a) None = Some a
chosen cmp (Some a) (Some b) = cond (is_lt (cmp b a)) (Some b) (Some a)

module _ {X : Type 0} (cmp : X → X → Ordering) (total : IsTotalOrder cmp) where
  trans : (a b c : X) → is_lt (cmp a b) ≡ true → is_lt (cmp b c) ≡ true → is_lt (cmp a c) ≡ true
  trans a b c h k = ap is_lt (total.trans a b c (is_less (cmp a b) h) (is_less (cmp b c) k))

  pub not_trans : (a b c : X) → is_lt (cmp a b) ≡ false → is_lt (cmp b c) ≡ false → is_lt (cmp a c) ≡ false
  not_trans a b c h k = grind arith

  pub chosen-assoc : (a b c : Option X) → chosen cmp (chosen cmp a b) c ≡ chosen cmp a (chosen cmp b c)
  chosen-assoc a b c = grind arith

pub chosen-alone : {X : Type 0} (cmp : X → X → Ordering) (a : Option X) → chosen cmp a None ≡ a
chosen-alone cmp a = grind arith
