-- How two times compare that are given as whole seconds and units below a second's worth.
use Rattle.std.proofs.Common.{◌≡◌, ℕ, suc, ◌+◌, ◌*◌, ◌<◌, ◌≤◌, sym, ap, ◌∙◌, arith, ℤ, pos, ◌+ℤ◌, ◌*ℤ◌, Ordering, Less}
use Rattle.std.proofs.Common.{Equal, Greater}
use Rattle.std.specs.Prelude.{◌<ℤ◌}
use Rattle.std.proofs.Math.Nat.{mul-le-mul_right, mul-lt-mul_of_pos_right, lt_of_mul-lt-mul_right, le_of_lt}
use borrow.Author.Differences.{up, down, lt_out, below_in, same_in, sum_is_lem, product_is}
use Rattle.std.specs.Ordering.{int_cmp, nat_cmp, ordering_then, MatchOrdering}
use Rattle.std.specs.Cmp.{int_cmp_is, int_ranks, ranks, ranked, nat_cmp_is}
use Rattle.cap_time.specs.Time.{time_at, time_cmp}

-- the cross product of a time with another's denominator
unfoldable pub cross : ℤ → ℕ → ℕ → ℕ → ℤ
cross s n d e = (pos n +ℤ s *ℤ pos d) *ℤ pos e

-- that product is n * e above s * (d * e), with s read as a difference
pub cross_is : (s : ℤ) (n d e : ℕ) → up (cross s n d e) + down s * (d * e)
    ≡ down (cross s n d e) + n * e + up s * (d * e)
unfolding cross
cross_is s n d e =
    let whole : ℤ = s *ℤ pos d in
    let sum : ℤ = pos n +ℤ whole in
    let sum_scaled : (up sum + 0 + down whole) * e ≡ (down sum + n + up whole) * e =
    ap (λ (x : ℕ). x * e) (sum_is_lem (pos n) whole) in
    let up_scaled : up whole * e ≡ (up s * d + down s * 0) * e = ap (λ (x : ℕ). x * e) (product_is s (pos d)).0 in
    let down_scaled : down whole * e ≡ (up s * 0 + down s * d) * e = ap (λ (x : ℕ). x * e) (product_is s (pos d)).1 in
    omega (arith, sum_scaled, up_scaled, down_scaled, product_is sum (pos e))

-- a whole second outweighs any units below a second's worth
less : (s z : ℤ) (n d m e : ℕ) → n < d → m < e → s <ℤ z → cross s n d e <ℤ cross z m e d
less s z n d m e n_below m_below h =
    let apart : suc (up s + down z) ≤ up z + down s = omega (arith, lt_out s z h) in
    let seconds : suc (up s + down z) * (d * e) ≤ (up z + down s) * (d * e) = mul-le-mul_right (d * e) apart in
    let units : suc n * e ≤ d * e = mul-le-mul_right e n_below in
    below_in (cross s n d e) (cross z m e d) (omega (arith, seconds, units, cross_is s n d e, cross_is z m e d))

-- within a second the units decide, each scaled to the other's
nearer : (s : ℤ) (n d m e : ℕ) → n * e < m * d → cross s n d e <ℤ cross s m e d
nearer s n d m e h = below_in (cross s n d e) (cross s m e d) (omega (arith, cross_is s n d e, cross_is s m e d))

level : (s : ℤ) (n d m e : ℕ) → n * e ≡ m * d → cross s n d e ≡ cross s m e d
level s n d m e h = same_in (cross s n d e) (cross s m e d) (omega (arith, cross_is s n d e, cross_is s m e d))

-- the units' part of the comparison
abbrev pub units_cmp : ℕ → ℕ → ℕ → ℕ → Ordering
units_cmp n d m e = nat_cmp (n * e) (m * d)

by_units : (s : ℤ) (n d m e : ℕ) (r : Ordering) → MatchOrdering r (n * e < m * d) (n * e ≡ m * d) (m * d < n * e)
    → MatchOrdering r (cross s n d e <ℤ cross s m e d) (cross s n d e ≡ cross s m e d) (cross s m e d <ℤ cross s n d e)
by_units s n d m e Less h = nearer s n d m e h
by_units s n d m e Equal h = level s n d m e h
by_units s n d m e Greater h = nearer s m e n d h

by_seconds : (s z : ℤ) (n d m e : ℕ) → n < d → m < e → (r : Ordering) → MatchOrdering r (s <ℤ z) (s ≡ z) (z <ℤ s)
    → ordering_then r (units_cmp n d m e) ≡ int_cmp (cross s n d e) (cross z m e d)
by_seconds s z n d m e p q Less h = int_cmp_is (cross s n d e) (cross z m e d) Less (less s z n d m e p q h)
by_seconds s z n d m e p q Equal h =
    int_cmp_is (cross s n d e) (cross s m e d) (units_cmp n d m e)
    (by_units s n d m e (units_cmp n d m e) (ranks (n * e) (m * d)))
    ∙ ap (λ (x : ℤ). int_cmp (cross s n d e) (cross x m e d)) h
by_seconds s z n d m e p q Greater h = int_cmp_is (cross s n d e) (cross z m e d) Greater (less z s m e n d q p h)

-- the comparison is that of the seconds, and then of the units crosswise
pub time_cmp-units : (s z : ℤ) (n d m e : ℕ) → n < d → m < e
    → time_cmp (time_at n d s) (time_at m e z) ≡ ordering_then (int_cmp s z) (nat_cmp (n * e) (m * d))
unfolding time_cmp time_at cross
time_cmp-units s z n d m e p q = sym (by_seconds s z n d m e p q (int_cmp s z) (int_ranks s z))

-- scaling both numbers changes nothing
rank_scaled : (x y k : ℕ) → 0 < k → (r : Ordering) → MatchOrdering r (x < y) (x ≡ y) (y < x)
    → MatchOrdering r (x * k < y * k) (x * k ≡ y * k) (y * k < x * k)
rank_scaled x y k p Less h = mul-lt-mul_of_pos_right h p
rank_scaled x y k p Equal h = ap (λ (n : ℕ). n * k) h
rank_scaled x y k p Greater h = mul-lt-mul_of_pos_right h p

pub nat_cmp-scaled : (x y k : ℕ) → 0 < k → nat_cmp x y ≡ nat_cmp (x * k) (y * k)
nat_cmp-scaled x y k p = nat_cmp_is (x * k) (y * k) (nat_cmp x y) (rank_scaled x y k p (nat_cmp x y) (ranks x y))

-- units that are counted alike compare as they are, however many they are
pub time_cmp-alike : (s : ℤ) (n m d : ℕ) → 0 < d → time_cmp (time_at n d s) (time_at m d s) ≡ nat_cmp n m
unfolding time_cmp time_at cross
time_cmp-alike s n m d p =
    sym (nat_cmp-scaled n m d p
    ∙ int_cmp_is (cross s n d d) (cross s m d d) (units_cmp n d m d)
    (by_units s n d m d (units_cmp n d m d) (ranks (n * d) (m * d))))

pub units_trans : (n d m e k f : ℕ) → 0 < d → units_cmp n d m e ≡ Less → units_cmp m e k f ≡ Less
    → units_cmp n d k f ≡ Less
units_trans n d m e k f p g h =
    let first : n * e < m * d = ranked (n * e) (m * d) Less (sym g) in
    let second : m * f < k * e = ranked (m * f) (k * e) Less (sym h) in
    let first_scaled : n * e * f ≤ m * d * f = mul-le-mul_right f (le_of_lt first) in
    let second_scaled : m * f * d < k * e * d = mul-lt-mul_of_pos_right second p in
    let joined : n * f * e < k * d * e = omega (arith, first_scaled, second_scaled) in
    sym (nat_cmp_is (n * f) (k * d) Less (lt_of_mul-lt-mul_right e joined))

pub units_congr : (n d m e k f : ℕ) → 0 < d → 0 < e → units_cmp n d m e ≡ Equal → units_cmp n d k f ≡ units_cmp m e k f
units_congr n d m e k f p q h =
    let same : n * e ≡ m * d = ranked (n * e) (m * d) Equal (sym h) in
    let scaled : n * e * f ≡ m * d * f = ap (λ (x : ℕ). x * f) same in
    let left : (n * f) * e ≡ (m * f) * d = omega (arith, scaled) in
    let right : (k * d) * e ≡ (k * e) * d = omega arith in
    nat_cmp-scaled (n * f) (k * d) e q ∙ ap (λ (x : ℕ). nat_cmp x ((k * d) * e)) left
    ∙ ap (λ (x : ℕ). nat_cmp ((m * f) * d) x) right ∙ sym (nat_cmp-scaled (m * f) (k * e) d p)
