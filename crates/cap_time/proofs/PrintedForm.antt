-- The printed form of a time, and the time of a printed form.
use Rattle.std.proofs.Common.{◌≡◌, ℕ, ◌+◌, ◌*◌, ◌-◌, ◌/◌, ◌%◌, ◌<◌, sym, ap, ◌∙◌, arith, ℤ, pos, negsuc, ◌+ℤ◌, ◌*ℤ◌}
use Rattle.std.proofs.lemmas.Nat.{div-mul-add, mod-mul-add, div-add-mod'}
use borrow.Author.Differences.{up, down, same_in, sum_is_lem, product_is}
use Rattle.cap_time.specs.Time.{time_at, time_plus, floor_of, remainder_of, printed_form}

quotients : (k s n d : ℕ) → n < d → k ≡ s * d + n → (k / d ≡ s) × (k % d ≡ n)
quotients k s n d h e = (ap (λ (x : ℕ). x / d) e ∙ div-mul-add s d n h, ap (λ (x : ℕ). x % d) e ∙ mod-mul-add s d n h)

-- z is s whole times d and n more
split : (z s : ℤ) (n d : ℕ) → n < d → up z + down s * d ≡ down z + n + up s * d → (floor_of z d ≡ s)
    × (remainder_of z d ≡ n)
unfolding floor_of remainder_of
split (pos k) (pos s) n d h e =
    let both : (k / d ≡ s) × (k % d ≡ n) = quotients k s n d h (omega arith) in
    (ap pos both.0, both.1)
split (negsuc k) (negsuc s) n d h e =
    let both : (k / d ≡ s) × (k % d ≡ d - 1 - n) = quotients k s (d - 1 - n) d (omega arith) (omega arith) in
    (ap negsuc both.0, ap (λ (x : ℕ). d - 1 - x) both.1 ∙ omega arith)
split z s n d h e = grind arith

-- how far a sum of units and whole seconds reaches
reach : (s : ℤ) (n d : ℕ) → up (pos n +ℤ s *ℤ pos d) + down s * d ≡ down (pos n +ℤ s *ℤ pos d) + n + up s * d
reach s n d = omega (arith, sum_is_lem (pos n) (s *ℤ pos d), product_is s (pos d))

-- the printed form of s seconds and n of d units
pub printed_form-time_at : (s : ℤ) (n d : ℕ) → n < d
    → printed_form (time_at n d s) ≡ record { seconds = s; numerator = n; denominator = d }
unfolding time_at
printed_form-time_at s n d h =
    let both : (floor_of (pos n +ℤ s *ℤ pos d) d ≡ s)
    × (remainder_of (pos n +ℤ s *ℤ pos d) d ≡ n) = split (pos n +ℤ s *ℤ pos d) s n d h (reach s n d) in
    λ i. record { seconds = both.0 i; numerator = both.1 i; denominator = d }

-- whole seconds of units count as seconds
pub time_at-whole : (s z : ℤ) (units d : ℕ) → z ≡ s +ℤ pos (units / d) → time_at units d s ≡ time_at (units % d) d z
unfolding time_at
time_at-whole s z units d e =
    let sum : (up (s +ℤ pos (units / d)) + down s + 0) * d ≡ (down (s +ℤ pos (units / d)) + up s + units / d) * d =
    ap (λ (x : ℕ). x * d) (sum_is_lem s (pos (units / d))) in
    let above : up z * d ≡ up (s +ℤ pos (units / d)) * d = ap (λ (x : ℤ). up x * d) e in
    let under : down z * d ≡ down (s +ℤ pos (units / d)) * d = ap (λ (x : ℤ). down x * d) e in
    let same : pos units +ℤ s *ℤ pos d ≡ pos (units % d) +ℤ z *ℤ pos d =
    same_in (pos units +ℤ s *ℤ pos d) (pos (units % d) +ℤ z *ℤ pos d)
    (omega (arith, sum, above, under, reach s units d, reach z (units % d) d, div-add-mod' units d)) in
    λ i. record { numerator = same i; denominator = d }

-- the time that a stamp of these units has
pub time_at-stamped : (s z : ℤ) (units d k : ℕ) → d ≡ k → z ≡ s +ℤ pos (units / d)
    → time_at (units % d) d z ≡ time_at units k s
time_at-stamped s z units d k same e = sym (time_at-whole s z units d e) ∙ ap (λ (x : ℕ). time_at units x s) same

-- seconds later, in the same form
pub time_plus-time_at : (s : ℤ) (n d k : ℕ) → time_plus (time_at n d s) k ≡ time_at n d (s +ℤ pos k)
unfolding time_plus time_at
time_plus-time_at s n d k =
    let sum : (up (s +ℤ pos k) + down s + 0) * d ≡ (down (s +ℤ pos k) + up s + k) * d =
    ap (λ (x : ℕ). x * d) (sum_is_lem s (pos k)) in
    let same : pos n +ℤ s *ℤ pos d +ℤ pos (k * d) ≡ pos n +ℤ (s +ℤ pos k) *ℤ pos d =
    same_in (pos n +ℤ s *ℤ pos d +ℤ pos (k * d)) (pos n +ℤ (s +ℤ pos k) *ℤ pos d)
    (omega (arith, sum, reach s n d, reach (s +ℤ pos k) n d, sum_is_lem (pos n +ℤ s *ℤ pos d) (pos (k * d)))) in
    λ i. record { numerator = same i; denominator = d }

pub time_at-later : (s z : ℤ) (n d k : ℕ) → z ≡ s +ℤ pos k → time_at n d z ≡ time_plus (time_at n d s) k
time_at-later s z n d k e = ap (λ (x : ℤ). time_at n d x) e ∙ sym (time_plus-time_at s n d k)
