-- Lemmas on lists that several proofs cite.
use Rattle.std.proofs.lemmas.Grind.{common_steps}
use Rattle.std.proofs.Common.{◌≡◌, ℕ, ◌+◌, ◌-◌, ◌≤◌, List, ◌++◌, length, take, drop, sym, ◌∙◌, ap, drop-drop, take-take}
use Rattle.std.proofs.Common.{slice_range, ◌<◌, arith, length-drop, length-append, length-take-le}
use Rattle.std.proofs.Math.Seq.{drop-append-add}
use Rattle.std.proofs.lemmas.List.{drop-append-le}
use Rattle.std.proofs.lemmas.Slice.{between_is}

-- what is left after two drops
pub drop_more : (m n : ℕ) (xs : List ℕ) → drop (m + n) xs ≡ drop n (drop m xs)
drop_more m n xs = sym (drop-drop n m xs)

-- a part of xs is the same part of a longer list that begins with xs
pub slice_range-longer : (xs ys : List ℕ) (n s e : ℕ) → take n ys ≡ xs → e ≤ n → slice_range ys s e ≡ slice_range xs s e
slice_range-longer xs ys n s e front within = grind (arith, between_is, take-take)

-- the same part from n places further on
pub slice_range_more : (xs : List ℕ) (s n e : ℕ) → slice_range xs (s + n) e ≡ drop n (slice_range xs s e)
slice_range_more xs s n e = grind (arith, between_is, drop_more)

-- how long a part is
pub length-slice_range : (xs : List ℕ) (s e : ℕ) → s ≤ e → e ≤ length xs → length (slice_range xs s e) ≡ e - s
length-slice_range xs s e order within = search (between_is, length-drop, length-take-le)

-- Of a part of xs and what follows it, n places are dropped that the part has; ys is longer than xs.
pub dropped_here : (xs ys unread : List ℕ) (len s e n : ℕ) → take len ys ≡ xs → len ≤ length ys → s ≤ e
    → e ≤ len → n ≤ e - s
    → (slice_range ys (s + n) e ≡ drop n (slice_range xs s e))
    × (slice_range ys (s + n) e ++ unread ≡ drop n (slice_range xs s e ++ unread))
    × (n ≤ length (slice_range xs s e ++ unread))
dropped_here xs ys unread len s e n front longer order within few =
    let size : length xs ≡ len = ap length (sym front) ∙ length-take-le len ys longer in
    let part : length (slice_range xs s e) ≡ e - s = length-slice_range xs s e order (omega arith) in
    let shown : slice_range ys (s + n) e ≡ drop n (slice_range xs s e) =
    slice_range_more ys s n e ∙ ap (drop n) (slice_range-longer xs ys len s e front within) in (
      shown,
      ap (λ l. l ++ unread) shown ∙ sym (drop-append-le n (slice_range xs s e) unread (omega arith)),
      omega (arith, length-append (slice_range xs s e) unread),
    )

-- Of a part of xs and what follows it, n places are dropped, which the part doesn't have.
pub dropped_past : (xs unread : List ℕ) (s e n : ℕ) → s ≤ e → e ≤ length xs → e - s < n → n - (e - s) ≤ length unread
    → (drop (n - (e - s)) unread ≡ drop n (slice_range xs s e ++ unread))
    × (n ≤ length (slice_range xs s e ++ unread))
dropped_past xs unread s e n order within many enough = grind (arith, common_steps, drop-append-add)
