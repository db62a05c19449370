-- What the n bytes at the front of a list spell, and what spells a number.
use Rattle.std.proofs.Common.{◌≡◌, ℕ, ◌+◌, ◌^◌, ◌≤◌, ◌<◌, List, ◌++◌, length, take, drop, slice_index, sym, ◌∙◌, ap}
use Rattle.std.proofs.Common.{arith, length-drop, length-take-le}
use Rattle.std.proofs.lemmas.List.{drop-append-le, take-append-drop}
use Rattle.byteorder.specs.Numbers.{big_from-append, big_from-lt, big_from-take, big_number-reads_back}
use Rattle.byteorder.specs.Numbers.{length-bytes_high_first, length-bytes_low_first, little_from-append, little_from-lt}
use Rattle.byteorder.specs.Numbers.{little_from-take, little_number-reads_back}
use Rattle.cap_bytes.specs.Number.{number, bytes_of}
use Rattle.cap_bytes.specs.declared.numbers.Order.{Order}

-- bytes after the first n change nothing
pub number-append : (order : Order) (n : ℕ) (xs ys : List ℕ) → n ≤ length xs
    → number order n (xs ++ ys) ≡ number order n xs
unfolding number
number-append order n xs ys few = grind (arith, big_from-append, little_from-append)

-- nor do those that are cut off there
pub number-take : (order : Order) (n m : ℕ) (xs : List ℕ) → n ≤ m → number order n (take m xs) ≡ number order n xs
unfolding number
number-take order n m xs few = grind (arith, big_from-take, little_from-take)

-- a number further on reads no byte past its end
pub number-drop_append : (order : Order) (k i : ℕ) (xs ys : List ℕ) → i + k ≤ length xs
    → number order k (drop i (xs ++ ys)) ≡ number order k (drop i xs)
number-drop_append order k i xs ys h = grind (arith, drop-append-le, number-append, length-drop)

-- a number in the first n bytes
pub number-drop_take : (order : Order) (k i n : ℕ) (xs : List ℕ) → i + k ≤ n → n ≤ length xs
    → number order k (drop i (take n xs)) ≡ number order k (drop i xs)
number-drop_take order k i n xs h within =
    sym (number-drop_append order k i (take n xs) (drop n xs) (omega (arith, length-take-le n xs within)))
    ∙ ap (λ l. number order k (drop i l)) (take-append-drop n xs)

-- n bytes spell a number below 256^n
pub number-lt : (order : Order) (n : ℕ) (xs : List ℕ) → ((k : ℕ) → slice_index xs k < 256) → number order n xs < 256 ^ n
unfolding number
number-lt order n xs fits = grind (arith, big_from-lt, little_from-lt)

-- what is written of a number is read again, whatever follows
pub number-bytes_of : (order : Order) (n x : ℕ) (rest : List ℕ) → x < 256 ^ n
    → number order n (bytes_of order n x ++ rest) ≡ x
unfolding number bytes_of
number-bytes_of order n x rest fits = grind (arith, big_number-reads_back, little_number-reads_back)

pub length-bytes_of : (order : Order) (n x : ℕ) → length (bytes_of order n x) ≡ n
unfolding bytes_of
length-bytes_of order n x = grind (arith, length-bytes_high_first, length-bytes_low_first)
