-- A number that is written at a place of a buffer.
use Rattle.std.proofs.Common.{◌≡◌, ◌∙◌, ◌+◌, ◌≤◌, ◌<◌, ◌^◌, ℕ, List, ◌++◌, length, take, drop, ap, arith, append_assoc}
use Rattle.std.proofs.Common.{length-drop, length-take-le, length-append}
use Rattle.std.proofs.lemmas.List.{drop_at, get_or-append_right, get_or-drop, get_or-take, get_or_append_left}
use Rattle.cap_bytes.specs.Number.{bytes_of, number, with_number}
use Rattle.cap_bytes.specs.declared.numbers.Order.TheVariants.{Little}
use Rattle.cap_bytes.proofs.Spelling.{length-bytes_of, number-bytes_of}
use Rattle.cap_join.specs.Holes.{ChangesWithin, word_at}

-- the bytes before it, its own, and those after it
parts : (bytes : List ℕ) (at value : ℕ)
    → with_number Little 4 value at bytes ≡ take at bytes ++ (bytes_of Little 4 value ++ drop (at + 4) bytes)
unfolding with_number
parts bytes at value = append_assoc (take at bytes) (bytes_of Little 4 value) (drop (at + 4) bytes)

-- it is read there again
pub word_at-put : (bytes : List ℕ) (at value : ℕ) → at + 4 ≤ length bytes → value < 256 ^ 4
    → word_at (with_number Little 4 value at bytes) at ≡ value
unfolding word_at
word_at-put bytes at value within fits =
    ap (λ b. number Little 4 (drop at b)) (parts bytes at value)
    ∙ ap (number Little 4) (drop_at (take at bytes) _ at (length-take-le at bytes (omega arith)))
    ∙ number-bytes_of Little 4 value _ fits

-- and no other byte changes
pub with_number-within : (bytes : List ℕ) (at value : ℕ) → at + 4 ≤ length bytes
    → ChangesWithin at (at + 4) bytes (with_number Little 4 value at bytes)
with_number-within bytes at value within = rw (parts bytes at value) (record {
  length_is = grind (arith, length-append, length-take-le, length-drop, length-bytes_of);
  below = λ i lt. grind (arith, get_or_append_left, get_or-take, length-take-le);
  above = λ i le. grind (arith, get_or-append_right, get_or-drop, length-take-le, length-bytes_of);
})
