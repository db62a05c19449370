-- Bytes that are put together in an array.
use Rattle.std.proofs.Common.{◌≡◌, ℕ, ◌+◌, ◌≤◌, List, [], ◌++◌, length, take, refl, sym, ◌∙◌, ap, arith}
use Rattle.std.proofs.lemmas.List.{take_all}

-- An array of that size begins with the text so far.
pub record Begins (size place : ℕ) (text bytes : List ℕ) : Type 0 where
  pub size_is : length bytes ≡ size
  pub front : take place bytes ≡ text
  pub within : place ≤ size

pub Begins-none : (size : ℕ) (bytes : List ℕ) → length bytes ≡ size → Begins size 0 [] bytes
Begins-none size bytes is = record { size_is = is; front = refl; within = omega arith }

-- n bytes more were put after it
pub Begins-more : (size place n : ℕ) (text more old new : List ℕ) → Begins size place text old → place + n ≤ size
    → take (place + n) new ≡ take place old ++ more → length new ≡ length old
    → Begins size (place + n) (text ++ more) new
Begins-more size place n text more old new b fits is same =
    record { size_is = same ∙ b.size_is; front = is ∙ ap (λ l. l ++ more) b.front; within = fits }

-- the array is the text
pub Begins-all : (size : ℕ) (text bytes : List ℕ) → Begins size size text bytes → bytes ≡ text
Begins-all size text bytes b = sym (take_all size bytes (omega (arith, b.size_is))) ∙ b.front
