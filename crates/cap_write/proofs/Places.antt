-- The place of the first element that passes a test, and whether one does.
use Rattle.std.proofs.Common.{◌≡◌, ◌<◌, List, [], ◌∷◌, length, Bool, true, false, refl, arith}
use Rattle.std.proofs.lemmas.Bool.{false≢true}
use Rattle.std.specs.List.{list_any, position_or_len}

module _ {X : Type 0} (p : X → Bool) where
  -- if none passes it is the length
  pub position_or_len-none : (xs : List X) → list_any p xs ≡ false → position_or_len p xs ≡ length xs
  position_or_len-none [] h = refl
  position_or_len-none (x ∷ xs) h = grind (arith, position_or_len-none xs)

  -- if one passes it is below the length
  pub position_or_len-some : (xs : List X) → list_any p xs ≡ true → position_or_len p xs < length xs
  position_or_len-some [] h = absurd (false≢true h)
  position_or_len-some (x ∷ xs) h = grind (arith, position_or_len-some xs)
