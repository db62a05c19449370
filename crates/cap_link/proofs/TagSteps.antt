-- What comes after a type field, one tag at a time.
use Rattle.std.proofs.Common.{◌≡◌, ◌<◌, ◌≤◌, ℕ, true, false, List, [], ◌∷◌, length, drop, refl, arith}
use Rattle.std.specs.Prelude.{None, Some}
use Rattle.cap_bytes.specs.Number.{number}
use Rattle.cap_bytes.specs.declared.numbers.Order.TheVariants.{Big}
use Rattle.cap_link.specs.Tags.{announced, is_tag}

-- a whole tag is passed over
pub announced-tag : (kind : ℕ) (bytes : List ℕ) → is_tag kind ≡ true → 4 ≤ length bytes
    → announced kind bytes ≡ announced (number Big 2 (drop 2 bytes)) (drop 4 bytes)
unfolding announced number
announced-tag kind [] tag long = absurd (omega arith)
announced-tag kind (a ∷ []) tag long = absurd (omega arith)
announced-tag kind (a ∷ b ∷ []) tag long = absurd (omega arith)
announced-tag kind (a ∷ b ∷ c ∷ []) tag long = absurd (omega arith)
announced-tag kind (a ∷ b ∷ c ∷ d ∷ rest) tag long = rw tag refl

-- a tag that the frame ends in
pub announced-ended : (kind : ℕ) (bytes : List ℕ) → is_tag kind ≡ true → length bytes < 4 → announced kind bytes ≡ None
unfolding announced
announced-ended kind bytes tag short = grind arith

-- no tag
pub announced-last : (kind : ℕ) (bytes : List ℕ) → is_tag kind ≡ false
    → announced kind bytes ≡ Some (record { kind = kind; bytes = bytes })
unfolding announced
announced-last kind bytes tag = grind arith
