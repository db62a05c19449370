-- Bytes of which some spell a number that was put there.
use Rattle.std.proofs.Common.{◌≡◌, ◌+◌, ◌≤◌, ℕ, List, ◌++◌, length, take, drop, refl, ap, ◌∙◌, subst, arith}
use Rattle.std.proofs.Common.{append_assoc, length-append}
use Rattle.std.proofs.lemmas.List.{drop-drop, length-take}
use Rattle.std.proofs.Math.Seq.{take-append_seam}

-- what stands in front, and behind it what was spelled over the rest
pub spelled-over : (n place : ℕ) (bytes front rest new spelled : List ℕ) → front ≡ take place bytes
    → rest ≡ drop place bytes → new ≡ spelled ++ drop n rest
    → front ++ new ≡ take place bytes ++ spelled ++ drop (place + n) bytes
spelled-over n place bytes front rest new spelled a b d = rw (a, d, b, drop-drop n place bytes, append_assoc) refl

-- as far as the last byte that spells it
pub spelled-front : (n place : ℕ) (bytes rest spelled : List ℕ) → length spelled ≡ n → place + n ≤ length bytes
    → take (place + n) (take place bytes ++ spelled ++ rest) ≡ take place bytes ++ spelled
spelled-front n place bytes rest spelled len within =
    let all : length (take place bytes ++ spelled) ≡ place + n =
    omega (arith, length-append (take place bytes) spelled, length-take place bytes) in
    subst (λ k. take k (take place bytes ++ spelled ++ rest) ≡ take place bytes ++ spelled) all
    (take-append_seam (take place bytes ++ spelled) rest)

-- so the bytes as far as that end with what was spelled
pub spelled-in-front : (n place : ℕ) (bytes front rest new spelled : List ℕ) → front ≡ take place bytes
    → rest ≡ drop place bytes → new ≡ spelled ++ drop n rest
    → length spelled ≡ n → place + n ≤ length bytes → take (place + n) (front ++ new) ≡ take place bytes ++ spelled
spelled-in-front n place bytes front rest new spelled a b d len within =
    ap (take (place + n)) (spelled-over n place bytes front rest new spelled a b d)
    ∙ spelled-front n place bytes (drop (place + n) bytes) spelled len within
