-- The table of the two hex digits of each byte.
use Rattle.std.proofs.Common.{◌≡◌, ℕ, zero, suc, ◌+◌, ◌-◌, ◌*◌, ◌/◌, ◌%◌, ◌<◌, Bool, true, ◌&&◌, T, eqb, get_or, arith}
use Rattle.std.proofs.Common.{inl, inr, eq-zero-or-pos, eqb→eq}
use lib.Ieee.Fits.{and_l, and_r}
use Rattle.std.specs.Prelude.{slice_index}
use Rattle.hex.specs.Hex.{lower_digits}
use Rattle.cap_print.specs.declared.digits.TheConstants.{HEX_PAIRS}

-- the pair of a byte is its two digits
abbrev is_pair : ℕ → Bool
is_pair byte =
    eqb (get_or HEX_PAIRS (2 * byte) 0) (slice_index lower_digits (byte / 16))
    && eqb (get_or HEX_PAIRS (2 * byte + 1) 0) (slice_index lower_digits (byte % 16))

-- the pairs of the bytes below n are
abbrev are_pairs : ℕ → Bool
are_pairs zero = true
are_pairs (suc n) = is_pair n && are_pairs n

below : (n byte : ℕ) → T (are_pairs n) → byte < n → T (is_pair byte)
below zero byte are lt = absurd (omega arith)
below (suc n) byte are lt =
    elim (eq-zero-or-pos (n - byte)) [
      | inl last ↦ let e : byte ≡ n = omega arith in rw e (and_l _ (are_pairs n) are)
      | inr more ↦ below n byte (and_r _ (are_pairs n) are) (omega arith)
    ]

-- each pair of the table is the two digits of its byte
pub pair_at : (byte : ℕ) → byte < 256
    → (get_or HEX_PAIRS (2 * byte) 0 ≡ slice_index lower_digits (byte / 16))
    × (get_or HEX_PAIRS (2 * byte + 1) 0 ≡ slice_index lower_digits (byte % 16))
pair_at byte lt =
    let pair = below 256 byte tt lt in
    (eqb→eq _ _ (and_l _ _ pair), eqb→eq _ _ (and_r _ _ pair))
