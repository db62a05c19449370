-- The codes of a resolution, as the option `if_tsresol` spells them (draft-ietf-opsawg-pcapng, 4.2).
use Rattle.std.specs.Prelude.{ℕ, ◌%◌, ◌^◌, Bool, nat_le, if◌then◌else◌}

-- the top bit of the byte is 1, for a power of two and not of ten
abbrev pub is_binary : ℕ → Bool
is_binary code = nat_le 128 code

-- the low seven bits
abbrev pub exponent_of : ℕ → ℕ
exponent_of code = code % 128

-- the units in a second
unfoldable pub units_of_code : ℕ → ℕ
units_of_code code = if is_binary code then 2 ^ exponent_of code else 10 ^ exponent_of code

-- the codes that are read: exponents up to 63 of two, and up to 19 of ten
abbrev pub is_allowed : ℕ → Bool
is_allowed code = if is_binary code then nat_le (exponent_of code) 63 else nat_le (exponent_of code) 19
