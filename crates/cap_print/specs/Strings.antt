-- Strings of JSON (RFC 8259, 7).
use Rattle.std.specs.Prelude.{◌||◌, ◌==◌, ℕ, List, [], ◌∷◌, ◌++◌, codes, if◌then◌else◌, nat_lt}
use Rattle.hex.specs.Hex.{encode_lower}

-- A byte of a text in a string of JSON: `"` (34) and `\` (92) after a `\`, a control character, which is below 32, as
-- `\u` and four hex digits, and any other as it is.
abbrev pub escaped_byte : ℕ → List ℕ
escaped_byte byte =
    if byte == 34 || byte == 92 then codes "\\" ++ byte ∷ [] else
    if nat_lt byte 32 then codes "\\u00" ++ encode_lower (byte ∷ []) else byte ∷ []
