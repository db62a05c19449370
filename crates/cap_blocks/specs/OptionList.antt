-- The options that a list of bytes spells (draft-ietf-opsawg-pcapng, 3.5).
use Rattle.std.specs.Prelude.{◌==◌, ℕ, zero, suc, ◌+◌, ◌*◌, ◌/◌, nat_lt, if◌then◌else◌, List, [], ◌∷◌, length, take}
use Rattle.std.specs.Prelude.{drop, Result, Ok, Err}
use Rattle.cap_bytes.specs.Number.{number}
use Rattle.cap_bytes.specs.declared.faults.Rule.{Rule}
use Rattle.cap_bytes.specs.declared.faults.Rule.TheVariants.{OptionEnd}
use Rattle.cap_bytes.specs.declared.numbers.Order.{Order}

-- an option: its code and its value, or the rule that it breaks
abbrev pub OptionItem : Type 0
OptionItem = Result (ℕ × List ℕ) Rule

-- the code of the option at the front, and the length of its value
abbrev pub code_at : Order → List ℕ → ℕ
code_at order bytes = number order 2 bytes

abbrev pub length_at : Order → List ℕ → ℕ
length_at order bytes = number order 2 (drop 2 bytes)

-- a length with the padding to a multiple of 4
abbrev pub padded : ℕ → ℕ
padded n = 4 * ((n + 3) / 4)

-- The options of the bytes, as far as `fuel` goes. Fewer than 4 bytes spell none, code 0 ends the list,
-- and a value that runs past the end breaks the rule and ends it.
unfoldable pub options_by : ℕ → Order → List ℕ → List OptionItem
options_by zero order bytes = []
options_by (suc fuel) order bytes =
    if nat_lt (length bytes) 4 then [] else
    if code_at order bytes == 0 then [] else
    if nat_lt (length bytes) (4 + length_at order bytes) then Err OptionEnd ∷ [] else
    Ok (code_at order bytes, take (length_at order bytes) (drop 4 bytes))
    ∷ options_by fuel order (drop (4 + padded (length_at order bytes)) bytes)

-- the options of the bytes
unfoldable pub options_of : Order → List ℕ → List OptionItem
options_of order bytes = options_by (length bytes) order bytes
