-- What a terminal shows of a text that someone else chose.
use Rattle.std.specs.Prelude.{◌&&◌, ◌||◌, ◌==◌, ℕ, Bool, true, false, not, nat_le, if◌then◌else◌, List, [], ◌∷◌, chars}
use Rattle.std.specs.Prelude.{◌-◌, suc, zero, nat_lt, drop, take}
use Rattle.std.specs.Prelude.{length, encode_utf8_all, flat_map, IsFalse, Option, Some}
use Rattle.std.specs.Prelude.{None, is_some}
use Rattle.std.specs.Char.{digit_value}
use Rattle.std.specs.Char.Escape.{escape_unicode}
use Rattle.std.specs.List.{starts_with, take_while}
use Rattle.std.specs.Str.Parse.{digits_value}

-- whether a code is one of those from `low` to `high`
abbrev pub is_between : ℕ → ℕ → ℕ → Bool
is_between low high code = nat_le low code && nat_le code high

-- whether a character controls a terminal, separates lines, or turns the direction of what follows
abbrev pub is_hidden : ℕ → Bool
is_hidden c =
    is_between 0 0x1f c || is_between 0x7f 0x9f c || (c == 0x61c)
    || is_between 0x200e 0x200f c || is_between 0x2028 0x202e c || is_between 0x2066 0x2069 c

-- whether a character is shown by its code: a hidden one, but not the end of a line (10) if lines are kept
abbrev pub is_escaped : Bool → ℕ → Bool
is_escaped keeps_lines c = is_hidden c && not (keeps_lines && (c == 10))

-- the characters that show one: those of `\u{..}` with its code in hexadecimal digits, or itself
abbrev pub shown_char : Bool → ℕ → List ℕ
shown_char keeps_lines c = if is_escaped keeps_lines c then escape_unicode c else c ∷ []

-- what is shown of a text
abbrev pub shown_text : Bool → List ℕ → List ℕ
shown_text keeps_lines text = encode_utf8_all (flat_map (shown_char keeps_lines) (chars text))

-- a character that is shown as it is, in a text of one line and in one of several
abbrev pub IsSeen : ℕ → Type 0
IsSeen c = IsFalse (is_escaped false c)

abbrev pub IsSeenOrLine : ℕ → Type 0
IsSeenOrLine c = IsFalse (is_escaped true c)

-- whether a character is a hexadecimal digit
abbrev pub is_hex_digit : ℕ → Bool
is_hex_digit c = nat_lt (digit_value c) 16

-- the code that the hexadecimal digits write which some characters begin with, of which the first four count: no hidden
-- character has a code of more
abbrev pub hex_code : List ℕ → ℕ
hex_code cs = digits_value 16 (take_while is_hex_digit (take 4 cs))

-- the hidden character whose escape, `\u{..}`, some characters begin with, if they begin with one
abbrev pub escaped_first : List ℕ → Option ℕ
escaped_first cs =
    if is_hidden (hex_code (drop 3 cs)) && starts_with ◌==◌ cs (escape_unicode (hex_code (drop 3 cs)))
    then Some (hex_code (drop 3 cs)) else None

-- a character before those that are behind it: a hidden one, whose escape was read, or that character itself
abbrev pub with_first : Option ℕ → ℕ → (ℕ → List ℕ) → List ℕ
with_first (Some hidden) c behind = hidden ∷ behind (length (escape_unicode hidden) - 1)
with_first None c behind = c ∷ behind 0

-- The characters of a name of which those are shown, once the first of them, which are as many as `past` says, are
-- passed over: in place of the escape of a hidden character that character, and any other as it is.
unfoldable pub unshown_past : ℕ → List ℕ → List ℕ
unshown_past past [] = []
unshown_past (suc past) (c ∷ cs) = unshown_past past cs
unshown_past zero (c ∷ cs) = with_first (escaped_first (c ∷ cs)) c (λ past. unshown_past past cs)

-- the name that is shown in one line as that text
abbrev pub unshown_text : List ℕ → List ℕ
unshown_text text = encode_utf8_all (unshown_past 0 (chars text))

-- whether some characters have in them the escape of a hidden one
abbrev pub spells_hidden : List ℕ → Bool
spells_hidden [] = false
spells_hidden (c ∷ cs) = is_some (escaped_first (c ∷ cs)) || spells_hidden cs
