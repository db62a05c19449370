-- The lines that are printed with `--json`, as values of JSON and the texts of these. A number in brackets is a section
-- of RFC 8259.
use Rattle.std.specs.Prelude.{◌≡◌, ◌<◌, ◌^◌, ℕ, zero, suc, ℤ, pos, negsuc, nat_abs, List, [], ◌∷◌, ◌++◌, chars, codes}
use Rattle.std.specs.Prelude.{Bool, true, false, Some, None, flat_map, map, ⊤}
use Rattle.std.specs.Fmt.{digits_onto}
use Rattle.std.specs.List.{AllByRecursion, join_by}
use Rattle.cap_check.specs.CheckText.{check_facts, check_line_in}
use Rattle.cap_check.specs.declared.checked.Check.{Check}
use Rattle.cap_check.specs.declared.checked.CheckLine.{CheckLine}
use Rattle.cap_print.specs.Facts.{Facts, Field, Value, coded, flag, group, hex, line_in, moment, number, one, word}
use Rattle.cap_print.specs.declared.forms.Form.TheVariants.{Json}
use Rattle.cap_print.specs.declared.forms.TimeForm.{TimeForm}
use Rattle.cap_print.specs.declared.forms.TimeForm.TheVariants.{Decimal, Exact, Utc}
use Rattle.cap_print.specs.Dates.{utc_text}
use Rattle.cap_print.specs.Decimals.{decimal_text}
use Rattle.cap_time.specs.Time.{Printed}
use Rattle.cap_tool.specs.NameFields.{name_field}
use Rattle.cap_tool.specs.Objects.{escaped_character}
use Rattle.hex.specs.Hex.{encode_lower}

-- A value (3), as far as capt prints it: a number is whole, a string is a list of characters. An array has values of
-- the type A; an object has members, each a name and such a value.
pub data Layer (A : Type 0) : Type 0 where
  null : Layer A
  truth : Bool → Layer A
  whole : ℤ → Layer A
  string : List ℕ → Layer A
  array : List A → Layer A
  object : List (List ℕ × A) → Layer A

-- A value in which values are nested at most so deep: with depth 1 its arrays and objects are empty.
abbrev pub JsonValue : ℕ → Type 0
JsonValue zero = ⊥
JsonValue (suc depth) = Layer (JsonValue depth)

-- the text of a whole number (6): all its decimal digits, after a `-` if it is negative
abbrev pub whole_text : ℤ → List ℕ
whole_text (pos n) = digits_onto (suc n) 10 false n []
whole_text (negsuc n) = codes "-" ++ digits_onto (suc (suc n)) 10 false (suc n) []

-- the text of a string (7), in which some characters are escaped
abbrev pub string_text : List ℕ → List ℕ
string_text characters = codes "\"" ++ flat_map escaped_character characters ++ codes "\""

-- the text of a value (3), of an array (5) and of an object (4), by the texts of the values in it
abbrev pub layer_text : {A : Type 0} → (A → List ℕ) → Layer A → List ℕ
layer_text text null = codes "null"
layer_text text (truth true) = codes "true"
layer_text text (truth false) = codes "false"
layer_text text (whole n) = whole_text n
layer_text text (string characters) = string_text characters
layer_text text (array items) = codes "[" ++ join_by text (codes ",") items ++ codes "]"
layer_text text (object members) =
    codes "{" ++ join_by (λ member. string_text member.0 ++ codes ":" ++ text member.1) (codes ",") members ++ codes "}"

-- the text of a value with that depth
abbrev pub json_text : (depth : ℕ) → JsonValue depth → List ℕ
json_text zero value = []
json_text (suc depth) value = layer_text (json_text depth) value

-- the value of a time in a form: an array of its three numbers, or a string
abbrev pub time_value : {A : Type 0} → TimeForm → Printed → Layer (Layer A)
time_value Exact time = array (whole time.seconds ∷ whole (pos time.numerator) ∷ whole (pos time.denominator) ∷ [])
time_value Decimal time = string (decimal_text time)
time_value Utc time = string (utc_text time)

-- the value of a fact, with times in a form
abbrev pub fact_value : {A : Type 0} → TimeForm → Value → Layer (Layer A)
fact_value times (number n) = whole (pos n)
fact_value times (coded text n) = whole (pos n)
fact_value times (word None) = null
fact_value times (word (Some known)) = string known
fact_value times (moment None) = null
fact_value times (moment (Some time)) = time_value times time
fact_value times (hex bytes) = string (encode_lower bytes)
fact_value times (flag is_so) = truth is_so

-- a field of a line as a member: a fact, or an object of several facts
abbrev pub field_member : TimeForm → Field → List ℕ × JsonValue 3
field_member times (one fact) = (fact.key, fact_value times fact.value)
field_member times (group key fact facts) =
    (key, object (map (λ it. (it.key, fact_value times it.value)) (fact ∷ facts)))

-- the members of a line: its kind under the name `type`, and its fields
abbrev pub line_members : TimeForm → Facts → List (List ℕ × JsonValue 3)
line_members times line = (codes "type", string line.kind) ∷ map (field_member times) line.fields

-- a value whose strings have no character that is escaped, and whose numbers have up to 64 digits
abbrev pub LayerFits : {A : Type 0} → (A → Type 0) → Layer A → Type 0
LayerFits fits null = ⊤
LayerFits fits (truth is_so) = ⊤
LayerFits fits (whole n) = nat_abs n < 10 ^ 64
LayerFits fits (string characters) = flat_map escaped_character characters ≡ characters
LayerFits fits (array items) = AllByRecursion fits items
LayerFits fits (object members) =
    AllByRecursion (λ member. (flat_map escaped_character member.0 ≡ member.0) × fits member.1) members

abbrev pub ValueFits : (depth : ℕ) → JsonValue depth → Type 0
ValueFits zero value = ⊤
ValueFits (suc depth) value = LayerFits (ValueFits depth) value

-- A line of facts is the text of the object with its kind and its fields as members, if this object fits.
abbrev pub IsJsonLine : Type 0
IsJsonLine =
    (times : TimeForm) (line : Facts) → ValueFits 4 (object (line_members times line))
    → line_in (Json times) line ≡ json_text 4 (object (line_members times line)) ++ codes "\n"

-- So is the line of a file in `check` and `digest`, whose last member is the file's name, whatever characters it has.
abbrev pub IsNamedLine : Type 0
IsNamedLine =
    (times : TimeForm) (which : CheckLine) (file : ℕ) (check : Check) (is_shown : Bool) (name : List ℕ)
    → ValueFits 4 (object (line_members times (check_facts which file check)))
    → check_line_in which (Json times) file (name_field (Json times) is_shown name) check
    ≡ json_text 4 (object (line_members times (check_facts which file check)
    ++ (codes "path", string (chars name)) ∷ [])) ++ codes "\n"

-- No two values of any depth have the same text on a line, whatever comes after the line.
abbrev pub ValuesReadBack : Type 0
ValuesReadBack =
    (depth : ℕ) (value other : JsonValue depth) (rest behind : List ℕ)
    → json_text depth value ++ codes "\n" ++ rest ≡ json_text depth other ++ codes "\n" ++ behind
    → (value ≡ other) × (rest ≡ behind)

-- So two lines of facts that are the same have the same members.
abbrev pub LinesReadBack : Type 0
LinesReadBack =
    (times : TimeForm) (line other : Facts) → ValueFits 4 (object (line_members times line))
    → ValueFits 4 (object (line_members times other))
    → line_in (Json times) line ≡ line_in (Json times) other → line_members times line ≡ line_members times other
