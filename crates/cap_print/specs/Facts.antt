-- A printed line as its facts, and the forms in which it is printed: a line of text, or a JSON object on a line of its
-- own (RFC 8259). A form says how a line begins and ends, what names a value, how a value is written and what encloses
-- a group. The definitions that say this have a clause for text and one for JSON; all others are the same in both.
use Rattle.std.specs.Prelude.{ℕ, List, [], ◌∷◌, ◌++◌, codes, decimal, drop, Bool, Option, Some, None}
use Rattle.std.specs.Prelude.{if◌then◌else◌}
use Rattle.hex.specs.Hex.{encode_lower}
use Rattle.cap_time.specs.Time.{Printed}
use Rattle.cap_print.specs.Times.{time_json_in, time_text_in}
use Rattle.cap_print.specs.declared.forms.Form.{Form}
use Rattle.cap_print.specs.declared.forms.Form.TheVariants.{Text, Json}

-- What is printed of one thing: a number; a number that has a name in text; a word, if it is known; a time, if there is
-- one; some bytes; whether something is so. No word has a character that JSON escapes.
pub data Value : Type 0 where
  number : ℕ → Value
  coded : List ℕ → ℕ → Value
  word : Option (List ℕ) → Value
  moment : Option Printed → Value
  hex : List ℕ → Value
  flag : Bool → Value

-- A value with its label, which is before it in text, and its name in JSON.
pub record Fact : Type 0 where
  pub label : List ℕ
  pub key : List ℕ
  pub value : Value

-- A fact; or several, of which there is a first, that are one object in JSON.
pub data Field : Type 0 where
  one : Fact → Field
  group : List ℕ → Fact → List Fact → Field

-- A fact whose label is its name with a space on each side.
abbrev pub named : List ℕ → Value → Fact
named key value = record { label = codes " " ++ key ++ codes " "; key = key; value = value }

-- Whether something is so, a fact whose label is its name with a space before it.
abbrev pub flagged : List ℕ → Bool → Fact
flagged key is_so = record { label = codes " " ++ key; key = key; value = flag is_so }

-- A line: the word with which its text begins, which is its type in JSON, and its fields.
pub record Facts : Type 0 where
  pub kind : List ℕ
  pub fields : List Field

-- how a line of a kind begins, and then its fields
abbrev pub begin_in : Form → List ℕ → List ℕ → List ℕ
begin_in (Text times) kind rest = kind ++ rest
begin_in (Json times) kind rest = codes "{\"type\":\"" ++ kind ++ codes "\"" ++ rest

-- how a line ends
abbrev pub end_in : Form → List ℕ
end_in (Text times) = codes "\n"
end_in (Json times) = codes "}\n"

-- what names a value, and then the value: in text its label, in JSON its name
abbrev pub name_in : Form → List ℕ → List ℕ → List ℕ → List ℕ
name_in (Text times) label key rest = label ++ rest
name_in (Json times) label key rest = codes ",\"" ++ key ++ codes "\":" ++ rest

-- how a group begins, and then its facts; in JSON the first of them has no comma before it
abbrev pub open_in : Form → List ℕ → List ℕ → List ℕ
open_in (Text times) key rest = rest
open_in (Json times) key rest = codes ",\"" ++ key ++ codes "\":{" ++ drop 1 rest

-- how a group ends, and then the rest of the line
abbrev pub close_in : Form → List ℕ → List ℕ
close_in (Text times) rest = rest
close_in (Json times) rest = codes "}" ++ rest

-- a number that has a name in text
abbrev pub coded_in : Form → List ℕ → ℕ → List ℕ
coded_in (Text times) text n = text
coded_in (Json times) text n = decimal n

-- a word, in text `-` and in JSON `null` if it isn't known
abbrev pub word_in : Form → Option (List ℕ) → List ℕ
word_in (Text times) None = codes "-"
word_in (Text times) (Some known) = known
word_in (Json times) None = codes "null"
word_in (Json times) (Some known) = codes "\"" ++ known ++ codes "\""

-- a time, if there is one, which alone depends on the form of times
abbrev pub moment_in : Form → Option Printed → List ℕ
moment_in (Text times) at = time_text_in times at
moment_in (Json times) at = time_json_in times at

-- some bytes in text, in lower case hex, `-` if there are none
abbrev pub bytes_text : List ℕ → List ℕ
bytes_text [] = codes "-"
bytes_text (byte ∷ rest) = encode_lower (byte ∷ rest)

-- some bytes, in JSON a string of hex digits
abbrev pub hex_in : Form → List ℕ → List ℕ
hex_in (Text times) shown = bytes_text shown
hex_in (Json times) shown = codes "\"" ++ encode_lower shown ++ codes "\""

-- a flag with what names it, and then the rest of the line: in text its label alone, or nothing if it isn't so
abbrev pub flag_in : Form → List ℕ → List ℕ → Bool → List ℕ → List ℕ
flag_in (Text times) label key is_so rest = (if is_so then label else []) ++ rest
flag_in (Json times) label key is_so rest =
    name_in (Json times) label key ((if is_so then codes "true" else codes "false") ++ rest)

-- a value with what names it, and then the rest of the line
abbrev pub value_in : Form → List ℕ → List ℕ → Value → List ℕ → List ℕ
value_in form label key (number n) rest = name_in form label key (decimal n ++ rest)
value_in form label key (coded text n) rest = name_in form label key (coded_in form text n ++ rest)
value_in form label key (word known) rest = name_in form label key (word_in form known ++ rest)
value_in form label key (moment at) rest = name_in form label key (moment_in form at ++ rest)
value_in form label key (hex shown) rest = name_in form label key (hex_in form shown ++ rest)
value_in form label key (flag is_so) rest = flag_in form label key is_so rest

-- a fact, and then the rest of the line
abbrev pub fact_in : Form → Fact → List ℕ → List ℕ
fact_in form fact rest = value_in form fact.label fact.key fact.value rest

-- some facts, and then the rest of the line
abbrev pub facts_in : Form → List Fact → List ℕ → List ℕ
facts_in form [] rest = rest
facts_in form (fact ∷ facts) rest = fact_in form fact (facts_in form facts rest)

-- some fields, and then the rest of the line
abbrev pub fields_in : Form → List Field → List ℕ → List ℕ
fields_in form [] rest = rest
fields_in form (one fact ∷ fields) rest = fact_in form fact (fields_in form fields rest)
fields_in form (group key fact facts ∷ fields) rest =
    open_in form key (fact_in form fact (facts_in form facts (close_in form (fields_in form fields rest))))

-- a line in a form, with its end
abbrev pub line_in : Form → Facts → List ℕ
line_in form line = begin_in form line.kind (fields_in form line.fields (end_in form))
