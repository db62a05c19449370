-- Parts of a fact, as a line is written piece by piece.
use Rattle.std.specs.Prelude.{ℕ, ◌+◌, List, ◌++◌, codes, length, max}
use Rattle.cap_print.specs.declared.forms.Form.{Form}
use Rattle.cap_print.specs.declared.forms.Form.TheVariants.{Text, Json}

-- what encloses a word, and then the rest of the line
abbrev pub quote_in : Form → List ℕ → List ℕ
quote_in (Text times) rest = rest
quote_in (Json times) rest = codes "\"" ++ rest

-- how many bytes `name_in` takes at most: those of the label, or of the name with a comma, two quotes and a colon
abbrev pub name_room : List ℕ → List ℕ → ℕ
name_room label key = max (length label) (length key + 4)
