-- The last field of the line of a file that is checked: the file's name.
use Rattle.std.specs.Prelude.{List, [], ◌++◌, ℕ, codes, Bool, true, false, Some}
use Rattle.cap_line.specs.Shown.{shown_text}
use Rattle.cap_print.specs.declared.forms.Form.{Form}
use Rattle.cap_print.specs.declared.forms.Form.TheVariants.{Text, Json}
use Rattle.cap_tool.specs.Objects.{path_json}

-- the field of a name: in JSON it is in every line, in text only if that is asked for, as a terminal shows it
abbrev pub name_field : Form → Bool → List ℕ → List ℕ
name_field (Text times) false name = []
name_field (Text times) true name = codes " name " ++ shown_text false name
name_field (Json times) is_shown name = path_json (Some name)
