-- A printed line.
use Rattle.std.specs.Prelude.{ℕ, List, drop}
use Rattle.cap_print.specs.declared.lines.Line.{Line}

-- what was put in a line
abbrev pub text_in : Line → List ℕ
text_in line = drop line.start line.bytes

-- how many bytes there is room for before it
abbrev pub room_in : Line → ℕ
room_in line = line.start
