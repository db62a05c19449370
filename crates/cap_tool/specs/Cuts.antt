-- The lines that tell which rests of files were cut, and dropped.
use Rattle.std.specs.Prelude.{ℕ, ◌+◌, ◌==◌, List, [], ◌∷◌, ◌++◌, codes, decimal, Option, Some, None, if◌then◌else◌}
use Rattle.cap_bytes.specs.declared.stops.CutRest.{CutRest}
use Rattle.cap_print.specs.declared.forms.Form.{Form}
use Rattle.cap_print.specs.declared.forms.Form.TheVariants.{Text, Json}
use Rattle.cap_tool.specs.Objects.{object_json, path_of}

-- what stands after the number of bytes that were dropped
abbrev pub dropped_word : ℕ → List ℕ
dropped_word size = if size == 1 then codes " byte dropped\n" else codes " bytes dropped\n"

-- the line of a rest of the file of that number: where it begins, and how many bytes it has
abbrev pub cut_text : ℕ → CutRest → List ℕ
cut_text file rest =
    codes "cut: file " ++ decimal file ++ codes " offset " ++ decimal rest.offset ++ codes ", " ++ decimal rest.size
    ++ dropped_word rest.size

-- the same as the fields of an object (RFC 8259, 4)
abbrev pub cut_fields : ℕ → CutRest → List ℕ
cut_fields file rest =
    codes "\"type\":\"cut\",\"file\":" ++ decimal file ++ codes ",\"offset\":" ++ decimal rest.offset
    ++ codes ",\"bytes\":" ++ decimal rest.size

-- the line in a form, in JSON with the word that named the file
abbrev pub cut_line : Form → List (List ℕ) → ℕ → CutRest → List ℕ
cut_line (Text times) paths file rest = cut_text file rest
cut_line (Json times) paths file rest = object_json (cut_fields file rest) (path_of paths file)

-- the line of a file that was cut, and none of any other
abbrev pub cut_line_if : Form → List (List ℕ) → ℕ → Option CutRest → List ℕ
cut_line_if form paths file None = []
cut_line_if form paths file (Some rest) = cut_line form paths file rest

-- the lines of the files from that number on, by their places
abbrev pub cut_lines : Form → List (List ℕ) → ℕ → List (Option CutRest) → List ℕ
cut_lines form paths file [] = []
cut_lines form paths file (cut ∷ cuts) = cut_line_if form paths file cut ++ cut_lines form paths (file + 1) cuts
