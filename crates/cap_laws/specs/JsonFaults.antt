-- What is printed with `--json` of a run that fails, and of what explains it, as texts of JSON.
use Rattle.std.specs.Prelude.{◌≡◌, ◌<◌, ◌^◌, ℕ, pos, List, [], ◌∷◌, ◌++◌, chars, codes, map, Option, option_to_list}
use Rattle.std.specs.Prelude.{true, false}
use Rattle.cap_bytes.specs.Rules.{rule_name, rule_number}
use Rattle.cap_bytes.specs.declared.faults.Refusal.{Refusal}
use Rattle.cap_bytes.specs.declared.stops.CutRest.{CutRest}
use Rattle.cap_laws.specs.JsonLines.{json_text, object, string, whole}
use Rattle.cap_tool.specs.Cuts.{cut_fields}
use Rattle.cap_print.specs.declared.forms.Form.TheVariants.{Json}
use Rattle.cap_print.specs.declared.forms.TimeForm.{TimeForm}
use Rattle.cap_talks.specs.declared.table.others.OtherCounts.{OtherCounts}
use Rattle.cap_tool.specs.NetworkLine.{networks_in}
use Rattle.cap_tool.specs.Objects.{hint_json, list_line_json, object_json, open_fields, read_fields, refused_fields}

-- The line of a refusal is the text of an object that has where the file is refused and by which rule, and the word
-- that named the file.
abbrev pub IsRefusedLine : Type 0
IsRefusedLine =
    (refusal : Refusal) (path : Option (List ℕ)) → refusal.file < 10 ^ 64 → refusal.offset < 10 ^ 64
    → object_json (refused_fields refusal) path
    ≡ json_text 2 (object ((codes "type", string (codes "refused")) ∷ (codes "file", whole (pos refusal.file))
    ∷ (codes "offset", whole (pos refusal.offset)) ∷ (codes "rule", whole (pos (rule_number refusal.rule)))
    ∷ (codes "name", string (rule_name refusal.rule))
    ∷ map (λ word. (codes "path", string (chars word))) (option_to_list path))) ++ codes "\n"

-- So is the line of a read that failed.
abbrev pub IsReadLine : Type 0
IsReadLine =
    (file offset : ℕ) (path : Option (List ℕ)) → file < 10 ^ 64 → offset < 10 ^ 64
    → object_json (read_fields file offset) path
    ≡ json_text 2 (object ((codes "type", string (codes "fault")) ∷ (codes "fault", string (codes "read"))
    ∷ (codes "file", whole (pos file)) ∷ (codes "offset", whole (pos offset))
    ∷ map (λ word. (codes "path", string (chars word))) (option_to_list path))) ++ codes "\n"

-- So is the line of a file that could not be opened.
abbrev pub IsOpenLine : Type 0
IsOpenLine =
    (file : ℕ) (path : Option (List ℕ)) → file < 10 ^ 64
    → object_json (open_fields file) path
    ≡ json_text 2 (object ((codes "type", string (codes "fault")) ∷ (codes "fault", string (codes "open"))
    ∷ (codes "file", whole (pos file))
    ∷ map (λ word. (codes "path", string (chars word))) (option_to_list path))) ++ codes "\n"

-- So is the line of a line of a list that isn't one that `digest --names` prints.
abbrev pub IsListLine : Type 0
IsListLine =
    (line : ℕ) → line < 10 ^ 64
    → list_line_json line
    ≡ json_text 2 (object ((codes "type", string (codes "fault")) ∷ (codes "fault", string (codes "list"))
    ∷ (codes "line", whole (pos line)) ∷ [])) ++ codes "\n"

-- So is the line of the networks of the packets that a report counts as `not-ipv4`, and as `not-ip`.
abbrev pub IsNetworkLine : Type 0
IsNetworkLine =
    (times : TimeForm) (n : OtherCounts) → n.ipv6 < 10 ^ 64 → n.arp < 10 ^ 64 → n.other < 10 ^ 64
    → (networks_in false (Json times) n
    ≡ json_text 2 (object ((codes "type", string (codes "not_ipv4")) ∷ (codes "ipv6", whole (pos n.ipv6))
    ∷ (codes "arp", whole (pos n.arp)) ∷ (codes "other", whole (pos n.other)) ∷ [])) ++ codes "\n")
    × (networks_in true (Json times) n
    ≡ json_text 2 (object ((codes "type", string (codes "not_ip")) ∷ (codes "arp", whole (pos n.arp))
    ∷ (codes "other", whole (pos n.other)) ∷ [])) ++ codes "\n")

-- So is the line of a rest of a file that was cut and dropped.
abbrev pub IsCutLine : Type 0
IsCutLine =
    (file : ℕ) (rest : CutRest) (path : Option (List ℕ))
    → file < 10 ^ 64 → rest.offset < 10 ^ 64 → rest.size < 10 ^ 64
    → object_json (cut_fields file rest) path
    ≡ json_text 2 (object ((codes "type", string (codes "cut")) ∷ (codes "file", whole (pos file))
    ∷ (codes "offset", whole (pos rest.offset)) ∷ (codes "bytes", whole (pos rest.size))
    ∷ map (λ word. (codes "path", string (chars word))) (option_to_list path))) ++ codes "\n"

-- So is the line that explains how a run ended, whatever characters the explanation has.
abbrev pub IsHintLine : Type 0
IsHintLine =
    (text : List ℕ) → hint_json text
    ≡ json_text 2 (object ((codes "type", string (codes "hint")) ∷ (codes "hint", string (chars text)) ∷ []))
    ++ codes "\n"
