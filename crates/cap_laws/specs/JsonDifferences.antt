-- What `diff --json` prints of a difference, as texts of JSON.
use Rattle.std.specs.Prelude.{◌≡◌, ◌==◌, ℕ, pos, List, [], ◌∷◌, ◌++◌, codes, map, Bool, Option, if◌then◌else◌}
use Rattle.std.specs.Option.{option_map_or}
use Rattle.std.specs.Prelude.{option_to_list}
use Rattle.cap_print.specs.declared.forms.Form.TheVariants.{Json}
use Rattle.cap_print.specs.declared.forms.TimeForm.{TimeForm}
use Rattle.cap_commands.specs.DiffText.{Compared, before_side, difference_line, shown_from, side_in}
use Rattle.cap_commands.specs.ListText.{facts_showing}
use Rattle.cap_laws.specs.JsonLines.{JsonValue, ValueFits, array, json_text, line_members, null, object, string}
use Rattle.cap_laws.specs.JsonLines.{truth}
use Rattle.cap_laws.specs.JsonLines.{whole}

-- the object of the first line: the packet's number, the words of what differs, and where the captured bytes do, if
-- they do
abbrev pub differ_object : ℕ → List (List ℕ) → Option ℕ → JsonValue 3
differ_object n words place =
    object ((codes "type", string (codes "differ")) ∷ (codes "packet", whole (pos n))
    ∷ (codes "differs", array (map string words))
    ∷ map (λ at. (codes "data_at", whole (pos at))) (option_to_list place))

-- the object of a side: its sign, the place of the first byte that is shown, if that isn't 0, and the object of its
-- packet, or `null` and whether the end of its file was dropped
abbrev pub side_object : TimeForm → List ℕ → ℕ → ℕ → ℕ → Bool → Option Compared → JsonValue 5
side_object times sign most n from cut side =
    object (((codes "type", string (codes "side")) ∷ (codes "side", string sign)
    ∷ (if from == 0 then [] else (codes "data_from", whole (pos from)) ∷ []))
    ++ option_map_or (λ it.
    (codes "packet", object (line_members times (facts_showing n it.meta (shown_from most from it.frame)))) ∷ [])
    side ((codes "packet", null) ∷ (codes "cut", truth cut) ∷ []))

-- The first line of a difference is the text of its object, if that fits.
abbrev pub IsDifferLine : Type 0
IsDifferLine =
    (times : TimeForm) (n : ℕ) (words : List (List ℕ)) (place : Option ℕ) → ValueFits 3 (differ_object n words place)
    → difference_line (Json times) n words place ≡ json_text 3 (differ_object n words place) ++ codes "\n"

-- So is the line of each side.
abbrev pub IsSideLine : Type 0
IsSideLine =
    (times : TimeForm) (sign : List ℕ) (most n from : ℕ) (cut : Bool) (side : Option Compared)
    → ValueFits 5 (side_object times sign most n from cut side)
    → before_side (Json times) sign from ++ side_in (Json times) most n from cut side
    ≡ json_text 5 (side_object times sign most n from cut side) ++ codes "\n"
