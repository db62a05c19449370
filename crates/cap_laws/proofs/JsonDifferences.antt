-- The lines of a difference are texts of JSON.
use Rattle.std.proofs.Common.{◌≡◌, ◌==◌, ◌<◌, ◌^◌, ℕ, List, [], ◌∷◌, ◌++◌, map, refl, sym, ap, ◌∙◌, append_assoc}
use Rattle.std.proofs.Common.{append-nil}
use Rattle.std.proofs.Common.{Some, None, Bool, true, false}
use Rattle.std.specs.Prelude.{codes, decimal, pos, if◌then◌else◌}
use Rattle.std.specs.List.{AllByRecursion, join_by}
use lib.Utf8.{encode}
use Rattle.cap_print.specs.declared.forms.Form.TheVariants.{Json}
use Rattle.cap_print.specs.declared.forms.TimeForm.{TimeForm}
use Rattle.cap_laws.proofs.JsonFaults.{parts-4}
use Rattle.cap_laws.proofs.JsonLines.{after-commas, comma-then, line-with}
use Rattle.cap_laws.proofs.JsonLines.{object-first, plain-then}
use Rattle.cap_laws.proofs.JsonNumbers.{decimal-whole}
use Rattle.cap_commands.specs.DiffText.{data_place_in, quoted}
use Rattle.cap_commands.specs.ListText.{facts_showing}
use Rattle.cap_commands.specs.DiffText.{no_side, packet_side, shown_from}
use Rattle.cap_source.specs.declared.packets.Meta.{Meta}
use Rattle.cap_laws.proofs.JsonValues.{array-then, member-text}
use Rattle.cap_laws.specs.JsonDifferences.{IsDifferLine, IsSideLine}
use Rattle.cap_laws.specs.JsonLines.{JsonValue, ValueFits, array, json_text, line_members, null, object, string}
use Rattle.cap_laws.specs.JsonLines.{string_text, truth, whole, whole_text}

-- words in an array
words-more : (word : List ℕ) (words : List (List ℕ)) (rest : List ℕ)
    → AllByRecursion (ValueFits 1) (map string (word ∷ words))
    → quoted (word ∷ words) ++ rest ≡ join_by (json_text 1) (codes ",") (map string (word ∷ words)) ++ rest
words-more word [] rest f =
    ap (λ l. 34 ∷ l) (append_assoc word (codes "\"") rest)
    ∙ sym (plain-then word rest f.0)
    ∙ ap (λ l. l ++ rest) (sym (append-nil (string_text word)))
words-more word (next ∷ words) rest f =
    ap (λ l. 34 ∷ l)
    (append_assoc (word ++ codes "\",") (quoted (next ∷ words)) rest
    ∙ append_assoc word (codes "\",") (quoted (next ∷ words) ++ rest))
    ∙ sym (plain-then word (44 ∷ (quoted (next ∷ words) ++ rest)) f.0)
    ∙ ap (λ l. string_text word ++ (44 ∷ l)) (words-more next words rest f.1)
    ∙ sym (append_assoc (string_text word) (44 ∷ join_by (json_text 1) (codes ",") (map string (next ∷ words))) rest)

words-are : (words : List (List ℕ)) (rest : List ℕ) → AllByRecursion (ValueFits 1) (map string words)
    → quoted words ++ rest ≡ join_by (json_text 1) (codes ",") (map string words) ++ rest
words-are [] rest f = refl
words-are (word ∷ words) rest f = words-more word words rest f

differ-by : (n : ℕ) (words : List (List ℕ)) (end : List ℕ) (behind : List (List ℕ × JsonValue 2)) → n < 10 ^ 64
    → AllByRecursion (ValueFits 1) (map string words) → end ≡ after-commas 2 behind ++ codes "}\n"
    → codes "{\"type\":\"differ\",\"packet\":" ++ decimal n ++ codes ",\"differs\":[" ++ quoted words
    ++ (codes "]" ++ end)
    ≡ json_text 3 (object ((codes "type", string (codes "differ")) ∷ (codes "packet", whole (pos n))
    ∷ (codes "differs", array (map string words)) ∷ behind)) ++ codes "\n"
unfolding encode
differ-by n words end behind small plain is =
    let number : List ℕ × JsonValue 2 = (codes "packet", whole (pos n)) in
    let which : List ℕ × JsonValue 2 = (codes "differs", array (map string words)) in
    let left : List ℕ = codes "{\"type\":\"differ\"" in
    parts-4 (codes "{\"type\":\"differ\",\"packet\":") (decimal n) (codes ",\"differs\":[") (quoted words)
    (codes "]" ++ end)
    ∙ (λ i. left ++ (codes ",\"packet\":" ++ (decimal-whole n small i ++ (codes ",\"differs\":["
    ++ words-are words (codes "]" ++ is i) plain i))))
    ∙ ap (λ l. left ++ (codes ",\"packet\":" ++ (whole_text (pos n) ++ (codes ",\"differs\":" ++ l))))
    (sym (array-then (json_text 1) (map string words) (after-commas 2 behind ++ codes "}\n")))
    ∙ ap (λ l. left ++ (codes ",\"packet\":" ++ (whole_text (pos n) ++ l)))
    (sym (comma-then 2 which behind (codes "}\n")))
    ∙ ap (λ l. left ++ l) (sym (comma-then 2 number (which ∷ behind) (codes "}\n")))
    ∙ sym (object-first 2 (codes "type", string (codes "differ")) (number ∷ which ∷ behind) (codes "\n"))

place-is : (times : TimeForm) (place : ℕ) → place < 10 ^ 64
    → data_place_in (Json times) (Some place) (codes "}\n")
    ≡ after-commas 2 ((codes "data_at", whole (pos place)) ∷ []) ++ codes "}\n"
unfolding encode after-commas
place-is times place small =
    ap (λ l. codes ",\"data_at\":" ++ (l ++ codes "}\n")) (decimal-whole place small)
    ∙ sym (comma-then 2 (codes "data_at", whole (pos place)) [] (codes "}\n"))

pub differ-line : IsDifferLine
unfolding after-commas
differ-line times n words None f = differ-by n words (codes "}\n") [] f.1.0.1 f.1.1.0.1 refl
differ-line times n words (Some place) f =
    differ-by n words (data_place_in (Json times) (Some place) (codes "}\n"))
    ((codes "data_at", whole (pos place)) ∷ [])
    f.1.0.1 f.1.1.0.1 (place-is times place f.1.1.1.0.1)

-- ---- a side

-- the member that says from which byte on bytes are shown
abbrev from-members : Bool → ℕ → List (List ℕ × JsonValue 4)
from-members zero from = if zero then [] else (codes "data_from", whole (pos from)) ∷ []

abbrev from-text : Bool → ℕ → List ℕ → List ℕ
from-text zero from rest = if zero then rest else codes ",\"data_from\":" ++ decimal from ++ rest

from-is : (zero : Bool) (from : ℕ) (rest : List ℕ) (behind : List (List ℕ × JsonValue 4))
    → ValueFits 5 (object (from-members zero from ++ behind))
    → codes ",\"packet\":" ++ rest ≡ after-commas 4 behind ++ codes "}\n"
    → from-text zero from (codes ",\"packet\":") ++ rest
    ≡ after-commas 4 (from-members zero from ++ behind) ++ codes "}\n"
unfolding encode
from-is true from rest behind f is = is
from-is false from rest behind f is =
    let member : List ℕ × JsonValue 4 = (codes "data_from", whole (pos from)) in
    append_assoc (codes ",\"data_from\":" ++ decimal from) (codes ",\"packet\":") rest
    ∙ append_assoc (codes ",\"data_from\":") (decimal from) (codes ",\"packet\":" ++ rest)
    ∙ (λ i. codes ",\"data_from\":" ++ (decimal-whole from f.0.1 i ++ is i))
    ∙ sym (comma-then 4 member behind (codes "}\n"))

side-by : (sign : List ℕ) (zero : Bool) (from : ℕ) (rest : List ℕ) (behind : List (List ℕ × JsonValue 4))
    → ValueFits 5 (object (((codes "type", string (codes "side")) ∷ (codes "side", string sign)
    ∷ from-members zero from) ++ behind))
    → codes ",\"packet\":" ++ rest ≡ after-commas 4 behind ++ codes "}\n"
    → (codes "{\"type\":\"side\",\"side\":\"" ++ sign
    ++ (codes "\"" ++ from-text zero from (codes ",\"packet\":"))) ++ rest
    ≡ json_text 5 (object (((codes "type", string (codes "side")) ∷ (codes "side", string sign)
    ∷ from-members zero from) ++ behind)) ++ codes "\n"
unfolding encode
side-by sign zero from rest behind f is =
    let name : List ℕ × JsonValue 4 = (codes "side", string sign) in
    let more : List (List ℕ × JsonValue 4) = from-members zero from ++ behind in
    append_assoc (codes "{\"type\":\"side\",\"side\":\"" ++ sign)
    (codes "\"" ++ from-text zero from (codes ",\"packet\":")) rest
    ∙ ap (λ l. codes "{\"type\":\"side\",\"side\":\"" ++ (sign ++ (34 ∷ l))) (from-is zero from rest behind f.1.1 is)
    ∙ ap (λ l. codes "{\"type\":\"side\",\"side\":" ++ l)
    (sym (plain-then sign (after-commas 4 more ++ codes "}\n") f.1.0.1))
    ∙ ap (λ l. codes "{\"type\":\"side\"" ++ l) (sym (comma-then 4 name more (codes "}\n")))
    ∙ sym (object-first 4 (codes "type", string (codes "side")) (name ∷ more) (codes "\n"))

last-fits : (zero : Bool) (from : ℕ) (value : JsonValue 4)
    → ValueFits 5 (object (from-members zero from ++ (codes "packet", value) ∷ [])) → ValueFits 4 value
last-fits true from value f = f.0.1
last-fits false from value f = f.1.0.1

no-packet : (times : TimeForm) (cut : Bool)
    → codes ",\"packet\":" ++ no_side (Json times) cut
    ≡ after-commas 4 ((codes "packet", null) ∷ (codes "cut", truth cut) ∷ []) ++ codes "}\n"
unfolding encode after-commas member-text
no-packet times true = refl
no-packet times false = refl

its-packet : (times : TimeForm) (n : ℕ) (meta : Meta) (shown : List ℕ)
    → ValueFits 4 (object (line_members times (facts_showing n meta shown)))
    → codes ",\"packet\":" ++ packet_side (Json times) n meta shown
    ≡ after-commas 4 ((codes "packet", object (line_members times (facts_showing n meta shown))) ∷ []) ++ codes "}\n"
unfolding encode after-commas
its-packet times n meta shown f =
    let line = facts_showing n meta shown in
    let value : JsonValue 4 = object (line_members times line) in
    ap (λ l. codes ",\"packet\":" ++ l) (line-with times line [] (codes "}\n") f
    ∙ ap (λ ms. json_text 4 (object ms) ++ codes "}\n") (append-nil (line_members times line)))
    ∙ sym (comma-then 4 (codes "packet", value) [] (codes "}\n"))

pub side-line : IsSideLine
side-line times sign most n from cut None f =
    side-by sign (from == 0) from (no_side (Json times) cut) ((codes "packet", null) ∷ (codes "cut", truth cut) ∷ []) f
    (no-packet times cut)
side-line times sign most n from cut (Some a) f =
    let shown = shown_from most from a.frame in
    side-by sign (from == 0) from (packet_side (Json times) n a.meta shown)
    ((codes "packet", object (line_members times (facts_showing n a.meta shown))) ∷ []) f
    (its-packet times n a.meta shown (last-fits (from == 0) from _ f.1.1))
