-- A line of facts is the text of its object.
use Rattle.std.proofs.Common.{◌≡◌, ℕ, suc, List, [], ◌∷◌, ◌++◌, drop, map, refl, sym, ap, ◌∙◌}
use Rattle.std.proofs.Common.{arith, append_assoc, append-nil, true, false, Some, None}
use Rattle.std.specs.Prelude.{chars, codes, flat_map, pos}
use Rattle.std.specs.List.{AllByRecursion, join_by}
use lib.Utf8.{encode}
use Rattle.hex.specs.Hex.{encode_lower}
use Rattle.cap_check.specs.CheckText.{check_facts}
use Rattle.cap_print.specs.Facts.{Fact, Facts, Field, Value, coded, end_in, fact_in, facts_in, fields_in, flag, group}
use Rattle.cap_print.specs.Facts.{begin_in, hex, moment, name_in, number, one, open_in, word}
use Rattle.cap_print.specs.Times.{time_json, time_json_in}
use Rattle.cap_print.specs.declared.forms.Form.TheVariants.{Json}
use Rattle.cap_print.specs.declared.forms.TimeForm.{TimeForm}
use Rattle.cap_print.specs.declared.forms.TimeForm.TheVariants.{Decimal, Exact, Utc}
use Rattle.cap_print.specs.Dates.{utc_text}
use Rattle.cap_print.specs.Decimals.{decimal_text}
use Rattle.cap_time.specs.Time.{Printed}
use Rattle.cap_tool.specs.Objects.{escaped_character, path_json}
use Rattle.cap_laws.specs.JsonLines.{fact_value, field_member, line_members, time_value}
use Rattle.cap_laws.proofs.JsonNumbers.{decimal-whole, signed-whole}
use Rattle.cap_laws.proofs.JsonStrings.{string-then}
use Rattle.cap_laws.proofs.JsonValues.{member-text, member-then, object-then, values-read-back}
use Rattle.cap_laws.specs.JsonLines.{JsonValue, Layer, LayerFits, ValueFits, IsJsonLine, IsNamedLine, LinesReadBack}
use Rattle.cap_laws.specs.JsonLines.{array, json_text, layer_text, null, object, string, string_text, truth, whole}
use Rattle.cap_laws.specs.JsonLines.{whole_text}

-- characters that aren't escaped
abbrev pub Plain : List ℕ → Type 0
Plain characters = flat_map escaped_character characters ≡ characters

pub plain-then : (characters rest : List ℕ) → Plain characters
    → string_text characters ++ rest ≡ 34 ∷ (characters ++ (34 ∷ rest))
plain-then characters rest plain =
    string-then characters rest ∙ ap (λ l. 34 ∷ (l ++ (34 ∷ rest))) plain

-- a name before a value, as the printed lines put it
name-is : (times : TimeForm) (label key rest : List ℕ) → Plain key
    → name_in (Json times) label key rest ≡ 44 ∷ (string_text key ++ (58 ∷ rest))
name-is times label key rest plain =
    ap (λ l. 44 ∷ 34 ∷ l) (append_assoc key (codes "\":") rest)
    ∙ ap (λ l. 44 ∷ l) (sym (plain-then key (58 ∷ rest) plain))

quoted-is : (characters rest : List ℕ) → Plain characters
    → (codes "\"" ++ characters ++ codes "\"") ++ rest ≡ string_text characters ++ rest
quoted-is characters rest plain =
    ap (λ l. 34 ∷ l) (append_assoc characters (codes "\"") rest) ∙ sym (plain-then characters rest plain)

three-joined : (a b c rest : List ℕ)
    → (codes "[" ++ a ++ codes "," ++ b ++ codes "," ++ c ++ codes "]") ++ rest
    ≡ (codes "[" ++ join_by (λ l. l) (codes ",") (a ∷ b ∷ c ∷ []) ++ codes "]") ++ rest
three-joined a b c rest = grind (arith, append_assoc, append-nil)

-- no time is `null` in each form
no-time : (times : TimeForm) → time_json_in times None ≡ codes "null"
no-time Exact = refl
no-time Decimal = refl
no-time Utc = refl

-- a fact as a member
abbrev member-of : {A : Type 0} → TimeForm → Fact → List ℕ × Layer (Layer A)
member-of times fact = (fact.key, fact_value times fact.value)

module _ {A : Type 0} (times : TimeForm) (text : A → List ℕ) (fits : A → Type 0) where
  three-is : (time : Printed) (rest : List ℕ) → LayerFits (LayerFits fits) (time_value Exact time)
      → time_json (Some time) ++ rest ≡ layer_text (layer_text text) (time_value Exact time) ++ rest
  three-is time rest f =
      let a = signed-whole time.seconds f.0 in
      let b = decimal-whole time.numerator f.1.0 in
      let c = decimal-whole time.denominator f.1.1.0 in
      (λ i. (codes "[" ++ a i ++ codes "," ++ b i ++ codes "," ++ c i ++ codes "]") ++ rest)
      ∙ three-joined (whole_text time.seconds) (whole_text (pos time.numerator))
      (whole_text (pos time.denominator)) rest

  time-is : (form : TimeForm) (time : Printed) (rest : List ℕ) → LayerFits (LayerFits fits) (time_value form time)
      → time_json_in form (Some time) ++ rest ≡ layer_text (layer_text text) (time_value form time) ++ rest
  time-is Exact time rest f = three-is time rest f
  time-is Decimal time rest f = quoted-is (decimal_text time) rest f
  time-is Utc time rest f = quoted-is (utc_text time) rest f

  fact-is : (label key : List ℕ) (value : Value) (rest : List ℕ) → Plain key
      → LayerFits (LayerFits fits) (fact_value times value)
      → fact_in (Json times) (record { label = label; key = key; value = value }) rest
      ≡ 44 ∷ (string_text key ++ (58 ∷ (layer_text (layer_text text) (fact_value times value) ++ rest)))
  fact-is label key (number n) rest plain f =
      name-is times label key _ plain
      ∙ ap (λ l. 44 ∷ (string_text key ++ (58 ∷ (l ++ rest)))) (decimal-whole n f)
  fact-is label key (coded known n) rest plain f =
      name-is times label key _ plain
      ∙ ap (λ l. 44 ∷ (string_text key ++ (58 ∷ (l ++ rest)))) (decimal-whole n f)
  fact-is label key (word None) rest plain f = name-is times label key _ plain
  fact-is label key (word (Some known)) rest plain f =
      name-is times label key _ plain
      ∙ ap (λ l. 44 ∷ (string_text key ++ (58 ∷ l))) (quoted-is known rest f)
  fact-is label key (moment None) rest plain f =
      name-is times label key _ plain
      ∙ ap (λ l. 44 ∷ (string_text key ++ (58 ∷ (l ++ rest)))) (no-time times)
  fact-is label key (moment (Some time)) rest plain f =
      name-is times label key _ plain
      ∙ ap (λ l. 44 ∷ (string_text key ++ (58 ∷ l))) (time-is times time rest f)
  fact-is label key (hex bytes) rest plain f =
      name-is times label key _ plain
      ∙ ap (λ l. 44 ∷ (string_text key ++ (58 ∷ l))) (quoted-is (encode_lower bytes) rest f)
  fact-is label key (flag true) rest plain f = name-is times label key _ plain
  fact-is label key (flag false) rest plain f = name-is times label key _ plain

  -- as a member after a comma
  fact-member : (fact : Fact) (rest : List ℕ) → Plain fact.key
      → LayerFits (LayerFits fits) (fact_value times fact.value)
      → fact_in (Json times) fact rest
      ≡ 44 ∷ (member-text (layer_text (layer_text text)) (member-of times fact) ++ rest)
  fact-member fact rest plain f =
      fact-is fact.label fact.key fact.value rest plain f
      ∙ ap (λ l. 44 ∷ l) (sym (member-then (layer_text (layer_text text)) (member-of times fact) rest))

  facts-are : (facts : List Fact) (rest : List ℕ)
      → AllByRecursion (λ m. Plain m.0 × LayerFits (LayerFits fits) m.1) (map (member-of times) facts)
      → facts_in (Json times) facts rest
      ≡ flat_map (λ m. codes "," ++ member-text (layer_text (layer_text text)) m) (map (member-of times) facts) ++ rest
  facts-are [] rest f = refl
  facts-are (fact ∷ facts) rest f =
      fact-member fact (facts_in (Json times) facts rest) f.0.0 f.0.1
      ∙ ap (λ l. 44 ∷ (member-text (layer_text (layer_text text)) (member-of times fact) ++ l))
      (facts-are facts rest f.1)
      ∙ ap (λ l. 44 ∷ l) (sym (append_assoc (member-text (layer_text (layer_text text)) (member-of times fact)) _ rest))

-- ---- a line

group-is : (times : TimeForm) (key : List ℕ) (fact : Fact) (facts : List Fact) (rest : List ℕ) → Plain key
    → ValueFits 3 (field_member times (group key fact facts)).1
    → open_in (Json times) key (fact_in (Json times) fact (facts_in (Json times) facts (codes "}" ++ rest)))
    ≡ 44 ∷ (member-text (json_text 3) (field_member times (group key fact facts)) ++ rest)
group-is times key fact facts rest plain f =
    let ms = map (member-of {A = JsonValue 0} times) facts in
    let m = member-of {A = JsonValue 0} times fact in
    let others = flat_map (λ m. codes "," ++ member-text (json_text 2) m) ms in
    let inner : List ℕ = member-text (json_text 2) m ++ (others ++ (codes "}" ++ rest)) in
    ap (λ l. codes ",\"" ++ key ++ codes "\":{" ++ drop 1 l)
    (fact-member times (json_text 0) (ValueFits 0) fact _ f.0.0 f.0.1
    ∙ ap (λ l. 44 ∷ (member-text (json_text 2) m ++ l)) (facts-are times (json_text 0) (ValueFits 0) facts _ f.1))
    ∙ ap (λ l. 44 ∷ 34 ∷ l) (append_assoc key (codes "\":{") inner)
    ∙ ap (λ l. 44 ∷ l) (sym (plain-then key (58 ∷ 123 ∷ inner) plain))
    ∙ ap (λ l. 44 ∷ (string_text key ++ (58 ∷ 123 ∷ l)))
    (sym (append_assoc (member-text (json_text 2) m) others (codes "}" ++ rest)))
    ∙ ap (λ l. 44 ∷ (string_text key ++ (58 ∷ l))) (sym (object-then (json_text 2) (m ∷ ms) rest))
    ∙ ap (λ l. 44 ∷ l) (sym (member-then (json_text 3) (field_member times (group key fact facts)) rest))

fields-are : (times : TimeForm) (fields : List Field) (rest : List ℕ)
    → AllByRecursion (λ m. Plain m.0 × ValueFits 3 m.1) (map (field_member times) fields)
    → fields_in (Json times) fields rest
    ≡ flat_map (λ m. codes "," ++ member-text (json_text 3) m) (map (field_member times) fields) ++ rest
fields-are times [] rest f = refl
fields-are times (one fact ∷ fields) rest f =
    fact-member times (json_text 1) (ValueFits 1) fact _ f.0.0 f.0.1
    ∙ ap (λ l. 44 ∷ (member-text (json_text 3) (field_member times (one fact)) ++ l)) (fields-are times fields rest f.1)
    ∙ ap (λ l. 44 ∷ l) (sym (append_assoc (member-text (json_text 3) (field_member times (one fact))) _ rest))
fields-are times (group key fact facts ∷ fields) rest f =
    group-is times key fact facts (fields_in (Json times) fields rest) f.0.0 f.0.1
    ∙ ap (λ l. 44 ∷ (member-text (json_text 3) (field_member times (group key fact facts)) ++ l))
    (fields-are times fields rest f.1)
    ∙ ap (λ l. 44 ∷ l)
    (sym (append_assoc (member-text (json_text 3) (field_member times (group key fact facts))) _ rest))

-- the text of some members, each after a comma
unfoldable pub after-commas : (depth : ℕ) → List (List ℕ × JsonValue depth) → List ℕ
after-commas depth members = flat_map (λ m. codes "," ++ member-text (json_text depth) m) members

commas-append : (depth : ℕ) (ms ns : List (List ℕ × JsonValue depth)) (rest : List ℕ)
    → after-commas depth (ms ++ ns) ++ rest ≡ after-commas depth ms ++ (after-commas depth ns ++ rest)
unfolding after-commas
commas-append depth [] ns rest = refl
commas-append depth (m ∷ ms) ns rest =
    let g : List ℕ = codes "," ++ member-text (json_text depth) m in
    append_assoc g (after-commas depth (ms ++ ns)) rest ∙ ap (λ l. g ++ l) (commas-append depth ms ns rest)
    ∙ sym (append_assoc g (after-commas depth ms) (after-commas depth ns ++ rest))

-- a member after a comma, and what is behind it
pub comma-then : (depth : ℕ) (m : List ℕ × JsonValue depth) (ms : List (List ℕ × JsonValue depth)) (rest : List ℕ)
    → after-commas depth (m ∷ ms) ++ rest
    ≡ 44 ∷ (string_text m.0 ++ (58 ∷ (json_text depth m.1 ++ (after-commas depth ms ++ rest))))
unfolding after-commas
comma-then depth m ms rest =
    append_assoc (codes "," ++ member-text (json_text depth) m) (after-commas depth ms) rest
    ∙ ap (λ l. 44 ∷ l) (member-then (json_text depth) m (after-commas depth ms ++ rest))

-- an object by its first member
pub object-first : (depth : ℕ) (m : List ℕ × JsonValue depth) (ms : List (List ℕ × JsonValue depth)) (rest : List ℕ)
    → json_text (suc depth) (object (m ∷ ms)) ++ rest
    ≡ 123 ∷ (string_text m.0 ++ (58 ∷ (json_text depth m.1 ++ (after-commas depth ms ++ (125 ∷ rest)))))
unfolding after-commas
object-first depth m ms rest =
    object-then (json_text depth) (m ∷ ms) rest
    ∙ ap (λ l. 123 ∷ l)
    (append_assoc (member-text (json_text depth) m) (after-commas depth ms) (125 ∷ rest)
    ∙ member-then (json_text depth) m (after-commas depth ms ++ (125 ∷ rest)))

-- a line of facts with more members behind them
pub line-with : (times : TimeForm) (line : Facts) (behind : List (List ℕ × JsonValue 3)) (rest : List ℕ)
    → ValueFits 4 (object (line_members times line))
    → begin_in (Json times) line.kind (fields_in (Json times) line.fields (after-commas 3 behind ++ (125 ∷ rest)))
    ≡ json_text 4 (object (line_members times line ++ behind)) ++ rest
unfolding after-commas
line-with times line behind rest f =
    let ms = map (field_member times) line.fields in
    let kind : List ℕ × JsonValue 3 = (codes "type", string line.kind) in
    let end : List ℕ = after-commas 3 behind ++ (125 ∷ rest) in
    let others : List ℕ = after-commas 3 ms ++ end in
    ap (λ l. codes "{\"type\":\"" ++ l)
    (append_assoc line.kind (codes "\"") (fields_in (Json times) line.fields end)
    ∙ ap (λ l. line.kind ++ (34 ∷ l)) (fields-are times line.fields end f.1))
    ∙ ap (λ l. codes "{\"type\":" ++ l) (sym (plain-then line.kind others f.0.1))
    ∙ ap (λ l. 123 ∷ l) (sym (plain-then (codes "type") (58 ∷ (string_text line.kind ++ others)) f.0.0))
    ∙ ap (λ l. 123 ∷ l) (sym (member-then (json_text 3) kind others))
    ∙ ap (λ l. 123 ∷ (member-text (json_text 3) kind ++ l)) (sym (commas-append 3 ms behind (125 ∷ rest)))
    ∙ ap (λ l. 123 ∷ l)
    (sym (append_assoc (member-text (json_text 3) kind) (after-commas 3 (ms ++ behind)) (125 ∷ rest)))
    ∙ sym (object-then (json_text 3) (kind ∷ (ms ++ behind)) rest)

pub object-line : IsJsonLine
unfolding after-commas
object-line times line f =
    line-with times line [] (codes "\n") f
    ∙ ap (λ ms. json_text 4 (object ms) ++ codes "\n") (append-nil (line_members times line))

-- the last field of a line that names a file
pub path-is : (depth : ℕ) (name rest : List ℕ)
    → path_json (Some name) ++ rest ≡ after-commas (suc depth) ((codes "path", string (chars name)) ∷ []) ++ rest
unfolding after-commas member-text encode
path-is depth name rest =
    ap (λ l. l ++ rest)
    (append_assoc (codes ",\"path\":\"") (flat_map escaped_character (chars name)) (codes "\"") ∙ sym (append-nil _))

line-named : (times : TimeForm) (line : Facts) (name : List ℕ) → ValueFits 4 (object (line_members times line))
    → begin_in (Json times) line.kind
    (fields_in (Json times) line.fields (path_json (Some name) ++ end_in (Json times)))
    ≡ json_text 4 (object (line_members times line ++ (codes "path", string (chars name)) ∷ [])) ++ codes "\n"
line-named times line name f =
    ap (λ l. begin_in (Json times) line.kind (fields_in (Json times) line.fields l))
    (path-is 2 name (end_in (Json times)))
    ∙ line-with times line ((codes "path", string (chars name)) ∷ []) (codes "\n") f

pub named-line : IsNamedLine
named-line times which file check is_shown name f = line-named times (check_facts which file check) name f

members-of : Layer (JsonValue 3) → List (List ℕ × JsonValue 3)
members-of null = []
members-of (truth is_so) = []
members-of (whole n) = []
members-of (string characters) = []
members-of (array items) = []
members-of (object members) = members

pub lines-read-back : LinesReadBack
unfolding members-of
lines-read-back times line other a b e =
    ap members-of (values-read-back 4 (object (line_members times line)) (object (line_members times other)) [] []
    (ap (λ l. l ++ []) (sym (object-line times line a) ∙ e ∙ object-line times other b))).0
