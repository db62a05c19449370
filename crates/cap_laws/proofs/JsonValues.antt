-- The text of a value of JSON is read back.
use Rattle.std.proofs.Common.{◌≡◌, ◌<◌, ◌≤◌, ℕ, zero, suc, List, [], ◌∷◌, ◌++◌, drop, get_or, refl, sym, ap, ◌∙◌}
use Rattle.std.proofs.Common.{arith, append_assoc, Bool, true, false, ◌==◌, ◌||◌}
use Rattle.std.specs.Prelude.{if◌then◌else◌}
use Rattle.std.proofs.lemmas.Bool.Decides.{nat_tests}
use Rattle.std.specs.Prelude.{codes, flat_map}
use Rattle.std.specs.Char.{digit_value}
use Rattle.std.specs.List.{join_by}
use Rattle.cap_laws.proofs.JsonNumbers.{Stops, stops-at, whole-first, whole-split}
use Rattle.cap_laws.proofs.JsonStrings.{string-split}
use Rattle.cap_laws.specs.JsonLines.{Layer, ValuesReadBack}
use Rattle.cap_laws.specs.JsonLines.{array, json_text, layer_text, null, object, string, string_text, truth, whole}

first : List ℕ → ℕ
first bytes = get_or bytes 0 0

-- a text says what it is of, whatever follows it that isn't a digit
Splits : {A : Type 0} → (A → List ℕ) → Type 0
Splits {A} text =
    (a b : A) (r s : List ℕ) → Stops r → Stops s → text a ++ r ≡ text b ++ s → (a ≡ b) × (r ≡ s)

-- no text begins with a byte
Avoids : {A : Type 0} → ℕ → (A → List ℕ) → Type 0
Avoids {A} byte text = (a : A) (r : List ℕ) → first (text a ++ r) ≡ byte → ⊥

stops-comma : (cs : List ℕ) → Stops (44 ∷ cs)
stops-comma cs = stops-at 44 cs (λ is. omega (arith, is))

module _ {A : Type 0} (text : A → List ℕ) (close : ℕ) (split : Splits text) (avoids : Avoids close text)
    (stops : digit_value close < 10 → ⊥) (comma : close ≡ 44 → ⊥) where
  more : List A → List ℕ
  more items = flat_map (λ item. codes "," ++ text item) items

  more-then : (item : A) (items : List A) (r : List ℕ)
      → more (item ∷ items) ++ r ≡ 44 ∷ (text item ++ (more items ++ r))
  unfolding more
  more-then item items r = ap (λ l. 44 ∷ l) (append_assoc (text item) (more items) r)

  stops-more : (items : List A) (r : List ℕ) → Stops (more items ++ (close ∷ r))
  unfolding more
  stops-more [] r = stops-at close r stops
  stops-more (item ∷ items) r = stops-comma _

  more-split : (xs ys : List A) (r s : List ℕ) → more xs ++ (close ∷ r) ≡ more ys ++ (close ∷ s)
      → (xs ≡ ys) × (r ≡ s)
  unfolding more first Splits
  more-split [] [] r s e = (refl, ap (drop 1) e)
  more-split [] (y ∷ ys) r s e = absurd (comma (ap first e))
  more-split (x ∷ xs) [] r s e = absurd (comma (sym (ap first e)))
  more-split (x ∷ xs) (y ∷ ys) r s e =
      let d = split x y _ _ (stops-more xs r) (stops-more ys s)
      (ap (drop 1) (sym (more-then x xs (close ∷ r)) ∙ e ∙ more-then y ys (close ∷ s))) in
      let f = more-split xs ys r s d.1 in
      ((λ i. d.0 i ∷ f.0 i), f.1)

  joined : List A → List ℕ
  joined items = join_by text (codes ",") items

  joined-then : (item : A) (items : List A) (r : List ℕ)
      → joined (item ∷ items) ++ r ≡ text item ++ (more items ++ r)
  unfolding more joined
  joined-then item items r = append_assoc (text item) (more items) r

  joined-split : (xs ys : List A) (r s : List ℕ)
      → join_by text (codes ",") xs ++ (close ∷ r) ≡ join_by text (codes ",") ys ++ (close ∷ s)
      → (xs ≡ ys) × (r ≡ s)
  unfolding joined first Splits Avoids
  joined-split [] [] r s e = (refl, ap (drop 1) e)
  joined-split [] (y ∷ ys) r s e =
      absurd (avoids y _ (sym (ap first (e ∙ joined-then y ys (close ∷ s)))))
  joined-split (x ∷ xs) [] r s e =
      absurd (avoids x _ (ap first (sym (joined-then x xs (close ∷ r)) ∙ e)))
  joined-split (x ∷ xs) (y ∷ ys) r s e =
      let d = split x y _ _ (stops-more xs r) (stops-more ys s)
      (sym (joined-then x xs (close ∷ r)) ∙ e ∙ joined-then y ys (close ∷ s)) in
      let f = more-split xs ys r s d.1 in
      ((λ i. d.0 i ∷ f.0 i), f.1)

-- ---- values

module _ {A : Type 0} (text : A → List ℕ) where
  unfoldable pub member-text : List ℕ × A → List ℕ
  member-text member = string_text member.0 ++ codes ":" ++ text member.1

  pub member-then : (member : List ℕ × A) (r : List ℕ)
      → member-text member ++ r ≡ string_text member.0 ++ (58 ∷ (text member.1 ++ r))
  unfolding member-text
  member-then member r =
      append_assoc (string_text member.0 ++ codes ":") (text member.1) r
      ∙ append_assoc (string_text member.0) (codes ":") (text member.1 ++ r)

  member-split : Splits text → Splits member-text
  unfolding Splits
  member-split split m n r s p q e =
      let d = string-split m.0 n.0 _ _ (sym (member-then m r) ∙ e ∙ member-then n s) in
      let f = split m.1 n.1 r s p q (ap (drop 1) d.1) in
      ((λ i. (d.0 i, f.0 i)), f.1)

  member-avoids : Avoids 125 member-text
  unfolding Avoids first
  member-avoids m r e = omega (arith, sym (ap first (member-then m r)) ∙ e)

  -- which of six kinds a value is, and by the first byte of its text
  kind-of : Layer A → ℕ
  kind-of null = 0
  kind-of (truth is_so) = 1
  kind-of (whole n) = 2
  kind-of (string characters) = 3
  kind-of (array items) = 4
  kind-of (object members) = 5

  kind-by : ℕ → ℕ
  kind-by byte =
      if byte == 110 then 0
      else if byte == 116 || byte == 102 then 1
      else if byte == 34 then 3
      else if byte == 91 then 4
      else if byte == 123 then 5
      else 2

  number-kind : (byte : ℕ) → 45 ≤ byte → byte < 58 → kind-by byte ≡ 2
  unfolding kind-by
  number-kind byte low high = grind (arith, nat_tests, low, high)

  kind-is : (value : Layer A) (r : List ℕ) → kind-by (first (layer_text text value ++ r)) ≡ kind-of value
  unfolding kind-by kind-of first
  kind-is null r = refl
  kind-is (truth true) r = refl
  kind-is (truth false) r = refl
  kind-is (whole n) r = let k = whole-first n r in number-kind _ k.0 k.1
  kind-is (string characters) r = refl
  kind-is (array items) r = refl
  kind-is (object members) r = refl

  same-kind : (value other : Layer A) (r s : List ℕ) → layer_text text value ++ r ≡ layer_text text other ++ s
      → kind-of value ≡ kind-of other
  same-kind value other r s e = sym (kind-is value r) ∙ ap (λ l. kind-by (first l)) e ∙ kind-is other s

  layer-avoids : Avoids 93 (layer_text text)
  unfolding Avoids first
  layer-avoids null r e = omega (arith, e)
  layer-avoids (truth true) r e = omega (arith, e)
  layer-avoids (truth false) r e = omega (arith, e)
  layer-avoids (whole n) r e = let k = whole-first n r in omega (arith, k.1, e)
  layer-avoids (string characters) r e = omega (arith, e)
  layer-avoids (array items) r e = omega (arith, e)
  layer-avoids (object members) r e = omega (arith, e)

  pub array-then : (items : List A) (r : List ℕ)
      → layer_text text (array items) ++ r ≡ 91 ∷ (join_by text (codes ",") items ++ (93 ∷ r))
  array-then items r = ap (λ l. 91 ∷ l) (append_assoc (join_by text (codes ",") items) (codes "]") r)

  pub object-then : (members : List (List ℕ × A)) (r : List ℕ)
      → layer_text text (object members) ++ r ≡ 123 ∷ (join_by member-text (codes ",") members ++ (125 ∷ r))
  unfolding member-text
  object-then members r = ap (λ l. 123 ∷ l) (append_assoc (join_by member-text (codes ",") members) (codes "}") r)

  no-digit-93 : digit_value 93 < 10 → ⊥
  no-digit-93 is = omega (arith, is)

  no-digit-125 : digit_value 125 < 10 → ⊥
  no-digit-125 is = omega (arith, is)

  truth-split : (a b : Bool) (r s : List ℕ) → layer_text text (truth a) ++ r ≡ layer_text text (truth b) ++ s
      → (a ≡ b) × (r ≡ s)
  unfolding first
  truth-split true true r s e = (refl, ap (drop 4) e)
  truth-split true false r s e = absurd (omega (arith, ap first e))
  truth-split false true r s e = absurd (omega (arith, ap first e))
  truth-split false false r s e = (refl, ap (drop 5) e)

  layer-split : Splits text → Avoids 93 text → Splits (layer_text text)
  unfolding Splits kind-of
  layer-split split avoids null null r s p q e = (refl, ap (drop 4) e)
  layer-split split avoids (truth a) (truth b) r s p q e = let d = truth-split a b r s e in (ap truth d.0, d.1)
  layer-split split avoids (whole m) (whole n) r s p q e = let d = whole-split m n r s p q e in (ap whole d.0, d.1)
  layer-split split avoids (string a) (string b) r s p q e = let d = string-split a b r s e in (ap string d.0, d.1)
  layer-split split avoids (array xs) (array ys) r s p q e =
      let d = joined-split text 93 split avoids no-digit-93 (λ is. omega (arith, is)) xs ys r s
      (ap (drop 1) (sym (array-then xs r) ∙ e ∙ array-then ys s)) in
      (ap array d.0, d.1)
  layer-split split avoids (object ms) (object ns) r s p q e =
      let d = joined-split member-text 125 (member-split split) member-avoids no-digit-125 (λ is. omega (arith, is))
      ms ns r s
      (ap (drop 1) (sym (object-then ms r) ∙ e ∙ object-then ns s)) in
      (ap object d.0, d.1)
  layer-split split avoids value other r s p q e = absurd (omega (arith, same-kind value other r s e))

json-avoids : (depth : ℕ) → Avoids 93 (json_text depth)
unfolding Avoids
json-avoids zero value r e = elim value [ ]
json-avoids (suc depth) value r e = layer-avoids (json_text depth) value r e

json-split : (depth : ℕ) → Splits (json_text depth)
unfolding Splits
json-split zero value other r s p q e = elim value [ ]
json-split (suc depth) value other r s p q e =
    layer-split (json_text depth) (json-split depth) (json-avoids depth) value other r s p q e

stops-end : (cs : List ℕ) → Stops (10 ∷ cs)
stops-end cs = stops-at 10 cs (λ is. omega (arith, is))

pub values-read-back : ValuesReadBack
unfolding Splits
values-read-back depth value other rest behind e =
    let d = json-split depth value other (10 ∷ rest) (10 ∷ behind) (stops-end rest) (stops-end behind)
    (sym (append_assoc (json_text depth value) (codes "\n") rest) ∙ e
    ∙ append_assoc (json_text depth other) (codes "\n") behind) in
    (d.0, ap (drop 1) d.1)
