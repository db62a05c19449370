-- The names that a list has, one by one.
use Rattle.std.proofs.Common.{◌≡◌, ◌∙◌, ◌<◌, ◌++◌, ℕ, zero, suc, Bool, List, [], ◌∷◌, true, false, refl, sym, ap}
use Rattle.std.proofs.Common.{◌+◌, ◌-◌, arith, drop, length, length-append, map, take}
use Rattle.std.proofs.lemmas.List.{append-nil, append_assoc, length-map}
use Rattle.std.specs.Borrow.{Bor}
use Rattle.std.proofs.lemmas.Str.{IsUtf8-from_is_utf8, is_utf8-from_IsUtf8}
use Rattle.std.specs.Prelude.{◌==◌, slice_index, if◌then◌else◌}
use Rattle.std.specs.Str.{IsUtf8, is_utf8}
use Rattle.std.specs.Str.Lossy.{utf8_lossy}
use Rattle.cap_tool.specs.ListedNames.{listed_name, listed_names, pieces, put_to_first}

-- what isn't so is false
pub false-if : (b : Bool) → (b ≡ true → ⊥) → b ≡ false
false-if true other = absurd (other refl)
false-if false other = refl

-- the name of bytes that are UTF-8, and of those that aren't
pub listed-text : (bytes : List ℕ) → IsUtf8 bytes → listed_name bytes ≡ bytes
listed-text bytes is =
    ap (λ c. if c then bytes else utf8_lossy bytes ++ 0 ∷ []) (is_utf8-from_IsUtf8 bytes is)

pub listed-other : (bytes : List ℕ) → (IsUtf8 bytes → ⊥) → listed_name bytes ≡ utf8_lossy bytes ++ 0 ∷ []
listed-other bytes other =
    ap (λ c. if c then bytes else utf8_lossy bytes ++ 0 ∷ [])
    (false-if (is_utf8 bytes) (λ is. other (IsUtf8-from_is_utf8 bytes is)))

-- a byte that ends no piece is put to the first behind it
first : (end b : ℕ) (bytes : List ℕ) → (b == end) ≡ false
    → pieces end (b ∷ bytes) ≡ put_to_first b (pieces end bytes)
unfolding pieces
first end b bytes is = ap (λ c. if c then [] ∷ pieces end bytes else put_to_first b (pieces end bytes)) is

-- the first byte that ends one ends the first piece
pub pieces-at : (end : ℕ) (list : List ℕ) (k : ℕ) → k < length list
    → ((i : ℕ) → i < k → (slice_index list i == end) ≡ false) → (slice_index list k == end) ≡ true
    → pieces end list ≡ take k list ∷ pieces end (drop (suc k) list)
unfolding pieces
pieces-at end [] k below before at = absurd (none k below)
  where
    none : (n : ℕ) → n < 0 → ⊥
    none n under = omega (arith, under)
pieces-at end (b ∷ bytes) zero below before at =
    ap (λ c. if c then [] ∷ pieces end bytes else put_to_first b (pieces end bytes)) at
pieces-at end (b ∷ bytes) (suc k) below before at =
    first end b bytes (before 0 (omega arith))
    ∙ ap (put_to_first b)
    (pieces-at end bytes k (omega (arith, below)) (λ i under. before (suc i) (omega (arith, under))) at)

-- some bytes without one are one piece
pub pieces-one : (end b : ℕ) (bytes : List ℕ)
    → ((i : ℕ) → i < length (b ∷ bytes) → (slice_index (b ∷ bytes) i == end) ≡ false)
    → pieces end (b ∷ bytes) ≡ (b ∷ bytes) ∷ []
unfolding pieces
pieces-one end b [] none = first end b [] (none 0 (omega arith))
pieces-one end b (c ∷ bytes) none =
    first end b (c ∷ bytes) (none 0 (omega arith))
    ∙ ap (put_to_first b) (pieces-one end c bytes (λ i under. none (suc i) (omega (arith, under))))

pub pieces-all : (end : ℕ) (list : List ℕ) → (list ≡ [] → ⊥)
    → ((i : ℕ) → i < length list → (slice_index list i == end) ≡ false) → pieces end list ≡ list ∷ []
pieces-all end [] some none = absurd (some refl)
pieces-all end (b ∷ bytes) some none = pieces-one end b bytes none

-- one name more of a list is found, of which a piece is at the front
pub listed-more : (found all : List (List ℕ)) (rest piece behind name : List ℕ)
    → found ++ listed_names rest ≡ all → pieces 0 rest ≡ piece ∷ pieces 0 behind → name ≡ listed_name piece
    → (found ++ name ∷ []) ++ listed_names behind ≡ all
listed-more found all rest piece behind name so_far split is =
    append_assoc found (name ∷ []) (listed_names behind)
    ∙ (ap (λ n. found ++ n ∷ listed_names behind) is
    ∙ (sym (ap (λ l. found ++ map listed_name l) split) ∙ so_far))

-- all names of a list are found
pub listed-all : (found all : List (List ℕ)) (rest : List ℕ) → length rest ≡ 0 → found ++ listed_names rest ≡ all
    → found ≡ all
unfolding pieces
listed-all found all [] over is = sym (append-nil found) ∙ is
listed-all found all (b ∷ rest) over is = absurd (none (length rest) over)
  where
    none : (n : ℕ) → suc n ≡ 0 → ⊥
    none n less = omega (arith, less)

-- the texts of some first names are the first of their texts
texts-front : (n : ℕ) (texts : List (Bor (List ℕ))) → map (λ t. t.now) (take n texts) ≡ take n (map (λ t. t.now) texts)
texts-front zero texts = refl
texts-front (suc n) [] = refl
texts-front (suc n) (t ∷ texts) = ap (λ l. t.now ∷ l) (texts-front n texts)

-- some names without one behind them
names-before : (names : List (List ℕ)) (last : List ℕ) → take (length names) (names ++ last ∷ []) ≡ names
names-before [] last = refl
names-before (name ∷ names) last = ap (λ l. name ∷ l) (names-before names last)

-- the names of a list are those of some texts but the last, which is its own name
pub front-names : (texts : List (Bor (List ℕ))) (names : List (List ℕ)) (last : List ℕ)
    → map (λ t. t.now) texts ≡ names ++ last ∷ []
    → map (λ t. t.now) (take (length texts - 1) texts) ≡ names
front-names texts names last is =
    let same : length texts ≡ length names + 1 =
    sym (length-map texts (λ t. t.now)) ∙ (ap length is ∙ length-append names (last ∷ [])) in
    let count : length texts - 1 ≡ length names = omega (arith, same) in
    texts-front (length texts - 1) texts
    ∙ (ap (take (length texts - 1)) is
    ∙ (ap (λ n. take n (names ++ last ∷ [])) count ∙ names-before names last))

-- the names of a list, of texts that are those and its own name
pub names-read : (bytes name : List ℕ) (all : List (List ℕ)) (texts front : List (Bor (List ℕ)))
    → all ≡ listed_names bytes ++ name ∷ [] → map (λ t. t.now) texts ≡ all → front ≡ take (length texts - 1) texts
    → map (λ t. t.now) front ≡ listed_names bytes
names-read bytes name all texts front all_are texts_are is =
    ap (map (λ t. t.now)) is ∙ front-names texts (listed_names bytes) name (texts_are ∙ all_are)
