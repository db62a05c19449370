-- The parts of a line that `digest --names` prints.
use Rattle.std.proofs.Common.{◌≡◌, ◌==◌, ◌<◌, ◌≤◌, ◌+◌, ℕ, zero, suc, Bool, true, false, List, [], ◌∷◌, ◌++◌}
use Rattle.std.proofs.Common.{Option, Some, None, codes, drop, take, length, if◌then◌else◌, option_map, refl, sym, ap}
use Rattle.std.proofs.Common.{◌∙◌, arith, length-append}
use Rattle.std.proofs.lemmas.Bool.Decides.{Decides-eqb}
use Rattle.std.proofs.lemmas.Slice.Eq.{starts_is}
use Rattle.std.specs.List.{starts_with}
use Rattle.std.specs.Option.{option_and_then}
use Rattle.std.specs.Str.Pattern.{FindsText, LacksTextAt, SplitsAroundMatch}
use Rattle.cap_line.specs.Jobs.{number_in}
use Rattle.std.proofs.Common.{not}
use Rattle.std.proofs.lemmas.Str.{IsUtf8-from_is_utf8, is_utf8-from_IsUtf8}
use Rattle.std.specs.Str.{IsUtf8, bytes_eq, is_utf8}
use Rattle.cap_tool.proofs.ListedNames.{false-if}
use Rattle.cap_line.specs.Shown.{shown_text, unshown_text}
use Rattle.cap_tool.specs.DigestLines.{Entry, entry_by, entry_in, fields_of}
use Rattle.cap_tool.specs.DigestLines.{named_by, number_before, number_by, split_first}

-- a list begins with another
pub starts-not : (xs front : List ℕ) → ((rest : List ℕ) → xs ≡ front ++ rest → ⊥) → starts_with ◌==◌ xs front ≡ false
starts-not xs front other = by (starts_with ◌==◌ xs front) refl
  where
    by : (b : Bool) → starts_with ◌==◌ xs front ≡ b → b ≡ false
    by false is = refl
    by true is =
        absurd (other _ ((starts_is Decides-eqb xs front (starts_with ◌==◌ xs front) refl).0 is))

starts-so : (xs front rest : List ℕ) → xs ≡ front ++ rest → starts_with ◌==◌ xs front ≡ true
starts-so xs front rest is = (starts_is Decides-eqb xs front (starts_with ◌==◌ xs front) refl).1 rest is

-- no text that has a part is empty
nothing-long : (part rest : List ℕ) → 0 < length part → [] ≡ part ++ rest → ⊥
nothing-long part rest some is =
    let long : 0 ≡ length part + length rest = ap length is ∙ length-append part rest in
    omega (arith, some, long)

-- the first place of a part is found
split-at : (part text : List ℕ) (i : ℕ) → 0 < length part → ((k : ℕ) → k < i → LacksTextAt part text k)
    → drop i text ≡ part ++ drop (i + length part) text
    → split_first part text ≡ Some (take i text, drop (i + length part) text)
unfolding split_first
split-at part [] zero some lacks is = absurd (nothing-long part _ some is)
split-at part [] (suc i) some lacks is = absurd (nothing-long part _ some is)
split-at part (b ∷ bytes) zero some lacks is =
    let here : 0 + length part ≡ length part = omega arith in
    rw (here, starts-so (b ∷ bytes) part _ is) refl
split-at part (b ∷ bytes) (suc i) some lacks is =
    let next : suc i + length part ≡ suc (i + length part) = omega arith in
    let rest = split-at part bytes i some (λ k below. lacks (suc k) (omega (arith, below)))
    (is ∙ ap (λ n. part ++ drop n (b ∷ bytes)) next) in
    rw (starts-not (b ∷ bytes) part (λ rest e. lacks 0 (omega arith) rest e), rest, next) refl

pub split-found : (part text front back : List ℕ) → 0 < length part → SplitsAroundMatch (FindsText part) text front back
    → split_first part text ≡ Some (front, back)
split-found part text front back some found =
    let at = found.2.1 in
    let is = at.split ∙ ap (λ n. part ++ drop n text) at.ends in
    let back_is : back ≡ drop (found.0 + length part) text = found.4 ∙ ap (λ n. drop n text) at.ends in
    rw (found.3, back_is) (split-at part text found.0 some found.2.0 is)

pub split-lost : (part text : List ℕ) → 0 < length part
    → ((k : ℕ) → k ≤ length text → LacksTextAt part text k) → split_first part text ≡ None
unfolding split_first
split-lost part [] some lacks = refl
split-lost part (b ∷ bytes) some lacks =
    let rest = split-lost part bytes some (λ k below. lacks (suc k) (omega (arith, below))) in
    rw (starts-not (b ∷ bytes) part (λ rest e. lacks 0 (omega arith) rest e), rest) refl

-- what stands before a name
pub before-other : (front : List ℕ) → ((rest : List ℕ) → front ≡ codes "digest " ++ rest → ⊥)
    → number_before front ≡ None
before-other front other = rw (starts-not front (codes "digest ") other) refl

pub before-is : (front rest : List ℕ) (found : Option (List ℕ × List ℕ)) → front ≡ codes "digest " ++ rest
    → split_first (codes " ") rest ≡ found → number_before front ≡ option_and_then number_by found
before-is front rest found is split =
    let behind : drop 7 front ≡ rest = ap (drop 7) is in
    rw (starts-so front (codes "digest ") rest is, behind, split) refl

-- a line, by its parts
pub fields-are : (line : List ℕ) (found : Option (List ℕ × List ℕ)) → split_first (codes " name ") line ≡ found
    → fields_of line ≡ option_and_then named_by found
fields-are line found split = ap (option_and_then named_by) split

pub before-zero : (front rest digits other : List ℕ) → front ≡ codes "digest " ++ rest
    → split_first (codes " ") rest ≡ Some (digits, other) → true ≡ starts_with ◌==◌ digits (codes "0")
    → None ≡ number_before front
before-zero front rest digits other is split leads =
    sym (before-is front rest (Some (digits, other)) is split
    ∙ ap (λ b. if b then None else number_in digits) (sym leads))

pub before-number : (front rest digits other : List ℕ) → front ≡ codes "digest " ++ rest
    → split_first (codes " ") rest ≡ Some (digits, other) → false ≡ starts_with ◌==◌ digits (codes "0")
    → number_in digits ≡ number_before front
before-number front rest digits other is split plain =
    sym (before-is front rest (Some (digits, other)) is split
    ∙ ap (λ b. if b then None else number_in digits) (sym plain))

-- a name that isn't as a terminal shows it, and one that is
pub entry-other : (line shown text : List ℕ) (number : ℕ) → text ≡ shown_text false shown
    → true ≡ not (bytes_eq text shown) → None ≡ entry_by line (number, shown)
entry-other line shown text number is other =
    let differs : bytes_eq (shown_text false shown) shown ≡ false =
    sym (ap (λ t. bytes_eq t shown) is) ∙ not-true (bytes_eq text shown) other in
    rw differs refl
  where
    not-true : (b : Bool) → true ≡ not b → b ≡ false
    not-true b is = grind arith

pub entry-is : (line shown text name whole : List ℕ) (number : ℕ) → text ≡ shown_text false shown
    → false ≡ not (bytes_eq text shown) → name ≡ unshown_text shown → whole ≡ line ++ codes "\n"
    → Some (record { number = number; name = name; text = whole }) ≡ entry_by line (number, shown)
entry-is line shown text name whole number is same name_is whole_is =
    let equal : bytes_eq (shown_text false shown) shown ≡ true =
    sym (ap (λ t. bytes_eq t shown) is) ∙ not-false (bytes_eq text shown) same in
    rw (equal, name_is, whole_is) refl
  where
    not-false : (b : Bool) → false ≡ not b → b ≡ true
    not-false b is = grind arith

-- the fields of a line whose name is behind that
pub fields-none : (line front shown : List ℕ) → split_first (codes " name ") line ≡ Some (front, shown)
    → number_before front ≡ None → fields_of line ≡ None
fields-none line front shown split none =
    fields-are line (Some (front, shown)) split ∙ ap (option_map (λ number. (number, shown))) none

pub fields-some : (line front shown : List ℕ) (number : ℕ) → split_first (codes " name ") line ≡ Some (front, shown)
    → number_before front ≡ Some number → fields_of line ≡ Some (number, shown)
fields-some line front shown number split some =
    fields-are line (Some (front, shown)) split ∙ ap (option_map (λ number. (number, shown))) some

-- a line that isn't UTF-8, and one that is
pub entry-garbled : (line : List ℕ) → (IsUtf8 line → ⊥) → None ≡ entry_in line
entry-garbled line other =
    let garbled = false-if (is_utf8 line) (λ is. other (IsUtf8-from_is_utf8 line is)) in
    sym (ap (λ b. if b then option_and_then (entry_by line) (fields_of line) else None) garbled)

pub entry-text : (line text : List ℕ) (found : Option (ℕ × List ℕ)) → text ≡ line → IsUtf8 line
    → fields_of text ≡ found → option_and_then (entry_by text) found ≡ entry_in line
entry-text line text found is utf8 fields =
    let whole = is_utf8-from_IsUtf8 line utf8 in
    sym (ap (λ b. if b then option_and_then (entry_by line) (fields_of line) else None) whole
    ∙ (ap (λ l. option_and_then (entry_by l) (fields_of l)) (sym is)
    ∙ ap (option_and_then (entry_by text)) fields))
