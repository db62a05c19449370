-- An escape that is read at the front of a text.
use Rattle.std.proofs.Common.{◌≡◌, ◌&&◌, ◌==◌, ◌+◌, ◌*◌, ◌-◌, ◌<◌, ◌≤◌, ◌^◌, ℕ, zero, suc, nat_lt, Bool, true, false}
use Rattle.std.proofs.Common.{List, [], ◌∷◌, ◌++◌, take, drop, length, Option, Some, None, if◌then◌else◌, IsUtf8, chars}
use Rattle.std.proofs.Common.{encode_utf8, encode_utf8_all, refl, sym, ap, subst, ◌∙◌, arith, length-append}
use Rattle.std.specs.Char.{IsScalar, digit_value}
use Rattle.std.specs.Char.Escape.{escape_unicode}
use Rattle.std.specs.List.{starts_with, take_while}
use Rattle.std.specs.Str.Parse.{digits_value_after}
use Rattle.std.proofs.lemmas.List.{append-nil, append_assoc, nil_from_length}
use Rattle.std.proofs.lemmas.Str.{chars-append, chars-encodes, chars-nil}
use Rattle.std.proofs.lemmas.Str.{chars_past_char, encodes-append, encodes-chars, length-encode}
use Rattle.std.proofs.lemmas.Str.{len_utf8_bounds}
use Rattle.cap_line.proofs.ShownNames.{escaped-front, escaped-of, hex-more, hidden-small}
use Rattle.cap_line.proofs.ShownNames.{hex-over, opened, starts-front, unshown-hidden}
use Rattle.cap_line.proofs.ShownNames.{unshown-plain}
use Rattle.cap_line.specs.Shown.{escaped_first, hex_code, is_hex_digit, is_hidden, unshown_past}

-- a code of at most four digits stays small
pub code-small : (place code digit : ℕ) → place < 4 → code < 16 ^ place → digit < 16
    → (code * 16 + digit < 2 ^ 32) × (code * 16 + digit < 16 ^ (place + 1))
code-small zero code digit few small is = (grind arith, grind arith)
code-small (suc zero) code digit few small is = (grind arith, grind arith)
code-small (suc (suc zero)) code digit few small is = (grind arith, grind arith)
code-small (suc (suc (suc zero))) code digit few small is = (grind arith, grind arith)
code-small (suc (suc (suc (suc n)))) code digit few small is = absurd (none n few)
  where
    none : (n : ℕ) → suc (suc (suc (suc n))) < 4 → ⊥
    none n few = omega (arith, few)

-- what the digits write that are to come, behind those of a code
abbrev pub code_after : ℕ → ℕ → List ℕ → ℕ
code_after place code cs = digits_value_after 16 code (take_while is_hex_digit (take (4 - place) cs))

-- one more digit is read; or there is none
pub code-more : (place code c : ℕ) (cs : List ℕ) → place < 4 → is_hex_digit c ≡ true
    → code_after place code (c ∷ cs) ≡ code_after (place + 1) (code * 16 + digit_value c) cs
code-more place code c cs few is =
    let here : 4 - place ≡ suc (3 - place) = omega (arith, few) in
    let next : 4 - (place + 1) ≡ 3 - place = omega (arith, few) in
    ap (λ n. digits_value_after 16 code (take_while is_hex_digit (take n (c ∷ cs)))) here
    ∙ (hex-more (3 - place) code c cs is
    ∙ sym (ap (λ n. digits_value_after 16 (code * 16 + digit_value c) (take_while is_hex_digit (take n cs))) next))

pub code-over : (place code c : ℕ) (cs : List ℕ) → place < 4 → is_hex_digit c ≡ false
    → code_after place code (c ∷ cs) ≡ code
code-over place code c cs few is =
    let here : 4 - place ≡ suc (3 - place) = omega (arith, few) in
    ap (λ n. digits_value_after 16 code (take_while is_hex_digit (take n (c ∷ cs)))) here
    ∙ hex-over (3 - place) code c cs is

pub code-none : (place code : ℕ) (text : List ℕ) → length text ≡ 0 → code_after place code (chars text) ≡ code
code-none place code text none = rw (nil_from_length text none, chars-nil) (by (4 - place))
  where
    by : (n : ℕ) → digits_value_after 16 code (take_while is_hex_digit (take n [])) ≡ code
    by zero = refl
    by (suc n) = refl

pub code-end : (place code : ℕ) (cs : List ℕ) → 4 ≤ place → code_after place code cs ≡ code
code-end place code cs over =
    let none : 4 - place ≡ 0 = omega (arith, over) in
    ap (λ n. digits_value_after 16 code (take_while is_hex_digit (take n cs))) none

-- a part of an escape isn't behind the part that is: the text ends, or goes on otherwise
pub lacks-end : (front rest : List ℕ) (letter : ℕ) → starts_with ◌==◌ front (front ++ letter ∷ rest) ≡ false
lacks-end front rest letter = by (starts_with ◌==◌ front (front ++ letter ∷ rest)) refl
  where
    by : (b : Bool) → starts_with ◌==◌ front (front ++ letter ∷ rest) ≡ b → b ≡ false
    by false is = refl
    by true is =
        let parts = starts-front front (front ++ letter ∷ rest) is in
        let long : length front ≡ length (front ++ letter ∷ rest)
        + length (drop (length (front ++ letter ∷ rest)) front) =
        ap length parts ∙ length-append (front ++ letter ∷ rest) _ in
        absurd (omega (arith, long, length-append front (letter ∷ rest)))

same-behind : (front xs ys : List ℕ) (x y : ℕ) → front ++ x ∷ xs ≡ front ++ y ∷ ys → x ≡ y
same-behind [] xs ys x y is = grind (arith, is)
same-behind (z ∷ front) xs ys x y is = same-behind front xs ys x y (grind (arith, is))

pub lacks-letter : (front rest behind : List ℕ) (letter c : ℕ) → (c ≡ letter → ⊥)
    → starts_with ◌==◌ (front ++ c ∷ behind) (front ++ letter ∷ rest) ≡ false
lacks-letter front rest behind letter c other =
    by (starts_with ◌==◌ (front ++ c ∷ behind) (front ++ letter ∷ rest)) refl
  where
    by : (b : Bool) → starts_with ◌==◌ (front ++ c ∷ behind) (front ++ letter ∷ rest) ≡ b → b ≡ false
    by false is = refl
    by true is =
        let parts = starts-front (front ++ c ∷ behind) (front ++ letter ∷ rest) is in
        absurd (other (same-behind front behind _ c letter (parts ∙ append_assoc front (letter ∷ rest) _)))

-- the characters behind `\u{`
opening-bytes : encode_utf8_all (92 ∷ 117 ∷ 123 ∷ []) ≡ 92 ∷ 117 ∷ 123 ∷ []
unfolding lib.Utf8.encode
opening-bytes = refl

opening-chars : chars (92 ∷ 117 ∷ 123 ∷ []) ≡ 92 ∷ 117 ∷ 123 ∷ []
opening-chars = sym (ap chars opening-bytes) ∙ chars-encodes (92 ∷ 117 ∷ 123 ∷ []) refl

pub behind-opening : (text behind : List ℕ) → text ≡ 92 ∷ 117 ∷ 123 ∷ behind
    → chars text ≡ 92 ∷ 117 ∷ 123 ∷ chars behind
behind-opening text behind is =
    ap chars is
    ∙ (chars-append (92 ∷ 117 ∷ 123 ∷ []) behind (92 ∷ 117 ∷ 123 ∷ [], (refl, opening-bytes))
    ∙ ap (λ l. l ++ chars behind) opening-chars)

pub lacks-escape : (cs escape front more rest : List ℕ) (letter : ℕ) → escape ≡ front ++ letter ∷ more
    → cs ≡ front ++ chars rest → length rest ≡ 0 → starts_with ◌==◌ cs escape ≡ false
lacks-escape cs escape front more rest letter is text none =
    let nothing : chars rest ≡ [] = ap chars (nil_from_length rest none) ∙ chars-nil in
    let all : cs ≡ front = text ∙ (ap (λ l. front ++ l) nothing ∙ append-nil front) in
    rw (is, all) (lacks-end front more letter)

pub lacks-other : (cs escape front more behind : List ℕ) (letter c : ℕ) → escape ≡ front ++ letter ∷ more
    → cs ≡ front ++ c ∷ behind → (c ≡ letter → ⊥) → starts_with ◌==◌ cs escape ≡ false
lacks-other cs escape front more behind letter c is text other =
    rw (is, text) (lacks-letter front more behind letter c other)

-- what a text begins with, by the code behind `\u{`
pub first-is : (cs : List ℕ) (code : ℕ) → hex_code (drop 3 cs) ≡ code
    → escaped_first cs ≡ (if is_hidden code && starts_with ◌==◌ cs (escape_unicode code) then Some code else None)
first-is cs code is =
    ap (λ c. if is_hidden c && starts_with ◌==◌ cs (escape_unicode c) then Some c else None) is

none-if : (found : Option ℕ) → ((c : ℕ) → found ≡ Some c → ⊥) → found ≡ None
none-if None other = refl
none-if (Some c) other = absurd (other c refl)

pub first-unopened : (text : List ℕ) → IsUtf8 text → ((rest : List ℕ) → text ≡ 92 ∷ 117 ∷ 123 ∷ rest → ⊥)
    → escaped_first (chars text) ≡ None
unfolding lib.Utf8.encode
first-unopened text utf8 other =
    none-if (escaped_first (chars text)) (λ c found.
    let parts = (escaped-of (chars text) c found).1 in
    let front : chars text ≡ 92 ∷ 117 ∷ 123 ∷ (opened c).digits ++ drop (length (escape_unicode c)) (chars text) =
    parts ∙ ap (λ e. e ++ drop (length (escape_unicode c)) (chars text)) (opened c).is in
    other _ (sym (encodes-chars text utf8) ∙ ap encode_utf8_all front))

scalar-below : (c : ℕ) → c < 0x2070 → IsScalar c
scalar-below c below = grind arith

pub first-unscalar : (cs : List ℕ) (code : ℕ) → hex_code (drop 3 cs) ≡ code → (IsScalar code → ⊥)
    → escaped_first cs ≡ None
first-unscalar cs code is other = by (is_hidden code) refl
  where
    by : (b : Bool) → is_hidden code ≡ b → escaped_first cs ≡ None
    by false e = first-is cs code is ∙ rw e refl
    by true e = absurd (other (scalar-below code (hidden-small code e)))

-- the code behind `\\u{`
pub code-behind : (text behind : List ℕ) (n code : ℕ) → text ≡ 92 ∷ 117 ∷ 123 ∷ drop n text → behind ≡ drop n text
    → code ≡ hex_code (chars behind) → hex_code (drop 3 (chars text)) ≡ code
code-behind text behind n code parts is code_is =
    ap (λ l. hex_code (drop 3 l)) (behind-opening text behind (parts ∙ ap (λ l. 92 ∷ 117 ∷ 123 ∷ l) (sym is)))
    ∙ sym code_is

-- a character that isn't hidden, and one whose escape doesn't stand there
pub first-shown : (cs : List ℕ) (code c : ℕ) → hex_code (drop 3 cs) ≡ code → c ≡ code → is_hidden c ≡ false
    → escaped_first cs ≡ None
first-shown cs code c is same shown = first-is cs c (is ∙ sym same) ∙ rw shown refl

pub first-other : (cs : List ℕ) (code c : ℕ) → hex_code (drop 3 cs) ≡ code → c ≡ code
    → starts_with ◌==◌ cs (escape_unicode c) ≡ false → escaped_first cs ≡ None
first-other cs code c is same other = by (is_hidden c) refl
  where
    by : (b : Bool) → is_hidden c ≡ b → escaped_first cs ≡ None
    by false e = first-is cs c (is ∙ sym same) ∙ rw e refl
    by true e = first-is cs c (is ∙ sym same) ∙ rw (e, other) refl

pub first-hidden : (cs rest : List ℕ) (c : ℕ) → is_hidden c ≡ true → cs ≡ escape_unicode c ++ rest
    → escaped_first cs ≡ Some c
first-hidden cs rest c hidden is = subst (λ l. escaped_first l ≡ Some c) (sym is) (escaped-front c rest hidden)

-- what is behind an escape is shorter than the text
pub shorter : (text behind : List ℕ) (c : ℕ) → IsUtf8 text → IsUtf8 behind
    → chars text ≡ escape_unicode c ++ chars behind → length behind < length text
unfolding lib.Utf8.encode
shorter text behind c utf8 behind_utf8 is =
    let o = opened c in
    let front : text ≡ 92 ∷ (encode_utf8_all (117 ∷ 123 ∷ o.digits) ++ behind) =
    sym (encodes-chars text utf8)
    ∙ (ap encode_utf8_all is
    ∙ (encodes-append (escape_unicode c) (chars behind)
    ∙ (ap (λ e. encode_utf8_all e ++ encode_utf8_all (chars behind)) o.is
    ∙ ap (λ l. 92 ∷ (encode_utf8_all (117 ∷ 123 ∷ o.digits) ++ l)) (encodes-chars behind behind_utf8)))) in
    let long : length text ≡ suc (length (encode_utf8_all (117 ∷ 123 ∷ o.digits) ++ behind)) = ap length front in
    omega (arith, long, length-append (encode_utf8_all (117 ∷ 123 ∷ o.digits)) behind)

pub shorter-one : (text behind : List ℕ) (c : ℕ) → text ≡ encode_utf8 c ++ behind → length behind < length text
shorter-one text behind c is =
    let long : length text ≡ length (encode_utf8 c) + length behind =
    ap length is ∙ length-append (encode_utf8 c) behind in
    omega (arith, long, length-encode c, (len_utf8_bounds c).0)
