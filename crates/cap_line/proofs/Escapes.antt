-- What a terminal shows of a text, character by character.
use Rattle.std.proofs.Common.{◌≡◌, ◌&&◌, ℕ, suc, ◌≤◌, Bool, true, false, not, List, [], ◌∷◌, ◌++◌, length, chars}
use Rattle.std.proofs.Common.{encode_utf8, encode_utf8_all, flat_map, cond, if◌then◌else◌, All, IsUtf8, IsFalse, refl}
use Rattle.std.proofs.Common.{sym, ap, subst, ◌∙◌, arith}
use Rattle.std.proofs.Math.Utf8.{scalar, scalars}
use Rattle.std.proofs.lemmas.Str.{chars-encodes, chars-nil, chars_past_char, encodes-append, encodes-chars}
use Rattle.std.proofs.lemmas.List.{nil_from_length}
use Rattle.std.proofs.lemmas.List.Elements.{All-cons}
use Rattle.std.specs.Char.Escape.{escape_unicode, hex_digit_at}
use Rattle.cap_line.specs.Shown.{is_escaped, shown_char, shown_text}

-- what is shown of nothing, and of one more character
pub shown_nil : (keeps : Bool) (text : List ℕ) → length text ≡ 0 → shown_text keeps text ≡ []
shown_nil keeps text none = rw (nil_from_length text none, chars-nil) refl

pub shown_step : (keeps : Bool) (text rest : List ℕ) (c : ℕ) → IsUtf8 text → text ≡ encode_utf8 c ++ rest
    → shown_text keeps text ≡ encode_utf8_all (shown_char keeps c) ++ shown_text keeps rest
shown_step keeps text rest c utf8 parts = rw (chars_past_char text rest c utf8 parts, encodes-append)

-- each element of a list passes a test
abbrev passes : (ℕ → Bool) → List ℕ → Bool
passes test [] = true
passes test (c ∷ cs) = test c && passes test cs

passes-append : (test : ℕ → Bool) (xs ys : List ℕ) → passes test xs ≡ true → passes test ys ≡ true
    → passes test (xs ++ ys) ≡ true
passes-append test [] ys front back = back
passes-append test (x ∷ xs) ys front back = grind (arith, passes-append test xs ys)

-- a character that is shown as it is, and one that a text can have
abbrev is_good : Bool → ℕ → Bool
is_good keeps c = not (is_escaped keeps c) && scalar c

plain-good : (keeps : Bool) (d : ℕ) → 48 ≤ d → d ≤ 102 → is_good keeps d ≡ true
plain-good keeps d low high = grind arith

digit-good : (keeps : Bool) (p c : ℕ) → is_good keeps (hex_digit_at p c) ≡ true
digit-good keeps p c = plain-good keeps (hex_digit_at p c) (grind arith) (grind arith)

-- each of some characters is such a one
record Good (keeps : Bool) (cs : List ℕ) : Type 0 where
  pub are : passes (is_good keeps) cs ≡ true

cond-good : (keeps : Bool) (b : Bool) (xs ys : List ℕ) → Good keeps xs → Good keeps ys → Good keeps (cond b xs ys)
cond-good keeps true xs ys first second = first
cond-good keeps false xs ys first second = second

-- what stands before the digits of a code
abbrev opened : List ℕ → List ℕ
opened digits = 92 ∷ 117 ∷ 123 ∷ digits

opened-good : (keeps : Bool) (digits : List ℕ) → Good keeps digits → Good keeps (opened digits)
opened-good keeps digits good = record { are = good.are }

one-good : (keeps : Bool) (p c : ℕ) (rest : List ℕ) → Good keeps rest → Good keeps (hex_digit_at p c ∷ rest)
one-good keeps p c rest good = record { are = rw (digit-good keeps p c, good.are) refl }

unicode-good : (keeps : Bool) (c : ℕ) → Good keeps (escape_unicode c)
unicode-good keeps c =
    let one = one-good keeps 1 c (125 ∷ []) (record { are = refl }) in
    let two = one-good keeps 0x10 c _ one in
    let three = one-good keeps 0x100 c _ two in
    let four = one-good keeps 0x1000 c _ three in
    let five = one-good keeps 0x1_0000 c _ four in
    let six = one-good keeps 0x10_0000 c _ five in
    cond-good keeps _ _ _ (opened-good keeps _ one)
    (cond-good keeps _ _ _ (opened-good keeps _ two)
    (cond-good keeps _ _ _ (opened-good keeps _ three)
    (cond-good keeps _ _ _ (opened-good keeps _ four)
    (cond-good keeps _ _ _ (opened-good keeps _ five) (opened-good keeps _ six)))))

escape-good : (keeps : Bool) (c : ℕ) → passes (is_good keeps) (escape_unicode c) ≡ true
escape-good keeps c = (unicode-good keeps c).are

shown-good : (keeps : Bool) (c : ℕ) → scalar c ≡ true → passes (is_good keeps) (shown_char keeps c) ≡ true
shown-good keeps c is = by (is_escaped keeps c) refl where
  by : (b : Bool) → is_escaped keeps c ≡ b → passes (is_good keeps) (if b then escape_unicode c else c ∷ []) ≡ true
  by true e = escape-good keeps c
  by false e = rw (e, is) refl

all-good : (keeps : Bool) (cs : List ℕ) → scalars cs ≡ true
    → passes (is_good keeps) (flat_map (shown_char keeps) cs) ≡ true
all-good keeps [] are = refl
all-good keeps (c ∷ cs) are =
    passes-append (is_good keeps) (shown_char keeps c) _ (shown-good keeps c (grind arith))
    (all-good keeps cs (grind arith))

and-front : (a b : Bool) → (a && b) ≡ true → a ≡ true
and-front a b both = grind arith

and-back : (a b : Bool) → (a && b) ≡ true → b ≡ true
and-back a b both = grind arith

good-scalars : (keeps : Bool) (cs : List ℕ) → passes (is_good keeps) cs ≡ true → scalars cs ≡ true
good-scalars keeps [] are = refl
good-scalars keeps (c ∷ cs) are =
    let rest = good-scalars keeps cs (and-back (is_good keeps c) _ are) in
    rw (and-back (not (is_escaped keeps c)) (scalar c) (and-front (is_good keeps c) _ are), rest) refl

good-seen : (keeps : Bool) (cs : List ℕ) → passes (is_good keeps) cs ≡ true → All (λ c. IsFalse (is_escaped keeps c)) cs
good-seen keeps [] are = λ k d less. absurd (omega arith)
good-seen keeps (c ∷ cs) are = All-cons (λ c. IsFalse (is_escaped keeps c)) c cs (grind arith)
    (good-seen keeps cs (grind arith))

scalars-chars : (text : List ℕ) → IsUtf8 text → scalars (chars text) ≡ true
scalars-chars text utf8 = subst (λ t. scalars (chars t) ≡ true) utf8.1.1 (rw (chars-encodes utf8.0 utf8.1.0) utf8.1.0)

-- what is shown has no character that isn't
pub shown_seen : (keeps : Bool) (text : List ℕ) → IsUtf8 text
    → All (λ c. IsFalse (is_escaped keeps c)) (chars (shown_text keeps text))
shown_seen keeps text utf8 =
    let good = all-good keeps (chars text) (scalars-chars text utf8) in
    let cs = flat_map (shown_char keeps) (chars text) in
    subst (All (λ c. IsFalse (is_escaped keeps c))) (sym (chars-encodes cs (good-scalars keeps cs good)))
    (good-seen keeps cs good)

-- what is shown is text
pub shown_utf8 : (keeps : Bool) (text : List ℕ) → IsUtf8 text → IsUtf8 (shown_text keeps text)
shown_utf8 keeps text utf8 =
    let cs = flat_map (shown_char keeps) (chars text) in
    (cs, (good-scalars keeps cs (all-good keeps (chars text) (scalars-chars text utf8)), refl))

-- the characters of what is shown
pub shown_chars : (keeps : Bool) (text : List ℕ) → IsUtf8 text
    → chars (shown_text keeps text) ≡ flat_map (shown_char keeps) (chars text)
shown_chars keeps text utf8 =
    chars-encodes (flat_map (shown_char keeps) (chars text))
    (good-scalars keeps (flat_map (shown_char keeps) (chars text))
    (all-good keeps (chars text) (scalars-chars text utf8)))

same-chars : (keeps : Bool) (cs : List ℕ) → All (λ c. IsFalse (is_escaped keeps c)) cs
    → flat_map (shown_char keeps) cs ≡ cs
same-chars keeps [] are = refl
same-chars keeps (c ∷ cs) are =
    let first : is_escaped keeps c ≡ false = are 0 c (omega arith) in
    let rest = same-chars keeps cs (λ k d less. are (suc k) d (omega arith)) in
    rw (first, rest) refl

-- a text of which each character is shown is shown as it is
pub shown_same : (keeps : Bool) (text : List ℕ) → IsUtf8 text → All (λ c. IsFalse (is_escaped keeps c)) (chars text)
    → shown_text keeps text ≡ text
shown_same keeps text utf8 are = ap encode_utf8_all (same-chars keeps (chars text) are) ∙ encodes-chars text utf8
