-- A character of a string is read back, whatever follows it.
use Rattle.std.proofs.Common.{◌≡◌, ◌<◌, ◌≤◌, ◌+◌, ◌-◌, ◌*◌, ◌/◌, ◌%◌, ℕ, zero, suc, List, [], ◌∷◌, ◌++◌, drop, get_or}
use Rattle.std.proofs.Common.{refl, sym, ap, ◌∙◌, subst}
use Rattle.std.proofs.Common.{arith, append_assoc, Bool, true, false, cond, nat_le, nat_lt, ◌==◌, ◌||◌, ◌&&◌, inl}
use Rattle.std.proofs.Common.{inr, eqb-true}
use Rattle.std.proofs.lemmas.Bool.{and_parts}
use Rattle.std.proofs.lemmas.Bool.Decides.{nat_tests}
use Rattle.std.proofs.lemmas.Bool.{cases_lt, cases_eq}
use Rattle.std.specs.Prelude.{codes, encode_utf8, flat_map, slice_index}
use lib.Utf8.{encode}
use Rattle.hex.specs.Hex.{encode_with, lower_digits}
use Rattle.cap_print.specs.Strings.{escaped_byte}
use Rattle.cap_line.specs.Shown.{is_hidden}
use Rattle.cap_tool.specs.Objects.{escaped_character}
use Rattle.cap_laws.specs.JsonLines.{string_text}

-- a byte of a character that isn't ASCII
byte-plain : (b : ℕ) → 93 ≤ b → escaped_byte b ≡ b ∷ []
byte-plain b big = grind (arith, nat_tests, big)

hidden-small : (c : ℕ) → is_hidden c ≡ true → c < 8298
hidden-small c e = grind (arith, nat_tests, e)

-- a character that isn't hidden isn't a control character
seen-big : (c : ℕ) → is_hidden c ≡ false → 32 ≤ c
seen-big c e = grind (arith, nat_tests, e)

-- the value of a hexadecimal digit
digit-of : ℕ → ℕ
digit-of d = cond (nat_lt d 58) (d - 48) (d - 87)

-- whether a test passes for each number below n
abbrev are-below : (ℕ → Bool) → ℕ → Bool
are-below test zero = true
are-below test (suc n) = test n && are-below test n

below-each : (test : ℕ → Bool) (n : ℕ) → are-below test n ≡ true → (x : ℕ) → x < n → test x ≡ true
below-each test zero all x small = absurd (omega (arith, small))
below-each test (suc n) all x small =
    let parts = and_parts (test n) (are-below test n) all in
    elim (cases_eq x n) [
      | inl same ↦ rw same parts.0
      | inr other ↦ below-each test n parts.1 x (omega (arith, small, other))
    ]

-- a digit of the table, as a character
abbrev is-digit : ℕ → Bool
is-digit c = (nat_le 48 c && nat_lt c 58) || (nat_le 97 c && nat_lt c 103)

pub digit-seen : (d : ℕ) → d < 16
    → (48 ≤ slice_index lower_digits d) × (slice_index lower_digits d < 103)
    × (slice_index lower_digits d ≡ 92 → ⊥)
digit-seen d small =
    let e = below-each (λ k. is-digit (slice_index lower_digits k)) 16 refl d small in
    seen-by (slice_index lower_digits d) e
  where
    seen-by : (c : ℕ) → is-digit c ≡ true → (48 ≤ c) × (c < 103) × (c ≡ 92 → ⊥)
    seen-by c e = grind (arith, nat_tests, e)

-- a digit of the table is read back
digit-back : (d : ℕ) → d < 16 → digit-of (slice_index lower_digits d) ≡ d
unfolding digit-of
digit-back d small =
    eqb-true _ d (below-each (λ k. cond (nat_lt (slice_index lower_digits k) 58) (slice_index lower_digits k - 48)
    (slice_index lower_digits k - 87) == k) 16 refl d small)

-- a character, and what is behind it
read-hex : ℕ → ℕ → ℕ → ℕ → ℕ
read-hex a b c d = ((digit-of a * 16 + digit-of b) * 16 + digit-of c) * 16 + digit-of d

read-escape : List ℕ → ℕ × List ℕ
read-escape [] = (0, [])
read-escape (b ∷ rest) =
    cond (b == 117)
    (read-hex (get_or rest 0 0) (get_or rest 1 0) (get_or rest 2 0) (get_or rest 3 0), drop 4 rest) (b, rest)

read-utf8 : ℕ → List ℕ → ℕ × List ℕ
read-utf8 b rest =
    cond (nat_lt b 128) (b, rest)
    (cond (nat_lt b 224) ((b - 192) * 64 + (get_or rest 0 0 - 128), drop 1 rest)
    (cond (nat_lt b 240) (((b - 224) * 64 + (get_or rest 0 0 - 128)) * 64 + (get_or rest 1 0 - 128), drop 2 rest) (
      (((b - 240) * 64 + (get_or rest 0 0 - 128)) * 64 + (get_or rest 1 0 - 128)) * 64 + (get_or rest 2 0 - 128),
      drop 3 rest,
    )))

read-character : List ℕ → ℕ × List ℕ
read-character [] = (0, [])
read-character (b ∷ rest) = cond (b == 92) (read-escape rest) (read-utf8 b rest)

hex-back : (c : ℕ) → c < 65536
    → read-hex (slice_index lower_digits (c / 256 / 16)) (slice_index lower_digits (c / 256 % 16))
    (slice_index lower_digits (c % 256 / 16)) (slice_index lower_digits (c % 256 % 16)) ≡ c
unfolding read-hex
hex-back c small =
    rw (
      digit-back (c / 256 / 16) (omega (arith, small)),
      digit-back (c / 256 % 16) (omega (arith, small)),
      digit-back (c % 256 / 16) (omega (arith, small)),
      digit-back (c % 256 % 16) (omega (arith, small)),
    ) (omega (arith, small))

hidden-back : (c : ℕ) (rest : List ℕ) → is_hidden c ≡ true
    → read-character (escaped_character c ++ rest) ≡ (c, rest)
unfolding read-character read-escape encode_with
hidden-back c rest e =
    rw (e) (ap (λ n. (n, rest)) (hex-back c (omega (arith, hidden-small c e))))

byte-seen : (c : ℕ) → 32 ≤ c → (c ≡ 34 → ⊥) → (c ≡ 92 → ⊥) → escaped_byte c ≡ c ∷ []
byte-seen c seen quote backslash = grind (arith, nat_tests, seen, quote, backslash)

encode-1 : (c : ℕ) → c < 128 → encode_utf8 c ≡ c ∷ []
unfolding encode
encode-1 c small = grind (arith, nat_tests, small)

-- a character of ASCII that isn't escaped, from `#` on
pub character-plain : (c : ℕ) → 35 ≤ c → c < 127 → (c ≡ 92 → ⊥) → escaped_character c ≡ c ∷ []
character-plain c big small other =
    let seen : is_hidden c ≡ false = grind (arith, nat_tests, big, small) in
    rw (
      seen,
      encode-1 c (omega (arith, small)),
      byte-seen c (omega (arith, big)) (λ e. omega (arith, big, e)) other,
    ) refl

encode-2 : (c : ℕ) → 128 ≤ c → c < 2048 → encode_utf8 c ≡ (192 + c / 64) ∷ (128 + c % 64) ∷ []
unfolding encode
encode-2 c big small = grind (arith, nat_tests, big, small)

encode-3 : (c : ℕ) → 2048 ≤ c → c < 65536
    → encode_utf8 c ≡ (224 + c / 4096) ∷ (128 + c / 64 % 64) ∷ (128 + c % 64) ∷ []
unfolding encode
encode-3 c big small = grind (arith, nat_tests, big, small)

encode-4 : (c : ℕ) → 65536 ≤ c
    → encode_utf8 c ≡ (240 + c / 262144) ∷ (128 + c / 4096 % 64) ∷ (128 + c / 64 % 64) ∷ (128 + c % 64) ∷ []
unfolding encode
encode-4 c big = grind (arith, nat_tests, big)

read-1 : (c : ℕ) (rest : List ℕ) → (c ≡ 92 → ⊥) → c < 128 → read-character (c ∷ rest) ≡ (c, rest)
unfolding read-character read-utf8
read-1 c rest other small = grind (arith, nat_tests, other, small)

read-2 : (a b : ℕ) (rest : List ℕ) → 192 ≤ a → a < 224
    → read-character (a ∷ b ∷ rest) ≡ ((a - 192) * 64 + (b - 128), rest)
unfolding read-character read-utf8
read-2 a b rest big small = grind (arith, nat_tests, big, small)

read-3 : (a b c : ℕ) (rest : List ℕ) → 224 ≤ a → a < 240
    → read-character (a ∷ b ∷ c ∷ rest) ≡ (((a - 224) * 64 + (b - 128)) * 64 + (c - 128), rest)
unfolding read-character read-utf8
read-3 a b c rest big small = grind (arith, nat_tests, big, small)

read-4 : (a b c d : ℕ) (rest : List ℕ) → 240 ≤ a
    → read-character (a ∷ b ∷ c ∷ d ∷ rest)
    ≡ ((((a - 240) * 64 + (b - 128)) * 64 + (c - 128)) * 64 + (d - 128), rest)
unfolding read-character read-utf8
read-4 a b c d rest big = grind (arith, nat_tests, big)

-- a character that isn't hidden, by its bytes
ascii-back : (c : ℕ) (rest : List ℕ) → 32 ≤ c → c < 128
    → read-character (flat_map escaped_byte (c ∷ []) ++ rest) ≡ (c, rest)
unfolding read-character read-escape
ascii-back c rest seen small = elim (cases_eq c 34) [
  | inl quote ↦ rw quote refl
  | inr other ↦ elim (cases_eq c 92) [
    | inl backslash ↦ rw backslash refl
    | inr plain ↦ rw (byte-seen c seen other plain) (read-1 c rest plain small)
  ]
]

bytes-2 : (c : ℕ) (rest : List ℕ) → 128 ≤ c → c < 2048
    → read-character (flat_map escaped_byte ((192 + c / 64) ∷ (128 + c % 64) ∷ []) ++ rest) ≡ (c, rest)
bytes-2 c rest big small =
    rw (byte-plain (192 + c / 64) (omega arith), byte-plain (128 + c % 64) (omega arith))
    (read-2 (192 + c / 64) (128 + c % 64) rest (omega arith) (omega (arith, small))
    ∙ ap (λ n. (n, rest)) (omega (arith, small)))

bytes-3 : (c : ℕ) (rest : List ℕ) → 2048 ≤ c → c < 65536
    → read-character (flat_map escaped_byte ((224 + c / 4096) ∷ (128 + c / 64 % 64) ∷ (128 + c % 64) ∷ []) ++ rest)
    ≡ (c, rest)
bytes-3 c rest big small =
    rw (
      byte-plain (224 + c / 4096) (omega arith),
      byte-plain (128 + c / 64 % 64) (omega arith),
      byte-plain (128 + c % 64) (omega arith),
    )
    (read-3 (224 + c / 4096) (128 + c / 64 % 64) (128 + c % 64) rest (omega arith) (omega (arith, small))
    ∙ ap (λ n. (n, rest)) (omega (arith, small)))

bytes-4 : (c : ℕ) (rest : List ℕ) → 65536 ≤ c
    → read-character (flat_map escaped_byte
    ((240 + c / 262144) ∷ (128 + c / 4096 % 64) ∷ (128 + c / 64 % 64) ∷ (128 + c % 64) ∷ []) ++ rest) ≡ (c, rest)
bytes-4 c rest big =
    rw (
      byte-plain (240 + c / 262144) (omega arith),
      byte-plain (128 + c / 4096 % 64) (omega arith),
      byte-plain (128 + c / 64 % 64) (omega arith),
      byte-plain (128 + c % 64) (omega arith),
    )
    (read-4 (240 + c / 262144) (128 + c / 4096 % 64) (128 + c / 64 % 64) (128 + c % 64) rest (omega arith)
    ∙ ap (λ n. (n, rest)) (omega arith))

utf8-back : (c : ℕ) (rest : List ℕ) → 32 ≤ c
    → read-character (flat_map escaped_byte (encode_utf8 c) ++ rest) ≡ (c, rest)
utf8-back c rest seen = elim (cases_lt c 128) [
  | inl one ↦ rw (encode-1 c one) (ascii-back c rest seen one)
  | inr two ↦ elim (cases_lt c 2048) [
    | inl small ↦ rw (encode-2 c two small) (bytes-2 c rest two small)
    | inr three ↦ elim (cases_lt c 65536) [
      | inl small ↦ rw (encode-3 c three small) (bytes-3 c rest three small)
      | inr four ↦ rw (encode-4 c four) (bytes-4 c rest four)
    ]
  ]
]

character-by : (c : ℕ) (rest : List ℕ) (hidden : Bool) → is_hidden c ≡ hidden
    → read-character (escaped_character c ++ rest) ≡ (c, rest)
character-by c rest true e = hidden-back c rest e
character-by c rest false e = rw e (utf8-back c rest (seen-big c e))

character-back : (c : ℕ) (rest : List ℕ) → read-character (escaped_character c ++ rest) ≡ (c, rest)
character-back c rest = character-by c rest (is_hidden c) refl

-- ---- strings

first : List ℕ → ℕ
first bytes = get_or bytes 0 0

quote-escaped : escaped_character 34 ≡ 92 ∷ 34 ∷ []
unfolding encode
quote-escaped = refl

-- no character begins as the end of a string
not-end : (c : ℕ) (rest behind : List ℕ) → escaped_character c ++ rest ≡ 34 ∷ behind → ⊥
unfolding read-character read-utf8 first
not-end c rest behind e =
    let same : (c, rest) ≡ (34, behind) = sym (character-back c rest) ∙ ap read-character e in
    let quote : escaped_character 34 ++ rest ≡ 34 ∷ behind =
    subst (λ k. escaped_character k ++ rest ≡ 34 ∷ behind) (ap (λ p. p.0) same) e in
    let starts : 92 ≡ 34 = ap first (sym (ap (λ l. l ++ rest) quote-escaped) ∙ quote) in
    omega (arith, starts)

characters-split : (s t rest behind : List ℕ)
    → flat_map escaped_character s ++ (34 ∷ rest) ≡ flat_map escaped_character t ++ (34 ∷ behind)
    → (s ≡ t) × (rest ≡ behind)
characters-split [] [] rest behind e = (refl, ap (drop 1) e)
characters-split [] (d ∷ t) rest behind e =
    absurd (not-end d _ rest
    (sym (e ∙ append_assoc (escaped_character d) (flat_map escaped_character t) (34 ∷ behind))))
characters-split (c ∷ s) [] rest behind e =
    absurd (not-end c _ behind
    (sym (append_assoc (escaped_character c) (flat_map escaped_character s) (34 ∷ rest)) ∙ e))
characters-split (c ∷ s) (d ∷ t) rest behind e =
    let x = flat_map escaped_character s ++ (34 ∷ rest) in
    let y = flat_map escaped_character t ++ (34 ∷ behind) in
    let whole : escaped_character c ++ x ≡ escaped_character d ++ y =
    sym (append_assoc (escaped_character c) (flat_map escaped_character s) (34 ∷ rest)) ∙ e
    ∙ append_assoc (escaped_character d) (flat_map escaped_character t) (34 ∷ behind) in
    let same : (c, x) ≡ (d, y) = sym (character-back c x) ∙ ap read-character whole ∙ character-back d y in
    let more = characters-split s t rest behind (ap (λ p. p.1) same) in
    ((λ i. (same i).0 ∷ more.0 i), more.1)

-- a string with what follows it
pub string-then : (s rest : List ℕ)
    → string_text s ++ rest ≡ 34 ∷ (flat_map escaped_character s ++ (34 ∷ rest))
string-then s rest = ap (λ l. 34 ∷ l) (append_assoc (flat_map escaped_character s) (codes "\"") rest)

pub string-split : (s t rest behind : List ℕ) → string_text s ++ rest ≡ string_text t ++ behind
    → (s ≡ t) × (rest ≡ behind)
string-split s t rest behind e =
    characters-split s t rest behind (ap (drop 1) (sym (string-then s rest) ∙ e ∙ string-then t behind))
