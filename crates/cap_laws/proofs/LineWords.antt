-- The parts of a line are found again: a number, what stands before a name, and the lines of a text.
use Rattle.std.proofs.Common.{◌≡◌, ◌==◌, ◌<◌, ◌≤◌, ◌/◌, ◌%◌, ◌^◌, ◌+◌, ◌&&◌, ◌||◌, not, ℕ, zero, suc, Bool}
use Rattle.std.proofs.Common.{true, false, List, [], ◌∷◌, ◌++◌, Some, codes, drop, length, refl, sym, ap, subst}
use Rattle.std.proofs.Common.{◌∙◌, arith, append_assoc, nat_lt, nat_le, get_or}
use Rattle.std.proofs.Math.Nat.{pow-suc}
use Rattle.std.proofs.lemmas.Bool.{eqb-true, eqb-false}
use Rattle.std.proofs.lemmas.Bool.Decides.{nat_tests, Decides-eqb}
use Rattle.std.proofs.lemmas.Slice.Eq.{starts_is}
use Rattle.std.specs.Char.{is_ascii_digit}
use Rattle.std.specs.Fmt.{digits, digits_onto, digit_glyph}
use Rattle.std.specs.List.{starts_with, list_all}
use Rattle.std.specs.Option.{option_and_then}
use Rattle.std.specs.Prelude.{decimal}
use Rattle.std.specs.Str.Parse.{digits_value}
use Rattle.std.proofs.Math.Utf8.{encode}
use Rattle.std.proofs.Common.{encode_utf8_all, cond, All, IsUtf8, chars, IsFalse}
use Rattle.std.specs.Str.{bytes_eq}
use Rattle.hex.specs.Hex.{encode_with, lower_digits}
use Rattle.cap_laws.proofs.JsonNumbers.{spelled}
use Rattle.cap_line.specs.Jobs.{number_in}
use Rattle.cap_tool.proofs.LineParts.{starts-not}
use Rattle.cap_tool.specs.DigestLines.{number_before, split_first}
use Rattle.cap_tool.specs.ListedNames.{pieces}

-- ---- the digits of a number

glyph-digit : (d : ℕ) → d < 10 → is_ascii_digit (digit_glyph false d) ≡ true
glyph-digit d small = grind (arith, nat_tests, small)

onto-by : (k n : ℕ) (acc : List ℕ) (last : Bool) → n / 10 == 0 ≡ last → list_all is_ascii_digit acc ≡ true
    → list_all is_ascii_digit (digits_onto (suc k) 10 false n acc) ≡ true
onto-by k n acc true e all = rw (e, glyph-digit (n % 10) (omega arith), all) refl
onto-by zero n acc false e all = rw (e, glyph-digit (n % 10) (omega arith), all) refl
onto-by (suc k) n acc false e all =
    let one : list_all is_ascii_digit (digit_glyph false (n % 10) ∷ acc) ≡ true =
    rw (glyph-digit (n % 10) (omega arith), all) refl in
    rw e (onto-by k (n / 10) (digit_glyph false (n % 10) ∷ acc) (n / 10 / 10 == 0) refl one)

pub decimal-digits : (n : ℕ) → list_all is_ascii_digit (decimal n) ≡ true
unfolding digits
decimal-digits n = onto-by 63 n [] (n / 10 == 0) refl refl

-- A text begins with a digit, which isn't 0 if the number isn't.
pub record Leads (n : ℕ) (text : List ℕ) : Type 0 where
  pub first : ℕ
  pub rest : List ℕ
  pub is : text ≡ first ∷ rest
  pub low : 48 ≤ first
  pub high : first < 58
  pub some : 0 < n → n < 10 ^ 64 → 48 < first

glyph-some : (d : ℕ) → d < 10
    → (48 ≤ digit_glyph false d) × (digit_glyph false d < 58) × (0 < d → 48 < digit_glyph false d)
glyph-some d small = (
  grind (arith, nat_tests, small),
  grind (arith, nat_tests, small),
  λ some. grind (arith, nat_tests, small, some),
)

-- the digits begin with a digit, which isn't 0 if the number isn't
abbrev LeadsBy : ℕ → ℕ → List ℕ → Type 0
LeadsBy k n text =
    (c : ℕ) × (cs : List ℕ) × (text ≡ c ∷ cs) × (48 ≤ c) × (c < 58) × (0 < n → n < 10 ^ suc k → 48 < c)

onto-leads : (k n : ℕ) (acc : List ℕ) (last : Bool) → n / 10 == 0 ≡ last
    → LeadsBy k n (digits_onto (suc k) 10 false n acc)
onto-leads k n acc true e =
    let d = glyph-some (n % 10) (omega arith) in
    (digit_glyph false (n % 10), acc, rw e refl, d.0, d.1, λ some small. d.2 (omega (arith, some, eqb-true _ 0 e)))
onto-leads zero n acc false e =
    let d = glyph-some (n % 10) (omega arith) in (
      digit_glyph false (n % 10),
      acc,
      rw e refl,
      d.0,
      d.1,
      λ some small. absurd (eqb-false _ 0 e (omega (arith, small))),
    )
onto-leads (suc k) n acc false e =
    let more = onto-leads k (n / 10) (digit_glyph false (n % 10) ∷ acc) (n / 10 / 10 == 0) refl in
    let many : n / 10 ≡ 0 → ⊥ = eqb-false (n / 10) 0 e in (
      more.0,
      more.1,
      rw e more.2,
      more.3,
      more.4,
      λ some small. more.5 (omega (arith, many)) (omega (arith, small, pow-suc 10 (suc k))),
    )

pub decimal-leads : (n : ℕ) → Leads n (decimal n)
unfolding digits
decimal-leads n =
    let found = onto-leads 63 n [] (n / 10 == 0) refl in
    record { first = found.0; rest = found.1; is = found.2; low = found.3; high = found.4; some = found.5 }

above : (n : ℕ) → 0 < n → nat_lt 0 n ≡ true
above n some = grind (arith, nat_tests, some)

-- the number that they write
pub decimal-number : (n : ℕ) → n ≤ 4294967295 → number_in (decimal n) ≡ Some n
unfolding digits
decimal-number n small =
    let is = spelled 63 n (omega (arith, small)) in
    let some : nat_lt 0 (length (digits_onto 64 10 false n [])) ≡ true =
    above (length (digits_onto 64 10 false n [])) is.0 in
    let fits : nat_le n 4294967295 ≡ true = grind (arith, nat_tests, small) in
    rw (some, decimal-digits n, is.2, fits) refl

-- ---- the first place of a part

-- a text begins with its front
starts-so : (front rest : List ℕ) → starts_with ◌==◌ (front ++ rest) front ≡ true
starts-so front rest =
    (starts_is Decides-eqb (front ++ rest) front (starts_with ◌==◌ (front ++ rest) front) refl).1 rest refl

-- none of some bytes is this one
abbrev pub lacks : ℕ → List ℕ → Bool
lacks b bytes = list_all (λ c. not (c == b)) bytes

-- a text is split at the first byte that it has of these
pub split-byte : (b : ℕ) (front rest : List ℕ) → lacks b front ≡ true
    → split_first (b ∷ []) (front ++ b ∷ rest) ≡ Some (front, rest)
unfolding split_first
split-byte b [] rest none = rw (starts-so (b ∷ []) rest) refl
split-byte b (c ∷ front) rest none =
    let differ : c == b ≡ false = grind arith in
    let other = starts-not (c ∷ (front ++ b ∷ rest)) (b ∷ [])
    (λ more e. eqb-false c b differ (ap (λ l. get_or l 0 0) e)) in
    let more = split-byte b front rest (grind arith) in
    rw (other, more) refl

-- ---- a text in which a part doesn't begin

-- whether two texts differ at a place that both have
abbrev pub disagree : List ℕ → List ℕ → Bool
disagree [] part = false
disagree (b ∷ bytes) [] = false
disagree (b ∷ bytes) (c ∷ part) = not (b == c) || disagree bytes part

-- whether that part begins at no place of a text, whatever is behind the text
abbrev pub is_clear : List ℕ → List ℕ → Bool
is_clear part [] = true
is_clear part (b ∷ bytes) = disagree (b ∷ bytes) part && is_clear part bytes

same-fronts : (xs part rest more : List ℕ) → disagree xs part ≡ true → xs ++ rest ≡ part ++ more → ⊥
same-fronts [] part rest more is e = absurd (no is)
  where
    no : false ≡ true → ⊥
    no e = grind (arith, e)
same-fronts (b ∷ xs) [] rest more is e = absurd (no is)
  where
    no : false ≡ true → ⊥
    no e = grind (arith, e)
same-fronts (b ∷ xs) (c ∷ part) rest more is e =
    let first : b ≡ c = ap (λ l. get_or l 0 0) e in
    same-fronts xs part rest more (grind (arith, first)) (ap (drop 1) e)

-- such a text stands before what is found behind it
pub split-clear : (part front rest before behind : List ℕ) → is_clear part front ≡ true
    → split_first part rest ≡ Some (before, behind) → split_first part (front ++ rest) ≡ Some (front ++ before, behind)
unfolding split_first
split-clear part [] rest before behind clear found = found
split-clear part (b ∷ front) rest before behind clear found =
    let other = starts-not (b ∷ (front ++ rest)) part
    (λ more e. same-fronts (b ∷ front) part rest more (grind arith) e) in
    let next = split-clear part front rest before behind (grind arith) found in
    rw (other, next) refl

-- two such texts, one behind the other
disagree-more : (xs ys part : List ℕ) → disagree xs part ≡ true → disagree (xs ++ ys) part ≡ true
disagree-more [] ys part is = absurd (no is)
  where
    no : false ≡ true → ⊥
    no e = grind (arith, e)
disagree-more (b ∷ xs) ys [] is = is
disagree-more (b ∷ xs) ys (c ∷ part) is = grind (arith, disagree-more xs ys part)

pub clear-append : (part xs ys : List ℕ) → is_clear part xs ≡ true → is_clear part ys ≡ true
    → is_clear part (xs ++ ys) ≡ true
clear-append part [] ys front back = back
clear-append part (b ∷ xs) ys front back =
    let first = disagree-more (b ∷ xs) ys part (grind arith) in
    rw (first, clear-append part xs ys (grind arith) back) refl

-- a part is found at the front
pub split-here : (b : ℕ) (part rest : List ℕ) → split_first (b ∷ part) ((b ∷ part) ++ rest) ≡ Some ([], rest)
unfolding split_first
split-here b part rest = rw (starts-so (b ∷ part) rest, drop-front (b ∷ part) rest) refl
  where
    drop-front : (front rest : List ℕ) → drop (length front) (front ++ rest) ≡ rest
    drop-front [] rest = refl
    drop-front (c ∷ front) rest = drop-front front rest

-- ---- the words before a name

abbrev pub before_name : List ℕ
before_name = codes " name "

-- a byte that is no blank, no end of a line, no `n`, and ASCII
abbrev pub is_quiet : ℕ → Bool
is_quiet b = not (b == 32) && not (b == 110) && not (b == 10) && nat_lt b 128

-- A text that can stand before a name: ` name ` begins nowhere in it, it is on one line, and ASCII.
pub record Front (text : List ℕ) : Type 0 where
  pub clear : is_clear before_name text ≡ true
  pub line : lacks 10 text ≡ true
  pub plain : list_all (λ b. nat_lt b 128) text ≡ true

pub all-append : (test : ℕ → Bool) (xs ys : List ℕ) → list_all test xs ≡ true → list_all test ys ≡ true
    → list_all test (xs ++ ys) ≡ true
all-append test [] ys front back = back
all-append test (x ∷ xs) ys front back = grind (arith, all-append test xs ys)

pub front-append : {xs ys : List ℕ} → Front xs → Front ys → Front (xs ++ ys)
front-append {xs = xs} {ys = ys} first second =
    record {
      clear = clear-append before_name xs ys first.clear second.clear;
      line = all-append (λ c. not (c == 10)) xs ys first.line second.line;
      plain = all-append (λ b. nat_lt b 128) xs ys first.plain second.plain;
    }

pub front-nil : Front []
front-nil = record { clear = refl; line = refl; plain = refl }

-- quiet bytes, with a blank before them or without
quiet-clear : (cs : List ℕ) → list_all is_quiet cs ≡ true → is_clear before_name cs ≡ true
quiet-clear [] all = refl
quiet-clear (c ∷ cs) all = grind (arith, quiet-clear cs)

quiet-word : (c : ℕ) (cs : List ℕ) → list_all is_quiet (c ∷ cs) ≡ true → is_clear before_name (32 ∷ c ∷ cs) ≡ true
quiet-word c cs all = let rest = quiet-clear (c ∷ cs) all in grind (arith, rest)

quiet-line : (cs : List ℕ) → list_all is_quiet cs ≡ true → lacks 10 cs ≡ true
quiet-line [] all = refl
quiet-line (c ∷ cs) all = grind (arith, quiet-line cs)

quiet-plain : (cs : List ℕ) → list_all is_quiet cs ≡ true → list_all (λ b. nat_lt b 128) cs ≡ true
quiet-plain [] all = refl
quiet-plain (c ∷ cs) all = grind (arith, quiet-plain cs)

pub front-word : (c : ℕ) (cs : List ℕ) → list_all is_quiet (c ∷ cs) ≡ true → Front (32 ∷ c ∷ cs)
front-word c cs all =
    record { clear = quiet-word c cs all; line = quiet-line (c ∷ cs) all; plain = quiet-plain (c ∷ cs) all }

-- digits are quiet
digits-quiet : (cs : List ℕ) → list_all is_ascii_digit cs ≡ true → list_all is_quiet cs ≡ true
digits-quiet [] all = refl
digits-quiet (c ∷ cs) all =
    let rest = digits-quiet cs (grind (arith, all)) in
    let first = digit-quiet c (grind (arith, all)) in
    rw (first, rest) refl
  where
    digit-quiet : (c : ℕ) → is_ascii_digit c ≡ true → is_quiet c ≡ true
    digit-quiet c is = grind (arith, nat_tests, is)

pub front-number : (n : ℕ) → Front (32 ∷ decimal n)
front-number n =
    let leads = decimal-leads n in
    subst (λ text. Front (32 ∷ text)) (sym leads.is)
    (front-word leads.first leads.rest
    (subst (λ text. list_all is_quiet text ≡ true) leads.is (digits-quiet (decimal n) (decimal-digits n))))

-- digits have no blank
quiet-blank : (cs : List ℕ) → list_all is_quiet cs ≡ true → lacks 32 cs ≡ true
quiet-blank [] all = refl
quiet-blank (c ∷ cs) all = grind (arith, quiet-blank cs)

-- ---- a file's number is read back

pub number-back : (n : ℕ) (more : List ℕ) → 1 ≤ n → n ≤ 4294967295
    → number_before (codes "digest " ++ (decimal n ++ 32 ∷ more)) ≡ Some n
number-back n more some small =
    let leads = decimal-leads n in
    let quiet = digits-quiet (decimal n) (decimal-digits n) in
    let split = split-byte 32 (decimal n) more (quiet-blank (decimal n) quiet) in
    let zero_not : starts_with ◌==◌ (decimal n) (codes "0") ≡ false =
    starts-not (decimal n) (codes "0")
    (λ rest e. omega (
      arith,
      leads.some (omega (arith, some)) (omega (arith, small)),
      ap (λ l. get_or l 0 0) (sym leads.is ∙ e),
    )) in
    rw (split, zero_not) (decimal-number n small)

-- ---- lines

-- a line is the first of the pieces
pub pieces-line : (end : ℕ) (line rest : List ℕ) → lacks end line ≡ true
    → pieces end (line ++ end ∷ rest) ≡ line ∷ pieces end rest
unfolding pieces
pieces-line end [] rest none = rw (same end) refl
  where
    same : (n : ℕ) → n == n ≡ true
    same n = grind (arith, nat_tests)
pieces-line end (b ∷ line) rest none =
    let other : b == end ≡ false = grind arith in
    let more = pieces-line end line rest (grind arith) in
    rw (other, more) refl

-- ---- the bytes of characters

-- some bytes are on one line
record Lined (bytes : List ℕ) : Type 0 where
  pub are : lacks 10 bytes ≡ true

cond-lined : (b : Bool) (xs ys : List ℕ) → Lined xs → Lined ys → Lined (cond b xs ys)
cond-lined true xs ys first second = first
cond-lined false xs ys first second = second

above-line : (n k : ℕ) → 128 ≤ k → not (k + n == 10) ≡ true
above-line n k high = grind (arith, nat_tests, high)

one-not : (c : ℕ) → (c ≡ 10 → ⊥) → not (c == 10) ≡ true
one-not c other = grind (arith, nat_tests, other)

encode-lined : (c : ℕ) → (c ≡ 10 → ⊥) → Lined (encode c)
unfolding encode
encode-lined c other =
    let one : lacks 10 (c ∷ []) ≡ true = rw (one-not c other) refl in
    let last = above-line (c % 64) 128 (omega arith) in
    let third = above-line (c / 64 % 64) 128 (omega arith) in
    let second = above-line (c / 4096 % 64) 128 (omega arith) in
    let two : lacks 10 ((192 + c / 64) ∷ (128 + c % 64) ∷ []) ≡ true =
    rw (above-line (c / 64) 192 (omega arith), last) refl in
    let three : lacks 10 ((224 + c / 4096) ∷ (128 + c / 64 % 64) ∷ (128 + c % 64) ∷ []) ≡ true =
    rw (above-line (c / 4096) 224 (omega arith), third, last) refl in
    let four
    : lacks 10 ((240 + c / 262144) ∷ (128 + c / 4096 % 64) ∷ (128 + c / 64 % 64) ∷ (128 + c % 64) ∷ []) ≡ true =
    rw (above-line (c / 262144) 240 (omega arith), second, third, last) refl in
    cond-lined (nat_lt c 128) (c ∷ []) _ (record { are = one })
    (cond-lined (nat_lt c 2048) ((192 + c / 64) ∷ (128 + c % 64) ∷ []) _ (record { are = two })
    (cond-lined (nat_lt c 65536) ((224 + c / 4096) ∷ (128 + c / 64 % 64) ∷ (128 + c % 64) ∷ []) _
    (record { are = three }) (record { are = four })))

pub encodes-lacks : (cs : List ℕ) → All (λ c. c ≡ 10 → ⊥) cs → lacks 10 (encode_utf8_all cs) ≡ true
encodes-lacks [] all = refl
encodes-lacks (c ∷ cs) all =
    all-append (λ b. not (b == 10)) (encode c) (encode_utf8_all cs) (encode-lined c (all 0 c (omega arith))).are
    (encodes-lacks cs (λ k d less. all (suc k) d (omega arith)))

-- ---- hexadecimal digits

all-at : (test : ℕ → Bool) (xs : List ℕ) (i : ℕ) → list_all test xs ≡ true → test 0 ≡ true
    → test (get_or xs i 0) ≡ true
all-at test [] i all none = none
all-at test (x ∷ xs) zero all none = grind arith
all-at test (x ∷ xs) (suc i) all none = all-at test xs i (grind arith) none

pub hex-quiet : (bytes : List ℕ) → list_all is_quiet (encode_with lower_digits bytes) ≡ true
unfolding encode_with
hex-quiet [] = refl
hex-quiet (b ∷ bytes) =
    let high = all-at is_quiet lower_digits (b / 16) refl refl in
    let low = all-at is_quiet lower_digits (b % 16) refl refl in
    rw (high, low, hex-quiet bytes) refl

-- a text is the same as itself
pub same-bytes : (bytes : List ℕ) → bytes_eq bytes bytes ≡ true
same-bytes [] = refl
same-bytes (b ∷ bytes) = rw (same b, same-bytes bytes) refl
  where
    same : (n : ℕ) → n == n ≡ true
    same n = grind (arith, nat_tests)
