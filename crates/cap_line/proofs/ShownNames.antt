-- The characters of a name, from those that a terminal shows of it.
use Rattle.std.proofs.Common.{◌≡◌, ◌&&◌, ◌||◌, ◌==◌, ◌+◌, ◌*◌, ◌-◌, ◌/◌, ◌%◌}
use Rattle.std.proofs.Common.{◌<◌, ◌≤◌, ℕ, zero, suc, nat_lt, Bool, true, false}
use Rattle.std.proofs.Common.{not, List, [], ◌∷◌, ◌++◌, take, drop, length, Option, Some, None, cond, if◌then◌else◌}
use Rattle.std.proofs.Common.{refl, sym, ap, subst, ◌∙◌, arith, flat_map, append_assoc, append-nil, is_some}
use Rattle.std.specs.Char.{digit_char, digit_value}
use Rattle.std.specs.Char.Escape.{escape_unicode, hex_digit_at}
use Rattle.std.proofs.Common.{IsUtf8, chars, encode_utf8_all}
use Rattle.std.specs.List.{list_all, prefix_len, starts_with, take_while}
use Rattle.std.specs.Str.Parse.{digits_value_after}
use Rattle.std.proofs.lemmas.Bool.Decides.{Decides-eqb}
use Rattle.std.proofs.lemmas.Slice.Eq.{starts_is}
use Rattle.std.proofs.lemmas.Str.{chars-nil, digit_value-digit_char, encodes-chars}
use Rattle.cap_line.proofs.Escapes.{shown_chars}
use Rattle.cap_line.specs.Shown.{escaped_first, hex_code, is_escaped}
use Rattle.cap_line.specs.Shown.{is_hex_digit, is_hidden, shown_char, spells_hidden}
use Rattle.cap_line.specs.Shown.{shown_text, unshown_past, unshown_text}

-- a list begins with another
pub starts-front : (xs front : List ℕ) → starts_with ◌==◌ xs front ≡ true → xs ≡ front ++ drop (length front) xs
starts-front xs front is = (starts_is Decides-eqb xs front (starts_with ◌==◌ xs front) refl).0 is

front-starts : (front rest : List ℕ) → starts_with ◌==◌ (front ++ rest) front ≡ true
front-starts front rest =
    (starts_is Decides-eqb (front ++ rest) front (starts_with ◌==◌ (front ++ rest) front) refl).1 rest refl

-- the number that digits write, of which one more is read
pub hex-more : (most value c : ℕ) (cs : List ℕ) → is_hex_digit c ≡ true
    → digits_value_after 16 value (take_while is_hex_digit (take (suc most) (c ∷ cs)))
    ≡ digits_value_after 16 (value * 16 + digit_value c) (take_while is_hex_digit (take most cs))
hex-more most value c cs is =
    let n = prefix_len is_hex_digit (take most cs) in
    let one : 1 + n ≡ suc n = omega arith in
    rw is (ap (λ k. digits_value_after 16 value (take k (c ∷ take most cs))) one)

pub hex-over : (most value c : ℕ) (cs : List ℕ) → is_hex_digit c ≡ false
    → digits_value_after 16 value (take_while is_hex_digit (take (suc most) (c ∷ cs))) ≡ value
hex-over most value c cs is = rw is refl

-- the digits of a code
digit-is : (p c : ℕ) → digit_value (hex_digit_at p c) ≡ c / p % 16
digit-is p c = digit_value-digit_char (c / p % 16) (grind arith)

digit-hex : (p c : ℕ) → is_hex_digit (hex_digit_at p c) ≡ true
digit-hex p c = rw (digit-is p c) (grind arith)

pub hidden-small : (c : ℕ) → is_hidden c ≡ true → c < 0x2070
hidden-small c is = grind arith

-- the number of some digits, and of one more
digits-one : (p c value : ℕ) → value * 16 + digit_value (hex_digit_at p c) ≡ value * 16 + c / p % 16
digits-one p c value = ap (λ d. value * 16 + d) (digit-is p c)

-- a code of some digits is read back
one-digit : (c : ℕ) (rest : List ℕ) → c < 0x10 → hex_code (hex_digit_at 1 c ∷ 125 ∷ rest) ≡ c
one-digit c rest below =
    hex-more 3 0 (hex_digit_at 1 c) (125 ∷ rest) (digit-hex 1 c)
    ∙ (hex-over 2 (0 * 16 + digit_value (hex_digit_at 1 c)) 125 rest refl
    ∙ omega (arith, below, digits-one 1 c 0))

two-digits : (c : ℕ) (rest : List ℕ) → c < 0x100 → hex_code (hex_digit_at 0x10 c ∷ hex_digit_at 1 c ∷ 125 ∷ rest) ≡ c
two-digits c rest below =
    let a = 0 * 16 + digit_value (hex_digit_at 0x10 c) in
    let b = a * 16 + digit_value (hex_digit_at 1 c) in
    hex-more 3 0 (hex_digit_at 0x10 c) (hex_digit_at 1 c ∷ 125 ∷ rest) (digit-hex 0x10 c)
    ∙ (hex-more 2 a (hex_digit_at 1 c) (125 ∷ rest) (digit-hex 1 c)
    ∙ (hex-over 1 b 125 rest refl ∙ omega (arith, below, digits-one 0x10 c 0, digits-one 1 c a)))

three-digits : (c : ℕ) (rest : List ℕ) → c < 0x1000
    → hex_code (hex_digit_at 0x100 c ∷ hex_digit_at 0x10 c ∷ hex_digit_at 1 c ∷ 125 ∷ rest) ≡ c
three-digits c rest below =
    let a = 0 * 16 + digit_value (hex_digit_at 0x100 c) in
    let b = a * 16 + digit_value (hex_digit_at 0x10 c) in
    let d = b * 16 + digit_value (hex_digit_at 1 c) in
    hex-more 3 0 (hex_digit_at 0x100 c) (hex_digit_at 0x10 c ∷ hex_digit_at 1 c ∷ 125 ∷ rest) (digit-hex 0x100 c)
    ∙ (hex-more 2 a (hex_digit_at 0x10 c) (hex_digit_at 1 c ∷ 125 ∷ rest) (digit-hex 0x10 c)
    ∙ (hex-more 1 b (hex_digit_at 1 c) (125 ∷ rest) (digit-hex 1 c)
    ∙ (hex-over 0 d 125 rest refl
    ∙ omega (arith, below, digits-one 0x100 c 0, digits-one 0x10 c a, digits-one 1 c b))))

four-digits : (c : ℕ) (rest : List ℕ) → c < 0x1_0000
    → hex_code (hex_digit_at 0x1000 c ∷ hex_digit_at 0x100 c ∷ hex_digit_at 0x10 c ∷ hex_digit_at 1 c ∷ rest) ≡ c
four-digits c rest below =
    let a = 0 * 16 + digit_value (hex_digit_at 0x1000 c) in
    let b = a * 16 + digit_value (hex_digit_at 0x100 c) in
    let d = b * 16 + digit_value (hex_digit_at 0x10 c) in
    hex-more 3 0 (hex_digit_at 0x1000 c) (hex_digit_at 0x100 c ∷ hex_digit_at 0x10 c ∷ hex_digit_at 1 c ∷ rest)
    (digit-hex 0x1000 c)
    ∙ (hex-more 2 a (hex_digit_at 0x100 c) (hex_digit_at 0x10 c ∷ hex_digit_at 1 c ∷ rest) (digit-hex 0x100 c)
    ∙ (hex-more 1 b (hex_digit_at 0x10 c) (hex_digit_at 1 c ∷ rest) (digit-hex 0x10 c)
    ∙ (hex-more 0 d (hex_digit_at 1 c) rest (digit-hex 1 c)
    ∙ omega (
      arith,
      below,
      digits-one 0x1000 c 0,
      digits-one 0x100 c a,
      digits-one 0x10 c b,
      digits-one 1 c d,
    ))))

-- What the escape of a character is: `\u{`, and behind it no `\`; the digits behind that are those of its code.
pub record IsOpened (c : ℕ) (escape : List ℕ) : Type 0 where
  pub digits : List ℕ
  pub is : escape ≡ 92 ∷ 117 ∷ 123 ∷ digits
  pub plain : list_all (λ x. not (x == 92)) (117 ∷ 123 ∷ digits) ≡ true
  pub code : c < 0x1_0000 → (rest : List ℕ) → hex_code (digits ++ rest) ≡ c

digit-other : (p c : ℕ) → not (hex_digit_at p c == 92) ≡ true
digit-other p c = grind arith

cond-opened : (c : ℕ) (b : Bool) (xs ys : List ℕ) → (b ≡ true → IsOpened c xs) → (b ≡ false → IsOpened c ys)
    → IsOpened c (cond b xs ys)
cond-opened c true xs ys first second = first refl
cond-opened c false xs ys first second = second refl

pub opened : (c : ℕ) → IsOpened c (escape_unicode c)
opened c =
    cond-opened c (nat_lt c 0x10) _ _
    (λ few. record {
      digits = _;
      is = refl;
      plain = rw (digit-other 1 c) refl;
      code = λ small rest. one-digit c rest (grind arith);
    })
    (λ _. cond-opened c (nat_lt c 0x100) _ _
    (λ few. record {
      digits = _;
      is = refl;
      plain = rw (digit-other 0x10 c, digit-other 1 c) refl;
      code = λ small rest. two-digits c rest (grind arith);
    })
    (λ _. cond-opened c (nat_lt c 0x1000) _ _
    (λ few. record {
      digits = _;
      is = refl;
      plain = rw (digit-other 0x100 c, digit-other 0x10 c, digit-other 1 c) refl;
      code = λ small rest. three-digits c rest (grind arith);
    })
    (λ _. cond-opened c (nat_lt c 0x1_0000) _ _
    (λ few. record {
      digits = _;
      is = refl;
      plain = rw (digit-other 0x1000 c, digit-other 0x100 c, digit-other 0x10 c, digit-other 1 c) refl;
      code = λ small rest. four-digits c (125 ∷ rest) small;
    })
    (λ many. cond-opened c (nat_lt c 0x10_0000) _ _
    (λ few. record {
      digits = _;
      is = refl;
      plain = rw (
        digit-other 0x1_0000 c,
        digit-other 0x1000 c,
        digit-other 0x100 c,
        digit-other 0x10 c,
        digit-other 1 c,
      ) refl;
      code = λ small rest. absurd (grind arith);
    })
    (λ _. record {
      digits = _;
      is = refl;
      plain = rw (
        digit-other 0x10_0000 c,
        digit-other 0x1_0000 c,
        digit-other 0x1000 c,
        digit-other 0x100 c,
        digit-other 0x10 c,
        digit-other 1 c,
      ) refl;
      code = λ small rest. absurd (grind arith);
    })))))

-- the hidden character whose escape stands first is found
pub escaped-is : (c : ℕ) (cs : List ℕ) → is_hidden c ≡ true → starts_with ◌==◌ cs (escape_unicode c) ≡ true
    → escaped_first cs ≡ Some c
escaped-is c cs is starts =
    let front = starts-front cs (escape_unicode c) starts in
    let o = opened c in
    let parts : cs ≡ 92 ∷ 117 ∷ 123 ∷ o.digits ++ drop (length (escape_unicode c)) cs =
    front ∙ ap (λ e. e ++ drop (length (escape_unicode c)) cs) o.is in
    let code : hex_code (drop 3 cs) ≡ c =
    ap (λ l. hex_code (drop 3 l)) parts ∙ o.code (omega (arith, hidden-small c is)) _ in
    rw (code, is, starts) refl

pub escaped-front : (c : ℕ) (rest : List ℕ) → is_hidden c ≡ true
    → escaped_first (escape_unicode c ++ rest) ≡ Some c
escaped-front c rest is =
    escaped-is c (escape_unicode c ++ rest) is (front-starts (escape_unicode c) rest)

-- and what is found stands first
found-is : (k c : ℕ) (hidden starts : Bool) → (if hidden && starts then Some k else None) ≡ Some c
    → (k ≡ c) × (hidden ≡ true) × (starts ≡ true)
found-is k c true true is = (grind (arith, is), refl, refl)
found-is k c true false is = absurd (grind (arith, is))
found-is k c false starts is = absurd (grind (arith, is))

pub escaped-of : (cs : List ℕ) (c : ℕ) → escaped_first cs ≡ Some c
    → (is_hidden c ≡ true) × (cs ≡ escape_unicode c ++ drop (length (escape_unicode c)) cs)
escaped-of cs c found =
    let k = hex_code (drop 3 cs) in
    let f = found-is k c (is_hidden k) (starts_with ◌==◌ cs (escape_unicode k)) found in (
      subst (λ d. is_hidden d ≡ true) f.0 f.1,
      starts-front cs (escape_unicode c) (subst (λ d. starts_with ◌==◌ cs (escape_unicode d) ≡ true) f.0 f.2),
    )

-- characters that are passed over
pub past-front : (front rest : List ℕ) → unshown_past (length front) (front ++ rest) ≡ unshown_past 0 rest
unfolding unshown_past
past-front [] rest = refl
past-front (c ∷ front) rest = past-front front rest

-- a hidden character is read, and any other is
unshown-behind : (c hidden : ℕ) (cs : List ℕ) → escaped_first (c ∷ cs) ≡ Some hidden
    → unshown_past 0 (c ∷ cs) ≡ hidden ∷ unshown_past (length (escape_unicode hidden) - 1) cs
unfolding unshown_past
unshown-behind c hidden cs found = rw found refl

pub unshown-hidden : (cs rest : List ℕ) (c : ℕ) → escaped_first cs ≡ Some c → cs ≡ escape_unicode c ++ rest
    → unshown_past 0 cs ≡ c ∷ unshown_past 0 rest
unshown-hidden cs rest c found parts =
    let o = opened c in
    let behind = 117 ∷ 123 ∷ o.digits in
    let is : cs ≡ 92 ∷ (behind ++ rest) = parts ∙ ap (λ e. e ++ rest) o.is in
    let same : length (escape_unicode c) ≡ suc (length behind) = ap length o.is in
    let less : length (escape_unicode c) - 1 ≡ length behind = omega (arith, same) in
    subst (λ l. unshown_past 0 l ≡ c ∷ unshown_past 0 rest) (sym is)
    (unshown-behind 92 c (behind ++ rest) (subst (λ l. escaped_first l ≡ Some c) is found)
    ∙ (ap (λ n. c ∷ unshown_past n (behind ++ rest)) less ∙ ap (λ l. c ∷ l) (past-front behind rest)))

pub unshown-plain : (c : ℕ) (cs : List ℕ) → escaped_first (c ∷ cs) ≡ None
    → unshown_past 0 (c ∷ cs) ≡ c ∷ unshown_past 0 cs
unfolding unshown_past
unshown-plain c cs none = rw none refl

pub unshown-nil : unshown_past 0 [] ≡ []
unfolding unshown_past
unshown-nil = refl

-- Characters before the first `\` are shown as they are: those of which these are shown begin with them.
front-one : (x c : ℕ) (w cs t : List ℕ) → list_all (λ x. not (x == 92)) (x ∷ w) ≡ true
    → flat_map (shown_char false) (c ∷ cs) ≡ x ∷ w ++ t
    → (flat_map (shown_char false) cs ≡ w ++ t → (behind : List ℕ) × (cs ≡ w ++ behind))
    → (behind : List ℕ) × (c ∷ cs ≡ x ∷ w ++ behind)
front-one x c w cs t plain is next = by (is_escaped false c) refl
  where
    by : (b : Bool) → is_escaped false c ≡ b → (behind : List ℕ) × (c ∷ cs ≡ x ∷ w ++ behind)
    by true e =
        let shown : escape_unicode c ++ flat_map (shown_char false) cs ≡ x ∷ w ++ t = rw e at is in
        let front : 92 ∷ 117 ∷ 123 ∷ (opened c).digits ++ flat_map (shown_char false) cs ≡ x ∷ w ++ t =
        sym (ap (λ l. l ++ flat_map (shown_char false) cs) (opened c).is) ∙ shown in
        absurd (grind (arith, front, plain))
    by false e =
        let shown : c ∷ flat_map (shown_char false) cs ≡ x ∷ w ++ t = rw e at is in
        let rest = next (grind (arith, shown)) in
        (rest.0, grind (arith, shown, rest.1))

same-front : (w cs t : List ℕ) → list_all (λ x. not (x == 92)) w ≡ true → flat_map (shown_char false) cs ≡ w ++ t
    → (behind : List ℕ) × (cs ≡ w ++ behind)
same-front [] cs t plain is = (cs, refl)
same-front (x ∷ w) [] t plain is = absurd (grind (arith, is))
same-front (x ∷ w) (c ∷ cs) t plain is =
    front-one x c w cs t plain is (same-front w cs t (grind (arith, plain)))

-- no escape begins where a name spells out none
shown-none : (c : ℕ) (cs : List ℕ) (found : Option ℕ) → spells_hidden (c ∷ cs) ≡ false
    → escaped_first (c ∷ flat_map (shown_char false) cs) ≡ found → found ≡ None
shown-none c cs None plain is = refl
shown-none c cs (Some d) plain is =
    let rest = flat_map (shown_char false) cs in
    let e = escaped-of (c ∷ rest) d is in
    let o = opened d in
    let behind = drop (length (escape_unicode d)) (c ∷ rest) in
    let front : c ∷ rest ≡ 92 ∷ ((117 ∷ 123 ∷ o.digits) ++ behind) = e.1 ∙ ap (λ l. l ++ behind) o.is in
    let named = same-front (117 ∷ 123 ∷ o.digits) cs behind o.plain (grind (arith, front)) in
    let first : c ≡ 92 = grind (arith, front) in
    let all : c ∷ cs ≡ escape_unicode d ++ named.0 =
    ap (λ l. c ∷ l) named.1
    ∙ (ap (λ x. x ∷ (117 ∷ 123 ∷ o.digits) ++ named.0) first ∙ sym (ap (λ l. l ++ named.0) o.is)) in
    let found : escaped_first (c ∷ cs) ≡ Some d =
    subst (λ l. escaped_first l ≡ Some d) (sym all) (escaped-front d named.0 e.0) in
    let spelled : spells_hidden (c ∷ cs) ≡ true = ap (λ o. is_some o || spells_hidden cs) found in
    absurd (grind (arith, spelled, plain))

and-front : (a b : Bool) → (a && b) ≡ true → a ≡ true
and-front a b both = grind arith

or-back : (a b : Bool) → (a || b) ≡ false → b ≡ false
or-back a b neither = grind arith

-- of a name that spells out no escape, the characters that are shown give it back
back-one : (c : ℕ) (cs : List ℕ) → spells_hidden (c ∷ cs) ≡ false
    → unshown_past 0 (flat_map (shown_char false) cs) ≡ cs
    → unshown_past 0 (flat_map (shown_char false) (c ∷ cs)) ≡ c ∷ cs
back-one c cs plain back = by (is_escaped false c) refl
  where
    by : (b : Bool) → is_escaped false c ≡ b → unshown_past 0 (flat_map (shown_char false) (c ∷ cs)) ≡ c ∷ cs
    by true e =
        let rest = flat_map (shown_char false) cs in
        let hidden = and-front (is_hidden c) (not (false && (c == 10))) e in
        rw e (unshown-hidden (escape_unicode c ++ rest) rest c (escaped-front c rest hidden) refl
        ∙ ap (λ l. c ∷ l) back)
    by false e =
        let rest = flat_map (shown_char false) cs in
        rw e (unshown-plain c rest (shown-none c cs (escaped_first (c ∷ rest)) plain refl) ∙ ap (λ l. c ∷ l) back)

pub name-back : (cs : List ℕ) → spells_hidden cs ≡ false → unshown_past 0 (flat_map (shown_char false) cs) ≡ cs
name-back [] plain = unshown-nil
name-back (c ∷ cs) plain =
    back-one c cs plain (name-back cs (or-back (is_some (escaped_first (c ∷ cs))) (spells_hidden cs) plain))

-- and the name
pub text-back : (name text : List ℕ) → IsUtf8 name → spells_hidden (chars name) ≡ false
    → text ≡ shown_text false name → unshown_text text ≡ name
text-back name text utf8 plain is =
    ap unshown_text is
    ∙ (ap (λ cs. encode_utf8_all (unshown_past 0 cs)) (shown_chars false name utf8)
    ∙ (ap encode_utf8_all (name-back (chars name) plain) ∙ encodes-chars name utf8))

-- nothing of a text is left
pub text-done : (rest name whole : List ℕ) → rest ≡ []
    → name ++ encode_utf8_all (unshown_past 0 (chars rest)) ≡ whole → name ≡ whole
text-done rest name whole none is =
    let nothing : encode_utf8_all (unshown_past 0 (chars rest)) ≡ [] =
    ap (λ l. encode_utf8_all (unshown_past 0 (chars l))) none
    ∙ (ap (λ cs. encode_utf8_all (unshown_past 0 cs)) chars-nil ∙ ap encode_utf8_all unshown-nil) in
    sym (append-nil name) ∙ (sym (ap (λ l. name ++ l) nothing) ∙ is)
