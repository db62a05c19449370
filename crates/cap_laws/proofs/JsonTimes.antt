-- The texts of numbers and of times have no character that JSON escapes.
use Rattle.std.proofs.Common.{◌≡◌, ◌==◌, ◌<◌, ◌≤◌, ◌+◌, ◌-◌, ◌*◌, ◌/◌, ◌%◌, ℕ, zero, suc, List, [], ◌∷◌, ◌++◌, refl}
use Rattle.std.proofs.Common.{sym, ap, ◌∙◌, arith, Bool, true, false, Some, None, append_assoc, ℤ, pos, negsuc, ◌+ℤ◌}
use Rattle.std.proofs.Common.{Option}
use Rattle.std.specs.Prelude.{codes, decimal, flat_map}
use Rattle.std.specs.Fmt.{digits, digits_onto, digit_glyph}
use Rattle.std.proofs.lemmas.Bool.Decides.{nat_tests}
use lib.Utf8.{encode}
use Rattle.cap_laws.proofs.JsonLines.{Plain}
use Rattle.cap_laws.proofs.JsonStrings.{character-plain}
use Rattle.cap_print.proofs.ReadDates.{IsShort, short-date}
use Rattle.cap_print.proofs.ReadDecimals.{Digits, places-digits}
use Rattle.cap_print.specs.Dates.{calendar_seconds, clock_text, date_of, date_text, four_digits, two_digits}
use Rattle.cap_print.specs.Dates.{utc_seconds_text, utc_text, utc_text_by, within_calendar}
use Rattle.cap_print.specs.Decimals.{after_point, decimal_places, decimal_text, fraction_text, place_digits}
use Rattle.cap_print.specs.Decimals.{seconds_text, signed_text}
use Rattle.cap_print.specs.declared.dates.Date.{Date}
use Rattle.cap_time.specs.Time.{Printed}
use Rattle.cap_tool.specs.Objects.{escaped_character}

pub plain-append : (a b : List ℕ) → Plain a → Plain b → Plain (a ++ b)
plain-append a b p q = more a b ∙ (λ i. p i ++ q i)
  where
    more : (a b : List ℕ)
        → flat_map escaped_character (a ++ b) ≡ flat_map escaped_character a ++ flat_map escaped_character b
    more [] b = refl
    more (c ∷ a) b =
        ap (λ l. escaped_character c ++ l) (more a b)
        ∙ sym (append_assoc (escaped_character c) (flat_map escaped_character a) (flat_map escaped_character b))

-- a decimal digit, and the digits of a number
digit-plain : (d : ℕ) → d < 10 → Plain (digit_glyph false d ∷ [])
digit-plain d small =
    let low : 48 ≤ digit_glyph false d = grind (arith, nat_tests, small) in
    let high : digit_glyph false d < 58 = grind (arith, nat_tests, small) in
    ap (λ l. l ++ []) (character-plain (digit_glyph false d) (omega (arith, low)) (omega (arith, high))
    (λ e. omega (arith, e, high)))

onto-plain : (k n : ℕ) (acc : List ℕ) (last : Bool) → n / 10 == 0 ≡ last → Plain acc
    → Plain (digits_onto k 10 false n acc)
onto-plain zero n acc last e plain = plain
onto-plain (suc k) n acc true e plain =
    rw e (plain-append (digit_glyph false (n % 10) ∷ []) acc (digit-plain (n % 10) (omega arith)) plain)
onto-plain (suc k) n acc false e plain =
    rw e (onto-plain k (n / 10) (digit_glyph false (n % 10) ∷ acc) (n / 10 / 10 == 0) refl
    (plain-append (digit_glyph false (n % 10) ∷ []) acc (digit-plain (n % 10) (omega arith)) plain))

pub decimal-plain : (n : ℕ) → Plain (decimal n)
unfolding digits
decimal-plain n = onto-plain 64 n [] (n / 10 == 0) refl refl

-- digits from 0 to 9
digits-plain : (ds : List ℕ) → Digits ds → Plain ds
digits-plain [] all = refl
digits-plain (c ∷ ds) all =
    let first = character-plain c (omega (arith, all.0)) (omega (arith, all.1)) (λ e. omega (arith, e, all.1)) in
    λ i. first i ++ digits-plain ds all.2 i

point-plain : Plain (codes ".")
unfolding encode
point-plain = refl

minus-plain : Plain (codes "-")
unfolding encode
minus-plain = refl

fraction-by : (k n d : ℕ) → n < d → Plain (after_point (place_digits k n d))
unfolding place_digits
fraction-by zero n d h = refl
fraction-by (suc k) n d h =
    plain-append (codes ".") (place_digits (suc k) n d) point-plain
    (digits-plain (place_digits (suc k) n d) (places-digits (suc k) n d h))

seconds-plain : (w n d : ℕ) → n < d → Plain (seconds_text w n d)
seconds-plain w n d h =
    plain-append (decimal w) (fraction_text n d) (decimal-plain w) (fraction-by (decimal_places d) n d h)

signed-plain : (s : ℤ) (n d : ℕ) → n < d → Plain (signed_text s n d)
signed-plain (pos w) n d h = seconds-plain w n d h
signed-plain (negsuc w) zero d h =
    plain-append (codes "-") (seconds_text (w + 1) 0 d) minus-plain (seconds-plain (w + 1) 0 d h)
signed-plain (negsuc w) (suc n) d h =
    plain-append (codes "-") (seconds_text w (d - suc n) d) minus-plain
    (seconds-plain w (d - suc n) d (omega (arith, h)))

pub decimal-text-plain : (time : Printed) → time.numerator < time.denominator → Plain (decimal_text time)
decimal-text-plain time h = signed-plain time.seconds time.numerator time.denominator h

two-plain : (n : ℕ) → n < 100 → Plain (two_digits n)
two-plain n h = digits-plain (two_digits n) (omega arith, omega (arith, h), (omega arith, omega arith, tt))

four-plain : (n : ℕ) → n < 10000 → Plain (four_digits n)
four-plain n h =
    plain-append (two_digits (n / 100)) (two_digits (n % 100)) (two-plain (n / 100) (omega (arith, h)))
    (two-plain (n % 100) (omega arith))

t-plain : Plain (codes "T")
unfolding encode
t-plain = refl

colon-plain : Plain (codes ":")
unfolding encode
colon-plain = refl

z-plain : Plain (codes "Z")
unfolding encode
z-plain = refl

date-plain : (date : Date) → IsShort date → Plain (date_text date)
date-plain date short =
    plain-append (four_digits date.year ++ codes "-" ++ two_digits date.month ++ codes "-") (two_digits date.day)
    (plain-append (four_digits date.year ++ codes "-" ++ two_digits date.month) (codes "-")
    (plain-append (four_digits date.year ++ codes "-") (two_digits date.month)
    (plain-append (four_digits date.year) (codes "-") (four-plain date.year short.year) minus-plain)
    (two-plain date.month short.month)) minus-plain) (two-plain date.day short.day)

clock-plain : (seconds : ℕ) → seconds < 86400 → Plain (clock_text seconds)
clock-plain seconds h =
    let hours = two_digits (seconds / 3600) in
    let minutes = two_digits (seconds / 60 % 60) in
    plain-append (codes "T" ++ hours ++ codes ":" ++ minutes ++ codes ":") (two_digits (seconds % 60))
    (plain-append (codes "T" ++ hours ++ codes ":" ++ minutes) (codes ":")
    (plain-append (codes "T" ++ hours ++ codes ":") minutes
    (plain-append (codes "T" ++ hours) (codes ":")
    (plain-append (codes "T") hours t-plain (two-plain (seconds / 3600) (omega (arith, h)))) colon-plain)
    (two-plain (seconds / 60 % 60) (omega arith))) colon-plain) (two-plain (seconds % 60) (omega arith))

within-few : (z : ℤ) (m : ℕ) → within_calendar z ≡ Some m → m < 315569520000
within-few (pos x) m is = grind (arith, nat_tests, is)
within-few (negsuc x) m is = absurd (cc)

utc-plain : (time : Printed) → time.numerator < time.denominator → (o : Option ℕ) → calendar_seconds time.seconds ≡ o
    → Plain (utc_text_by o time)
utc-plain time h None is = decimal-text-plain time h
utc-plain time h (Some seconds) is =
    let few = within-few (time.seconds +ℤ pos 62167219200) seconds is in
    let date = date_text (date_of (seconds / 86400)) in
    let clock = clock_text (seconds % 86400) in
    let fraction = fraction_text time.numerator time.denominator in
    plain-append (date ++ clock ++ fraction) (codes "Z")
    (plain-append (date ++ clock) fraction
    (plain-append date clock (date-plain (date_of (seconds / 86400))
    (short-date (seconds / 86400) (omega (arith, few))))
    (clock-plain (seconds % 86400) (omega arith)))
    (fraction-by (decimal_places time.denominator) time.numerator time.denominator h)) z-plain

pub utc-text-plain : (time : Printed) → time.numerator < time.denominator → Plain (utc_text time)
utc-text-plain time h = utc-plain time h (calendar_seconds time.seconds) refl
