-- A date and a time of day are read back as the same time.
use Rattle.std.proofs.Common.{◌≡◌, ℕ, zero, suc, ◌+◌, ◌-◌, ◌*◌, ◌/◌, ◌%◌, ◌^◌, ◌<◌, ◌≤◌, ◌==◌, List, [], ◌∷◌, ◌++◌}
use Rattle.std.proofs.Common.{Bool, true, false, ℤ, pos, negsuc, ◌+ℤ◌, Option, Some, None, length, refl, sym, ap, ◌∙◌}
use Rattle.std.proofs.Common.{subst, arith, if◌then◌else◌, append-nil, append_assoc, drop}
use Rattle.std.proofs.lemmas.Bool.Decides.{nat_tests}
use Rattle.std.specs.Char.{digit_value}
use Rattle.std.specs.List.{list_any}
use Rattle.std.specs.Prelude.{◌||◌, codes, neg_ℤ, nat_lt, slice_range}
use Rattle.std.specs.Str.Parse.{digits_value}
use borrow.Author.Differences.{down, neg_is, same_in, same_out, sum_is_lem, up}
use Rattle.cap_time.specs.Time.{IsSameTime, Printed, Time, time_at}
use Rattle.cap_print.proofs.Calendar.{before-year, cycles-counted, dates-of-days, day_of}
use Rattle.cap_print.proofs.Division.{digit-is}
use Rattle.cap_print.proofs.ReadDecimals.{Digits, before-other, decimals-read-back, places-digits, places-same}
use Rattle.cap_print.proofs.ReadDecimals.{point-other, units-same, z-other}
use Rattle.cap_print.specs.Calendar.{days_before_year, day_number}
use Rattle.cap_print.specs.Dates.{calendar_seconds, clock_text, cycles_of, date_in, date_of, date_text, four_digits}
use Rattle.cap_print.specs.Dates.{march_year, months_from_march, two_digits, utc_seconds_text, utc_text_by}
use Rattle.cap_print.specs.Dates.{within_calendar}
use Rattle.cap_print.specs.Decimals.{after_point, decimal_places, decimal_text, fraction_text, place_digits}
use Rattle.cap_print.specs.ReadTimes.{IsCounted, UtcReadsBack, before_first, behind_first, clock_seconds, date_time}
use Rattle.cap_print.specs.ReadTimes.{exact_time, number_at, pointed_time, read_time}
use Rattle.cap_print.specs.declared.dates.Date.{Date}

-- ---- numbers of two and of four digits

ten : (n : ℕ) → n < 100 → n / 10 < 10
ten n h = omega (arith, h)

pub two-value : (n : ℕ) → n < 100 → digits_value 10 (two_digits n) ≡ n
two-value n h =
    let a = digit-is (n / 10) (ten n h) in
    let b = digit-is (n % 10) (omega arith) in
    ap (λ x. (0 * 10 + x) * 10 + digit_value (48 + n % 10)) a ∙ ap (λ x. (0 * 10 + n / 10) * 10 + x) b ∙ omega arith

pub four-value : (n : ℕ) → n < 10000 → digits_value 10 (four_digits n) ≡ n
four-value n h =
    let a = digit-is (n / 100 / 10) (omega (arith, h)) in
    let b = digit-is (n / 100 % 10) (omega arith) in
    let c = digit-is (n % 100 / 10) (omega arith) in
    let d = digit-is (n % 100 % 10) (omega arith) in
    (λ i. (((0 * 10 + a i) * 10 + b i) * 10 + c i) * 10 + d i) ∙ omega arith

two-digits : (n : ℕ) → n < 100 → Digits (two_digits n)
two-digits n h = (omega arith, omega (arith, h), (omega arith, omega arith, tt))

four-digits : (n : ℕ) → n < 10000 → Digits (four_digits n)
four-digits n h = (
  omega arith,
  omega (arith, h),
  (omega arith, omega arith, (omega arith, omega arith, (omega arith, omega arith, tt))),
)

-- ---- what is behind a date and a time of day

-- digits have no point
skip-digits : (ds rest : List ℕ) → Digits ds → behind_first 46 (ds ++ rest) ≡ behind_first 46 rest
skip-digits [] rest all = refl
skip-digits (c ∷ ds) rest all = rw (point-other.1 c all.0 all.1) (skip-digits ds rest all.2)

-- The numbers of a date have four and two digits.
pub record IsShort (date : Date) : Type 0 where
  pub year : date.year < 10000
  pub month : date.month < 100
  pub day : date.day < 100

skip-date : (date : Date) (rest : List ℕ) → IsShort date
    → behind_first 46 (date_text date ++ rest) ≡ behind_first 46 rest
skip-date date rest short =
    skip-digits (four_digits date.year) (45 ∷ (two_digits date.month ++ (45 ∷ (two_digits date.day ++ rest))))
    (four-digits date.year short.year)
    ∙ skip-digits (two_digits date.month) (45 ∷ (two_digits date.day ++ rest)) (two-digits date.month short.month)
    ∙ skip-digits (two_digits date.day) rest (two-digits date.day short.day)

skip-clock : (seconds : ℕ) (rest : List ℕ) → seconds < 86400
    → behind_first 46 (clock_text seconds ++ rest) ≡ behind_first 46 rest
skip-clock seconds rest h =
    skip-digits (two_digits (seconds / 3600))
    (58 ∷ (two_digits (seconds / 60 % 60) ++ (58 ∷ (two_digits (seconds % 60) ++ rest))))
    (two-digits (seconds / 3600) (omega (arith, h)))
    ∙ skip-digits (two_digits (seconds / 60 % 60)) (58 ∷ (two_digits (seconds % 60) ++ rest))
    (two-digits (seconds / 60 % 60) (omega arith))
    ∙ skip-digits (two_digits (seconds % 60)) rest (two-digits (seconds % 60) (omega arith))

-- the places between a point and a Z, or none
places-by : (k n d : ℕ) → n < d
    → before_first 90 (behind_first 46 (after_point (place_digits k n d) ++ codes "Z")) ≡ place_digits k n d
unfolding place_digits
places-by zero n d h = refl
places-by (suc k) n d h = before-other 90 (place_digits (suc k) n d) [] z-other (places-digits (suc k) n d h)

-- ---- the seconds of a date and a time of day

clock-is : (date : Date) (seconds : ℕ) (rest : List ℕ) → IsShort date → seconds < 86400
    → clock_seconds (date_text date ++ (clock_text seconds ++ rest)) ≡ 86400 * day_number date + seconds
clock-is date seconds rest short h =
    let text : List ℕ = date_text date ++ (clock_text seconds ++ rest) in
    let year : number_at text 0 4 ≡ date.year = four-value date.year short.year in
    let month : number_at text 5 7 ≡ date.month = two-value date.month short.month in
    let day : number_at text 8 10 ≡ date.day = two-value date.day short.day in
    let hours : number_at text 11 13 ≡ seconds / 3600 = two-value (seconds / 3600) (omega (arith, h)) in
    let minutes : number_at text 14 16 ≡ seconds / 60 % 60 = two-value (seconds / 60 % 60) (omega arith) in
    let last : number_at text 17 19 ≡ seconds % 60 = two-value (seconds % 60) (omega arith) in
    let whole : 3600 * (seconds / 3600) + 60 * (seconds / 60 % 60) + seconds % 60 ≡ seconds = omega arith in
    (λ i. 86400 * day_number (record { year = year i; month = month i; day = day i })
    + (3600 * hours i + 60 * minutes i + last i))
    ∙ ap (λ x. 86400 * day_number date + x) whole

-- a T is somewhere in a text
any-t : (before rest : List ℕ) → list_any (λ c. c == 84) (before ++ (84 ∷ rest)) ≡ true
any-t [] rest = refl
any-t (c ∷ before) rest = by (c == 84) (any-t before rest) where
  by : (test : Bool) → list_any (λ c. c == 84) (before ++ (84 ∷ rest)) ≡ true
      → (test || list_any (λ c. c == 84) (before ++ (84 ∷ rest))) ≡ true
  by true is = refl
  by false is = is

-- ---- the dates that are printed

day-in : (year months day : ℕ) → (date_in year months day).day ≡ day
day-in year months day = grind arith

day-small : (days : ℕ) → days ≤ 365 → day_of days < 100
day-small days h = omega (arith, h)

pub short-date : (day : ℕ) → day < 3652425 → IsShort (date_of day)
short-date day h =
    let date = dates-of-days day in
    let year : ℕ = (date_of day).year in
    record {
      year = omega (arith, h, date.1, before-year year);
      month = omega (arith, date.0.last_month);
      day =
          let it = cycles_of (day + 146037) in
          omega (
            arith,
            day-in (march_year it) (months_from_march it.days) (day_of it.days),
            day-small it.days (cycles-counted (day + 146037)).days,
          );
    }

within-is : (z : ℤ) (m : ℕ) → within_calendar z ≡ Some m → (z ≡ pos m) × (m < 315569520000)
within-is (pos x) m is = (grind (arith, nat_tests, is), grind (arith, nat_tests, is))
within-is (negsuc x) m is = absurd (cc)

shifted : (s : ℤ) (m e : ℕ) → s +ℤ pos e ≡ pos m → s ≡ pos m +ℤ neg_ℤ (pos e)
shifted s m e is =
    let out = same_out (s +ℤ pos e) (pos m) is in
    let n = neg_is (pos e) in
    same_in s (pos m +ℤ neg_ℤ (pos e))
    (omega (arith, out.0, out.1, n.0, n.1, sum_is_lem s (pos e), sum_is_lem (pos m) (neg_ℤ (pos e))))

-- what is said of a time in the years 0000 to 9999
said : (seconds n d : ℕ) → seconds < 315569520000 → n < d
    → read_time (utc_seconds_text seconds n d)
    ≡ pointed_time (pos seconds +ℤ neg_ℤ (pos 62167219200)) (place_digits (decimal_places d) n d)
said seconds n d h below =
    let date : Date = date_of (seconds / 86400) in
    let short = short-date (seconds / 86400) (omega (arith, h)) in
    let clock : seconds % 86400 < 86400 = omega arith in
    let end : List ℕ = fraction_text n d ++ codes "Z" in
    let joined : utc_seconds_text seconds n d ≡ date_text date ++ (clock_text (seconds % 86400) ++ end) =
    simp append_assoc in
    let has_t = any-t (date_text date) (drop 1 (clock_text (seconds % 86400) ++ end)) in
    let value : clock_seconds (date_text date ++ (clock_text (seconds % 86400) ++ end)) ≡ seconds =
    clock-is date (seconds % 86400) end short clock
    ∙ ap (λ x. 86400 * x + seconds % 86400) (dates-of-days (seconds / 86400)).1 ∙ omega arith in
    let places : before_first 90 (behind_first 46 (date_text date ++ (clock_text (seconds % 86400) ++ end)))
    ≡ place_digits (decimal_places d) n d =
    ap (λ l. before_first 90 l) (skip-date date (clock_text (seconds % 86400) ++ end) short
    ∙ skip-clock (seconds % 86400) end clock) ∙ places-by (decimal_places d) n d below in
    ap read_time joined ∙ rw (has_t, value, places) refl

read-by : (time : Printed) → IsCounted time → (o : Option ℕ) → calendar_seconds time.seconds ≡ o
    → IsSameTime (read_time (utc_text_by o time)) (exact_time time)
read-by time counted None is = decimals-read-back time counted
read-by time counted (Some seconds) is =
    let n : ℕ = time.numerator in
    let d : ℕ = time.denominator in
    let within = within-is (time.seconds +ℤ pos 62167219200) seconds is in
    let own = shifted time.seconds seconds 62167219200 within.0 in
    rw (said seconds n d within.1 counted.below, ← own)
    (units-same time.seconds _ _ n d (places-same counted.resolution n d counted.units counted.below))

pub utc-reads-back : UtcReadsBack
utc-reads-back time counted = read-by time counted (calendar_seconds time.seconds) refl
