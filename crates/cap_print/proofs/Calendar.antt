-- The date of a day is a date of the calendar, and names that day.
use Rattle.std.proofs.Common.{◌≡◌, ℕ, zero, suc, ◌+◌, ◌-◌, ◌*◌, ◌/◌, ◌%◌, ◌<◌, ◌≤◌, ◌==◌, Bool, true, false, ◌&&◌, ◌||◌}
use Rattle.std.proofs.Common.{T, eqb, eqb→eq, eq-zero-or-pos, inl, inr, refl, sym, ap, ◌∙◌, subst, arith, if◌then◌else◌}
use Rattle.std.proofs.Common.{cond, get_or}
use Rattle.std.proofs.lemmas.Bool.{eqb-true, eqb-false}
use Rattle.std.proofs.lemmas.Bool.Decides.{nat_tests}
use Rattle.std.specs.Prelude.{min, nat_le, nat_lt, not}
use borrow.Author.Tests.{leb-true}
use lib.Ieee.Fits.{and_l, and_r}
use Rattle.cap_print.specs.Calendar.{IsDate, day_number, days_before_month, days_before_year, is_leap, month_lengths}
use Rattle.cap_print.specs.Dates.{cycles_of, date_by, date_in, date_of, march_year, months_from_march}
use Rattle.cap_print.specs.declared.dates.Cycles.{Cycles}
use Rattle.cap_print.specs.declared.dates.Date.{Date}

-- ---- the days before a year

-- so many of the years before it are leap years, those of each hundredth left out
fourths : (year : ℕ) (is_so : Bool) → year % 4 == 0 ≡ is_so
    → (suc year + 3) / 4 ≡ (year + 3) / 4 + (if is_so then 1 else 0)
fourths year true is = omega (arith, eqb-true (year % 4) 0 is)
fourths year false is = omega (arith, eqb-false (year % 4) 0 is)

hundredths : (year : ℕ) (is_so : Bool) → year % 100 == 0 ≡ is_so
    → (suc year + 99) / 100 ≡ (year + 99) / 100 + (if is_so then 1 else 0)
hundredths year true is = omega (arith, eqb-true (year % 100) 0 is)
hundredths year false is = omega (arith, eqb-false (year % 100) 0 is)

four-hundredths : (year : ℕ) (is_so : Bool) → year % 400 == 0 ≡ is_so
    → (suc year + 399) / 400 ≡ (year + 399) / 400 + (if is_so then 1 else 0)
four-hundredths year true is = omega (arith, eqb-true (year % 400) 0 is)
four-hundredths year false is = omega (arith, eqb-false (year % 400) 0 is)

-- one more year
one-year : (year before : ℕ) (a b c : Bool) → year % 4 == 0 ≡ a → year % 100 == 0 ≡ b → year % 400 == 0 ≡ c
    → before + (year + 99) / 100 ≡ 365 * year + (year + 3) / 4 + (year + 399) / 400
    → before + (if a && not b || c then 366 else 365) + (suc year + 99) / 100
    ≡ 365 * suc year + (suc year + 3) / 4 + (suc year + 399) / 400
one-year year before true true true p q r h =
    omega (arith, h, fourths year _ p, hundredths year _ q, four-hundredths year _ r)
one-year year before true true false p q r h =
    omega (arith, h, fourths year _ p, hundredths year _ q, four-hundredths year _ r)
one-year year before true false true p q r h =
    absurd (omega (arith, eqb-false (year % 100) 0 q, eqb-true (year % 400) 0 r))
one-year year before true false false p q r h =
    omega (arith, h, fourths year _ p, hundredths year _ q, four-hundredths year _ r)
one-year year before false true c p q r h =
    absurd (omega (arith, eqb-false (year % 4) 0 p, eqb-true (year % 100) 0 q))
one-year year before false false true p q r h =
    absurd (omega (arith, eqb-false (year % 4) 0 p, eqb-true (year % 400) 0 r))
one-year year before false false false p q r h =
    omega (arith, h, fourths year _ p, hundredths year _ q, four-hundredths year _ r)

pub before-year : (year : ℕ)
    → days_before_year year + (year + 99) / 100 ≡ 365 * year + (year + 3) / 4 + (year + 399) / 400
unfolding days_before_year
before-year zero = refl
before-year (suc year) =
    one-year year (days_before_year year) (year % 4 == 0) (year % 100 == 0) (year % 400 == 0) refl refl refl
    (before-year year)

-- ---- the cycles of a day

-- What the cycles of a day are: its days by the lengths of the cycles, and no more than there are.
pub record IsCounted (day : ℕ) (it : Cycles) : Type 0 where
  pub whole : 146097 * it.four_centuries + 36524 * it.centuries + 1461 * it.four_years + 365 * it.years + it.days ≡ day
  pub centuries : it.centuries ≤ 3
  pub four_years : it.four_years ≤ 24
  pub years : it.years ≤ 3
  pub days : it.days ≤ 365
  pub last_year : it.days ≡ 365 → it.years ≡ 3
  pub last_century : it.days ≡ 365 → it.four_years ≡ 24 → it.centuries ≡ 3

century-part : (c : ℕ) → c < 146097
    → (min (c / 36524) 3 ≤ 3) × (c - 36524 * min (c / 36524) 3 ≤ 36524)
    × (36524 * min (c / 36524) 3 + (c - 36524 * min (c / 36524) 3) ≡ c)
    × (c - 36524 * min (c / 36524) 3 ≡ 36524 → min (c / 36524) 3 ≡ 3)
century-part c h = (omega arith, omega (arith, h), omega (arith, h), λ e. omega (arith, h, e))

four-years-part : (y : ℕ) → y ≤ 36524 → (y / 1461 ≤ 24) × (1461 * (y / 1461) + y % 1461 ≡ y)
    × (y % 1461 ≤ 1460) × (y / 1461 ≡ 24 → y % 1461 ≡ 1460 → y ≡ 36524)
four-years-part y h = (omega (arith, h), omega arith, omega arith, λ e g. omega (arith, h, e, g))

year-part : (f : ℕ) → f ≤ 1460
    → (min (f / 365) 3 ≤ 3) × (f - 365 * min (f / 365) 3 ≤ 365)
    × (365 * min (f / 365) 3 + (f - 365 * min (f / 365) 3) ≡ f)
    × (f - 365 * min (f / 365) 3 ≡ 365 → (min (f / 365) 3 ≡ 3) × (f ≡ 1460))
year-part f h = (omega arith, omega (arith, h), omega (arith, h), λ e. (omega (arith, h, e), omega (arith, h, e)))

pub cycles-counted : (day : ℕ) → IsCounted day (cycles_of day)
cycles-counted day =
    let c : ℕ = day % 146097 in
    let y : ℕ = c - 36524 * min (c / 36524) 3 in
    let f : ℕ = y % 1461 in
    let century = century-part c (omega arith) in
    let four = four-years-part y century.1 in
    let year = year-part f four.2 in
    record {
      whole = omega (arith, century.2, four.1, year.2);
      centuries = century.0;
      four_years = four.0;
      years = year.0;
      days = year.1;
      last_year = λ e. (year.3 e).0;
      last_century = λ e g. century.3 (four.3 g (year.3 e).1);
    }

-- ---- the days of a year from March on

-- the month and the day of the month of a day of such a year, in the year of the calendar that it is in
abbrev pub month_of : ℕ → ℕ
month_of months = if nat_lt months 10 then months + 3 else months - 9

abbrev pub day_of : ℕ → ℕ
day_of days = days - (153 * months_from_march days + 2) / 5 + 1

-- whether they are a month and a day of it, and so many days after the year of the calendar began
abbrev is_right_in : Bool → ℕ → ℕ → ℕ → Bool
is_right_in leap days month day =
    nat_le 1 month && (nat_le month 12 && (nat_le 1 day && (nat_le day (get_or (month_lengths leap) (month - 1) 0)
    && eqb (days_before_month leap month + (day - 1) + (if nat_lt days 306 then 0 else 306))
    (if nat_lt days 306 then days + 59 + (if leap then 1 else 0) else days))))

abbrev is_right : Bool → ℕ → Bool
is_right leap days = is_right_in leap days (month_of (months_from_march days)) (day_of days)

abbrev all_right : Bool → ℕ → Bool
all_right leap zero = true
all_right leap (suc n) = is_right leap n && all_right leap n

right-below : (leap : Bool) (n days : ℕ) → T (all_right leap n) → days < n → T (is_right leap days)
right-below leap zero days are lt = absurd (omega (arith, lt))
right-below leap (suc n) days are lt =
    elim (eq-zero-or-pos (n - days)) [
      | inl last ↦ let is : days ≡ n = omega (arith, last, lt) in rw is (and_l _ (all_right leap n) are)
      | inr more ↦ right-below leap n days (and_r _ (all_right leap n) are) (omega (arith, more))
    ]

right-at : (leap : Bool) (days : ℕ) → days ≤ 365 → (days ≡ 365 → leap ≡ true) → T (is_right leap days)
right-at true days most last = right-below true 366 days tt (omega (arith, most))
right-at false days most last =
    elim (eq-zero-or-pos (365 - days)) [
      | inl end ↦ absurd (let no : false ≡ true = last (omega (arith, end, most)) in cc)
      | inr more ↦ right-below false 365 days tt (omega (arith, more))
    ]

-- the same as facts
pub record IsRight (leap : Bool) (days month day : ℕ) : Type 0 where
  pub first_month : 1 ≤ month
  pub last_month : month ≤ 12
  pub first_day : 1 ≤ day
  pub last_day : day ≤ get_or (month_lengths leap) (month - 1) 0
  pub before : days_before_month leap month + (day - 1) + (if nat_lt days 306 then 0 else 306)
      ≡ (if nat_lt days 306 then days + 59 + (if leap then 1 else 0) else days)

five-tests : (a b c d e : Bool) → T (a && (b && (c && (d && e))))
    → (a ≡ true) × (b ≡ true) × (c ≡ true) × (d ≡ true) × T e
five-tests true true true true e t = (refl, refl, refl, refl, t)
five-tests true true true false e t = absurd t
five-tests true true false d e t = absurd t
five-tests true false c d e t = absurd t
five-tests false b c d e t = absurd t

right-facts : (leap : Bool) (days month day : ℕ) → T (is_right_in leap days month day) → IsRight leap days month day
right-facts leap days month day t =
    let five = five-tests (nat_le 1 month) (nat_le month 12) (nat_le 1 day)
    (nat_le day (get_or (month_lengths leap) (month - 1) 0))
    (eqb (days_before_month leap month + (day - 1) + (if nat_lt days 306 then 0 else 306))
    (if nat_lt days 306 then days + 59 + (if leap then 1 else 0) else days)) t in
    record {
      first_month = leb-true 1 month five.0;
      last_month = leb-true month 12 five.1;
      first_day = leb-true 1 day five.2;
      last_day = leb-true day (get_or (month_lengths leap) (month - 1) 0) five.3;
      before = eqb→eq _ _ five.4;
    }

pub is-right : (leap : Bool) (days : ℕ) → days ≤ 365 → (days ≡ 365 → leap ≡ true)
    → IsRight leap days (month_of (months_from_march days)) (day_of days)
is-right leap days most last = right-facts leap days _ _ (right-at leap days most last)

-- ---- the whole date

-- the days before the year after one that is given by its cycles
pub before-next : (g c q r : ℕ) → c ≤ 3 → q ≤ 24 → r ≤ 3
    → days_before_year (suc (400 * g + 100 * c + 4 * q + r))
    ≡ 146097 * g + 36524 * c + 1461 * q + 365 * r + 366
before-next g c q r hc hq hr =
    let year : ℕ = 400 * g + 100 * c + 4 * q + r in
    let fourth : (suc year + 3) / 4 ≡ 100 * g + 25 * c + q + 1 = omega (arith, hr) in
    let hundredth : (suc year + 99) / 100 ≡ 4 * g + c + 1 = omega (arith, hr, hq) in
    let last : (suc year + 399) / 400 ≡ g + 1 = omega (arith, hr, hq, hc) in
    omega (arith, before-year (suc year), fourth, hundredth, last)

-- a leap day is in a leap year
leap-at : (year : ℕ) → year % 4 ≡ 0 → (year % 100 ≡ 0 → year % 400 ≡ 0) → is_leap year ≡ true
leap-at year a b = grind (arith, nat_tests, a, b)

-- There is such a date, and it names that day.
abbrev Names : Date → ℕ → Type 0
Names date day = IsDate date × (day_number date ≡ day)

date-is : (year days month dd day : ℕ) → IsRight (is_leap year) days month dd
    → days_before_year year + days_before_month (is_leap year) month + (dd - 1) ≡ day
    → Names (record { year = year; month = month; day = dd }) day
date-is year days month dd day right e = (
  record {
    first_month = right.first_month;
    last_month = right.last_month;
    first_day = right.first_day;
    last_day = right.last_day;
  },
  e,
)

leap-days : (leap : Bool) → (if leap then 366 else 365) ≡ 365 + (if leap then 1 else 0)
leap-days true = refl
leap-days false = refl

one-more : (year : ℕ) → days_before_year (suc year) ≡ days_before_year year + (if is_leap year then 366 else 365)
unfolding days_before_year
one-more year = refl

-- from March to December
early : (day g c q r days month dd : ℕ) → c ≤ 3 → q ≤ 24 → r ≤ 3 → nat_lt days 306 ≡ true
    → 146097 * suc g + 36524 * c + 1461 * q + 365 * r + days ≡ day + 146037
    → IsRight (is_leap (400 * g + 100 * c + 4 * q + r)) days month dd
    → Names (record { year = 400 * g + 100 * c + 4 * q + r; month = month; day = dd }) day
early day g c q r days month dd hc hq hr test whole right =
    let year : ℕ = 400 * g + 100 * c + 4 * q + r in
    let before = rw test at right.before in
    date-is year days month dd day right
    (omega (arith, before, whole, before-next g c q r hc hq hr, one-more year, leap-days (is_leap year)))

-- January and February
late : (day g c q r days month dd : ℕ) → c ≤ 3 → q ≤ 24 → r ≤ 3 → nat_lt days 306 ≡ false
    → 146097 * suc g + 36524 * c + 1461 * q + 365 * r + days ≡ day + 146037
    → IsRight (is_leap (suc (400 * g + 100 * c + 4 * q + r))) days month dd
    → Names (record { year = suc (400 * g + 100 * c + 4 * q + r); month = month; day = dd }) day
late day g c q r days month dd hc hq hr test whole right =
    let before = rw test at right.before in
    date-is (suc (400 * g + 100 * c + 4 * q + r)) days month dd day right
    (omega (arith, before, whole, before-next g c q r hc hq hr))

late-leap : (g c q r : ℕ) → r ≡ 3 → q ≤ 24 → (q ≡ 24 → c ≡ 3)
    → is_leap (suc (400 * g + 100 * c + 4 * q + r)) ≡ true
late-leap g c q r three hq last =
    leap-at (suc (400 * g + 100 * c + 4 * q + r)) (omega (arith, three))
    (λ e. let most : q ≡ 24 = omega (arith, e, three, hq) in omega (arith, three, most, last most))

-- the first days of the year 0000
first-year : (day c q r days month dd : ℕ) → c ≤ 3 → q ≤ 24 → r ≤ 3 → nat_lt days 306 ≡ false
    → 36524 * c + 1461 * q + 365 * r + days ≡ day + 146037 → days ≤ 365
    → IsRight true days month dd
    → Names (record { year = 0; month = month; day = dd }) day
unfolding days_before_year
first-year day c q r days month dd hc hq hr test whole most right =
    let before = rw test at right.before in
    date-is 0 days month dd day right (omega (arith, before, whole, hc, hq, hr, most))

march-test : (days : ℕ) (test : Bool) → nat_lt (months_from_march days) 10 ≡ test → nat_lt days 306 ≡ test
march-test days true is = grind (arith, nat_tests, is)
march-test days false is = grind (arith, nat_tests, is)

march-days : (days : ℕ) → nat_lt days 306 ≡ true → days < 306
march-days days is = grind (arith, nat_tests, is)

not-march-days : (days : ℕ) → nat_lt days 306 ≡ false → 306 ≤ days
not-march-days days is = grind (arith, nat_tests, is)

finish-by : (day f c q r days : ℕ) (test : Bool) → nat_lt (months_from_march days) 10 ≡ test → c ≤ 3 → q ≤ 24 → r ≤ 3
    → days ≤ 365 → (days ≡ 365 → r ≡ 3) → (days ≡ 365 → q ≡ 24 → c ≡ 3)
    → 146097 * f + 36524 * c + 1461 * q + 365 * r + days ≡ day + 146037
    → Names (date_in (400 * f + 100 * c + 4 * q + r) (months_from_march days) (day_of days)) day
finish-by day zero c q r days true is hc hq hr most three last whole =
    absurd (omega (arith, whole, hc, hq, hr, march-days days (march-test days true is)))
finish-by day (suc g) c q r days true is hc hq hr most three last whole =
    let year : ℕ = 400 * g + 100 * c + 4 * q + r in
    let test = march-test days true is in
    let few = march-days days test in
    let same : year ≡ 400 * suc g + 100 * c + 4 * q + r - 400 = omega arith in
    let right = rw is at (is-right (is_leap year) days most (λ e. absurd (omega (arith, e, few)))) in
    rw is (subst (λ y. Names (record { year = y; month = months_from_march days + 3; day = day_of days }) day) same
    (early day g c q r days (months_from_march days + 3) (day_of days) hc hq hr test whole right))
finish-by day zero c q r days false is hc hq hr most three last whole =
    let test = march-test days false is in
    let same : 0 ≡ 400 * zero + 100 * c + 4 * q + r - 399 = omega (arith, hc, hq, hr) in
    let right = rw is at (is-right true days most (λ e. refl)) in
    rw is (subst (λ y. Names (record { year = y; month = months_from_march days - 9; day = day_of days }) day) same
    (first-year day c q r days (months_from_march days - 9) (day_of days) hc hq hr test (omega (arith, whole)) most
    right))
finish-by day (suc g) c q r days false is hc hq hr most three last whole =
    let year : ℕ = suc (400 * g + 100 * c + 4 * q + r) in
    let test = march-test days false is in
    let same : year ≡ 400 * suc g + 100 * c + 4 * q + r - 399 = omega arith in
    let right = rw is at (is-right (is_leap year) days most (λ e. late-leap g c q r (three e) hq (last e))) in
    rw is (subst (λ y. Names (record { year = y; month = months_from_march days - 9; day = day_of days }) day) same
    (late day g c q r days (months_from_march days - 9) (day_of days) hc hq hr test whole right))

finish : (day : ℕ) (it : Cycles) → IsCounted (day + 146037) it → Names (date_by it) day
finish day it counted =
    finish-by day it.four_centuries it.centuries it.four_years it.years it.days _ refl counted.centuries
    counted.four_years counted.years counted.days counted.last_year counted.last_century counted.whole

pub dates-of-days : (day : ℕ) → IsDate (date_of day) × (day_number (date_of day) ≡ day)
dates-of-days day = finish day (cycles_of (day + 146037)) (cycles-counted (day + 146037))
