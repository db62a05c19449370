-- The Gregorian calendar, by its leap years and the lengths of its months: the day that a date names.
use Rattle.std.specs.Prelude.{ℕ, zero, suc, ◌+◌, ◌-◌, ◌≤◌, ◌%◌, ◌==◌, ◌&&◌, ◌||◌, Bool, not, List, [], ◌∷◌, sum, take}
use Rattle.std.specs.Prelude.{get_or, if◌then◌else◌}
use Rattle.cap_print.specs.declared.dates.Date.{Date}

-- whether a year is a leap year: each fourth is, but of those each hundredth is only if it is a fourth of these
abbrev pub is_leap : ℕ → Bool
is_leap year = (year % 4 == 0) && not (year % 100 == 0) || (year % 400 == 0)

-- the days of a year
abbrev pub days_of_year : ℕ → ℕ
days_of_year year = if is_leap year then 366 else 365

-- the days of each month, from January on, of a leap year or another
abbrev pub month_lengths : Bool → List ℕ
month_lengths leap =
    31 ∷ (if leap then 29 else 28) ∷ 31 ∷ 30 ∷ 31 ∷ 30 ∷ 31 ∷ 31 ∷ 30 ∷ 31 ∷ 30 ∷ 31 ∷ []

-- the days from the beginning of the year 0000 to that of a year
unfoldable pub days_before_year : ℕ → ℕ
days_before_year zero = 0
days_before_year (suc year) = days_before_year year + days_of_year year

-- the days from the beginning of a year to that of a month
abbrev pub days_before_month : Bool → ℕ → ℕ
days_before_month leap month = sum (take (month - 1) (month_lengths leap))

-- the days from the beginning of the year 0000 to a date
abbrev pub day_number : Date → ℕ
day_number date =
    days_before_year date.year + days_before_month (is_leap date.year) date.month + (date.day - 1)

-- There is such a date.
pub record IsDate (date : Date) : Type 0 where
  pub first_month : 1 ≤ date.month
  pub last_month : date.month ≤ 12
  pub first_day : 1 ≤ date.day
  pub last_day : date.day ≤ get_or (month_lengths (is_leap date.year)) (date.month - 1) 0
