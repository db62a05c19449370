-- How the texts of times are read, and that what is printed is read back.
use Rattle.std.specs.Prelude.{◌≡◌, ◌==◌, ℕ, ◌+◌, ◌*◌, ◌<◌, ◌^◌, ℤ, pos, neg_ℤ, ◌+ℤ◌, nat_abs, List, [], ◌∷◌, length}
use Rattle.std.specs.Prelude.{if◌then◌else◌, slice_range}
use Rattle.std.specs.List.{list_any}
use Rattle.std.specs.Str.Parse.{digits_value}
use Rattle.cap_time.specs.Resolution.{units_of}
use Rattle.cap_time.specs.Time.{IsSameTime, Printed, Time, time_at}
use Rattle.cap_time.specs.declared.resolutions.Resolution.{Resolution}
use Rattle.cap_print.specs.Calendar.{IsDate, day_number}
use Rattle.cap_print.specs.Dates.{date_of, utc_text}
use Rattle.cap_print.specs.Decimals.{decimal_text}
use Rattle.cap_print.specs.declared.dates.Date.{Date}

-- what is before the first of a character in a text, which is all of it if there is none; and what is behind that
abbrev pub before_first : ℕ → List ℕ → List ℕ
before_first code [] = []
before_first code (c ∷ rest) = if c == code then [] else c ∷ before_first code rest

abbrev pub behind_first : ℕ → List ℕ → List ℕ
behind_first code [] = []
behind_first code (c ∷ rest) = if c == code then rest else behind_first code rest

-- the time of whole seconds and the decimal digits after a point
abbrev pub pointed_time : ℤ → List ℕ → Time
pointed_time seconds digits = time_at (digits_value 10 digits) (10 ^ length digits) seconds

-- the time that a decimal fraction says, with a point (46) or without one
abbrev pub fraction_time : List ℕ → Time
fraction_time text = pointed_time (pos (digits_value 10 (before_first 46 text))) (behind_first 46 text)

-- as long before second 0 as a time is after it
abbrev pub negated_time : Time → Time
negated_time time = record { numerator = neg_ℤ time.numerator; denominator = time.denominator }

-- the same with a minus sign (45) or without one
abbrev pub decimal_time : List ℕ → Time
decimal_time [] = fraction_time []
decimal_time (c ∷ rest) = if c == 45 then negated_time (fraction_time rest) else fraction_time (c ∷ rest)

-- the number that the characters of a text from one place to another are
abbrev pub number_at : List ℕ → ℕ → ℕ → ℕ
number_at text from to = digits_value 10 (slice_range text from to)

-- the seconds from the beginning of the year 0000 to a date and a time of day as `1970-01-01T00:00:02`
abbrev pub clock_seconds : List ℕ → ℕ
clock_seconds text =
    86400 * day_number (record {
      year = number_at text 0 4;
      month = number_at text 5 7;
      day = number_at text 8 10;
    })
    + (3600 * number_at text 11 13 + 60 * number_at text 14 16 + number_at text 17 19)

-- the time that a date and a time of day say, with decimal digits between a point and a Z (90) or none; the year 1970
-- begins 62,167,219,200 seconds after the year 0000
abbrev pub date_time : List ℕ → Time
date_time text =
    pointed_time (pos (clock_seconds text) +ℤ neg_ℤ (pos 62167219200)) (before_first 90 (behind_first 46 text))

-- the time that a text says: one with a T (84) has a date
abbrev pub read_time : List ℕ → Time
read_time text = if list_any (λ c. c == 84) text then date_time text else decimal_time text

-- A time is counted in units of an interface, and its seconds have up to 64 digits.
pub record IsCounted (time : Printed) : Type 0 where
  pub resolution : Resolution
  pub units : time.denominator ≡ units_of resolution
  pub below : time.numerator < time.denominator
  pub digits : nat_abs time.seconds < 10 ^ 64

-- the time itself
abbrev pub exact_time : Printed → Time
exact_time time = time_at time.numerator time.denominator time.seconds

-- Each day has a date of the calendar, and it is the day that this date names.
abbrev pub DatesOfDays : Type 0
DatesOfDays = (day : ℕ) → IsDate (date_of day) × (day_number (date_of day) ≡ day)

-- What is printed of a time says that time: nothing is rounded. So no two times have one text.
abbrev pub DecimalsReadBack : Type 0
DecimalsReadBack = (time : Printed) → IsCounted time → IsSameTime (read_time (decimal_text time)) (exact_time time)

abbrev pub UtcReadsBack : Type 0
UtcReadsBack = (time : Printed) → IsCounted time → IsSameTime (read_time (utc_text time)) (exact_time time)
