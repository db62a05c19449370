-- Times as dates and times of day in UTC (RFC 3339), in the Gregorian calendar, which counts no leap seconds. Days and
-- seconds count from the beginning of the year 0000.
use Rattle.std.specs.Prelude.{ℕ, zero, suc, ◌+◌, ◌-◌, ◌*◌, ◌/◌, ◌%◌, ℤ, pos, negsuc, ◌+ℤ◌, Bool, List, [], ◌∷◌, ◌++◌}
use Rattle.std.specs.Prelude.{Option, Some, None, codes, if◌then◌else◌, nat_lt, min}
use Rattle.cap_time.specs.Time.{Printed}
use Rattle.cap_print.specs.declared.dates.Cycles.{Cycles}
use Rattle.cap_print.specs.declared.dates.Date.{Date}
use Rattle.cap_print.specs.Decimals.{decimal_text, fraction_text}

-- the cycles of a day that counts from the beginning of a cycle of 4 years, of a century, or of a cycle of 400 years
abbrev pub year_cycles : ℕ → ℕ → ℕ → ℕ → Cycles
year_cycles four_centuries centuries four_years day = record {
  four_centuries = four_centuries;
  centuries = centuries;
  four_years = four_years;
  years = min (day / 365) 3;
  days = day - 365 * min (day / 365) 3;
}

abbrev pub century_cycles : ℕ → ℕ → ℕ → Cycles
century_cycles four_centuries centuries day = year_cycles four_centuries centuries (day / 1461) (day % 1461)

abbrev pub four_century_cycles : ℕ → ℕ → Cycles
four_century_cycles four_centuries day =
    century_cycles four_centuries (min (day / 36524) 3) (day - 36524 * min (day / 36524) 3)

-- the cycles of a day that counts from 1 March of the year -400
abbrev pub cycles_of : ℕ → Cycles
cycles_of day = four_century_cycles (day / 146097) (day % 146097)

-- the year of the calendar in which such a year begins, plus 400
abbrev pub march_year : Cycles → ℕ
march_year it = 400 * it.four_centuries + 100 * it.centuries + 4 * it.four_years + it.years

-- the months from March on before a day of such a year: five months have 153 days
abbrev pub months_from_march : ℕ → ℕ
months_from_march days = (5 * days + 2) / 153

-- the date by such a year, the months before it and the day of the month
abbrev pub date_in : ℕ → ℕ → ℕ → Date
date_in year months day =
    if nat_lt months 10 then record { year = year - 400; month = months + 3; day = day }
    else record { year = year - 399; month = months - 9; day = day }

abbrev pub date_by : Cycles → Date
date_by it =
    date_in (march_year it) (months_from_march it.days)
    (it.days - (153 * months_from_march it.days + 2) / 5 + 1)

-- the date of a day; 146,037 days lead from 1 March of the year -400 to 1 January 0000
abbrev pub date_of : ℕ → Date
date_of day = date_by (cycles_of (day + 146037))

-- two and four decimal digits; 48 is the digit 0
abbrev pub two_digits : ℕ → List ℕ
two_digits n = (48 + n / 10) ∷ (48 + n % 10) ∷ []

abbrev pub four_digits : ℕ → List ℕ
four_digits n = two_digits (n / 100) ++ two_digits (n % 100)

-- a date as `1970-01-01`
abbrev pub date_text : Date → List ℕ
date_text date = four_digits date.year ++ codes "-" ++ two_digits date.month ++ codes "-" ++ two_digits date.day

-- seconds of a day as `T00:00:02`
abbrev pub clock_text : ℕ → List ℕ
clock_text seconds =
    codes "T" ++ two_digits (seconds / 3600) ++ codes ":" ++ two_digits (seconds / 60 % 60) ++ codes ":"
    ++ two_digits (seconds % 60)

-- seconds from the beginning of the year 0000 and a fraction of a second, in UTC
abbrev pub utc_seconds_text : ℕ → ℕ → ℕ → List ℕ
utc_seconds_text seconds numerator denominator =
    date_text (date_of (seconds / 86400)) ++ clock_text (seconds % 86400) ++ fraction_text numerator denominator
    ++ codes "Z"

-- Seconds from the beginning of the year 0000, if they are of the years 0000 to 9999: these years have 315,569,520,000
-- seconds.
abbrev pub within_calendar : ℤ → Option ℕ
within_calendar (pos seconds) = if nat_lt seconds 315569520000 then Some seconds else None
within_calendar (negsuc before) = None

-- the same by seconds from second 0, the beginning of the year 1970, which is 62,167,219,200 seconds later
abbrev pub calendar_seconds : ℤ → Option ℕ
calendar_seconds seconds = within_calendar (seconds +ℤ pos 62167219200)

-- a time in UTC, or as a decimal fraction if it isn't in the years 0000 to 9999
abbrev pub utc_text_by : Option ℕ → Printed → List ℕ
utc_text_by None time = decimal_text time
utc_text_by (Some seconds) time = utc_seconds_text seconds time.numerator time.denominator

abbrev pub utc_text : Printed → List ℕ
utc_text time = utc_text_by (calendar_seconds time.seconds) time
