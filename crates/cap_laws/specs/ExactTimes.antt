-- The text of a time, as lines of text have it, is read back.
use Rattle.std.specs.Prelude.{◌≡◌, ◌<◌, ◌^◌, nat_abs, Option, Some, None, ⊤}
use Rattle.cap_print.specs.Times.{time_text}
use Rattle.cap_time.specs.Time.{Printed}

-- the numbers of a time, if there is one, have up to 64 digits
abbrev pub TimeFits : Option Printed → Type 0
TimeFits None = ⊤
TimeFits (Some time) =
    (nat_abs time.seconds < 10 ^ 64) × (time.numerator < 10 ^ 64) × (time.denominator < 10 ^ 64)

-- No two times have one text: seconds, numerator and denominator are said; nor has a time the text of none.
abbrev pub TimesReadBack : Type 0
TimesReadBack =
    (time other : Option Printed) → TimeFits time → TimeFits other → time_text time ≡ time_text other → time ≡ other
