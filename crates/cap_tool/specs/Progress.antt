-- The line that shows how far a run is.
use Rattle.std.specs.Prelude.{ℕ, ◌-◌, ◌*◌, ◌/◌, ◌%◌, List, [], ◌++◌, codes, decimal, nat_lt, ◌||◌, nat_eq, not}
use Rattle.std.specs.Prelude.{if◌then◌else◌, Option, Some, None}

-- a number of bytes, in millions or thousands of millions, rounded down to a tenth
abbrev pub amount_text : ℕ → List ℕ
amount_text bytes =
    if nat_lt bytes 1000000000 then decimal (bytes / 1000000) ++ codes "." ++ decimal (bytes / 100000 % 10)
    ++ codes " MB"
    else decimal (bytes / 1000000000) ++ codes "." ++ decimal (bytes / 100000000 % 10) ++ codes " GB"

-- how many bytes there are, if that is known
abbrev pub of_text : Option ℕ → List ℕ
of_text None = []
of_text (Some total) = codes " of " ++ amount_text total

-- a time in seconds, or in minutes, rounded down
abbrev pub seconds_text : ℕ → List ℕ
seconds_text seconds = if nat_lt seconds 60 then decimal seconds ++ codes " s" else decimal (seconds / 60)
    ++ codes " min"

-- how long the rest will take if it goes on as it went, unless nothing or all was read
abbrev pub left_text : ℕ → Option ℕ → ℕ → List ℕ
left_text read None millis = []
left_text read (Some total) millis =
    if nat_eq read 0 || not (nat_lt read total) then []
    else codes ", " ++ seconds_text ((total - read) * millis / (read * 1000)) ++ codes " left"

-- how far a run is that has read that many bytes, of that many, in that many thousandths of a second
abbrev pub progress_text : ℕ → Option ℕ → ℕ → List ℕ
progress_text read total millis =
    codes "  " ++ amount_text read ++ of_text total ++ codes ", " ++ amount_text (read * 1000 / millis)
    ++ codes " a second"
    ++ left_text read total millis
