-- Times as they are printed: in the form of their own interface, which is seconds, numerator, denominator, or in one of
-- two forms that are a single word.
use Rattle.std.specs.Prelude.{List, ℕ, ◌++◌, codes, decimal, Option, Some, None}
use Rattle.std.specs.Fmt.{signed_decimal}
use Rattle.cap_time.specs.Time.{Printed}
use Rattle.cap_print.specs.Dates.{utc_text}
use Rattle.cap_print.specs.Decimals.{decimal_text}
use Rattle.cap_print.specs.declared.forms.TimeForm.{TimeForm}
use Rattle.cap_print.specs.declared.forms.TimeForm.TheVariants.{Decimal, Exact, Utc}

-- a time in text as its three numbers, `-` if there is none
abbrev pub time_text : Option Printed → List ℕ
time_text None = codes "-"
time_text (Some time) = signed_decimal time.seconds ++ codes "+" ++ decimal time.numerator ++ codes "/"
    ++ decimal time.denominator

-- a time in JSON (RFC 8259), an array of its three numbers, or `null`
abbrev pub time_json : Option Printed → List ℕ
time_json None = codes "null"
time_json (Some time) = codes "[" ++ signed_decimal time.seconds ++ codes "," ++ decimal time.numerator ++ codes ","
    ++ decimal time.denominator ++ codes "]"

-- a time in text in a form
abbrev pub time_text_in : TimeForm → Option Printed → List ℕ
time_text_in Exact at = time_text at
time_text_in Decimal None = codes "-"
time_text_in Decimal (Some time) = decimal_text time
time_text_in Utc None = codes "-"
time_text_in Utc (Some time) = utc_text time

-- a time in JSON in a form, a string if it is one word
abbrev pub time_json_in : TimeForm → Option Printed → List ℕ
time_json_in Exact at = time_json at
time_json_in Decimal None = codes "null"
time_json_in Decimal (Some time) = codes "\"" ++ decimal_text time ++ codes "\""
time_json_in Utc None = codes "null"
time_json_in Utc (Some time) = codes "\"" ++ utc_text time ++ codes "\""
