-- Times as decimal fractions of a second. Nothing is rounded: every fraction of a power of ten or of two ends.
use Rattle.std.specs.Prelude.{ℕ, zero, suc, ◌+◌, ◌-◌, ◌*◌, ◌/◌, ◌%◌, ◌==◌, ℤ, pos, negsuc, List, [], ◌∷◌, ◌++◌, codes}
use Rattle.std.specs.Prelude.{decimal, if◌then◌else◌}
use Rattle.cap_time.specs.Time.{Printed}

-- how many places long division still writes, at most `most`, until nothing is left of a fraction, if `left` over
-- `denominator` is left of it now
unfoldable pub places_until : ℕ → ℕ → ℕ → ℕ
places_until zero left denominator = 0
places_until (suc most) left denominator =
    if left == 0 then 0 else 1 + places_until most (left * 10 % denominator) denominator

-- with how many decimal places every fraction of that denominator ends: e for 10^e, f for 2^f; 63 if it doesn't end
abbrev pub decimal_places : ℕ → ℕ
decimal_places denominator = places_until 63 (1 % denominator) denominator

-- the first decimal places of a fraction below 1, as many as that, by long division; 48 is the digit 0
unfoldable pub place_digits : ℕ → ℕ → ℕ → List ℕ
place_digits zero numerator denominator = []
place_digits (suc more) numerator denominator =
    (48 + numerator * 10 / denominator) ∷ place_digits more (numerator * 10 % denominator) denominator

-- the places of a fraction after a point, or nothing if there are none
abbrev pub after_point : List ℕ → List ℕ
after_point [] = []
after_point (digit ∷ digits) = codes "." ++ (digit ∷ digits)

-- a fraction of a second, below 1, with all its places
abbrev pub fraction_text : ℕ → ℕ → List ℕ
fraction_text numerator denominator = after_point (place_digits (decimal_places denominator) numerator denominator)

-- whole seconds and a fraction of a second
abbrev pub seconds_text : ℕ → ℕ → ℕ → List ℕ
seconds_text whole numerator denominator = decimal whole ++ fraction_text numerator denominator

-- a time before second 0, by its seconds -1 - `before` and the fraction after these: a minus sign, and how long before
abbrev pub before_text : ℕ → ℕ → ℕ → List ℕ
before_text before zero denominator = codes "-" ++ seconds_text (before + 1) 0 denominator
before_text before (suc numerator) denominator =
    codes "-" ++ seconds_text before (denominator - suc numerator) denominator

-- seconds and the fraction after them, as a decimal fraction
abbrev pub signed_text : ℤ → ℕ → ℕ → List ℕ
signed_text (pos whole) numerator denominator = seconds_text whole numerator denominator
signed_text (negsuc before) numerator denominator = before_text before numerator denominator

-- a time as a decimal fraction of a second
abbrev pub decimal_text : Printed → List ℕ
decimal_text time = signed_text time.seconds time.numerator time.denominator
