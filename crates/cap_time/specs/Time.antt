-- Exact times, as fractions of a second.
use Rattle.std.specs.Prelude.{◌≡◌, ℕ, ◌*◌, ◌-◌, ◌/◌, ◌%◌, ◌<◌, ℤ, pos, negsuc, ◌+ℤ◌, ◌*ℤ◌}
use Rattle.std.specs.Ordering.{int_cmp}
use Rattle.std.specs.declared.cmp.Ordering.{Ordering}
use Rattle.std.specs.declared.cmp.Ordering.TheVariants.{Equal}

-- numerator over denominator, in seconds
pub record Time : Type 0 where
  pub numerator : ℤ
  pub denominator : ℕ

-- the time of a number of units, of which a second has d, counted from the second `offset`
-- (draft-ietf-opsawg-pcapng, 4.2, if_tsresol and if_tsoffset)
unfoldable pub time_at : ℕ → ℕ → ℤ → Time
time_at units d offset = record { numerator = pos units +ℤ offset *ℤ pos d; denominator = d }

-- that many seconds later
unfoldable pub time_plus : Time → ℕ → Time
time_plus t seconds = record { numerator = t.numerator +ℤ pos (seconds * t.denominator); denominator = t.denominator }

-- two times compare as their cross products do
unfoldable pub time_cmp : Time → Time → Ordering
time_cmp a b = int_cmp (a.numerator *ℤ pos b.denominator) (b.numerator *ℤ pos a.denominator)

-- equal cross products are equal times
abbrev pub IsSameTime : Time → Time → Type 0
IsSameTime a b = time_cmp a b ≡ Equal

-- the floor of n / d
unfoldable pub floor_of : ℤ → ℕ → ℤ
floor_of (pos n) d = pos (n / d)
floor_of (negsuc n) d = negsuc (n / d)

-- what n is above d times that floor
unfoldable pub remainder_of : ℤ → ℕ → ℕ
remainder_of (pos n) d = n % d
remainder_of (negsuc n) d = d - 1 - n % d

-- a time as it is printed: the whole seconds, and the rest as a numerator over a denominator
pub record Printed : Type 0 where
  pub seconds : ℤ
  pub numerator : ℕ
  pub denominator : ℕ

abbrev pub printed_form : Time → Printed
printed_form t = record {
  seconds = floor_of t.numerator t.denominator;
  numerator =
      remainder_of t.numerator t.denominator;
  denominator = t.denominator;
}

-- the form of that many seconds later
abbrev pub printed_plus : Printed → ℕ → Printed
printed_plus form seconds = record form { seconds = form.seconds +ℤ pos seconds }

-- the time is s seconds and u whole units, fewer than a second has
pub record IsWholeTime (d : ℕ) (t : Time) (s : ℤ) (u : ℕ) : Type 0 where
  pub below : u < d
  pub same : IsSameTime t (time_at u d s)

-- no two such numbers are the time
abbrev pub IsNeverWhole : ℕ → Time → Type 0
IsNeverWhole d t = (s : ℤ) (u : ℕ) → ¬ (IsWholeTime d t s u)
