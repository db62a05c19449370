-- What a fraction in lowest terms is.
use Rattle.std.specs.Prelude.{◌<◌}
use Rattle.std.specs.Int.{IsGcd}
use Rattle.cap_digest.specs.Canonical.{in_lowest_terms}
use Rattle.cap_time.specs.Stamp.{printed_of, time_of}
use Rattle.cap_time.specs.Time.{IsSameTime, Printed, time_at}
use Rattle.cap_time.specs.declared.stamps.Stamp.{Stamp}

-- A form of a stamp's time: its numerator is below its denominator, no number but 1 divides both, and it is that time.
pub record IsLowest (stamp : Stamp) (form : Printed) : Type 0 where
  pub below : form.numerator < form.denominator
  pub coprime : IsGcd form.numerator form.denominator 1
  pub same : IsSameTime (time_at form.numerator form.denominator form.seconds) (time_of stamp)

-- Every stamp's form in lowest terms is such a form of its time.
abbrev pub LowestTerms : Type 0
LowestTerms = (stamp : Stamp) → IsLowest stamp (in_lowest_terms (printed_of stamp))
