use Rattle.std.proofs.Common.{◌≡◌, ℕ, List, ◌++◌, ◌∙◌, sym}
use Rattle.cap_time.specs.Stamp.{printed_of}
use Rattle.cap_print.proofs.UtcParts.{utc-parts}
use Rattle.cap_print.proofs.lines.Line.prepend_utc.Goals as goal

pub returns-in-Some-clause-text : goal.returns-in-Some-clause-text
returns-in-Some-clause-text c =
    utc-parts (printed_of c.args.time) c.in-Some.seconds _ _ _ _ _
    (sym c.in-Some.is ∙ c.calendar_seconds.ensures.value)
    c.prepend_text.ensures.text
    (rw (c.numerator.ensures.value, c.denominator.ensures.value) at c.prepend_fraction.ensures.text)
    c.prepend_clock.ensures.text
    (rw c.date_of.ensures.date at c.prepend_date.ensures.text)
