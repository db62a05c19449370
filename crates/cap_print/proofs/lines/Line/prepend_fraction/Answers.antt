use Rattle.std.proofs.Common.{◌≡◌, ℕ, sym, ap, ◌∙◌, subst}
use Rattle.cap_print.proofs.Places.{no-point, point-before}
use Rattle.cap_print.proofs.lines.Line.prepend_fraction.Goals as goal

pub returns-then-places-gt0-clause-text : goal.returns-then-places-gt0-clause-text
returns-then-places-gt0-clause-text c =
    rw (c.prepend_text.ensures.text, c.prepend_places.ensures.text, ← c.count_places-places.ensures.value)
    (sym (point-before c.count_places-places.result c.args.numerator c.args.denominator _ c.if-places-gt0.true))

pub returns-else-places-gt0-clause-text : goal.returns-else-places-gt0-clause-text
returns-else-places-gt0-clause-text c =
    rw (← c.count_places-places.ensures.value)
    (sym (no-point c.count_places-places.result c.args.numerator c.args.denominator _ c.if-places-gt0.false))
