use Rattle.std.proofs.Common.{rules}
use Rattle.cap_print.proofs.Denominators.{million, thousand_million}
use Rattle.cap_print.proofs.lines.Line.prepend_denominator.Goals as goal

pub returns-in-1000000-clause-text : goal.returns-in-1000000-clause-text
returns-in-1000000-clause-text c = search (rules, c.in-1000000.is, million)

pub returns-in-1000000000-clause-text : goal.returns-in-1000000000-clause-text
returns-in-1000000000-clause-text c = search (rules, c.in-1000000000.is, thousand_million)
