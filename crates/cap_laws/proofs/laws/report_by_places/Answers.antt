use Rattle.cap_laws.proofs.InOrder.{by-places, ipv6-apart, report-by-places}
use Rattle.cap_laws.proofs.laws.report_by_places.Goals as goal

pub returns-clause-report : goal.returns-clause-report
returns-clause-report c = report-by-places

pub returns-clause-after : goal.returns-clause-after
returns-clause-after c = by-places

pub returns-clause-apart : goal.returns-clause-apart
returns-clause-apart c = ipv6-apart
