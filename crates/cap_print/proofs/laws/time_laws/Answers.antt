use Rattle.cap_print.proofs.Calendar.{dates-of-days}
use Rattle.cap_print.proofs.ReadDates.{utc-reads-back}
use Rattle.cap_print.proofs.ReadDecimals.{decimals-read-back}
use Rattle.cap_print.proofs.laws.time_laws.Goals as goal

pub returns-clause-dates : goal.returns-clause-dates
returns-clause-dates c = dates-of-days

pub returns-clause-decimals : goal.returns-clause-decimals
returns-clause-decimals c = decimals-read-back

pub returns-clause-utc : goal.returns-clause-utc
returns-clause-utc c = utc-reads-back
