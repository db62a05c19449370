use Rattle.std.proofs.Common.{rules}
use Rattle.cap_time.proofs.resolutions.Resolution.from_code.Goals as goal

pub returns-else-code-most-clause-allowed : goal.returns-else-code-most-clause-allowed
returns-else-code-most-clause-allowed c = search rules
