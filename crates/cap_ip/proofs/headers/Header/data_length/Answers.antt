use Rattle.std.proofs.Common.{rules}
use Rattle.cap_ip.proofs.headers.Header.data_length.Goals as goal

pub returns-clause-value : goal.returns-clause-value
returns-clause-value c = search rules
