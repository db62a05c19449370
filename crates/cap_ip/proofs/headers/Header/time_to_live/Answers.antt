use Rattle.std.proofs.Common.{rules}
use Rattle.cap_ip.proofs.headers.Header.time_to_live.Goals as goal

pub returns : goal.returns
returns c = search rules
