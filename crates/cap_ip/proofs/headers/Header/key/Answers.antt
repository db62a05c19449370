use Rattle.std.proofs.Common.{rules}
use Rattle.cap_ip.proofs.headers.Header.key.Goals as goal

pub returns : goal.returns
returns c = search rules
