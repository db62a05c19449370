use Rattle.std.proofs.Common.{rules}
use Rattle.cap_ip.specs.Read.{ended_in_header}
use Rattle.cap_ip.proofs.headers.ended.Goals as goal

pub returns-then-whole : goal.returns-then-whole
unfolding ended_in_header
returns-then-whole c = search rules
