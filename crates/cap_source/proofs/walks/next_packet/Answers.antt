use Rattle.std.proofs.Common.{rules}
use Rattle.cap_source.proofs.walks.next_packet.Goals as goal

pub returns-then-branch-clause-answer : goal.returns-then-branch-clause-answer
returns-then-branch-clause-answer g c = search rules

pub returns-then-branch-clause-items : goal.returns-then-branch-clause-items
returns-then-branch-clause-items g c = search rules
