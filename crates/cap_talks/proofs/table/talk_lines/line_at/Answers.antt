use Rattle.std.proofs.Common.{rules}
use Rattle.cap_talks.proofs.table.talk_lines.line_at.Goals as goal

pub returns : goal.returns
returns c = search rules
