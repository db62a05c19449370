use Rattle.std.proofs.Common.{rules}
use Rattle.cap_talks.proofs.counts.file_lines.file_line.Goals as goal

pub returns-in-Some : goal.returns-in-Some
returns-in-Some c = search rules
