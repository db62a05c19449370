use Rattle.std.proofs.Common.{◌≡◌, ◌++◌, length}
use Rattle.cap_tool.specs.DigestLines.{entries_in}
use Rattle.cap_tool.proofs.LinesRead.{read}
use Rattle.cap_tool.proofs.digest_lines.lines_in.Given as goal

-- the lines so far and those of the rest are those of the list
abbrev pub invariant-loop-rest : goal.invariant-loop-rest
invariant-loop-rest l = read l.lines.items ++ entries_in l.rest ≡ entries_in l.list

abbrev pub decreases-loop-rest : goal.decreases-loop-rest
decreases-loop-rest l = length l.rest
