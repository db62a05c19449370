use Rattle.std.proofs.Common.{◌≡◌, ◌+◌, drop}
use Rattle.cap_commands.specs.DiffText.{first_difference}
use Rattle.cap_commands.proofs.diff.first_difference.Given as goal

-- up to the place both are the same
abbrev pub invariant-loop-place : goal.invariant-loop-place
invariant-loop-place l =
    first_difference l.fn.first l.fn.second
    ≡ l.place + first_difference (drop l.place l.first) (drop l.place l.second)
