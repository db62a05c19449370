use Rattle.std.proofs.Common.{◌≡◌, ◌≤◌, ◌+◌, length}
use Rattle.cap_commands.specs.Skipping.{kept_number}
use Rattle.cap_commands.proofs.skipping.kept_number.Given as goal

-- the number that is looked for is that of the rest
abbrev pub invariant-loop-refusal : goal.invariant-loop-refusal
invariant-loop-refusal l =
    (kept_number 1 l.fn.refusals l.fn.nth ≡ kept_number l.number l.rest l.left)
    × (l.number + length l.rest ≤ 4294967295)

abbrev pub decreases-loop-refusal : goal.decreases-loop-refusal
decreases-loop-refusal l = length l.rest
