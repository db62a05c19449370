use Rattle.std.proofs.Common.{◌≡◌, ◌+◌, ◌≤◌, length, drop}
use Rattle.std.specs.Net.Text.{longest_zero_run, zero_run}
use Rattle.cap_print.proofs.addresses.longest_zero_run.Given as goal

-- what holds of the groups from place i on
abbrev pub invariant-groups : goal.invariant-groups
invariant-groups l =
    (l.run ≡ zero_run (drop l.i l.groups)) × (l.most ≡ (longest_zero_run (drop l.i l.groups)).1)
    × (l.start ≡ l.i + (longest_zero_run (drop l.i l.groups)).0)
    × (l.i + l.run ≤ length l.groups) × (l.start + l.most ≤ length l.groups)
