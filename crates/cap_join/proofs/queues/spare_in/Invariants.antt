use Rattle.std.proofs.Common.{◌≡◌, ◌≤◌, ◌+◌, ◌*◌, length}
use Rattle.cap_join.specs.Joiners.{spare_in}
use Rattle.cap_join.proofs.queues.spare_in.Given as goal

-- those so far and those of the groups that are left are all
abbrev pub invariant-loop-key : goal.invariant-loop-key
invariant-loop-key l = (l.bytes + spare_in l._key-iterator ≡ spare_in l.groups.entries)
    × (l.bytes + length l._key-iterator * 65520 ≤ length l.groups.entries * 65520)
