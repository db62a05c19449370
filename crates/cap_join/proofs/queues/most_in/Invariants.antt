use Rattle.std.proofs.Common.{◌≡◌, ◌≤◌, max}
use Rattle.cap_join.specs.Joiners.{most_bytes}
use Rattle.cap_join.proofs.queues.most_in.Given as goal

-- the greatest so far and that of the groups that are left are the greatest of all
abbrev pub invariant-loop-key : goal.invariant-loop-key
invariant-loop-key l = (max l.most (most_bytes l._key-iterator) ≡ most_bytes l.groups.entries) × (l.most ≤ 65520)
