use Rattle.std.proofs.Common.{take}
use Rattle.cap_talks.specs.inner.table.Ranked.{AreRanked}
use Rattle.cap_talks.proofs.table.top.rank_all.Given as goal

-- the conversations so far, with their bytes
abbrev pub invariant-loop-place : goal.invariant-loop-place
invariant-loop-place l = AreRanked l.talks.rows l.ranked.items (take l.place l.talks.rows)
