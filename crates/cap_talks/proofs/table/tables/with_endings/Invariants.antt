use Rattle.std.proofs.Common.{◌≡◌, ◌+◌, ◌++◌, drop, length, Some, None}
use Rattle.std.specs.Prelude.{if◌then◌else◌}
use Rattle.cap_merge.specs.Parts.{merged_feed}
use Rattle.cap_merge.specs.inner.View.{parts_of}
use Rattle.cap_talks.specs.counts.FileLines.{ended_from}
use Rattle.cap_talks.proofs.table.tables.with_endings.Given as goal

-- what is known of the files so far, and of those that follow, is the whole
abbrev pub invariant-loop-place : goal.invariant-loop-place
invariant-loop-place g l = record {
  made :
      l.counted.items ++ ended_from (if l.done then Some (merged_feed (parts_of l.merged)).endings else None) (l.place
      + 1)
      (drop l.place l.counts)
      ≡ ended_from (if l.done then Some (merged_feed (parts_of l.merged)).endings else None) 1 l.counts;
  count : length l.counted.items ≡ l.place;
}
