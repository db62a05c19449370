use Rattle.std.proofs.Common.{◌≡◌, [], length}
use Rattle.std.specs.Prelude.{replicate}
use Rattle.cap_talks.specs.counts.Counting.{counted}
use Rattle.cap_talks.proofs.table.totals.new_files.Given as goal

abbrev pub invariant-loop : goal.invariant-loop
invariant-loop l = record {
  made : l.files.items ≡ replicate l.counter (counted []);
  count : length l.files.items ≡ l.counter;
}
