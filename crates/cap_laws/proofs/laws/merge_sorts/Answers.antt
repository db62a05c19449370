use Rattle.cap_laws.proofs.MergeSorts.{merge-sorts, run-sorts, sorts-once}
use Rattle.cap_laws.proofs.laws.merge_sorts.Goals as goal

pub returns : goal.returns
returns c = record {
  run = run-sorts;
  once = sorts-once;
  written = merge-sorts c.merged_again.ensures.files;
}
