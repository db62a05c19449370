use Rattle.std.proofs.Common.{◌≡◌, ◌+◌, length, map, IsTrue}
use Rattle.std.specs.List.{list_all}
use Rattle.cap_talks.proofs.FileByFile.{AreRead}
use Rattle.cap_talks.proofs.talks.files.count_files.Given as goal

-- the files so far are read
abbrev pub invariant-loop-source : goal.invariant-loop-source
invariant-loop-source g l = record {
  number : l.file ≡ 1 + length l.yielded;
  few : length l.counted.items ≡ length l.yielded;
  read : IsTrue (list_all g.R.Source.tells_coming l.fn.sources.items)
      → AreRead l.tail (map g.R.Source.coming l.fn.sources.items) (length l.yielded) l.counted.items;
}
