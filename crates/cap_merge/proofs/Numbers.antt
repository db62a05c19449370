-- The numbers of the files of a merge.
use Rattle.std.proofs.Common.{ℕ, zero, suc, ◌+◌, ◌≤◌, ◌<◌, arith}
use Rattle.std.specs.List.{range_with_len}
use Rattle.std.proofs.lemmas.Bool.{false≢true}
use Rattle.cap_source.specs.Feed.{HasFile}

-- a file that is one of some has a number of theirs
pub numbers-within : (file count n : ℕ) → HasFile (range_with_len file count) n → (file ≤ n) × (n < file + count)
numbers-within file zero n has = absurd (false≢true has)
numbers-within file (suc count) n has = grind (arith, numbers-within (file + 1) count n)
