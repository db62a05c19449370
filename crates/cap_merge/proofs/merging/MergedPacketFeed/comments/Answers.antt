use Rattle.std.proofs.Common.{arith}
use Rattle.cap_merge.specs.inner.Sound.{numbered-from}
use Rattle.cap_merge.proofs.Firsts.{ended-file, known-here, has-here, ends-here}
use Rattle.cap_merge.proofs.merging.MergedPacketFeed.comments.Goals as goal

pub overflow_sub-file : goal.overflow_sub-file
overflow_sub-file g c = grind (arith, ended-file, numbered-from)

pub index-requires : goal.index-requires
index-requires g c = grind (arith, ended-file, numbered-from)

pub comments-requires : goal.comments-requires
comments-requires g c = grind (arith, ended-file, numbered-from, known-here, has-here)

pub returns : goal.returns
returns g c = grind (arith, ended-file, numbered-from, ends-here)
