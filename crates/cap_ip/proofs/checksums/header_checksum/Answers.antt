use Rattle.std.proofs.Common.{arith, length-drop}
use Rattle.cap_ip.specs.Checksum.{checksum_of}
use Rattle.cap_ip.proofs.OnesSum.{total-words-from, total-words-end, ones_sum-folds, AllByRecursion-bytes}
use Rattle.cap_ip.proofs.checksums.header_checksum.Goals as goal

pub words-preserved : goal.words-preserved
words-preserved c = grind (arith, total-words-from)

pub returns : goal.returns
unfolding checksum_of
returns c = grind (arith, total-words-end, length-drop, ones_sum-folds, AllByRecursion-bytes)
