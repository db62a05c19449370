use Rattle.std.proofs.Common.{length, arith}
use Rattle.cap_talks.proofs.TableLines.{is-numbered}
use Rattle.cap_talks.proofs.table.tables.with_endings.Goals as goal

pub ending_of-requires-clause-file : goal.ending_of-requires-clause-file
ending_of-requires-clause-file g c =
    grind (
      arith,
      c.requires.numbered,
      is-numbered 1
          (length c.args.counts.now) c.loop-place.place c.loop-place-test.true,
    )
