use Rattle.std.proofs.Common.{sym}
use Rattle.cap_talks.proofs.Packing.{at-wide}
use Rattle.cap_talks.proofs.table.keys.PackedKey.unpacked.Goals as goal

pub unpacked-requires : goal.unpacked-requires
unpacked-requires c =
    at-wide c.args.known.now.keys c.args.self.greater c.in-Some.key.now c.requires.known (sym c.in-Some.ensures.key)
