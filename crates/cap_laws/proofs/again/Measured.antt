-- Packets that have as many captured bytes as are told are numbered the same when they are read again.
use Rattle.std.proofs.Common.{arith, ◌≡◌, List, ◌∷◌}
use Rattle.std.specs.List.{AllByRecursion}
use Rattle.std.specs.Prelude.{map}
use Rattle.cap_source.specs.Feed.{Item, packet}
use Rattle.cap_source.specs.inner.Fields.{HasFrame}
use Rattle.cap_write.specs.Numbering.{Origins, with_origin, numbered}
use Rattle.cap_laws.specs.again.Laws.{measured}

-- a packet with its captured bytes is read again as it was
pub numbered-measured : (origins : Origins) (items : List Item) → AllByRecursion HasFrame items
    → map measured (numbered origins items) ≡ numbered origins items
unfolding numbered
numbered-measured origins (packet meta frame ∷ items) are =
    grind (arith, numbered-measured (with_origin origins meta) items are.1)
numbered-measured origins items are = cc
