-- The greatest length of some groups' buffers.
use Rattle.std.proofs.Common.{◌≡◌, List, ◌∷◌, arith}
use Rattle.cap_join.specs.History.{OpenGroup}
use Rattle.cap_join.specs.Joiners.{Entry, AreEntriesOf, most_bytes, held_by_groups}

-- the buffers' lengths are those of their groups' fragments
pub most_bytes-held : (es : List Entry) (os : List OpenGroup) → AreEntriesOf es os → most_bytes es ≡ held_by_groups os
most_bytes-held (e ∷ es) (o ∷ os) h = cc (most_bytes-held es os h.1)
most_bytes-held es os h = grind arith
