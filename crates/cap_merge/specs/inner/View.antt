-- What contracts see of a `Merged`.
use Rattle.std.specs.Prelude.{ℕ, Bool, List, map}
use Rattle.cap_merge.specs.declared.merging.Merged.{Merged}
use Rattle.cap_merge.specs.Parts.{Part, parts}

-- its feeds, each with what is known of it
abbrev pub parts_of : {F : Type 0} {g : _} → Merged F g → List Part
parts_of {F} {g} m = parts m.lanes.items (map g.feed m.feeds.items)

-- how many of the packets that were passed run backward, as far as they were counted
abbrev pub backward_of : {F : Type 0} {g : _} → Merged F g → ℕ
backward_of m = m.backward

-- whether they are counted
abbrev pub counts_backward : {F : Type 0} {g : _} → Merged F g → Bool
counts_backward m = m.counts
