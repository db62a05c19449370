-- What a list of items that begins with a packet is refused by.
use Rattle.std.proofs.Common.{◌≡◌, ℕ, List, ◌∷◌, ap}
use Rattle.cap_source.specs.Feed.{Item, packet, refusal_of}
use Rattle.cap_source.specs.declared.packets.Meta.{Meta}

pub refusal-next : (meta : Meta) (frame : List ℕ) (items rest : List Item) → items ≡ packet meta frame ∷ rest
    → refusal_of items ≡ refusal_of rest
unfolding refusal_of
refusal-next meta frame items rest is = ap refusal_of is
