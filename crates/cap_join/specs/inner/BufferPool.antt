-- The buffers of closed groups, kept for later ones.
use Rattle.std.specs.Prelude.{ℕ, List, [], ◌∷◌, ◌++◌, ◌&&◌, length, nat_lt, if◌then◌else◌}

-- Their lengths, the one that is taken next last, and how many places there are for them.
pub record SpareState : Type 0 where
  pub lengths : List ℕ
  pub places : ℕ

-- at most as many as groups may be open
abbrev pub spare_limit : ℕ
spare_limit = 1024

-- after a buffer of a length is given back: it is kept unless it is empty or there is no place for it
abbrev pub with_spare : ℕ → SpareState → SpareState
with_spare n s =
    record {
      lengths = if nat_lt 0 n && nat_lt (length s.lengths) s.places then s.lengths ++ n ∷ [] else s.lengths;
      places = s.places;
    }
