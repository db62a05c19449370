-- What a joiner keeps, and what it stands for.
use Rattle.std.specs.Prelude.{◌≡◌, ℕ, List, [], ◌∷◌, true, false, ◌+◌, ◌-◌, ◌<◌, ◌≤◌, ◌^◌, length, max}
use Rattle.std.specs.List.{IsDistinct}
use Rattle.std.specs.Map.{keys_of}
use Rattle.cap_ip.specs.declared.headers.Key.{Key}
use Rattle.cap_join.specs.declared.datagrams.Put.{Put}
use Rattle.cap_join.specs.declared.datagrams.Put.TheVariants.{Kept, Joined}
use Rattle.cap_join.specs.Fragments.{Piece}
use Rattle.cap_join.specs.ByteMap.{completes, greatest_end, rounded}
use Rattle.cap_join.specs.inner.Groups.{GroupState, IsGroupOf, IsDatagramOf}
use Rattle.cap_join.specs.History.{Event, OpenGroup, same_key, open_groups_after}

-- a key with its group
abbrev pub Entry : Type 0
Entry = Key × GroupState

-- The groups in the order in which they were opened, the lengths of the spare buffers, the lowest place that a fragment
-- may have now, and how many groups were given up.
pub record JoinerState : Type 0 where
  pub groups : List (Key × GroupState)
  pub spares : List ℕ
  pub next : ℕ
  pub given_up : ℕ

-- how many groups may be open
abbrev pub open_limit : ℕ
open_limit = 1024

-- An entry is an open group.
pub record IsEntryOf (e : Entry) (o : OpenGroup) : Type 0 where
  pub key : e.0 ≡ o.key
  pub clock : e.1.clock ≡ o.clock
  pub place : e.1.place ≡ o.place
  pub group : IsGroupOf e.1 o.pieces

-- The entries are the open groups, one by one.
abbrev pub AreEntriesOf : List Entry → List OpenGroup → Type 0
AreEntriesOf [] [] = Unit {0}
AreEntriesOf [] (o ∷ os) = ⊥
AreEntriesOf (e ∷ es) [] = ⊥
AreEntriesOf (e ∷ es) (o ∷ os) = IsEntryOf e o × AreEntriesOf es os

-- A joiner stands for some events if it keeps the groups that are open after them.
pub record JoinerStandsFor (j : JoinerState) (events : List Event) : Type 0 where
  pub groups : AreEntriesOf j.groups (open_groups_after open_limit events).opens
  pub given_up : j.given_up ≡ (open_groups_after open_limit events).given_up

-- What a fragment's answer says: a datagram exactly if its group completes.
abbrev pub IsAnswer : Put → List Piece → Type 0
IsAnswer Kept ps = completes ps ≡ false
IsAnswer (Joined d) ps = (completes ps ≡ true) × IsDatagramOf d ps

-- the greatest length of the groups' buffers
abbrev pub most_bytes : List Entry → ℕ
most_bytes [] = 0
most_bytes (e ∷ es) = max (length e.1.buffer) (most_bytes es)

-- the bytes of the groups' buffers after the parts that they hold
abbrev pub spare_in : List Entry → ℕ
spare_in [] = 0
spare_in (e ∷ es) = (e.1.room - length e.1.buffer) + spare_in es

-- the greatest length again, of open groups: the greatest end of a group's fragments, rounded up to whole blocks
abbrev pub held_by_groups : List OpenGroup → ℕ
held_by_groups [] = 0
held_by_groups (o ∷ os) = max (rounded (greatest_end o.pieces)) (held_by_groups os)

-- The groups' first fragments have rising places, from one up to another, and no group has more fragments than places.
abbrev pub Rises : ℕ → ℕ → List Entry → Type 0
Rises low high [] = Unit {0}
Rises low high (e ∷ es) = (low ≤ e.1.place) × (e.1.place < high) × (e.1.frames ≤ high) × Rises (e.1.place + 1) high es

-- A table of open groups: one at most of a key, not more than may be open, with rising places.
pub record IsTable (high : ℕ) (es : List Entry) : Type 0 where
  pub unique : IsDistinct same_key (keys_of es)
  pub few : length es ≤ open_limit
  pub rises : Rises 0 high es

-- The groups are a table, and the numbers fit.
pub record IsSoundJoiner (j : JoinerState) : Type 0 where
  pub table : IsTable j.next j.groups
  pub given_up : j.given_up ≤ j.next
  pub next : j.next ≤ 2 ^ 63
