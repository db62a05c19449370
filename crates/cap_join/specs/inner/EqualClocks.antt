-- Clocks count by the order of times alone: two clocks of one time may differ in form, as 5/10 and 512/1024 of a second
-- do.
use Rattle.std.specs.Prelude.{◌≡◌, ℕ, List, Option}
use Rattle.std.specs.List.{AllZip}
use Rattle.std.specs.Option.{option_cmp}
use Rattle.std.specs.declared.cmp.Ordering.TheVariants.{Equal}
use Rattle.cap_time.specs.declared.stamps.Stamp.{Stamp}
use Rattle.cap_time.specs.Stamp.{stamp_cmp}
use Rattle.cap_join.specs.Completed.{completed_of}
use Rattle.cap_join.specs.Fragments.{Piece}
use Rattle.cap_join.specs.History.{Event, arrives, flushes, joined_pieces, open_groups_after}

-- two clocks are of one time, or both of none
abbrev pub IsSameClock : Option Stamp → Option Stamp → Type 0
IsSameClock clock other = option_cmp stamp_cmp clock other ≡ Equal

-- two events are of one fragment, at clocks of one time, or of one key
abbrev pub IsSameEvent : Event → Event → Type 0
IsSameEvent (arrives clock p) (arrives other q) = IsSameClock clock other × (p ≡ q)
IsSameEvent (arrives clock p) (flushes key) = ⊥
IsSameEvent (flushes key) (arrives clock p) = ⊥
IsSameEvent (flushes key) (flushes other) = key ≡ other

-- Two lists of events completed the same groups and gave up as many, and one more fragment joins the same group.
pub record SameGroups (limit : ℕ) (es fs : List Event) : Type 0 where
  pub completed : completed_of limit es ≡ completed_of limit fs
  pub given_up : (open_groups_after limit es).given_up ≡ (open_groups_after limit fs).given_up
  pub joined : (clock other : Option Stamp) (p : Piece) → IsSameClock clock other
      → joined_pieces clock p (open_groups_after limit es) ≡ joined_pieces other p (open_groups_after limit fs)

-- The same events, one by one, make the same groups.
abbrev pub EqualClocksLaw : Type 0
EqualClocksLaw = (limit : ℕ) (es fs : List Event) → AllZip IsSameEvent es fs → SameGroups limit es fs
