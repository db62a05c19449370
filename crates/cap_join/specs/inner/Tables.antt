-- What one step does to the table of open groups.
use Rattle.std.specs.Prelude.{◌≡◌, List, [], ◌∷◌, Bool, false, ◌+◌, not, filter, Option, None, Some}
use Rattle.std.specs.Map.{lookup, set_value}
use Rattle.std.specs.Option.{option_map_or}
use Rattle.cap_ip.specs.declared.headers.Key.{Key}
use Rattle.cap_time.specs.declared.stamps.Stamp.{Stamp}
use Rattle.cap_join.specs.declared.datagrams.Put.{Put}
use Rattle.cap_join.specs.Fragments.{Piece}
use Rattle.cap_join.specs.ByteMap.{completes}
use Rattle.cap_join.specs.Frames.{is_too_old}
use Rattle.cap_join.specs.inner.Groups.{GroupState, IsGroupOf}
use Rattle.cap_join.specs.History.{OpenGroup, same_key, fragment_key, live_at, group_at, pieces_with, opens_with}
use Rattle.cap_join.specs.History.{gives_up_with}
use Rattle.cap_join.specs.Joiners.{Entry, AreEntriesOf, IsAnswer, open_limit}

-- the groups of a table; if none was opened there is none
abbrev pub entries_of : Option (List Entry) → List Entry
entries_of None = []
entries_of (Some es) = es

-- the group of a key
abbrev pub entry_at : Key → List Entry → Option GroupState
entry_at key es = lookup (same_key key) es

-- the entries that aren't too old
abbrev pub live_entries : Option Stamp → List Entry → List Entry
live_entries now es = filter (λ e. not (is_too_old e.1.clock now)) es

-- whether a key has a group that isn't too old
abbrev pub has_live : Key → Option Stamp → List Entry → Bool
has_live key now es = option_map_or (λ s. not (is_too_old s.clock now)) (entry_at key es) false

-- A fragment was put into the group of its key, which is complete or not.
pub record PutsAt (key : Key) (p : Piece) (old : List Entry) (complete : Bool) (new : List Entry) : Type 0 where
  pub before : GroupState
  pub after : GroupState
  pub was : entry_at key old ≡ Some before
  pub now : new ≡ set_value (same_key key) old after
  pub group : (ps : List Piece) → IsGroupOf before ps → IsGroupOf after (p ∷ ps)
  pub clock : after.clock ≡ before.clock
  pub place : after.place ≡ before.place
  pub frames : after.frames ≡ before.frames + 1
  pub done : (ps : List Piece) → IsGroupOf after ps → complete ≡ completes ps

-- What a fragment at a clock makes of the entries that some open groups have: those of the groups after it, the answer,
-- and whether a group was given up.
pub record PutsFragment (clock : Option Stamp) (p : Piece) (os : List OpenGroup) (answer : Put) (gave_up : Bool)
    (new : List Entry) : Type 0 where
  pub groups : AreEntriesOf new (opens_with open_limit clock p (group_at (fragment_key p) (live_at clock os))
      (live_at clock os))
  pub gives_up : gave_up ≡ gives_up_with open_limit p (group_at (fragment_key p) (live_at clock os)) (live_at clock os)
  pub answers : IsAnswer answer (pieces_with p (group_at (fragment_key p) (live_at clock os)))
