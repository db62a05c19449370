-- The groups of fragments by places: which fragment goes on from which, and what was given up. It is the definition
-- that one reads aloud; `History.antt` has the form that goes step by step. Lists have the latest first (RFC 791, 3.2).
-- For example, a1, b1, a2 and b2 arrive at the places 0 to 3; a1 and a2 are the two fragments of one datagram, b1 and
-- b2 are two of the three fragments of another. If two groups may be open, a1 and b1 begin the groups 0 and 1, a2 goes
-- on in group 0 and completes it, and b2 goes on in group 1. If one group may be open, b1 begins group 1, at which
-- group 0 is given up; so a2 has no group to go on in, and begins group 2, at which group 1 is given up; and b2 begins
-- group 3, at which group 2 is given up. A whole datagram with the key of b1 and b2 that arrives between them ends
-- group 1, and b2 begins group 3.
use Rattle.std.specs.Prelude.{◌≡◌, ℕ, List, [], ◌∷◌, ◌++◌, false, ◌<◌, Option, None, Some, ◌+◌, ◌≤◌, ◌==◌, ◌&&◌, not}
use Rattle.std.specs.Prelude.{length, nat_le, nat_lt, if◌then◌else◌}
use Rattle.std.specs.List.{find, list_all}
use Rattle.cap_time.specs.declared.stamps.Stamp.{Stamp}
use Rattle.cap_ip.specs.declared.headers.Key.{Key}
use Rattle.cap_join.specs.Fragments.{Piece}
use Rattle.cap_join.specs.ByteMap.{completes}
use Rattle.cap_join.specs.Frames.{is_before, is_too_old}
use Rattle.cap_join.specs.History.{Event, arrives, flushes, OpenGroup, same_key, fragment_key, group_opened_by}
use Rattle.cap_join.specs.History.{with_piece, live_at}
use Rattle.cap_join.specs.History.{open_groups_after, joined_pieces}

-- What is known at an event. Of a fragment: its place; its group, which is all fragments up to it with the same first
-- one, that one's clock and place; and the place that names the group which was given up there, if one was.
pub data Mark : Type 0 where
  fragment : ℕ → OpenGroup → Option ℕ → Mark
  whole : Key → Mark

-- unless a group of that place was given up
abbrev pub unless_given : Option ℕ → Option OpenGroup → Option OpenGroup
unless_given None group = group
unless_given (Some place) None = None
unless_given (Some place) (Some group) = if group.place == place then None else Some group

-- The group that goes on for a key: that of the fragment before with the key, unless it completes there, or a whole
-- datagram of the key came since, or the group was given up since.
abbrev pub goes_on : Key → List Mark → Option OpenGroup
goes_on key [] = None
goes_on key (whole k ∷ ms) = if same_key key k then None else goes_on key ms
goes_on key (fragment own group gave ∷ ms) =
    if same_key key group.key then (if completes group.pieces then None else Some group) else unless_given gave
    (goes_on key ms)

-- A fragment's group: the one that goes on, unless the clock of its first fragment and 30 seconds are before the
-- fragment's; else the fragment is its own first.
abbrev pub group_by : Option Stamp → Piece → Option OpenGroup → OpenGroup
group_by clock p None = group_opened_by clock p
group_by clock p (Some group) = if is_too_old group.clock clock then group_opened_by clock p else with_piece p group

-- the group that goes on, if its first fragment is the one at a place
abbrev pub first_at : ℕ → Option OpenGroup → List OpenGroup
first_at own None = []
first_at own (Some group) = if group.place == own then group ∷ [] else []

-- the groups that go on, by the places of their first fragments
abbrev pub going_on : List Mark → List Mark → List OpenGroup
going_on all [] = []
going_on all (whole k ∷ ms) = going_on all ms
going_on all (fragment own group gave ∷ ms) = going_on all ms
    ++ (if group.place == own then first_at own (goes_on group.key all) else [])

-- the groups that are open before a fragment at a clock: those that go on and aren't too old
abbrev pub open_before : Option Stamp → List Mark → List OpenGroup
open_before clock ms = live_at clock (going_on ms ms)

-- the place of the group whose first fragment has the lowest
abbrev pub place_in : Option OpenGroup → Option ℕ
place_in None = None
place_in (Some group) = Some group.place

abbrev pub lowest : List OpenGroup → Option ℕ
lowest os = place_in (find (λ o. list_all (λ q. nat_le o.place q.place) os) os)

-- the place of the group that is given up at a fragment: at one that is its own first, if as many groups are open as
-- may be
abbrev pub given_up_at : ℕ → ℕ → OpenGroup → List OpenGroup → Option ℕ
given_up_at limit own group os = if (group.place == own) && not (nat_lt (length os) limit) then lowest os else None

-- what is known at a fragment, from what is known before it
abbrev pub mark_of : ℕ → Option Stamp → Piece → List Mark → Mark
mark_of limit clock p ms =
    fragment p.stamped.place (group_by clock p (goes_on (fragment_key p) ms))
    (given_up_at limit p.stamped.place (group_by clock p (goes_on (fragment_key p) ms)) (open_before clock ms))

-- what is known at each of some events
abbrev pub marks : ℕ → List Event → List Mark
marks limit [] = []
marks limit (arrives clock p ∷ es) = mark_of limit clock p (marks limit es) ∷ marks limit es
marks limit (flushes key ∷ es) = whole key ∷ marks limit es

abbrev pub one_if : Option ℕ → ℕ
one_if None = 0
one_if (Some place) = 1

-- how many groups were given up
abbrev pub times_given_up : List Mark → ℕ
times_given_up [] = 0
times_given_up (whole key ∷ ms) = times_given_up ms
times_given_up (fragment own group gave ∷ ms) = times_given_up ms + one_if gave

-- the clock of the latest fragment
abbrev pub latest_clock : List Event → Option Stamp
latest_clock [] = None
latest_clock (arrives clock p ∷ es) = clock
latest_clock (flushes key ∷ es) = latest_clock es

-- the lowest place that a fragment may have
abbrev pub next_place : List Event → ℕ
next_place [] = 0
next_place (arrives clock p ∷ es) = p.stamped.place + 1
next_place (flushes key ∷ es) = next_place es

-- Clocks never fall and places rise; and no fragment is a whole datagram by itself.
abbrev pub AreInOrder : List Event → Type 0
AreInOrder [] = Unit {0}
AreInOrder (arrives clock p ∷ es) =
    (is_before clock (latest_clock es) ≡ false) × (next_place es ≤ p.stamped.place) × (completes (p ∷ []) ≡ false)
    × AreInOrder es
AreInOrder (flushes key ∷ es) = AreInOrder es

-- After events in order the step form gives each fragment the group that it has by places, and gives up as many groups.
pub record Agree (limit : ℕ) (es : List Event) : Type 0 where
  pub groups : (clock : Option Stamp) (p : Piece) → is_before clock (latest_clock es) ≡ false
      → joined_pieces clock p (open_groups_after limit es)
      ≡ (group_by clock p (goes_on (fragment_key p) (marks limit es))).pieces
  pub given_up : (open_groups_after limit es).given_up ≡ times_given_up (marks limit es)
  pub opens : (now : Option Stamp) → is_before now (latest_clock es) ≡ false
      → live_at now (open_groups_after limit es).opens ≡ open_before now (marks limit es)

abbrev pub PlacesLaw : Type 0
PlacesLaw = (limit : ℕ) (es : List Event) → 0 < limit → AreInOrder es → Agree limit es
