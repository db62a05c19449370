-- What a joiner was given, and the groups that are open after it (RFC 791, 3.2). Each list has the latest first, but
-- the open groups, which are listed in the order in which they were opened.
use Rattle.std.specs.Prelude.{ℕ, List, [], ◌∷◌, ◌++◌, Bool, false, Option, None, Some, ◌+◌, ◌==◌, ◌&&◌, not, length}
use Rattle.std.specs.Prelude.{filter, map, nat_le, nat_lt, if◌then◌else◌}
use Rattle.std.specs.List.{find, list_all}
use Rattle.cap_time.specs.declared.stamps.Stamp.{Stamp}
use Rattle.cap_ip.specs.declared.headers.Key.{Key}
use Rattle.cap_join.specs.Fragments.{Piece}
use Rattle.cap_join.specs.ByteMap.{completes}
use Rattle.cap_join.specs.Frames.{is_too_old}

-- a fragment came at a clock, or a whole datagram of a key came
pub data Event : Type 0 where
  arrives : Option Stamp → Piece → Event
  flushes : Key → Event

-- two keys name the same datagram
abbrev pub same_key : Key → Key → Bool
same_key a b =
    (a.source == b.source) && ((a.destination == b.destination)
    && ((a.protocol == b.protocol) && (a.identification == b.identification)))

-- the key of a fragment
abbrev pub fragment_key : Piece → Key
fragment_key p = p.header.key

-- A group that isn't a whole datagram yet: its key, the clock and the place of its first fragment, and its fragments.
pub record OpenGroup : Type 0 where
  pub key : Key
  pub clock : Option Stamp
  pub place : ℕ
  pub pieces : List Piece

-- the group that a fragment opens
abbrev pub group_opened_by : Option Stamp → Piece → OpenGroup
group_opened_by clock p = record { key = fragment_key p; clock = clock; place = p.stamped.place; pieces = p ∷ [] }

-- a group with one more fragment
abbrev pub with_piece : Piece → OpenGroup → OpenGroup
with_piece p o = record { key = o.key; clock = o.clock; place = o.place; pieces = p ∷ o.pieces }

-- the groups that aren't too old at a clock
abbrev pub live_at : Option Stamp → List OpenGroup → List OpenGroup
live_at now os = filter (λ o. not (is_too_old o.clock now)) os

-- the group of a key
abbrev pub group_at : Key → List OpenGroup → Option OpenGroup
group_at key os = find (λ o. same_key key o.key) os

-- the groups of other keys
abbrev pub without : Key → List OpenGroup → List OpenGroup
without key os = filter (λ o. not (same_key key o.key)) os

-- the groups, that of the fragment's key with it
abbrev pub extended : Piece → List OpenGroup → List OpenGroup
extended p os = map (λ o. if same_key (fragment_key p) o.key then with_piece p o else o) os

-- the groups but the one whose first fragment has the lowest place
abbrev pub without_oldest : List OpenGroup → List OpenGroup
without_oldest os = filter (λ o. not (list_all (λ q. nat_le o.place q.place) os)) os

-- the groups, of which one is given up if as many are open as may be
abbrev pub trimmed : ℕ → List OpenGroup → List OpenGroup
trimmed limit os = if nat_lt (length os) limit then os else without_oldest os

-- the fragments of the group that a fragment joins or opens, that one the latest
abbrev pub pieces_with : Piece → Option OpenGroup → List Piece
pieces_with p None = p ∷ []
pieces_with p (Some o) = p ∷ o.pieces

-- the groups after a fragment, if the one that it joins is found among those that aren't too old: a group that
-- completes is none
abbrev pub opens_with : ℕ → Option Stamp → Piece → Option OpenGroup → List OpenGroup → List OpenGroup
opens_with limit clock p None os = if completes (p ∷ []) then os else trimmed limit os ++ group_opened_by clock p ∷ []
opens_with limit clock p (Some o) os = if completes (p ∷ o.pieces) then without (fragment_key p) os else extended p os

-- whether a group is given up for a fragment
abbrev pub gives_up_with : ℕ → Piece → Option OpenGroup → List OpenGroup → Bool
gives_up_with limit p None os = not (completes (p ∷ [])) && not (nat_lt (length os) limit)
gives_up_with limit p (Some o) os = false

-- The open groups, and how many were given up.
pub record OpenState : Type 0 where
  pub opens : List OpenGroup
  pub given_up : ℕ

-- the fragments of the group that a fragment joins or opens, once it came at a clock
unfoldable pub joined_pieces : Option Stamp → Piece → OpenState → List Piece
joined_pieces clock p s = pieces_with p (group_at (fragment_key p) (live_at clock s.opens))

-- what one more event makes of the open groups, of which a number at most may be open
unfoldable pub step : ℕ → Event → OpenState → OpenState
step limit (arrives clock p) s =
    record {
      opens = opens_with limit clock p (group_at (fragment_key p) (live_at clock s.opens)) (live_at clock s.opens);
      given_up = s.given_up + (if gives_up_with limit p (group_at (fragment_key p) (live_at clock s.opens))
          (live_at clock s.opens) then 1 else 0);
    }
step limit (flushes key) s = record { opens = without key s.opens; given_up = s.given_up }

-- the open groups after some events
unfoldable pub open_groups_after : ℕ → List Event → OpenState
open_groups_after limit [] = record { opens = []; given_up = 0 }
open_groups_after limit (e ∷ es) = step limit e (open_groups_after limit es)

-- the fragments of a key's open group after some events, none if it has none
unfoldable pub group_of : ℕ → List Event → Key → Option OpenGroup
group_of limit es key = group_at key (open_groups_after limit es).opens
