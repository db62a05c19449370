-- What `check` counts of a capture, by the places of its packets.
use Rattle.std.specs.Prelude.{◌≡◌, ℕ, List, [], ◌∷◌, ◌++◌, map, Bool, Option, is_none}
use Rattle.std.specs.List.{count_by, list_any}
use Rattle.cap_source.specs.Feed.{Item}
use Rattle.cap_source.specs.Times.{meta_time}
use Rattle.cap_source.specs.declared.packets.Meta.{Meta}
use Rattle.cap_time.specs.Clock.{is_backward}
use Rattle.cap_time.specs.declared.stamps.Stamp.{Stamp}
use Rattle.cap_check.specs.Checking.{checked_after, nothing_checked}
use Rattle.cap_check.specs.declared.checked.Checked.{Checked}
use Rattle.cap_talks.specs.counts.Counting.{counted, packets_of}

-- Some times, each with the times before it: those of the list, after some others.
unfoldable pub with_earlier : List (Option Stamp) → List (Option Stamp) → List (List (Option Stamp) × Option Stamp)
with_earlier others [] = []
with_earlier others (time ∷ times) = (others, time) ∷ with_earlier (others ++ time ∷ []) times

-- a packet goes backward: it has a time, and one of the times before it is later
abbrev pub goes_backward : List (Option Stamp) × Option Stamp → Bool
goes_backward placed = list_any (λ earlier. is_backward earlier placed.1) placed.0

-- how many of some packets do
abbrev pub backward_packets : List Meta → ℕ
backward_packets metas = count_by goes_backward (with_earlier [] (map (λ meta. meta_time meta) metas))

-- What is counted of some packets: as many packets and bytes, the same least and greatest time, and as many truncated
-- packets, as `info` counts; those that go backward; and those without a time.
pub record CountsOf (metas : List Meta) (counts : Checked) : Type 0 where
  pub packets : counts.packets ≡ (counted metas).packets
  pub bytes : counts.bytes ≡ (counted metas).bytes
  pub first : counts.first ≡ (counted metas).first
  pub last : counts.last ≡ (counted metas).last
  pub truncated : counts.truncated ≡ (counted metas).truncated
  pub backward : counts.backward ≡ backward_packets metas
  pub untimed : counts.untimed ≡ count_by (λ meta. is_none (meta_time meta)) metas

-- `check` counts these of the packets of a capture before its end or its refusal.
abbrev pub CheckedByPlaces : Type 0
CheckedByPlaces = (items : List Item) → CountsOf (packets_of items) (checked_after nothing_checked items)
