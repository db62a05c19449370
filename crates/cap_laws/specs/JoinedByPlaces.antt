-- What `join` writes, by places.
use Rattle.std.specs.Prelude.{◌≡◌, ℕ, ◌+◌, List, [], ◌∷◌, ◌++◌, map, Option}
use Rattle.cap_bytes.specs.declared.faults.Refusal.{Refusal}
use Rattle.cap_bytes.specs.declared.numbers.Order.{Order}
use Rattle.cap_class.specs.Taken.{classify, taken}
use Rattle.cap_join.specs.Fragments.{Piece}
use Rattle.cap_join.specs.History.{Event, fragment_key}
use Rattle.cap_join.specs.Joiners.{open_limit}
use Rattle.cap_join.specs.Places.{goes_on, group_by, marks}
use Rattle.cap_merge.specs.Parts.{item_time, is_refusal}
use Rattle.cap_merge.specs.Run.{Clocked, opened_track, run}
use Rattle.cap_source.specs.Feed.{Item, packet, refused}
use Rattle.cap_source.specs.declared.packets.Meta.{Meta}
use Rattle.cap_time.specs.declared.stamps.Stamp.{Stamp}
use Rattle.cap_time.specs.declared.stamps.Unit.{Unit as Fraction}
use Rattle.cap_write.specs.Joined.{Complete, datagram_of, events_here, items_with_datagram, joined_bytes}
use Rattle.cap_write.specs.Joined.{joined_refusal}
use Rattle.cap_write.specs.PcapRun.{joined_pcap_bytes, joined_pcap_refusal, run_bytes, run_refusal}
use Rattle.cap_write.specs.Texts.{merged_bytes, merged_refusal}

-- the fragments of a fragment's group, that one the latest, by what is known of those before it
abbrev pub group_by_places : Option Stamp → List Event → Piece → List Piece
group_by_places clock events p = (group_by clock p (goes_on (fragment_key p) (marks open_limit events))).pieces

-- the datagram that a packet completes, which has that place in the run and that clock
unfoldable pub completed_by_places : ℕ → List Event → Option Stamp → Meta → List ℕ → Option Complete
completed_by_places place events clock meta frame =
    datagram_of (classify place (taken clock meta frame)) (group_by_places clock events)

-- what is to be written of an item of that clock
abbrev pub items_by_places : ℕ → List Event → Option Stamp → Item → List Item
items_by_places place events clock (packet meta frame) =
    items_with_datagram meta frame (completed_by_places place events clock meta frame)
items_by_places place events clock (refused refusal) = refused refusal ∷ []

-- what is to be written of a run, whose first packet has that place in it and comes after those events
unfoldable pub joined_by_places : ℕ → List Event → List (Clocked Item) → List Item
joined_by_places place events [] = []
joined_by_places place events (x ∷ xs) =
    items_by_places place events x.clock x.item ++ joined_by_places (place + 1)
    (events_here place events x.clock x.item) xs

-- what is written for a run, and the refusal that is returned after it
abbrev pub bytes_by_places : Order → List (Clocked Item) → List ℕ
bytes_by_places order run = merged_bytes order (joined_by_places 0 [] run)

abbrev pub refusal_by_places : List (Clocked Item) → Option Refusal
refusal_by_places run = merged_refusal (joined_by_places 0 [] run)

-- the same as pcap, in the unit of time that is asked for, if one is
abbrev pub pcap_by_places : Option Fraction → Order → List (Clocked Item) → List ℕ
pcap_by_places unit order run = run_bytes unit order (joined_by_places 0 [] run)

abbrev pub pcap_refusal_by_places : Option Fraction → List (Clocked Item) → Option Refusal
pcap_refusal_by_places unit run = run_refusal unit (joined_by_places 0 [] run)

-- What is written for a run of files, in either format and in any unit, and the refusal that is returned, are those by
-- places.
pub record WritesByPlaces (order : Order) (run : List (Clocked Item)) : Type 0 where
  pub bytes : joined_bytes order run ≡ bytes_by_places order run
  pub refusal : joined_refusal run ≡ refusal_by_places run
  pub pcap_bytes : (unit : Option Fraction) → joined_pcap_bytes unit order run ≡ pcap_by_places unit order run
  pub pcap_refusal : (unit : Option Fraction) → joined_pcap_refusal unit run ≡ pcap_refusal_by_places unit run

abbrev pub JoinedByPlaces : Type 0
JoinedByPlaces = (order : Order) (files : List (List Item))
    → WritesByPlaces order (run item_time is_refusal (map opened_track files))
