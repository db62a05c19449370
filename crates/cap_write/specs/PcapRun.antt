-- What is written of a run of packets as one pcap file (draft-ietf-opsawg-pcap, 4 and 5; rules 17 to 21).
use Rattle.std.specs.Prelude.{ℕ, List, [], ◌∷◌, Option, Some, None, option_map}
use Rattle.cap_bytes.specs.declared.faults.Refusal.{Refusal}
use Rattle.cap_bytes.specs.declared.numbers.Order.{Order}
use Rattle.cap_merge.specs.Run.{Clocked}
use Rattle.cap_source.specs.Feed.{Item, packet, refused}
use Rattle.cap_time.specs.declared.resolutions.Interface.{Interface}
use Rattle.cap_time.specs.declared.stamps.Unit.{Unit as Fraction}
use Rattle.cap_write.specs.Joined.{joined_items}
use Rattle.cap_write.specs.Pcap.{bare_refusal, first_in_unit, in_unit, pcap_bytes, records_refusal}

-- the interface of the header: that of the first packet, unless this has no time, so that it is refused
abbrev pub leading : List Item → Option Interface
leading [] = None
leading (packet meta frame ∷ items) = option_map (λ units. meta.interface) meta.units
leading (refused refusal ∷ items) = None

-- What is written of a run in the unit that is asked for, if one is, and the refusal after it: nothing is written
-- before the first packet, and a run without one is refused as a file without an interface.
abbrev pub run_bytes : Option Fraction → Order → List Item → List ℕ
run_bytes unit order items = pcap_bytes order (first_in_unit unit (leading items)) items

abbrev pub run_refusal : Option Fraction → List Item → Option Refusal
run_refusal unit [] = Some (bare_refusal 1 [])
run_refusal unit (packet meta frame ∷ items) =
    records_refusal (in_unit unit meta.interface) (packet meta frame ∷ items)
run_refusal unit (refused refusal ∷ items) = Some refusal

-- What is written of the datagrams of a run.
abbrev pub joined_pcap_bytes : Option Fraction → Order → List (Clocked Item) → List ℕ
joined_pcap_bytes unit order run = run_bytes unit order (joined_items 0 [] run)

abbrev pub joined_pcap_refusal : Option Fraction → List (Clocked Item) → Option Refusal
joined_pcap_refusal unit run = run_refusal unit (joined_items 0 [] run)
