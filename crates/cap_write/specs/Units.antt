-- What a pcap file has if a unit of time is asked for.
use Rattle.std.specs.Prelude.{◌≡◌, List, Some}
use Rattle.cap_bytes.specs.declared.numbers.Order.{Order}
use Rattle.cap_source.specs.Feed.{Item}
use Rattle.cap_time.specs.declared.resolutions.Interface.{Interface}
use Rattle.cap_time.specs.declared.stamps.Unit.{Unit as Fraction}
use Rattle.cap_write.specs.Pcap.{first_in_unit, fraction_of, header_of, in_unit, pcap_bytes, records_refusal}

-- Its header has the unit that is asked for, and else what it has without it.
abbrev pub AskedUnit : Type 0
AskedUnit =
    (order : Order) (unit : Fraction) (first : Interface)
    → header_of order (in_unit (Some unit) first) ≡ record (header_of order first) { unit = unit }

-- If that is the unit that it has without it, the file and the refusal after it are the same.
abbrev pub OwnUnit : Type 0
OwnUnit =
    (order : Order) (first : Interface) (items : List Item)
    → (pcap_bytes order (first_in_unit (Some (fraction_of first)) (Some first)) items
    ≡ pcap_bytes order (Some first) items)
    × (records_refusal (in_unit (Some (fraction_of first)) first) items ≡ records_refusal first items)
