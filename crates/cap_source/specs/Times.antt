-- The time of a packet (draft-ietf-opsawg-pcapng, 4.2).
use Rattle.std.specs.Prelude.{Option}
use Rattle.std.specs.Option.{option_map}
use Rattle.cap_time.specs.Stamp.{stamp_in}
use Rattle.cap_time.specs.declared.stamps.Stamp.{Stamp}
use Rattle.cap_source.specs.declared.packets.Meta.{Meta}

-- the time of a packet, if it has one
abbrev pub meta_time : Meta → Option Stamp
meta_time meta = option_map (λ units. stamp_in units meta.interface) meta.units
