-- Units of IPv4, whose ends are of that network alone.
use Rattle.std.specs.Prelude.{ℕ, Bool, Option, Some, None}
use Rattle.cap_ip.specs.declared.transports.Transport.{Transport}
use Rattle.cap_ip.specs.declared.transports.Transport.TheVariants.{Ports, NoPorts, Bad, Cut}
use Rattle.cap_join.specs.declared.datagrams.Stamped.{Stamped}
use Rattle.cap_talks.specs.declared.table.rows.RowDelta.{RowDelta}
use Rattle.cap_talks.specs.declared.table.units.Address.TheVariants.{Ipv4}
use Rattle.cap_talks.specs.declared.table.units.CountedUnit.{CountedUnit}
use Rattle.cap_talks.specs.declared.table.units.Endpoint.{Endpoint}
use Rattle.cap_talks.specs.declared.table.ipv4_units.Ipv4End.{Ipv4End}
use Rattle.cap_talks.specs.declared.table.ipv4_units.Ipv4Ends.{Ipv4Ends}
use Rattle.cap_talks.specs.declared.table.ipv4_units.Ipv4Unit.{Ipv4Unit}
use Rattle.cap_talks.specs.table.CountedUnits.{timed_frame, unit_of}
use Rattle.cap_talks.specs.table.Units.{end_at}

-- the end that an end of IPv4 is
abbrev pub end_of_ipv4 : Ipv4End → Endpoint
end_of_ipv4 end = end_at (Ipv4 end.address) end.port

-- a unit between two ends, of no frame
abbrev pub unit_between : Ipv4Ends → CountedUnit
unit_between ends = unit_of ends.protocol 0 0 None None (end_of_ipv4 ends.source, end_of_ipv4 ends.destination)

-- the unit that a unit of IPv4 is
abbrev pub unit_of_ipv4 : Ipv4Unit → CountedUnit
unit_of_ipv4 unit =
    unit_of unit.ends.protocol 1 unit.frame.original (timed_frame (Some unit.frame)) (timed_frame (Some unit.frame))
    (end_of_ipv4 unit.ends.source, end_of_ipv4 unit.ends.destination)

-- what a unit of one frame adds to the row of its conversation, which goes forward or not
abbrev pub frame_delta : Bool → Stamped → RowDelta
frame_delta forward frame =
    record {
      is_forward = forward;
      frames = 1;
      bytes = frame.original;
      first = timed_frame (Some frame);
      last = timed_frame (Some frame);
    }

-- the ports of a datagram, that of its source first, by what its data says of them
abbrev pub ports_seen : Transport → Option (Option ℕ × Option ℕ)
ports_seen (Ports from to) = Some (Some from, Some to)
ports_seen NoPorts = Some (None, None)
ports_seen Bad = None
ports_seen Cut = None
