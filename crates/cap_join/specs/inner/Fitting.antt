-- What every datagram keeps that a joiner returns, whatever it stands for.
use Rattle.std.specs.Prelude.{◌*◌, ◌≤◌, ◌^◌, length, ⊤}
use Rattle.cap_join.specs.declared.datagrams.Datagram.{Datagram}
use Rattle.cap_join.specs.declared.datagrams.Put.{Put}
use Rattle.cap_join.specs.declared.datagrams.Put.TheVariants.{Kept, Joined}

-- Its frames have fewer than 2^32 bytes each, and its data fits into a group's buffer.
pub record FitsDatagram (d : Datagram) : Type 0 where
  pub bytes : d.bytes ≤ d.frames * 2 ^ 32
  pub short : length d.payload.items ≤ 65520

abbrev pub FitsPut : Put → Type 0
FitsPut Kept = ⊤
FitsPut (Joined d) = FitsDatagram d
