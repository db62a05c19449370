-- The packet that a caller's numbers tell.
use Rattle.std.specs.Prelude.{◌≡◌, ◌≤◌, ◌<◌, ◌^◌, ◌+ℤ◌, ◌*ℤ◌, ℕ, pos, Option, IfSome, IsTrue}
use Rattle.cap_bytes.specs.declared.formats.Format.TheVariants.{Pcap}
use Rattle.cap_source.specs.declared.packets.Meta.{Meta}
use Rattle.cap_time.specs.Code.{is_allowed, units_of_code}
use Rattle.cap_time.specs.Resolution.{code_of, units_of}
use Rattle.cap_time.specs.declared.resolutions.Interface.{Interface}
use Rattle.capt_c.specs.Packets.{ShowsFields, ShowsTime}
use Rattle.capt_c.specs.declared.packets.CPacket.{CPacket}

-- An interface is what a packet's numbers tell of it. One unit in a second is written as a power of ten.
pub record TellsInterface (p : CPacket) (interface : Interface) : Type 0 where
  pub link : p.link ≡ interface.link
  pub least : interface.link < 2 ^ 16
  pub snaplen : p.snaplen ≡ interface.snaplen
  pub resolution : p.resolution ≡ units_of interface.resolution
  pub code : code_of interface.resolution < 256
  pub decimal : code_of interface.resolution ≡ 128 → ⊥
  pub offset : p.time_offset ≡ interface.offset

-- Units of an interface, if there are any, are the time that a packet's numbers tell, and fit in 64 bits.
abbrev pub TellsUnits : CPacket → Interface → Option ℕ → Type 0
TellsUnits p interface units =
    ShowsTime units interface p.seconds p.carry p.numerator p.denominator × IfSome units (λ n. n < 2 ^ 64)

-- A code is that of so many units in a second, and the power of ten if two are.
abbrev pub HasUnits : ℕ → ℕ → Type 0
HasUnits units code = IsTrue (is_allowed code) × (units_of_code code ≡ units) × (code ≡ 128 → ⊥)

-- so many whole seconds are from the second on from which an interface counts to a packet's time
abbrev pub HasElapsed : CPacket → ℕ → Type 0
HasElapsed p whole = p.seconds +ℤ pos p.carry *ℤ pos (2 ^ 64) ≡ p.time_offset +ℤ pos whole

-- a packet's numbers tell a fraction of a second in the units of its interface
abbrev pub IsInUnits : CPacket → Type 0
IsInUnits p = (p.denominator ≡ p.resolution) × (p.numerator < p.denominator)

-- A packet of which that many bytes were captured is what numbers tell: those that a reader would show of it. It is
-- told as one of a file without other blocks.
pub record TellsPacket (p : CPacket) (captured : ℕ) (meta : Meta) : Type 0 where
  pub shows : ShowsFields meta (record p { captured = captured })
  pub interface : TellsInterface p meta.interface
  pub units : TellsUnits p meta.interface meta.units
  pub limit : captured ≤ 262144
  pub file : meta.file ≡ 1
  pub format : meta.format ≡ Pcap
  pub skipped : meta.skipped ≡ 0
