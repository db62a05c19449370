-- The widths of what a file tells of a packet and of its interface, and how many bytes it gives of a packet.
use Rattle.std.specs.Prelude.{◌≡◌, ℕ, ◌^◌, ◌≤◌, ◌<◌, FitsSigned, List, length, unwrap_or, ⊤}
use Rattle.std.specs.Int.{w64}
use Rattle.std.specs.List.{AllByRecursion}
use Rattle.cap_blocks.specs.Split.{AreBytes}
use Rattle.cap_bytes.specs.declared.faults.Tail.{Tail}
use Rattle.cap_source.specs.Feed.{Item, packet, refused}
use Rattle.cap_source.specs.Items.{file_items}
use Rattle.cap_source.specs.declared.packets.Meta.{Meta}
use Rattle.cap_time.specs.declared.resolutions.Interface.{Interface}

-- The fields of an interface fit in their widths. draft-ietf-opsawg-pcap, 4; draft-ietf-opsawg-pcapng, 4.2.
pub record FitsInterface (i : Interface) : Type 0 where
  pub link : i.link < 2 ^ 16
  pub snaplen : i.snaplen < 2 ^ 32
  pub offset : FitsSigned w64 i.offset

-- Some bytes are the captured ones of a packet: as many as the record says, within the limit.
pub record IsFrame (meta : Meta) (bytes : List ℕ) : Type 0 where
  pub captured : length bytes ≡ meta.captured
  pub limit : meta.captured ≤ 262144

-- The fields of a packet and of its interface fit in their widths, and it has its captured bytes.
-- draft-ietf-opsawg-pcap, 5; draft-ietf-opsawg-pcapng, 4.3, 4.4 and Appendix A.
pub record FitsMeta (meta : Meta) (bytes : List ℕ) : Type 0 where
  pub interface : FitsInterface meta.interface
  pub units : unwrap_or meta.units 0 < 2 ^ 64
  pub original : meta.original < 2 ^ 32
  pub frame : IsFrame meta bytes

-- a refusal has neither fields nor bytes
abbrev pub ItemFits : Item → Type 0
ItemFits (packet meta frame) = FitsMeta meta frame
ItemFits (refused refusal) = ⊤

abbrev pub HasFrame : Item → Type 0
HasFrame (packet meta frame) = IsFrame meta frame
HasFrame (refused refusal) = ⊤

-- In every file each packet has its captured bytes.
abbrev pub FramesFit : Type 0
FramesFit = (tail : Tail) (file : ℕ) (bytes : List ℕ) → AllByRecursion HasFrame (file_items tail file bytes)

-- In every file, which is a list of bytes, the fields of the packets and of their interfaces fit in their widths, too.
abbrev pub FieldsFit : Type 0
FieldsFit = (tail : Tail) (file : ℕ) (bytes : List ℕ) → AreBytes bytes
    → AllByRecursion ItemFits (file_items tail file bytes)
