-- The packets of a capture file, by the records or the blocks that it splits into (draft-ietf-opsawg-pcap, 4 and 5;
-- draft-ietf-opsawg-pcapng, 4.1 and 4.2).
use Rattle.std.specs.Prelude.{◌+◌, ◌==◌, ◌&&◌, ℕ, nat_le, if◌then◌else◌, Bool, List, [], ◌∷◌, ◌++◌, length, take}
use Rattle.std.specs.Prelude.{drop, Option, Some, None, Result, Ok, Err, refl}
use Rattle.cap_bytes.specs.Items as pieces
use Rattle.cap_bytes.specs.declared.faults.Rule.{Rule}
use Rattle.cap_bytes.specs.declared.faults.Tail.{Tail}
use Rattle.cap_time.specs.declared.resolutions.Interface.{Interface}
use Rattle.cap_time.specs.declared.resolutions.Resolution.{Resolution}
use Rattle.cap_time.specs.declared.stamps.Unit.{Unit as Fraction}
use Rattle.cap_time.specs.declared.stamps.Unit.TheVariants.{Micro, Nano}
use Rattle.std.specs.Prelude.{pos}
use Rattle.cap_pcap.specs.Split as records
use Rattle.cap_pcap.specs.declared.headers.PcapHeader.{PcapHeader}
use Rattle.cap_pcap.specs.declared.records.Record.{Record}
use Rattle.cap_bytes.specs.declared.stops.CutRest.{CutRest}
use Rattle.cap_bytes.specs.declared.stops.Stop.{Stop}
use Rattle.cap_bytes.specs.declared.stops.Stop.TheVariants as stops
use Rattle.cap_blocks.specs.Split as blocks
use Rattle.cap_blocks.specs.Split.{is_section}
use Rattle.cap_blocks.specs.declared.blocks.Block.{Block}
use Rattle.cap_source.specs.Comments.{comments_in}
use Rattle.cap_source.specs.Contents.{content_in}
use Rattle.cap_source.specs.Feed.{Item, packet, refused}
use Rattle.cap_source.specs.declared.contents.BlockContent.{BlockContent}
use Rattle.cap_source.specs.declared.contents.BlockContent.TheVariants as contents
use Rattle.cap_source.specs.declared.contents.BlockPacket.{BlockPacket}
use Rattle.cap_source.specs.declared.feeds.FileEnd.{FileEnd}
use Rattle.cap_source.specs.declared.feeds.SkippedKinds.{SkippedKinds}
use Rattle.cap_bytes.specs.declared.formats.Format.TheVariants.{Pcap, Pcapng}
use Rattle.cap_source.specs.declared.packets.Meta.{Meta}

-- How far a pcapng file was read: the interfaces of the section that is being read, in order; how many
-- interface blocks of the file stand before the section; how many of its blocks were skipped, and how many of
-- these have secrets or names; how many of its interfaces have a name; its interface of instance 0, once that was
-- read; and how many comments its blocks have, if they are counted.
pub record SectionProgress : Type 0 where
  pub interfaces : List Interface
  pub base : ℕ
  pub skipped : ℕ
  pub kinds : SkippedKinds
  pub named : ℕ
  pub first : Option Interface
  pub comments : Option ℕ

-- The types of the skipped blocks that are counted by themselves: Name Resolution Blocks
-- (draft-ietf-opsawg-pcapng, 4.5) and Decryption Secrets Blocks (4.8).
abbrev pub names_kind : ℕ
names_kind = 4

abbrev pub secrets_kind : ℕ
secrets_kind = 10

-- no such block was skipped
abbrev pub no_kinds : SkippedKinds
no_kinds = record { secrets = 0; names = 0 }

-- one more block was skipped, of that type
abbrev pub with_kind : SkippedKinds → ℕ → SkippedKinds
with_kind kinds kind =
    record {
      secrets = kinds.secrets + (if kind == secrets_kind then 1 else 0);
      names = kinds.names + (if kind == names_kind then 1 else 0);
    }

-- nothing was read yet
abbrev pub fresh : SectionProgress
fresh =
    record {
      interfaces = [];
      base = 0;
      skipped = 0;
      kinds = no_kinds;
      named = 0;
      first = None;
      comments = None;
    }

-- what is known so far, with another number of comments
abbrev pub with_comments : SectionProgress → Option ℕ → SectionProgress
with_comments progress comments = record progress { comments = comments }

-- nothing was read yet of a file whose comments are counted, or aren't
abbrev pub beginning : Bool → SectionProgress
beginning comments = with_comments fresh (if comments then Some 0 else None)

-- the first interface of a file: the one that was read first, or else this one
abbrev pub first_or : Option Interface → Interface → Interface
first_or None interface = interface
first_or (Some first) interface = first

-- what a block adds that says this: a section header begins a section without interfaces
abbrev pub after : SectionProgress → BlockContent → SectionProgress
after progress contents.Section =
    record {
      interfaces = [];
      base = progress.base + length progress.interfaces;
      skipped = progress.skipped;
      kinds = progress.kinds;
      named = progress.named;
      first = progress.first;
      comments = progress.comments;
    }
after progress (contents.Interface described) =
    record {
      interfaces = progress.interfaces ++ described.interface ∷ [];
      base = progress.base;
      skipped = progress.skipped;
      kinds = progress.kinds;
      named = progress.named + (if described.is_named then 1 else 0);
      first = Some (first_or progress.first described.interface);
      comments = progress.comments;
    }
after progress (contents.Packet p) = progress
after progress (contents.Other kind) =
    record {
      interfaces = progress.interfaces;
      base = progress.base;
      skipped = progress.skipped + 1;
      kinds = with_kind progress.kinds kind;
      named = progress.named;
      first = progress.first;
      comments = progress.comments;
    }

-- what is known of a packet in that block, and its captured bytes in the block's body
abbrev pub meta_in : ℕ → SectionProgress → Block → BlockPacket → Meta
meta_in file progress block p =
    record {
      file = file;
      offset = block.offset;
      format = Pcapng;
      skipped = progress.skipped;
      instance = progress.base + p.number;
      interface = p.interface;
      units = p.units;
      captured = p.captured;
      original = p.original;
    }

abbrev pub frame_in : BlockPacket → List ℕ → List ℕ
frame_in p body = take p.captured (drop p.place body)

-- the items of a file from a block on that says this, before those after the block
abbrev pub items_at_block : ℕ → SectionProgress → Block → List ℕ → Result BlockContent Rule → List Item → List Item
items_at_block file progress block body (Ok contents.Section) rest = rest
items_at_block file progress block body (Ok (contents.Interface described)) rest = rest
items_at_block file progress block body (Ok (contents.Packet p)) rest =
    packet (meta_in file progress block p) (frame_in p body) ∷ rest
items_at_block file progress block body (Ok (contents.Other kind)) rest = rest
items_at_block file progress block body (Err rule) rest =
    refused (record { file = file; offset = block.offset; rule = rule }) ∷ []

-- how far a file was read after that block
abbrev pub behind : SectionProgress → Result BlockContent Rule → SectionProgress
behind progress (Ok content) = after progress content
behind progress (Err rule) = progress

-- some comments more, if they are counted
abbrev pub more_comments : Option ℕ → ℕ → Option ℕ
more_comments None more = None
more_comments (Some counted) more = Some (counted + more)

-- the same with the comments of that block, if it breaks no rule
abbrev pub commented : SectionProgress → Block → List ℕ → Result BlockContent Rule → SectionProgress
commented progress block body (Ok content) =
    with_comments progress (more_comments progress.comments (comments_in block.kind block.order content body))
commented progress block body (Err rule) = progress

-- how far a file was read after that block, with its comments
abbrev pub counted_behind : SectionProgress → Block → List ℕ → Result BlockContent Rule → SectionProgress
counted_behind progress block body content = behind (commented progress block body content) content

-- what the end of the blocks or records is as an item
abbrev pub items_of_stop : Stop → List Item
items_of_stop stops.End = []
items_of_stop (stops.Cut rest) = []
items_of_stop (stops.Refused refusal) = refused refusal ∷ []

-- the items of the rest of a pcapng file, by the blocks that it splits into
unfoldable pub items_of_blocks : ℕ → SectionProgress → List (pieces.PieceItem Block) → List Item
items_of_blocks file progress [] = []
items_of_blocks file progress (pieces.stopped stop ∷ rest) = items_of_stop stop
items_of_blocks file progress (pieces.given block body ∷ rest) =
    let content = content_in progress.interfaces block.kind block.order body in
    items_at_block file progress block body content (items_of_blocks file (behind progress content) rest)

-- how a pcapng file ends that was read so far, the rest that was dropped, how many interfaces it has, how many of them
-- have a name, how many of its skipped blocks have secrets or names, and how many comments it has, if they are counted
abbrev pub ending_with : SectionProgress → Option CutRest → FileEnd
ending_with progress cut =
    record {
      ending = record { format = Pcapng; skipped = progress.skipped; cut = cut };
      interfaces = progress.base + length progress.interfaces;
      named = progress.named;
      kinds = progress.kinds;
      comments = progress.comments;
    }

-- one of two, by whether a block breaks a rule
abbrev pub unless_faulty : {A : Type 0} → Result BlockContent Rule → A → A → A
unless_faulty (Ok content) here later = later
unless_faulty (Err rule) here later = here

-- how it ends, by the blocks of its rest
unfoldable pub ending_in : SectionProgress → List (pieces.PieceItem Block) → FileEnd
ending_in progress [] = ending_with progress None
ending_in progress (pieces.stopped stop ∷ rest) = ending_with progress (pieces.cut_of stop)
ending_in progress (pieces.given block body ∷ rest) =
    let content = content_in progress.interfaces block.kind block.order body in
    unless_faulty content (ending_with progress None)
    (ending_in (counted_behind progress block body content) rest)

-- one of two, by whether a block gives an item
abbrev pub unless_item : {A : Type 0} → Result BlockContent Rule → A → A → A
unless_item (Ok contents.Section) here later = later
unless_item (Ok (contents.Interface described)) here later = later
unless_item (Ok (contents.Packet p)) here later = here
unless_item (Ok (contents.Other kind)) here later = later
unless_item (Err rule) here later = here

-- the interface of instance 0 that stands before the next item or the end, by the blocks of its rest
unfoldable pub first_in : SectionProgress → List (pieces.PieceItem Block) → Option Interface
first_in progress [] = progress.first
first_in progress (pieces.stopped stop ∷ rest) = progress.first
first_in progress (pieces.given block body ∷ rest) =
    let content = content_in progress.interfaces block.kind block.order body in
    unless_item content progress.first (first_in (behind progress content) rest)

-- the resolution of a pcap file, in which a second has a million units or a thousand million
abbrev pub resolution_of_unit : Fraction → Resolution
resolution_of_unit Micro = record { code = 6; allowed = refl }
resolution_of_unit Nano = record { code = 9; allowed = refl }

-- the one interface of a pcap file. draft-ietf-opsawg-pcap, 4.
abbrev pub interface_of : PcapHeader → Interface
interface_of header =
    record {
      link = header.link;
      snaplen = header.snaplen;
      resolution = resolution_of_unit header.unit;
      offset = pos 0;
    }

-- what is known of a record's packet
abbrev pub meta_of : ℕ → Interface → Record → Meta
meta_of file interface r =
    record {
      file = file;
      offset = r.offset;
      format = Pcap;
      skipped = 0;
      instance = 0;
      interface = interface;
      units = Some r.units;
      captured = r.captured;
      original = r.original;
    }

-- the items of the rest of a pcap file, by the records that it splits into
unfoldable pub pcap_items : ℕ → Interface → List (pieces.PieceItem Record) → List Item
pcap_items file interface [] = []
pcap_items file interface (pieces.stopped stop ∷ rest) = items_of_stop stop
pcap_items file interface (pieces.given r frame ∷ rest) =
    packet (meta_of file interface r) frame ∷ pcap_items file interface rest

-- how a pcap file ends, which has one interface, and whose format has no comments
abbrev pub pcap_ending_with : Option CutRest → FileEnd
pcap_ending_with cut =
    record {
      ending = record { format = Pcap; skipped = 0; cut = cut };
      interfaces = 1;
      named = 0;
      kinds = no_kinds;
      comments = None;
    }

unfoldable pub pcap_ending : List (pieces.PieceItem Record) → FileEnd
pcap_ending [] = pcap_ending_with None
pcap_ending (pieces.stopped stop ∷ rest) = pcap_ending_with (pieces.cut_of stop)
pcap_ending (pieces.given r frame ∷ rest) = pcap_ending rest

-- the interface of a pcap file, unless its header is refused
abbrev pub unless_refused : Option Rule → Interface → Option Interface
unless_refused (Some rule) interface = None
unless_refused None interface = Some interface

-- the items of a file whose bytes begin at `offset`, how it ends, and its first interface: of a pcapng
-- file if the first four bytes are the kind of a section header, else of a pcap file
abbrev pub is_pcapng : List ℕ → Bool
is_pcapng bytes = nat_le 4 (length bytes) && is_section bytes

unfoldable pub items_from : Tail → ℕ → SectionProgress → ℕ → List ℕ → List Item
items_from tail file progress offset bytes =
    if is_pcapng bytes then items_of_blocks file progress (blocks.block_items_from None tail file offset bytes)
    else pcap_items file (interface_of (records.header_at bytes)) (records.pcap_file_items tail file offset bytes)

unfoldable pub ending_from : Tail → ℕ → SectionProgress → ℕ → List ℕ → FileEnd
ending_from tail file progress offset bytes =
    if is_pcapng bytes then ending_in progress (blocks.block_items_from None tail file offset bytes)
    else pcap_ending (records.pcap_file_items tail file offset bytes)

unfoldable pub first_from : Tail → ℕ → SectionProgress → ℕ → List ℕ → Option Interface
first_from tail file progress offset bytes =
    if is_pcapng bytes then first_in progress (blocks.block_items_from None tail file offset bytes)
    else unless_refused (records.pcap_header_fault offset bytes) (interface_of (records.header_at bytes))

-- the same of a whole file
abbrev pub file_items : Tail → ℕ → List ℕ → List Item
file_items tail file bytes = items_from tail file fresh 0 bytes

abbrev pub file_ending : Tail → ℕ → List ℕ → FileEnd
file_ending tail file bytes = ending_from tail file fresh 0 bytes

abbrev pub file_first : Tail → ℕ → List ℕ → Option Interface
file_first tail file bytes = first_from tail file fresh 0 bytes

-- how a whole file ends if the comments of its packets, interfaces and sections are counted, or aren't
abbrev pub counted_ending : Bool → Tail → ℕ → List ℕ → FileEnd
counted_ending comments tail file bytes = ending_from tail file (beginning comments) 0 bytes
