-- The packets of one instance of a file have one interface.
use Rattle.std.proofs.Common.{◌≡◌, ℕ, ◌+◌, slice_get, get_or, List, [], ◌∷◌, ◌++◌, length, Bool, true, false, Some}
use Rattle.std.proofs.Common.{None, Result, Ok, Err, IfOk, refl, arith, append_assoc, append-nil, length-append}
use Rattle.std.proofs.Common.{if◌then◌else◌}
use Rattle.std.proofs.Math.ListN.{get_or-append}
use Rattle.std.proofs.lemmas.List.{get_or-append-add}
use Rattle.std.proofs.lemmas.Option.{get_or_from_slice_get, slice_get_within}
use Rattle.cap_blocks.specs.Split as blocks
use Rattle.cap_blocks.specs.declared.blocks.Block.{Block}
use Rattle.cap_bytes.specs.Items as pieces
use Rattle.cap_bytes.specs.declared.faults.Rule.{Rule}
use Rattle.cap_bytes.specs.declared.numbers.Order.{Order}
use Rattle.cap_pcap.specs.Split as records
use Rattle.cap_pcap.specs.declared.records.Record.{Record}
use Rattle.cap_source.proofs.Saying.{OfContent, content-holds}
use Rattle.cap_source.specs.Contents.{content_in}
use Rattle.cap_source.specs.Feed.{Item}
use Rattle.cap_source.specs.Items.{SectionProgress, fresh, behind, items_at_block, items_of_blocks, items_from}
use Rattle.cap_source.specs.Items.{is_pcapng}
use Rattle.cap_source.specs.Items.{pcap_items}
use Rattle.cap_source.specs.Items.{interface_of}
use Rattle.cap_source.specs.declared.contents.BlockContent.{BlockContent}
use Rattle.cap_source.specs.declared.contents.BlockContent.TheVariants as contents
use Rattle.cap_source.specs.declared.contents.BlockPacket.{BlockPacket}
use Rattle.cap_time.specs.declared.resolutions.Interface.{Interface}
use Rattle.cap_laws.specs.again.Laws.{AllAlike, OneInterface}

-- A packet that a block says has the section's interface of its number.
abbrev pub HasNumber : List Interface → BlockPacket → Type 0
HasNumber interfaces p = slice_get interfaces p.number ≡ Some p.interface

-- Of the interface of an interface block nothing is asked.
abbrev pub IsAny : Interface → Type 0
IsAny i = Unit {0}

is_any : (r : Result Interface Rule) → IfOk r IsAny
is_any r = grind arith

pub content-of : (interfaces : List Interface) (kind : ℕ) (order : Order) (body : List ℕ)
    → IfOk (content_in interfaces kind order body) (OfContent IsAny (HasNumber interfaces))
content-of interfaces kind order body = search (content-holds, is_any)

-- the interfaces that are still to come of a file
abbrev added : Result BlockContent Rule → List Interface → List Interface
added (Ok contents.Section) later = later
added (Ok (contents.Interface described)) later = described.interface ∷ later
added (Ok (contents.Packet p)) later = later
added (Ok (contents.Other kind)) later = later
added (Err rule) later = []

abbrev future : SectionProgress → List (pieces.PieceItem Block) → List Interface
future progress [] = []
future progress (pieces.stopped stop ∷ rest) = []
future progress (pieces.given block body ∷ rest) =
    let content = content_in progress.interfaces block.kind block.order body in
    added content (future (behind progress content) rest)

abbrev nth : List Interface → ℕ → Interface
nth all k = get_or all k (interface_of (records.header_at []))

nth-of : (past interfaces later all : List Interface) (k : ℕ) (i : Interface) → slice_get interfaces k ≡ Some i
    → (past ++ interfaces) ++ later ≡ all
    → i ≡ nth all (length past + k)
nth-of past interfaces later all k i is whole =
    grind (arith, slice_get_within, get_or_from_slice_get, get_or-append-add, get_or-append, length-append, get_or)

block-alike : (file : ℕ) (all past : List Interface) (progress : SectionProgress) (block : Block) (body : List ℕ)
    (content : Result BlockContent Rule) (later : List Interface) (items : List Item)
    → IfOk content (OfContent IsAny (HasNumber progress.interfaces)) → length past ≡ progress.base
    → (past ++ progress.interfaces) ++ added content later ≡ all
    → ((past : List Interface) → length past ≡ (behind progress content).base
    → (past ++ (behind progress content).interfaces) ++ later ≡ all → AllAlike file (nth all) items)
    → AllAlike file (nth all) (items_at_block file progress block body content items)
block-alike file all past progress block body content later items of base whole rest =
    grind (arith, length-append, append-nil, append_assoc, nth-of)

blocks-alike : (file : ℕ) (all past : List Interface) (progress : SectionProgress)
    (items : List (pieces.PieceItem Block))
    → length past ≡ progress.base
    → (past ++ progress.interfaces) ++ future progress items ≡ all
    → AllAlike file (nth all) (items_of_blocks file progress items)
unfolding items_of_blocks
blocks-alike file all past progress (pieces.given block body ∷ rest) base whole =
    let content = content_in progress.interfaces block.kind block.order body in
    block-alike file all past progress block body content (future (behind progress content) rest)
    (items_of_blocks file (behind progress content) rest)
    (content-of progress.interfaces block.kind block.order body) base whole
    (λ past base whole. blocks-alike file all past (behind progress content) rest base whole)
blocks-alike file all past progress items base whole = grind arith

records-alike : (file : ℕ) (i : Interface) (items : List (pieces.PieceItem Record))
    → AllAlike file (λ k. i) (pcap_items file i items)
unfolding pcap_items
records-alike file i (pieces.given r frame ∷ rest) = (refl, refl, records-alike file i rest)
records-alike file i items = grind arith

pub one_interface-law : OneInterface
unfolding items_from
one_interface-law tail file bytes = by (is_pcapng bytes)
  where
    by : (pcapng : Bool)
        → (given : ℕ → Interface) × AllAlike file given
        (if pcapng then items_of_blocks file fresh (blocks.block_items_from None tail file 0 bytes)
        else pcap_items file (interface_of (records.header_at bytes)) (records.pcap_file_items tail file 0 bytes))
    by true =
        let items = blocks.block_items_from None tail file 0 bytes in
        (nth (future fresh items), blocks-alike file (future fresh items) [] fresh items refl refl)
    by false = (
      (λ k. interface_of (records.header_at bytes)),
      records-alike file (interface_of (records.header_at bytes)) (records.pcap_file_items tail file 0 bytes),
    )
