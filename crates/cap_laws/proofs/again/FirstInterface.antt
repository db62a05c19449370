-- The first interface of a file is that of the packets of instance 0, and its fields fit in their widths. Of a file
-- without one no packet is written.
use Rattle.std.proofs.lemmas.Bool.Decides.{nat_tests}
use Rattle.std.proofs.lemmas.Grind.{common_steps}
use Rattle.std.proofs.Common.{◌≡◌, ℕ, suc, ◌+◌, List, [], ◌∷◌, ◌++◌, length, slice_get, Bool, true, false, Option, Some}
use Rattle.std.proofs.Common.{None, Result, IfOk, IfSome, refl, ap, subst, arith, if◌then◌else◌}
use Rattle.std.specs.List.{AllByRecursion}
use Rattle.cap_blocks.specs.Split as blocks
use Rattle.cap_blocks.specs.Split.{AreBytes}
use Rattle.cap_blocks.specs.declared.blocks.Block.{Block}
use Rattle.cap_bytes.specs.Items as pieces
use Rattle.cap_bytes.specs.declared.faults.Rule.{Rule}
use Rattle.cap_bytes.specs.declared.faults.Tail.{Tail}
use Rattle.cap_pcap.specs.Split as records
use Rattle.cap_pcap.specs.declared.records.Record.{Record}
use Rattle.cap_source.proofs.Fields.{FitsPacket, one_more, content-fits, IsOfBytes, blocks-bytes, header-fits}
use Rattle.cap_source.proofs.Saying.{OfContent}
use Rattle.cap_source.specs.Contents.{content_in}
use Rattle.cap_source.specs.Feed.{Item, packet, refused}
use Rattle.cap_source.specs.inner.Fields.{FitsInterface}
use Rattle.cap_source.specs.Items.{SectionProgress, fresh, behind, first_or, first_in, first_from, unless_item}
use Rattle.cap_source.specs.Items.{unless_refused}
use Rattle.cap_source.specs.Items.{items_at_block, items_of_blocks, items_from, is_pcapng, pcap_items, interface_of}
use Rattle.cap_source.specs.Items.{file_items}
use Rattle.cap_source.specs.Items.{file_first}
use Rattle.cap_source.specs.declared.contents.BlockContent.{BlockContent}
use Rattle.cap_source.specs.declared.contents.BlockPacket.{BlockPacket}
use Rattle.cap_time.specs.declared.resolutions.Interface.{Interface}
use Rattle.cap_write.specs.Numbering.{own, numbered}
use Rattle.cap_laws.proofs.again.Instances.{HasNumber, IsAny, content-of}

-- A packet of instance 0 has that interface.
abbrev pub IsFirst : Interface → Item → Type 0
IsFirst i (packet meta frame) = meta.instance ≡ 0 → meta.interface ≡ i
IsFirst i (refused refusal) = Unit {0}

-- ---- the packets of instance 0

-- How far a file was read: as long as no section ended, the first interface is the first of the section.
abbrev KnowsFirst : SectionProgress → Type 0
KnowsFirst progress = progress.base ≡ 0 → progress.first ≡ slice_get progress.interfaces 0

section_ends : (base : ℕ) (interfaces : List Interface) (first : Option Interface)
    → (base ≡ 0 → first ≡ slice_get interfaces 0)
    → base + length interfaces ≡ 0 → first ≡ None
section_ends base interfaces first knows zero = grind (arith, common_steps, nat_tests)

interface_comes : (interfaces : List Interface) (first : Option Interface) (j : Interface)
    → first ≡ slice_get interfaces 0
    → Some (first_or first j) ≡ slice_get (interfaces ++ j ∷ []) 0
interface_comes [] first j is = ap (λ f. Some (first_or f j)) is
interface_comes (k ∷ interfaces) first j is = ap (λ f. Some (first_or f j)) is

knows-behind : (progress : SectionProgress) (content : Result BlockContent Rule) → KnowsFirst progress
    → KnowsFirst (behind progress content)
knows-behind progress content knows = grind (arith, common_steps, nat_tests, section_ends, interface_comes)

same_interface : (i j : Interface) → Some i ≡ Some j → i ≡ j
same_interface i j e = cc

-- the packet of a block, if the first interface was read before
own_interface : (progress : SectionProgress) (p : BlockPacket) (i : Interface) → HasNumber progress.interfaces p
    → KnowsFirst progress → progress.first ≡ Some i
    → progress.base + p.number ≡ 0 → p.interface ≡ i
own_interface progress p i of knows is zero = grind arith

block-known : (file : ℕ) (i : Interface) (progress : SectionProgress) (block : Block) (body : List ℕ)
    (content : Result BlockContent Rule) (items : List Item)
    → IfOk content (OfContent IsAny (HasNumber progress.interfaces)) → KnowsFirst progress → progress.first ≡ Some i
    → (KnowsFirst (behind progress content) → (behind progress content).first ≡ Some i
    → AllByRecursion (IsFirst i) items)
    → AllByRecursion (IsFirst i) (items_at_block file progress block body content items)
block-known file i progress block body content items of knows is rest = grind (arith, knows-behind, own_interface)

-- after the first interface
blocks-known : (file : ℕ) (i : Interface) (progress : SectionProgress) (items : List (pieces.PieceItem Block))
    → KnowsFirst progress
    → progress.first ≡ Some i
    → AllByRecursion (IsFirst i) (items_of_blocks file progress items)
unfolding items_of_blocks
blocks-known file i progress (pieces.given block body ∷ rest) knows is =
    let content = content_in progress.interfaces block.kind block.order body in
    block-known file i progress block body content (items_of_blocks file (behind progress content) rest)
    (content-of progress.interfaces block.kind block.order body) knows is
    (λ knows is. blocks-known file i (behind progress content) rest knows is)
blocks-known file i progress items knows is = grind arith

block-first : (file : ℕ) (i : Interface) (progress : SectionProgress) (block : Block) (body : List ℕ)
    (content : Result BlockContent Rule) (first : Option Interface) (items : List Item)
    → IfOk content (OfContent IsAny (HasNumber progress.interfaces)) → KnowsFirst progress
    → unless_item content progress.first first ≡ Some i
    → (KnowsFirst (behind progress content) → first ≡ Some i → AllByRecursion (IsFirst i) items)
    → (KnowsFirst (behind progress content) → (behind progress content).first ≡ Some i
    → AllByRecursion (IsFirst i) items)
    → AllByRecursion (IsFirst i) (items_at_block file progress block body content items)
block-first file i progress block body content first items of knows is later known =
    grind (arith, knows-behind, own_interface)

-- before it
blocks-first : (file : ℕ) (i : Interface) (progress : SectionProgress) (items : List (pieces.PieceItem Block))
    → KnowsFirst progress
    → first_in progress items ≡ Some i
    → AllByRecursion (IsFirst i) (items_of_blocks file progress items)
unfolding items_of_blocks first_in
blocks-first file i progress (pieces.given block body ∷ rest) knows is =
    let content = content_in progress.interfaces block.kind block.order body in
    block-first file i progress block body content (first_in (behind progress content) rest)
    (items_of_blocks file (behind progress content) rest)
    (content-of progress.interfaces block.kind block.order body) knows is
    (λ knows is. blocks-first file i (behind progress content) rest knows is)
    (λ knows is. blocks-known file i (behind progress content) rest knows is)
blocks-first file i progress items knows is = grind arith

-- a pcap file has one interface
records-first : (file : ℕ) (i : Interface) (items : List (pieces.PieceItem Record))
    → AllByRecursion (IsFirst i) (pcap_items file i items)
unfolding pcap_items
records-first file i (pieces.given r frame ∷ rest) = (λ zero. refl, records-first file i rest)
records-first file i items = grind arith

-- ---- its fields

block-first_fits : (progress : SectionProgress) (content : Result BlockContent Rule) (first : Option Interface)
    → IfOk content (OfContent FitsInterface FitsPacket)
    → AllByRecursion FitsInterface progress.interfaces → IfSome progress.first FitsInterface
    → (AllByRecursion FitsInterface (behind progress content).interfaces
    → IfSome (behind progress content).first FitsInterface → IfSome first FitsInterface)
    → IfSome (unless_item content progress.first first) FitsInterface
block-first_fits progress content first of all fits later = grind (arith, one_more)

blocks-first_fits : (progress : SectionProgress) (items : List (pieces.PieceItem Block))
    → AllByRecursion FitsInterface progress.interfaces → IfSome progress.first FitsInterface
    → AllByRecursion IsOfBytes items → IfSome (first_in progress items) FitsInterface
unfolding first_in
blocks-first_fits progress (pieces.given block body ∷ rest) all fits are =
    let content = content_in progress.interfaces block.kind block.order body in
    block-first_fits progress content (first_in (behind progress content) rest)
    (content-fits progress.interfaces block.kind block.order body all are.0) all fits
    (λ all fits. blocks-first_fits (behind progress content) rest all fits are.1)
blocks-first_fits progress items all fits are = grind arith

-- ---- the file

-- What is known of the first interface of a file.
pub record IsFirstOf (items : List Item) (i : Interface) : Type 0 where
  pub fits : FitsInterface i
  pub packets : AllByRecursion (IsFirst i) items

of_blocks : (file : ℕ) (i : Interface) (items : List (pieces.PieceItem Block)) → AllByRecursion IsOfBytes items
    → first_in fresh items ≡ Some i
    → IsFirstOf (items_of_blocks file fresh items) i
of_blocks file i items are is = grind (arith, blocks-first_fits, blocks-first, blocks-first_fits fresh items tt tt are)

of_records : (file : ℕ) (i one : Interface) (fault : Option Rule) (items : List (pieces.PieceItem Record))
    → FitsInterface one → unless_refused fault one ≡ Some i
    → IsFirstOf (pcap_items file one items) i
of_records file i one (Some rule) items fits is = cc
of_records file i one None items fits is =
    let same = same_interface one i is in
    record {
      fits = subst FitsInterface same fits;
      packets = subst (λ (j : Interface). AllByRecursion (IsFirst j) (pcap_items file one items)) same
          (records-first file one items);
    }

pub first-of : (tail : Tail) (file : ℕ) (bytes : List ℕ) (i : Interface) → AreBytes bytes
    → file_first tail file bytes ≡ Some i
    → IsFirstOf (file_items tail file bytes) i
unfolding items_from first_from pieces.piece_items
first-of tail file bytes i are is = by (is_pcapng bytes) is
  where
    by : (pcapng : Bool)
        → (if pcapng then first_in fresh (blocks.block_items_from None tail file 0 bytes)
        else unless_refused (records.pcap_header_fault 0 bytes) (interface_of (records.header_at bytes))) ≡ Some i
        → IsFirstOf (if pcapng then items_of_blocks file fresh (blocks.block_items_from None tail file 0 bytes)
        else pcap_items file (interface_of (records.header_at bytes)) (records.pcap_file_items tail file 0 bytes)) i
    by true is = of_blocks file i (blocks.block_items_from None tail file 0 bytes)
        (blocks-bytes (suc (length bytes)) None tail file 0 bytes are) is
    by false is = search (of_records, header-fits)

-- ---- a file without one

-- if none stands before the next item or the end, none was read before
none-before : (progress : SectionProgress) (items : List (pieces.PieceItem Block)) → first_in progress items ≡ None
    → progress.first ≡ None
unfolding first_in
none-before progress (pieces.given block body ∷ rest) none =
    let content = content_in progress.interfaces block.kind block.order body in
    by content none (λ later. none-before (behind progress content) rest later)
  where
    by : (content : Result BlockContent Rule) → unless_item content progress.first
        (first_in (behind progress content) rest) ≡ None
        → (first_in (behind progress content) rest ≡ None → (behind progress content).first ≡ None)
        → progress.first ≡ None
    by content none before = grind arith
none-before progress items none = cc

block-unwritten : (file : ℕ) (progress : SectionProgress) (block : Block) (body : List ℕ)
    (content : Result BlockContent Rule)
    (first : Option Interface) (items : List Item)
    → IfOk content (OfContent IsAny (HasNumber progress.interfaces)) → progress.interfaces ≡ []
    → unless_item content progress.first first ≡ None
    → (first ≡ None → (behind progress content).first ≡ None)
    → ((behind progress content).interfaces ≡ [] → first ≡ None → numbered (own []) items ≡ [])
    → numbered (own []) (items_at_block file progress block body content items) ≡ []
unfolding numbered
block-unwritten file progress block body content first items of empty none before rest = grind arith

blocks-unwritten : (file : ℕ) (progress : SectionProgress) (items : List (pieces.PieceItem Block))
    → progress.interfaces ≡ []
    → first_in progress items ≡ None
    → numbered (own []) (items_of_blocks file progress items) ≡ []
unfolding numbered items_of_blocks first_in
blocks-unwritten file progress (pieces.given block body ∷ rest) empty none =
    let content = content_in progress.interfaces block.kind block.order body in
    block-unwritten file progress block body content (first_in (behind progress content) rest)
    (items_of_blocks file (behind progress content) rest)
    (content-of progress.interfaces block.kind block.order body) empty none
    (λ none. none-before (behind progress content) rest none)
    (λ empty none. blocks-unwritten file (behind progress content) rest empty none)
blocks-unwritten file progress items empty none = grind arith

records-unwritten : (tail : Tail) (file : ℕ) (bytes : List ℕ) (i : Interface)
    → unless_refused (records.pcap_header_fault 0 bytes) i ≡ None
    → numbered (own []) (pcap_items file i (records.pcap_file_items tail file 0 bytes)) ≡ []
unfolding numbered pcap_items records.pcap_file_items
records-unwritten tail file bytes i none = grind arith

pub first-none : (tail : Tail) (file : ℕ) (bytes : List ℕ) → file_first tail file bytes ≡ None
    → numbered (own []) (file_items tail file bytes) ≡ []
unfolding items_from first_from
first-none tail file bytes none = grind (arith, fresh, items_of_blocks, blocks-unwritten, records-unwritten)
