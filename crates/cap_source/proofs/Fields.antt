-- The fields of every file's packets fit in their widths, and as many bytes were captured of each as are told.
use Rattle.std.proofs.lemmas.Bool.Decides.{nat_tests}
use Rattle.std.proofs.lemmas.Grind.{common_steps}
use Rattle.std.proofs.Common.{rules, ◌≡◌, ◌*◌, ℕ, zero, suc, ◌+◌, ◌^◌, ◌≤◌, ◌<◌, nat_le, List, [], ◌∷◌, ◌++◌, length}
use Rattle.std.proofs.Common.{take, drop, get_or, slice_get, mod-lt, Bool, true, false, Option, Some, None, Result, Err}
use Rattle.std.proofs.Common.{IfOk, IfSome, unwrap_or, refl, ◌∙◌, subst, sym, arith, if◌then◌else◌}
use Rattle.std.proofs.lemmas.Int.{ints}
use Rattle.std.specs.Int.{w64}
use Rattle.std.specs.List.{AllByRecursion}
use Rattle.std.specs.Prelude.{FitsSigned, pos}
use Rattle.cap_blocks.specs.OptionList.{options_of}
use Rattle.cap_blocks.specs.Split as blocks
use Rattle.cap_blocks.specs.Split.{AreBytes}
use Rattle.cap_blocks.proofs.Bytes.{AreBytes-drop}
use Rattle.cap_blocks.specs.declared.blocks.Block.{Block}
use Rattle.cap_bytes.specs.Items as pieces
use Rattle.cap_bytes.specs.declared.stops.Stop.{Stop}
use Rattle.cap_bytes.proofs.Spelling.{number-lt}
use Rattle.cap_bytes.specs.Number.{number}
use Rattle.cap_bytes.specs.declared.faults.Rule.{Rule}
use Rattle.cap_bytes.specs.declared.faults.Rule.TheVariants.{InterfaceLimit}
use Rattle.cap_bytes.specs.declared.faults.Tail.{Tail}
use Rattle.cap_bytes.specs.declared.numbers.Order.{Order}
use Rattle.cap_pcap.proofs.Splitting.{every_split-law, split_items-law}
use Rattle.cap_pcap.specs.Grammar.{Packet as Record, packet_size, SpellsRecord}
use Rattle.cap_pcap.specs.Split as records
use Rattle.cap_pcap.specs.Split.{SplitsRecords}
use Rattle.cap_source.proofs.Blocks.{IsFit, content_fit}
use Rattle.cap_source.proofs.Frames.{block-frame, read_header}
use Rattle.cap_source.proofs.Saying.{OfContent, content-holds}
use Rattle.cap_source.specs.TimeBases.{interface_in, interface_or, interface_at, options_fault, offset_in, given_or}
use Rattle.cap_source.specs.Contents.{content_in}
use Rattle.cap_source.specs.Feed.{Item}
use Rattle.cap_source.specs.inner.Fields.{FitsInterface, ItemFits, FieldsFit}
use Rattle.cap_source.specs.Items.{SectionProgress, behind, items_at_block, items_of_blocks, items_of_stop, items_from}
use Rattle.cap_source.specs.Items.{pcap_items}
use Rattle.cap_source.specs.Items.{interface_of}
use Rattle.cap_source.specs.declared.contents.BlockContent.{BlockContent}
use Rattle.cap_source.specs.declared.contents.BlockPacket.{BlockPacket}
use Rattle.cap_time.specs.declared.resolutions.Interface.{Interface}
use Rattle.cap_time.specs.Unit.{in_second}
use Rattle.cap_time.specs.declared.stamps.Unit.{Unit as Fraction}

-- ---- bytes

take_below : (n : ℕ) (xs : List ℕ) (k : ℕ) → ((j : ℕ) → get_or xs j 0 < 256) → get_or (take n xs) k 0 < 256
take_below zero xs k h = omega arith
take_below (suc n) [] k h = h k
take_below (suc n) (x ∷ xs) zero h = h 0
take_below (suc n) (x ∷ xs) (suc k) h = take_below n xs k (λ j. h (suc j))

pub AreBytes-take : (n : ℕ) (bytes : List ℕ) → AreBytes bytes → AreBytes (take n bytes)
AreBytes-take n bytes are k = take_below n bytes k are

-- ---- interfaces

-- a number of four bytes
of_bytes : (order : Order) (n : ℕ) (body : List ℕ) → AreBytes body → number order 4 (drop n body) < 2 ^ 32
of_bytes order n body are = omega (arith, number-lt order 4 (drop n body) (AreBytes-drop n body are))

-- an offset is a number of eight bytes with a sign
offset-fits : (order : Order) (value : Option (List ℕ)) → FitsSigned w64 (given_or (pos 0) (offset_in order) value)
unfolding offset_in
offset-fits order value = grind arith

-- and so do those of an interface block
interface-fits : (before : ℕ) (order : Order) (body : List ℕ) → AreBytes body
    → IfOk (interface_in before order body) FitsInterface
unfolding interface_in
interface-fits before order body are =
    by (nat_le 1024 before) (options_fault order false false (options_of order (drop 8 body)))
  where
    by : (many : Bool) (fault : Option Rule)
        → IfOk (if many then Err InterfaceLimit else interface_or fault
        (interface_at order body (options_of order (drop 8 body)))) FitsInterface
    by true fault = tt
    by false (Some rule) = tt
    by false None = search (rules, number-lt, of_bytes, offset-fits)

-- so do those of each interface of a section
interface_of-number : (interfaces : List Interface) (k : ℕ) (i : Interface) → AllByRecursion FitsInterface interfaces
    → slice_get interfaces k ≡ Some i
    → FitsInterface i
interface_of-number interfaces k i fit is = subst (λ found. IfSome found FitsInterface) is (each interfaces k fit)
  where
    each : (interfaces : List Interface) (k : ℕ) → AllByRecursion FitsInterface interfaces
        → IfSome (slice_get interfaces k) FitsInterface
    each [] k fit = tt
    each (i ∷ interfaces) zero fit = fit.0
    each (i ∷ interfaces) (suc k) fit = each interfaces k fit.1

pub one_more : (interfaces : List Interface) (i : Interface) → AllByRecursion FitsInterface interfaces → FitsInterface i
    → AllByRecursion FitsInterface (interfaces ++ i ∷ [])
one_more [] i fit is = (is, tt)
one_more (j ∷ interfaces) i fit is = (fit.0, one_more interfaces i fit.1 is)

-- ---- packets of blocks

-- The fields of a block's packet and of its interface fit.
pub record FitsPacket (p : BlockPacket) : Type 0 where
  interface : FitsInterface p.interface
  units : unwrap_or p.units 0 < 2 ^ 64
  original : p.original < 2 ^ 32

-- units are two numbers of four bytes
two_words : (high low : ℕ) → high < 2 ^ 32 → low < 2 ^ 32 → high * 2 ^ 32 + low < 2 ^ 64
two_words high low h l = omega arith

-- What a block says fits, if the section's interfaces do.
pub content-fits : (interfaces : List Interface) (kind : ℕ) (order : Order) (body : List ℕ)
    → AllByRecursion FitsInterface interfaces → AreBytes body
    → IfOk (content_in interfaces kind order body) (OfContent FitsInterface FitsPacket)
content-fits interfaces kind order body fit are =
    content-holds FitsInterface FitsPacket interfaces kind order body
    (interface-fits (length interfaces) order body are)
    (λ k i is few. record {
      interface = interface_of-number interfaces k i fit is;
      units = two_words (number order 4 (drop 4 body)) (number order 4 (drop 8 body)) (of_bytes order 4 body are)
          (of_bytes order 8 body are);
      original = of_bytes order 16 body are;
    })
    (λ i is few. record {
      interface = interface_of-number interfaces 0 i fit is;
      units = omega arith;
      original = omega (arith, number-lt order 4 body are);
    })

-- ---- blocks

-- The bodies of a file's blocks are bytes.
abbrev pub IsOfBytes : pieces.PieceItem Block → Type 0
IsOfBytes (pieces.given block body) = AreBytes body
IsOfBytes (pieces.stopped stop) = Unit {0}

of_item : (stop : Option Stop) (block : Block) (body : List ℕ) (rest : List (pieces.PieceItem Block)) → AreBytes body
    → AllByRecursion IsOfBytes rest
    → AllByRecursion IsOfBytes (pieces.item_or stop (pieces.given block body) rest)
of_item stop block body rest are later = grind arith

pub blocks-bytes : (fuel : ℕ) (section : Option Order) (tail : Tail) (file offset : ℕ) (bytes : List ℕ) → AreBytes bytes
    → AllByRecursion IsOfBytes (pieces.piece_items_by blocks.block_format fuel section tail file offset bytes)
unfolding pieces.piece_items_by
blocks-bytes zero section tail file offset bytes are = tt
blocks-bytes (suc fuel) section tail file offset bytes are =
    search (blocks-bytes fuel, of_item, drop, AreBytes-take, AreBytes-drop)

block-fits : (file few : ℕ) (progress : SectionProgress) (block : Block) (body : List ℕ)
    (content : Result BlockContent Rule)
    (items : List Item)
    → IfOk content (OfContent FitsInterface FitsPacket) → IsFit few body content
    → AllByRecursion FitsInterface progress.interfaces
    → (AllByRecursion FitsInterface (behind progress content).interfaces → AllByRecursion ItemFits items)
    → AllByRecursion ItemFits (items_at_block file progress block body content items)
block-fits file few progress block body content items fits within all rest =
    grind (arith, common_steps, nat_tests, one_more, block-frame)

stop-fits : (stop : Stop) → AllByRecursion ItemFits (items_of_stop stop)
stop-fits stop = grind arith

blocks-fit : (file : ℕ) (progress : SectionProgress) (items : List (pieces.PieceItem Block))
    → AllByRecursion FitsInterface progress.interfaces
    → AllByRecursion IsOfBytes items → AllByRecursion ItemFits (items_of_blocks file progress items)
unfolding items_of_blocks
blocks-fit file progress (pieces.given block body ∷ rest) fit are =
    let content = content_in progress.interfaces block.kind block.order body in
    block-fits file (length progress.interfaces) progress block body content
    (items_of_blocks file (behind progress content) rest)
    (content-fits progress.interfaces block.kind block.order body fit are.0)
    (content_fit progress.interfaces block.kind block.order body) fit
    (λ all. blocks-fit file (behind progress content) rest all are.1)
blocks-fit file progress items fit are = grind (arith, stop-fits)

-- ---- records

-- the fields of some packets fit in their widths
abbrev pub AllHeld : List Record → Type 0
AllHeld [] = Unit {0}
AllHeld (p ∷ ps) = (p.units < 2 ^ 64) × (p.original < 2 ^ 32) × (length p.frame ≤ 262144) × AllHeld ps

units_below : (unit : Fraction) (a b : ℕ) → a < 256 ^ 4 → b < 256 ^ 4 → a * in_second unit + b < 2 ^ 64
units_below unit a b h k = grind arith

-- those that bytes spell
pub held-spelled : (order : Order) (unit : Fraction) (p : Record) (xs : List ℕ) → AreBytes xs
    → SpellsRecord order unit p xs
    → (p.units < 2 ^ 64) × (p.original < 2 ^ 32) × (length p.frame ≤ 262144)
held-spelled order unit p xs are s =
    let seconds = number-lt order 4 xs are in
    let fraction = number-lt order 4 (drop 4 xs) (AreBytes-drop 4 xs are) in
    let original = number-lt order 4 (drop 12 xs) (AreBytes-drop 12 xs are) in (
      rw s.units (units_below unit (number order 4 xs) (number order 4 (drop 4 xs)) seconds fraction),
      rw s.original (omega (arith, original)),
      s.limit,
    )

pub held-splits : (order : Order) (unit : Fraction) (offset : ℕ) (bytes : List ℕ) (ps : List Record) (rest : List ℕ)
    → AreBytes bytes
    → SplitsRecords order unit offset bytes ps rest → AllHeld ps
held-splits order unit offset bytes [] rest are s = tt
held-splits order unit offset bytes (p ∷ ps) rest are s =
    grind (
      arith,
      held-splits order unit (offset + packet_size p) (drop (packet_size p) bytes) ps rest
          (AreBytes-drop (packet_size p) bytes are) s.2,
      held-spelled,
      AreBytes-take,
      AreBytes-drop,
    )

pub below_header : (bytes : List ℕ) → AreBytes bytes → ((records.header_at bytes).snaplen < 2 ^ 32)
    × ((records.header_at bytes).link < 2 ^ 16)
unfolding records.header_at
below_header bytes are = (
  omega (arith, number-lt (records.pcap_order_at bytes) 4 (drop 16 bytes) (AreBytes-drop 16 bytes are)),
  mod-lt (number (records.pcap_order_at bytes) 4 (drop 20 bytes)) {m = 65536} (omega arith),
)

-- the packets of records have the one interface of the header
records-fit : (file : ℕ) (i : Interface) (offset : ℕ) (packets : List Record) (stop : Stop) → FitsInterface i
    → AllHeld packets
    → AllByRecursion ItemFits (pcap_items file i (records.record_items_with offset packets stop))
unfolding pcap_items
records-fit file i offset (p ∷ ps) stop fits held =
    grind (arith, records-fit file i (offset + packet_size p) ps stop fits held.3)
records-fit file i offset packets stop fits held = grind arith

pub header-fits : (bytes : List ℕ) → AreBytes bytes → FitsInterface (interface_of (records.header_at bytes))
header-fits bytes are = record {
  link = (below_header bytes are).1;
  snaplen = (below_header bytes are).0;
  offset =
      grind (arith, ints);
}

pcap-fits : (tail : Tail) (file : ℕ) (bytes : List ℕ) → AreBytes bytes
    → AllByRecursion ItemFits (pcap_items file (interface_of (records.header_at bytes))
    (records.pcap_file_items tail file 0 bytes))
unfolding records.pcap_file_items pcap_items
pcap-fits tail file bytes are = by (records.pcap_header_fault 0 bytes) refl
  where
    by : (fault : Option Rule) → records.pcap_header_fault 0 bytes ≡ fault
        → AllByRecursion ItemFits (pcap_items file (interface_of (records.header_at bytes))
        (records.pcap_file_items tail file 0 bytes))
    by (Some rule) is = rw is ((tt, tt))
    by None is =
        let header = records.header_at bytes in
        let split = every_split-law header.order header.unit 24 (drop 24 bytes) in
        let whole = split_items-law header tail file 24 (drop 24 bytes) split.0 split.1 split.2 in
        subst (λ items. AllByRecursion ItemFits (pcap_items file (interface_of header) items))
        (sym (read_header tail file bytes is ∙ whole.2))
        (records-fit file (interface_of header) 24 split.0 whole.0 (header-fits bytes are)
        (held-splits header.order header.unit 24 (drop 24 bytes) split.0 split.1 (AreBytes-drop 24 bytes are) split.2))

pub fields_fit-law : FieldsFit
unfolding items_from pieces.piece_items
fields_fit-law tail file bytes are = grind (arith, blocks-fit, blocks-bytes, pcap-fits)
