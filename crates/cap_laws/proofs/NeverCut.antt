-- No rest of a file is dropped unless that is asked for.
use Rattle.std.proofs.Common.{◌≡◌, ◌+◌, ℕ, zero, suc, List, [], ◌∷◌, drop, length, Bool, true, false, Option, Some}
use Rattle.std.proofs.Common.{None, Ok, Err}
use Rattle.std.proofs.Common.{Result, refl, arith}
use Rattle.std.specs.Prelude.{if◌then◌else◌, ◌&&◌, ◌==◌, option_map}
use Rattle.std.specs.List.{AllByRecursion}
use Rattle.cap_blocks.specs.Split.{block_format, block_items_from}
use Rattle.cap_blocks.specs.declared.blocks.Block.{Block}
use Rattle.cap_bytes.specs.Items.{PieceFormat, PieceItem, cut_of, given, item_or, piece_items, piece_items_by, stop_by}
use Rattle.cap_bytes.specs.Items.{stop_where}
use Rattle.cap_bytes.specs.Items.{stopped}
use Rattle.cap_bytes.specs.declared.faults.Rule.{Rule}
use Rattle.cap_bytes.specs.declared.faults.Tail.TheVariants.{Refuse}
use Rattle.cap_bytes.specs.declared.stops.Stop.{Stop}
use Rattle.cap_bytes.specs.declared.stops.Stop.TheVariants as stops
use Rattle.cap_pcap.specs.Split.{pcap_file_items, pcap_header_fault, header_at, records, refused_or}
use Rattle.cap_pcap.specs.declared.records.Record.{Record}
use Rattle.cap_source.specs.Contents.{content_in}
use Rattle.cap_source.specs.Items.{counted_behind, ending_from, ending_in, ending_with, file_ending, fresh, is_pcapng}
use Rattle.cap_source.specs.Items.{pcap_ending, SectionProgress, unless_faulty}
use Rattle.cap_source.specs.declared.contents.BlockContent.{BlockContent}
use Rattle.cap_source.specs.declared.feeds.FileEnd.{FileEnd}

by-rule : (inside : Bool) (file offset size : ℕ) (rule : Rule)
    → cut_of (stop_by inside Refuse file offset size rule) ≡ None
by-rule true file offset size rule = refl
by-rule false file offset size rule = refl

by-fault : (inside : Bool) (file offset size : ℕ) (fault : Option Rule) (stop : Stop)
    → option_map (stop_by inside Refuse file offset size) fault ≡ Some stop → cut_of stop ≡ None
by-fault inside file offset size None stop e = grind (arith, e)
by-fault inside file offset size (Some rule) stop e = grind (arith, by-rule inside file offset size rule, e)

stop-case : (b inside : Bool) (file offset size : ℕ) (fault : Option Rule) (stop : Stop)
    → (if b then Some stops.End else option_map (stop_by inside Refuse file offset size) fault) ≡ Some stop
    → cut_of stop ≡ None
stop-case true inside file offset size fault stop e = grind (arith, e)
stop-case false inside file offset size fault stop e = by-fault inside file offset size fault stop e

-- what ends the pieces
stops-whole : (inside : Bool) (file offset : ℕ) (bytes : List ℕ) (fault : Option Rule) (stop : Stop)
    → stop_where inside Refuse file offset bytes fault ≡ Some stop → cut_of stop ≡ None
unfolding stop_where
stops-whole inside file offset bytes fault stop e =
    stop-case (inside && (length bytes == 0)) inside file offset (length bytes) fault stop e

IsWhole : {P : Type 0} → PieceItem P → Type 0
IsWhole (given piece bytes) = Unit {0}
IsWhole (stopped stop) = cut_of stop ≡ None

item-whole : {P : Type 0} (o : Option Stop) (piece : P) (lent : List ℕ) (rest : List (PieceItem P))
    → ((stop : Stop) → o ≡ Some stop → cut_of stop ≡ None) → AllByRecursion IsWhole rest
    → AllByRecursion IsWhole (item_or o (given piece lent) rest)
unfolding IsWhole
item-whole (Some stop) piece lent rest ends all = (ends stop refl, tt)
item-whole None piece lent rest ends all = (tt, all)

pieces-whole : {K P : Type 0} (format : PieceFormat K P) (file : ℕ)
    → ((known : K) (offset : ℕ) (bytes : List ℕ) (stop : Stop)
    → format.stop known Refuse file offset bytes ≡ Some stop → cut_of stop ≡ None)
    → (fuel : ℕ) (known : K) (offset : ℕ) (bytes : List ℕ)
    → AllByRecursion IsWhole (piece_items_by format fuel known Refuse file offset bytes)
unfolding piece_items_by
pieces-whole format file ends zero known offset bytes = tt
pieces-whole format file ends (suc fuel) known offset bytes =
    item-whole (format.stop known Refuse file offset bytes) (format.piece known offset bytes)
    (format.lent known bytes) _ (ends known offset bytes)
    (pieces-whole format file ends fuel (format.next known bytes) (offset + format.size known bytes)
    (drop (format.size known bytes) bytes))

block-case : (progress : SectionProgress) (content : Result BlockContent Rule) (later : FileEnd)
    → later.ending.cut ≡ None → (unless_faulty content (ending_with progress None) later).ending.cut ≡ None
block-case progress (Ok content) later h = h
block-case progress (Err rule) later h = refl

blocks-end : (progress : SectionProgress) (items : List (PieceItem Block)) → AllByRecursion IsWhole items
    → (ending_in progress items).ending.cut ≡ None
unfolding ending_in IsWhole
blocks-end progress [] all = refl
blocks-end progress (stopped stop ∷ rest) all = all.0
blocks-end progress (given block body ∷ rest) all =
    let content = content_in progress.interfaces block.kind block.order body in
    let next = counted_behind progress block body content in
    block-case progress content (ending_in next rest) (blocks-end next rest all.1)

records-end : (items : List (PieceItem Record)) → AllByRecursion IsWhole items
    → (pcap_ending items).ending.cut ≡ None
unfolding pcap_ending IsWhole
records-end [] all = refl
records-end (stopped stop ∷ rest) all = all.0
records-end (given r frame ∷ rest) all = records-end rest all.1

header-whole : (fault : Option Rule) (file offset : ℕ) (items : List (PieceItem Record)) → AllByRecursion IsWhole items
    → AllByRecursion IsWhole (refused_or fault file offset items)
unfolding IsWhole
header-whole None file offset items all = all
header-whole (Some rule) file offset items all = (refl, tt)

either-end : (b : Bool) (one other : FileEnd) → one.ending.cut ≡ None → other.ending.cut ≡ None
    → (if b then one else other).ending.cut ≡ None
either-end true one other p q = p
either-end false one other p q = q

-- a file that is read without dropping anything wasn't cut
pub never-cut : (file : ℕ) (bytes : List ℕ) → (file_ending Refuse file bytes).ending.cut ≡ None
unfolding ending_from piece_items pcap_file_items
never-cut file bytes =
    either-end (is_pcapng bytes) _ _
    (blocks-end fresh (block_items_from None Refuse file 0 bytes)
    (pieces-whole block_format file (λ section offset rest stop. stops-whole _ file offset rest _ stop)
    (suc (length bytes)) None 0 bytes))
    (records-end (pcap_file_items Refuse file 0 bytes)
    (header-whole (pcap_header_fault 0 bytes) file 0 _
    (pieces-whole records file (λ header offset rest stop. stops-whole true file offset rest _ stop)
    (suc (length (drop 24 bytes))) (header_at bytes) 24 (drop 24 bytes))))
