-- The items of a file under another number are the same but for that number.
use Rattle.std.proofs.Common.{arith, ◌≡◌, ℕ, zero, suc, Bool, cond, List, ◌∷◌, drop, refl, ap, ◌∙◌, Option, Some, None}
use Rattle.std.proofs.Common.{Result}
use Rattle.std.specs.Prelude.{map, option_map}
use Rattle.cap_bytes.specs.Items as pieces
use Rattle.cap_bytes.specs.declared.faults.Rule.{Rule}
use Rattle.cap_bytes.specs.declared.faults.Tail.{Tail}
use Rattle.cap_bytes.specs.declared.numbers.Order.{Order}
use Rattle.cap_time.specs.declared.resolutions.Interface.{Interface}
use Rattle.cap_pcap.specs.Split as records
use Rattle.cap_bytes.specs.declared.stops.Stop.{Stop}
use Rattle.cap_bytes.specs.declared.stops.Stop.TheVariants as stops
use Rattle.cap_blocks.specs.Split as blocks
use Rattle.cap_blocks.specs.declared.blocks.Block.{Block}
use Rattle.cap_pcap.specs.declared.records.Record.{Record}
use Rattle.cap_source.specs.Contents.{content_in}
use Rattle.cap_source.specs.Feed.{Item}
use Rattle.cap_source.specs.Items.{SectionProgress, fresh, behind, items_at_block, items_of_stop, items_of_blocks}
use Rattle.cap_source.specs.Items.{pcap_items}
use Rattle.cap_source.specs.Items.{interface_of}
use Rattle.cap_source.specs.Items.{is_pcapng, items_from, file_items}
use Rattle.cap_source.specs.declared.contents.BlockContent.{BlockContent}
use Rattle.cap_laws.specs.again.Rounds.{in_file}

-- ---- pieces, of either format

stop_in : ℕ → Stop → Stop
stop_in n stops.End = stops.End
stop_in n (stops.Cut rest) = stops.Cut rest
stop_in n (stops.Refused r) = stops.Refused (record r { file = n })

item_in : {P : Type 0} → ℕ → pieces.PieceItem P → pieces.PieceItem P
item_in n (pieces.given p f) = pieces.given p f
item_in n (pieces.stopped s) = pieces.stopped (stop_in n s)

stop_by-in : (inside : Bool) (tail : Tail) (n m offset size : ℕ) (rule : Rule)
    → pieces.stop_by inside tail n offset size rule ≡ stop_in n (pieces.stop_by inside tail m offset size rule)
unfolding stop_in
stop_by-in inside tail n m offset size rule = grind arith

chosen_stop : (b : Bool) (n : ℕ) (o p : Option Stop) → o ≡ option_map (stop_in n) p
    → cond b (Some stops.End) o ≡ option_map (stop_in n) (cond b (Some stops.End) p)
unfolding stop_in
chosen_stop b n o p e = grind arith

stop_where-in : (inside : Bool) (tail : Tail) (n m offset : ℕ) (bytes : List ℕ) (fault : Option Rule)
    → pieces.stop_where inside tail n offset bytes fault
    ≡ option_map (stop_in n) (pieces.stop_where inside tail m offset bytes fault)
unfolding pieces.stop_where
stop_where-in inside tail n m offset bytes fault = grind (arith, chosen_stop, stop_by-in)

item_or-in : {P : Type 0} (n : ℕ) (o p : Option Stop) (x : P) (f : List ℕ) (xs ys : List (pieces.PieceItem P))
    → o ≡ option_map (stop_in n) p → xs ≡ map (item_in n) ys
    → pieces.item_or o (pieces.given x f) xs ≡ map (item_in n) (pieces.item_or p (pieces.given x f) ys)
unfolding item_in
item_or-in n o p x f xs ys e h = grind arith

items_by-in : {K P : Type 0} (format : pieces.PieceFormat K P)
    → ((known : K) (tail : Tail) (n m offset : ℕ) (bytes : List ℕ)
    → format.stop known tail n offset bytes ≡ option_map (stop_in n) (format.stop known tail m offset bytes))
    → (fuel : ℕ) (known : K) (tail : Tail) (n m offset : ℕ) (bytes : List ℕ)
    → pieces.piece_items_by format fuel known tail n offset bytes
    ≡ map (item_in n) (pieces.piece_items_by format fuel known tail m offset bytes)
unfolding pieces.piece_items_by
items_by-in format stopped zero known tail n m offset bytes = refl
items_by-in format stopped (suc fuel) known tail n m offset bytes =
    search (items_by-in format stopped fuel, item_or-in, drop)

stop_items : (n : ℕ) (s : Stop) → items_of_stop (stop_in n s) ≡ map (in_file n) (items_of_stop s)
unfolding stop_in
stop_items n s = grind arith

-- ---- records

refused_or : (o : Option Rule) (n m offset : ℕ) (xs ys : List (pieces.PieceItem Record)) → xs ≡ map (item_in n) ys
    → records.refused_or o n offset xs ≡ map (item_in n) (records.refused_or o m offset ys)
unfolding item_in stop_in
refused_or o n m offset xs ys e = grind arith

record_items : (tail : Tail) (n m offset : ℕ) (bytes : List ℕ)
    → records.pcap_file_items tail n offset bytes ≡ map (item_in n) (records.pcap_file_items tail m offset bytes)
unfolding records.pcap_file_items pieces.piece_items
record_items tail n m offset bytes = search (refused_or, drop, items_by-in, stop_where-in)

pcap_numbered : (n m : ℕ) (interface : Interface) (xs : List (pieces.PieceItem Record))
    → pcap_items n interface (map (item_in n) xs) ≡ map (in_file n) (pcap_items m interface xs)
unfolding pcap_items item_in
pcap_numbered n m interface (pieces.given r f ∷ xs) = cc (pcap_numbered n m interface xs)
pcap_numbered n m interface xs = grind (arith, stop_items)

-- ---- blocks

block_items : (section : Option Order) (tail : Tail) (n m offset : ℕ) (bytes : List ℕ)
    → blocks.block_items_from section tail n offset bytes
    ≡ map (item_in n) (blocks.block_items_from section tail m offset bytes)
unfolding pieces.piece_items
block_items section tail n m offset bytes = search (items_by-in, stop_where-in)

content_items : (n m : ℕ) (progress : SectionProgress) (block : Block) (body : List ℕ)
    (content : Result BlockContent Rule)
    (xs ys : List Item)
    → xs ≡ map (in_file n) ys → items_at_block n progress block body content xs
    ≡ map (in_file n) (items_at_block m progress block body content ys)
content_items n m progress block body content xs ys e = grind arith

pcapng_numbered : (n m : ℕ) (progress : SectionProgress) (xs : List (pieces.PieceItem Block))
    → items_of_blocks n progress (map (item_in n) xs) ≡ map (in_file n) (items_of_blocks m progress xs)
unfolding items_of_blocks item_in
pcapng_numbered n m progress (pieces.given block body ∷ xs) =
    grind (
      arith,
      content_items,
      item_in,
      pcapng_numbered n m
          (behind progress (content_in progress.interfaces block.kind block.order body)) xs,
    )
pcapng_numbered n m progress xs = grind (arith, stop_items)

-- ---- files

chosen : (b : Bool) (n : ℕ) (xs ys us vs : List Item) → xs ≡ map (in_file n) ys → us ≡ map (in_file n) vs
    → cond b xs us ≡ map (in_file n) (cond b ys vs)
chosen b n xs ys us vs e h = grind arith

-- The items of a file are the same under every number, but for the number.
pub file-numbered : (tail : Tail) (n m : ℕ) (bytes : List ℕ)
    → file_items tail n bytes ≡ map (in_file n) (file_items tail m bytes)
unfolding items_from
file-numbered tail n m bytes =
    chosen (is_pcapng bytes) n (items_of_blocks n fresh (blocks.block_items_from None tail n 0 bytes))
    (items_of_blocks m fresh (blocks.block_items_from None tail m 0 bytes))
    (pcap_items n (interface_of (records.header_at bytes)) (records.pcap_file_items tail n 0 bytes))
    (pcap_items m (interface_of (records.header_at bytes)) (records.pcap_file_items tail m 0 bytes))
    (ap (items_of_blocks n fresh) (block_items None tail n m 0 bytes)
    ∙ pcapng_numbered n m fresh (blocks.block_items_from None tail m 0 bytes))
    (ap (pcap_items n (interface_of (records.header_at bytes))) (record_items tail n m 0 bytes)
    ∙ pcap_numbered n m (interface_of (records.header_at bytes)) (records.pcap_file_items tail m 0 bytes))
