-- Written pcapng files, read again.
use Rattle.std.proofs.Common.{◌≡◌, ◌==◌, ℕ, ◌+◌, ◌^◌, ◌≤◌, ◌<◌, slice_get, List, [], ◌∷◌, ◌++◌, length, Bool, true}
use Rattle.std.proofs.Common.{false, Option, Some, None, Result, Ok, refl, ap, ◌∙◌, arith, append_assoc}
use Rattle.std.proofs.Common.{if◌then◌else◌, length-append}
use Rattle.std.proofs.Math.Seq.{get_or-append_seam}
use Rattle.std.proofs.lemmas.Bool.{eqb-true}
use Rattle.std.proofs.lemmas.Option.{slice_get-get_or, slice_get_within}
use Rattle.std.specs.Prelude.{FitsSigned}
use Rattle.std.specs.Int.{w64}
use Rattle.cap_blocks.proofs.Again.{interface_again-law, packet_again-law}
use Rattle.cap_blocks.proofs.Items.{items_from-none}
use Rattle.cap_blocks.specs.Grammar.{interface_kind, enhanced_kind, interface_body, packet_body, interface_bytes}
use Rattle.cap_blocks.specs.inner.Laws.{block_of}
use Rattle.cap_blocks.specs.Split as blocks
use Rattle.cap_blocks.specs.Split.{BlockPiece}
use Rattle.cap_blocks.specs.declared.blocks.Block.{Block}
use Rattle.cap_bytes.specs.Items as pieces
use Rattle.cap_bytes.specs.declared.faults.Rule.{Rule}
use Rattle.cap_bytes.specs.declared.faults.Tail.{Tail}
use Rattle.cap_bytes.specs.declared.numbers.Order.{Order}
use Rattle.cap_source.specs.Contents.{content_in}
use Rattle.cap_source.specs.Feed.{packet}
use Rattle.cap_source.specs.Items.{SectionProgress, after, behind, items_at_block, items_of_blocks, meta_in, first_or}
use Rattle.cap_source.specs.Items.{unless_item}
use Rattle.cap_source.specs.Items.{first_in, no_kinds}
use Rattle.cap_source.specs.declared.contents.BlockContent.{BlockContent}
use Rattle.cap_source.specs.declared.contents.BlockContent.TheVariants as contents
use Rattle.cap_time.specs.declared.resolutions.Interface.{Interface}
use Rattle.cap_write.specs.Numbering.{Numbered}
use Rattle.cap_write.specs.Texts.{packet_part, packets_bytes}
use Rattle.cap_laws.proofs.again.Back.{unnamed, packet_of, content_in-interface, content_in-packet}
use Rattle.cap_laws.specs.again.Laws.{NumbersFit, AllFit, meta_again, read_items, described_after, all_described}
use Rattle.cap_laws.specs.again.Laws.{AreNumbered}

-- the items of a file at a block that says this
pub items_in-given : (file : ℕ) (progress : SectionProgress) (block : Block) (body : List ℕ)
    (rest : List (pieces.PieceItem Block))
    (content : Result BlockContent Rule)
    → content_in progress.interfaces block.kind block.order body ≡ content
    → items_of_blocks file progress (pieces.given block body ∷ rest)
    ≡ items_at_block file progress block body content (items_of_blocks file (behind progress content) rest)
unfolding items_of_blocks
items_in-given file progress block body rest content is = rw is refl

pub first_in-given : (progress : SectionProgress) (block : Block) (body : List ℕ) (rest : List (pieces.PieceItem Block))
    (content : Result BlockContent Rule)
    → content_in progress.interfaces block.kind block.order body ≡ content
    → first_in progress (pieces.given block body ∷ rest)
    ≡ unless_item content progress.first (first_in (behind progress content) rest)
unfolding first_in
first_in-given progress block body rest content is = rw is refl

-- The blocks of a text that begins with a written interface.
interface_blocks : (order : Order) (tail : Tail) (file offset : ℕ) (i : Interface) (rest : List ℕ) → i.link < 2 ^ 16
    → i.snaplen < 2 ^ 32
    → offset + length (interface_bytes order i) ≤ 2 ^ 40
    → blocks.block_items_from (Some order) tail file offset (interface_bytes order i ++ rest)
    ≡ pieces.given (block_of offset (record { order = order; kind = interface_kind; body = interface_body order i }))
    (interface_body order i)
    ∷ blocks.block_items_from (Some order) tail file (offset + length (interface_bytes order i)) rest
interface_blocks order tail file offset i rest link snaplen limit = grind (arith, interface_again-law)

-- A written interface is passed, and comes after those before it.
pub items_in-interface : (order : Order) (tail : Tail) (file offset : ℕ) (progress : SectionProgress) (i : Interface)
    (rest : List ℕ)
    → length progress.interfaces < 1024 → i.link < 2 ^ 16 → i.snaplen < 2 ^ 32 → FitsSigned w64 i.offset
    → offset + length (interface_bytes order i) ≤ 2 ^ 40
    → items_of_blocks file progress (blocks.block_items_from (Some order) tail file offset (interface_bytes order i
    ++ rest))
    ≡ items_of_blocks file (after progress (contents.Interface (unnamed i)))
    (blocks.block_items_from (Some order) tail file (offset + length (interface_bytes order i)) rest)
items_in-interface order tail file offset progress i rest few link snaplen fits limit =
    ap (items_of_blocks file progress) (interface_blocks order tail file offset i rest link snaplen limit)
    ∙ items_in-given file progress (block_of offset
    (record { order = order; kind = interface_kind; body = interface_body order i })) (interface_body order i)
    (blocks.block_items_from (Some order) tail file (offset + length (interface_bytes order i)) rest)
    (Ok (contents.Interface (unnamed i)))
    (content_in-interface progress.interfaces order i few link snaplen fits)

-- The interface of instance 0 is looked for after a written interface, and not after a written packet.
pub first_in-interface : (order : Order) (tail : Tail) (file offset : ℕ) (progress : SectionProgress) (i : Interface)
    (rest : List ℕ)
    → length progress.interfaces < 1024 → i.link < 2 ^ 16 → i.snaplen < 2 ^ 32 → FitsSigned w64 i.offset
    → offset + length (interface_bytes order i) ≤ 2 ^ 40
    → first_in progress (blocks.block_items_from (Some order) tail file offset (interface_bytes order i ++ rest))
    ≡ first_in (after progress (contents.Interface (unnamed i)))
    (blocks.block_items_from (Some order) tail file (offset + length (interface_bytes order i)) rest)
first_in-interface order tail file offset progress i rest few link snaplen fits limit =
    grind (arith, interface_blocks, first_in-given, block_of, content_in-interface)

pub first_in-packet : (order : Order) (tail : Tail) (file offset : ℕ) (progress : SectionProgress) (n : Numbered)
    (rest : List ℕ)
    → slice_get progress.interfaces n.number ≡ Some n.interface → n.number < 2 ^ 32 → NumbersFit n
    → offset + length (packet_part order n) ≤ 2 ^ 40
    → first_in progress (blocks.block_items_from (Some order) tail file offset (packet_part order n
    ++ rest)) ≡ progress.first
first_in-packet order tail file offset progress n rest known few fits limit =
    grind (arith, packet_again-law, packet_of, first_in-given, block_of, content_in-packet)

none_before : (k : ℕ) → 0 + k ≡ k
none_before k = omega arith

same_meta : (file offset : ℕ) (order : Order) (progress : SectionProgress) (n : Numbered) → progress.base ≡ 0
    → progress.skipped ≡ 0
    → meta_in file progress
    (block_of offset (record {
      order = order;
      kind = enhanced_kind;
      body = packet_body order n.number n.units n.original n.frame;
    }))
    (packet_of n.number n.interface n.units (length n.frame) n.original)
    ≡ meta_again file offset n
same_meta file offset order progress n base skipped = rw (base, skipped, none_before n.number) refl

-- A written packet is read again.
pub items_in-packet : (order : Order) (tail : Tail) (file offset : ℕ) (progress : SectionProgress) (n : Numbered)
    (rest : List ℕ)
    → slice_get progress.interfaces n.number ≡ Some n.interface → n.number < 2 ^ 32 → NumbersFit n → progress.base ≡ 0
    → progress.skipped ≡ 0
    → offset + length (packet_part order n) ≤ 2 ^ 40
    → items_of_blocks file progress (blocks.block_items_from (Some order) tail file offset (packet_part order n
    ++ rest))
    ≡ packet (meta_again file offset n) n.frame ∷ items_of_blocks file progress
    (blocks.block_items_from (Some order) tail file (offset + length (packet_part order n)) rest)
items_in-packet order tail file offset progress n rest known few fits base skipped limit =
    let body = packet_body order n.number n.units n.original n.frame in
    let again = packet_again-law order n.number n.units n.original n.frame few fits.units fits.original fits.frame in
    let p = packet_of n.number n.interface n.units (length n.frame) n.original in
    let block = block_of offset (record { order = order; kind = enhanced_kind; body = body }) in
    let later = items_of_blocks file progress (blocks.block_items_from (Some order) tail file
    (offset + length (packet_part order n)) rest) in
    ap (items_of_blocks file progress) (again.0.items tail file offset rest limit)
    ∙ (items_in-given file progress block body (blocks.block_items_from (Some order) tail file
    (offset + length (packet_part order n)) rest) (Ok (contents.Packet p))
    (content_in-packet progress.interfaces order n known few fits)
    ∙ (ap (λ f. packet (meta_in file progress block p) f ∷ later) again.5
    ∙ ap (λ m. packet m n.frame ∷ later) (same_meta file offset order progress n base skipped)))

-- how far a written file was read, after those interfaces
abbrev pub reached : List Interface → Option Interface → SectionProgress
reached interfaces first =
    record {
      interfaces = interfaces;
      base = 0;
      skipped = 0;
      kinds = no_kinds;
      named = 0;
      first = first;
      comments = None;
    }

-- what is written for a packet of a known interface, and of a new one
packets_bytes-known : (order : Order) (count : ℕ) (n : Numbered) (rest : List Numbered) → (n.number == count) ≡ false
    → packets_bytes order count (n ∷ rest) ≡ packet_part order n ++ packets_bytes order count rest
unfolding packets_bytes
packets_bytes-known order count n rest is = rw is refl

pub packets_bytes-new : (order : Order) (count : ℕ) (n : Numbered) (rest : List Numbered) → (n.number == count) ≡ true
    → packets_bytes order count (n ∷ rest) ≡ interface_bytes order n.interface
    ++ (packet_part order n ++ packets_bytes order (count + 1) rest)
unfolding packets_bytes
packets_bytes-new order count n rest is = rw is
    (append_assoc (interface_bytes order n.interface) (packet_part order n) (packets_bytes order (count + 1) rest))

-- and how it is read again
read_items-known : (order : Order) (file offset count : ℕ) (n : Numbered) (rest : List Numbered)
    → (n.number == count) ≡ false
    → read_items order file offset count (n ∷ rest)
    ≡ packet (meta_again file offset n) n.frame ∷ read_items order file
    (offset + length (packet_part order n)) count rest
unfolding read_items
read_items-known order file offset count n rest is = grind arith

read_items-new : (order : Order) (file offset count : ℕ) (n : Numbered) (rest : List Numbered)
    → (n.number == count) ≡ true
    → read_items order file offset count (n ∷ rest)
    ≡ packet (meta_again file (offset + length (interface_bytes order n.interface)) n) n.frame
    ∷ read_items order file (offset + length (interface_bytes order n.interface) + length (packet_part order n))
    (count + 1) rest
unfolding read_items
read_items-new order file offset count n rest is = rw is refl

-- the interface that stands last
slice_get-push : (xs : List Interface) (x : Interface) → slice_get (xs ++ x ∷ []) (length xs) ≡ Some x
slice_get-push xs x = grind (arith, slice_get-get_or, length-append, get_or-append_seam, get_or-append_seam xs x [] x)

-- Some packets are read again, after those interfaces, if their text ends by byte 2^40.
abbrev IsReadAgain : Order → Tail → ℕ → List Interface → Option Interface → ℕ → List Numbered → Type 0
IsReadAgain order tail file interfaces first offset ns =
    items_of_blocks file (reached interfaces first) (blocks.block_items_from (Some order) tail file offset
    (packets_bytes order (length interfaces) ns))
    ≡ read_items order file offset (length interfaces) ns

again-known : (order : Order) (tail : Tail) (file : ℕ) (interfaces : List Interface) (first : Option Interface)
    (offset : ℕ) (n : Numbered) (rest : List Numbered)
    → (n.number == length interfaces) ≡ false → slice_get interfaces n.number ≡ Some n.interface
    → n.number < 2 ^ 32 → NumbersFit n
    → offset + length (packets_bytes order (length interfaces) (n ∷ rest)) ≤ 2 ^ 40
    → (offset + length (packet_part order n) + length (packets_bytes order (length interfaces) rest) ≤ 2 ^ 40
    → IsReadAgain order tail file interfaces first (offset + length (packet_part order n)) rest)
    → IsReadAgain order tail file interfaces first offset (n ∷ rest)
again-known order tail file interfaces first offset n rest is known few fits limit later =
    grind (
      arith,
      reached,
      packets_bytes-known,
      length-append,
      items_of_blocks,
      items_in-packet,
      packet,
      meta_again,
      read_items-known,
    )

again-new : (order : Order) (tail : Tail) (file : ℕ) (interfaces : List Interface) (first : Option Interface)
    (offset : ℕ) (n : Numbered) (rest : List Numbered)
    → (n.number == length interfaces) ≡ true → n.number ≡ length interfaces → length interfaces < 1024 → NumbersFit n
    → offset + length (packets_bytes order (length interfaces) (n ∷ rest)) ≤ 2 ^ 40
    → (offset + length (interface_bytes order n.interface) + length (packet_part order n) + length
    (packets_bytes order (length (interfaces ++ n.interface ∷ [])) rest) ≤ 2 ^ 40
    → IsReadAgain order tail file (interfaces ++ n.interface ∷ []) (Some (first_or first n.interface))
    (offset + length (interface_bytes order n.interface) + length (packet_part order n)) rest)
    → IsReadAgain order tail file interfaces first offset (n ∷ rest)
again-new order tail file interfaces first offset n rest is same few fits limit later =
    grind (
      arith,
      reached,
      length-append,
      packets_bytes-new,
      items_of_blocks,
      items_in-interface,
      items_in-packet,
      slice_get,
      slice_get-push,
      packet,
      meta_again,
      read_items,
      read_items-new,
    )

-- At least as many are described after some packets.
pub all_described-more : (interfaces : List Interface) (ns : List Numbered)
    → length interfaces ≤ length (all_described interfaces ns)
all_described-more interfaces [] = omega arith
all_described-more interfaces (n ∷ rest) = grind
    (arith, all_described-more (described_after interfaces n) rest, length-append)

-- Written packets are read again.
pub items_in-written : (order : Order) (tail : Tail) (file : ℕ) (interfaces : List Interface) (first : Option Interface)
    (offset : ℕ) (ns : List Numbered)
    → AreNumbered interfaces ns → AllFit ns → length (all_described interfaces ns) ≤ 1024
    → offset + length (packets_bytes order (length interfaces) ns) ≤ 2 ^ 40
    → IsReadAgain order tail file interfaces first offset ns
unfolding packets_bytes read_items items_of_blocks
items_in-written order tail file interfaces first offset [] numbered fit few limit =
    search (items_of_blocks, reached, items_from-none)
items_in-written order tail file interfaces first offset (n ∷ rest) numbered fit few limit =
    by (n.number == length interfaces) refl
    (λ interfaces first offset numbered fit few limit. items_in-written order tail file interfaces first offset rest
    numbered fit few limit)
  where
    by : (new : Bool) → (n.number == length interfaces) ≡ new
        → ((interfaces : List Interface) (first : Option Interface) (offset : ℕ)
        → AreNumbered interfaces rest → AllFit rest → length (all_described interfaces rest) ≤ 1024
        → offset + length (packets_bytes order (length interfaces) rest) ≤ 2 ^ 40
        → IsReadAgain order tail file interfaces first offset rest)
        → IsReadAgain order tail file interfaces first offset (n ∷ rest)
    by true is later = grind (arith, again-new, eqb-true, all_described, all_described-more, length-append)
    by false is later = grind (arith, again-known, slice_get_within, all_described, all_described-more)

-- The first interface, if one stands before some written packets, is the same after them.
pub first_in-written : (order : Order) (tail : Tail) (file : ℕ) (interfaces : List Interface) (first : Interface)
    (offset : ℕ) (ns : List Numbered)
    → AreNumbered interfaces ns → AllFit ns → length (all_described interfaces ns) ≤ 1024
    → offset + length (packets_bytes order (length interfaces) ns) ≤ 2 ^ 40
    → first_in (reached interfaces (Some first)) (blocks.block_items_from (Some order) tail file offset
    (packets_bytes order (length interfaces) ns)) ≡ Some first
unfolding packets_bytes first_in
first_in-written order tail file interfaces first offset [] numbered fit few limit = search (reached, items_from-none)
first_in-written order tail file interfaces first offset (n ∷ rest) numbered fit few limit =
    by (n.number == length interfaces) refl
  where
    by : (new : Bool) → (n.number == length interfaces) ≡ new
        → first_in (reached interfaces (Some first)) (blocks.block_items_from (Some order) tail file offset
        (packets_bytes order (length interfaces) (n ∷ rest))) ≡ Some first
    by true is = grind (
      arith,
      packets_bytes-new,
      length-append,
      eqb-true,
      all_described,
      all_described-more,
      reached,
      first_in-interface,
      first_in-packet,
      slice_get,
      slice_get-push,
    )
    by false is =
        let next : described_after interfaces n ≡ interfaces =
        ap (λ b. if b then interfaces ++ n.interface ∷ [] else interfaces) is in
        let known = numbered.0 is in
        let text = packets_bytes-known order (length interfaces) n rest is in
        let behind = packets_bytes order (length interfaces) rest in
        let size = ap length text ∙ length-append (packet_part order n) behind in
        ap (λ t. first_in (reached interfaces (Some first)) (blocks.block_items_from (Some order) tail file offset t))
        text
        ∙ first_in-packet order tail file offset (reached interfaces (Some first)) n behind known
        (omega (
          arith,
          slice_get_within interfaces n.number n.interface known,
          few,
          ap (λ l. length (all_described l rest)) next,
          all_described-more interfaces rest,
        ))
        fit.0 (omega (arith, limit, size))
