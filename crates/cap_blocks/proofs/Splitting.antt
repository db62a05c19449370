-- A file splits in one way, and its items are those of the split.
use Rattle.std.proofs.lemmas.Grind.{common_steps}
use Rattle.std.proofs.Common.{◌≡◌, ℕ, zero, suc, IsSome, false, length-drop, ◌+◌, ◌≤◌, ◌<◌, ◌==◌, ◌&&◌, List, [], ◌∷◌}
use Rattle.std.proofs.Common.{◌++◌, length, take, drop, Option, Some, None, is_some, refl, sym, ◌∙◌, ap, subst, arith}
use Rattle.std.proofs.lemmas.Bool.Decides.{nat_tests}
use Rattle.std.proofs.lemmas.List.{take_at, drop_at}
use Rattle.cap_bytes.specs.Items.{given, stopped}
use Rattle.cap_bytes.specs.Number.{number}
use Rattle.cap_bytes.specs.declared.faults.Tail.{Tail}
use Rattle.cap_bytes.specs.declared.faults.Tail.TheVariants.{Refuse}
use Rattle.cap_bytes.specs.declared.numbers.Order.{Order}
use Rattle.cap_bytes.proofs.Spelling.{number-lt, number-drop_append}
use Rattle.cap_blocks.specs.Grammar.{SpellsBlock}
use Rattle.cap_blocks.specs.inner.Laws.{OneBlock, OneBlockSplit, EveryBlockSplit, BlockSplitItems, ItemsAtFault}
use Rattle.cap_blocks.specs.inner.Laws.{ItemsAtBlock}
use Rattle.cap_blocks.specs.inner.Laws.{BlockRead}
use Rattle.cap_blocks.specs.inner.Laws.{BlockThere, block_of}
use Rattle.cap_blocks.specs.Split.{block_at, BlockPiece, piece_size, MayFollow, BeginsPiece, SplitsBlocks, AreBytes}
use Rattle.cap_blocks.specs.Split.{block_stop_at}
use Rattle.cap_blocks.specs.Split.{block_items_from}
use Rattle.cap_bytes.specs.declared.stops.Stop.{Stop}
use Rattle.cap_blocks.proofs.Bytes.{AreBytes-drop}
use Rattle.cap_blocks.proofs.Faults.{block_fault-from_none, faults-from_none, FieldsFit-from_header, stop_at-whole}
use Rattle.cap_blocks.proofs.Items.{items_from-stop, items_from-fault, items_from-block}
use Rattle.cap_blocks.proofs.Spelling.{piece_at, Begins-at, Reads, Reads-spelled, plain}

-- the piece that begins is the one that is read
pub piece_read : (section : Option Order) (offset : ℕ) (piece : BlockPiece) (bytes : List ℕ)
    → Reads section offset piece bytes → piece_at section bytes ≡ piece
piece_read section offset piece bytes r = rw (r.order_is, r.kind_is, r.total_is, r.body_is) refl

piece_one : (section : Option Order) (offset : ℕ) (p q : BlockPiece) (bytes : List ℕ) → AreBytes bytes
    → BeginsPiece section offset p bytes
    → BeginsPiece section offset q bytes → p ≡ q
piece_one section offset p q bytes fits a b =
    sym (piece_read section offset p bytes (Reads-spelled section offset p bytes (plain bytes fits) a))
    ∙ piece_read section offset q bytes (Reads-spelled section offset q bytes (plain bytes fits) b)

-- a split after the same piece
moved : (offset : ℕ) (bytes : List ℕ) (p q : BlockPiece) (qs : List BlockPiece) (s : List ℕ) → p ≡ q
    → SplitsBlocks (Some q.order) (offset + piece_size q) (drop (piece_size q) bytes) qs s
    → SplitsBlocks (Some p.order) (offset + piece_size p) (drop (piece_size p) bytes) qs s
moved offset bytes p q qs s same rest = grind arith

pub one_split-law : OneBlockSplit
one_split-law section offset bytes [] [] r s fits a b = (refl, sym a.0 ∙ b.0)
one_split-law section offset bytes [] (q ∷ qs) r s fits a b =
    absurd (a.1 q (subst (λ (l : List ℕ). BeginsPiece section offset q l) a.0 b.0))
one_split-law section offset bytes (p ∷ ps) [] r s fits a b =
    absurd (b.1 p (subst (λ (l : List ℕ). BeginsPiece section offset p l) b.0 a.0))
one_split-law section offset bytes (p ∷ ps) (q ∷ qs) r s fits a b =
    let same = piece_one section offset p q bytes fits a.0 b.0 in
    let rest = one_split-law (Some p.order) (offset + piece_size p) (drop (piece_size p) bytes) ps qs r s
    (AreBytes-drop (piece_size p) bytes fits)
    a.1 (moved offset bytes p q qs s same b.1) in
    (cc, rest.1)

-- the total length stands in the first 8 bytes
length_told : (order : Order) (a x : List ℕ) → number order 4 (drop 4 a) ≡ length a → 8 ≤ length a
    → number order 4 (drop 4 (a ++ x)) ≡ length a
length_told order a x is head = number-drop_append order 4 4 a x (omega arith) ∙ is

-- a spelling begins what it stands in front of
spelling_begins : (section : Option Order) (p : BlockPiece) (a x : List ℕ) → AreBytes (a ++ x) → MayFollow section p
    → SpellsBlock p.order p.kind p.body a → BeginsPiece section 0 p (a ++ x)
spelling_begins section p a x fits follows s =
    let size : length a ≡ piece_size p = s.size in
    let front : take (piece_size p) (a ++ x) ≡ a = take_at a x (piece_size p) size in
    let few = number-lt p.order 4 (drop 4 (a ++ x)) (AreBytes-drop 4 (a ++ x) fits) in
    let spelled : SpellsBlock p.order p.kind p.body (take (piece_size p) (a ++ x)) =
    subst (λ (l : List ℕ). SpellsBlock p.order p.kind p.body l) (sym front) s in
    record {
      follows = follows;
      spelled = spelled;
      limit = omega (arith, few, length_told p.order a x s.total (omega arith));
    }

pub one_block-law : OneBlock
one_block-law section p q a b x y fits followp followq s t whole =
    let first = spelling_begins section p a x fits followp s in
    let second = spelling_begins section q b y (subst (λ (l : List ℕ). AreBytes l) whole fits) followq t in
    let same : p ≡ q = piece_one section 0 p q (a ++ x) fits first
    (subst (λ (l : List ℕ). BeginsPiece section 0 q l) (sym whole) second) in
    let size : length b ≡ length a = t.size ∙ (ap piece_size (sym same) ∙ sym s.size) in (
      sym (take_at a x (length a) refl) ∙ (ap (take (length a)) whole ∙ take_at b y (length a) size),
      same,
      sym (drop_at a x (length a) refl) ∙ (ap (drop (length a)) whole ∙ drop_at b y (length a) size),
    )

-- a block that is spelled is read
block_read : (section : Option Order) (offset : ℕ) (piece : BlockPiece) (bytes : List ℕ)
    → Reads section offset piece bytes
    → block_at section offset bytes ≡ block_of offset piece
unfolding block_at
block_read section offset piece bytes r = rw (r.order_is, r.kind_is, r.total_is) refl

pub items_from-reads : (section : Option Order) (tail : Tail) (file offset : ℕ) (piece : BlockPiece) (bytes : List ℕ)
    → Reads section offset piece bytes
    → block_items_from section tail file offset bytes
    ≡ given (block_of offset piece) piece.body
    ∷ block_items_from (Some piece.order) tail file (offset + piece_size piece) (drop (piece_size piece) bytes)
items_from-reads section tail file offset piece bytes r = grind (arith, stop_at-whole, items_from-block, block_read)

pub block_read-law : BlockRead
block_read-law section tail file offset piece bytes fits b =
    items_from-reads section tail file offset piece bytes
    (Reads-spelled section offset piece bytes (plain bytes fits) b)

pub block_there-law : BlockThere
block_there-law section tail file offset bytes fits none = (
  piece_at section bytes,
  Begins-at section offset bytes (plain bytes fits)
      (block_fault-from_none section tail file offset bytes none),
)

-- a block that begins goes on
begins_goes : (section : Option Order) (tail : Tail) (file offset : ℕ) (bytes : List ℕ) (p : BlockPiece)
    → AreBytes bytes
    → BeginsPiece section offset p bytes → block_stop_at section tail file offset bytes ≡ None
begins_goes section tail file offset bytes p fits b =
    let r = Reads-spelled section offset p bytes (plain bytes fits) b in
    stop_at-whole section tail file offset bytes (omega (arith, r.whole)) r.none

-- what ends the blocks if none begins
ends : (section : Option Order) (tail : Tail) (file offset : ℕ) (bytes : List ℕ) (stop : Option Stop)
    → block_stop_at section tail file offset bytes ≡ stop
    → AreBytes bytes → ((piece : BlockPiece) → BeginsPiece section offset piece bytes → ⊥)
    → (s : Stop) × (block_stop_at section tail file offset bytes ≡ Some s)
    × (block_items_from section tail file offset bytes ≡ stopped s ∷ [])
ends section tail file offset bytes stop is fits none = grind (arith, items_from-stop, block_there-law)

pub split_items-law : BlockSplitItems
split_items-law section tail file offset bytes [] rest fits split =
    let end = ends section tail file offset rest (block_stop_at section tail file offset rest) refl
    (subst (λ (l : List ℕ). AreBytes l) split.0 fits) split.1 in
    (end.0, end.1, ap (block_items_from section tail file offset) split.0 ∙ end.2)
split_items-law section tail file offset bytes (p ∷ ps) rest fits split =
    let later = split_items-law (Some p.order) tail file (offset + piece_size p) (drop (piece_size p) bytes) ps rest
    (AreBytes-drop (piece_size p) bytes fits) split.1 in (
      later.0,
      later.1,
      block_read-law section tail file offset p bytes fits split.0
          ∙ ap (λ l. given (block_of offset p) p.body ∷ l) later.2,
    )

-- a split by what ends the blocks
split_by : (section : Option Order) (offset : ℕ) (bytes : List ℕ) (stop : Option Stop)
    → block_stop_at section Refuse 0 offset bytes ≡ stop → AreBytes bytes
    → ((order : Order) (later : ℕ) (rest : List ℕ) → AreBytes rest → length rest < length bytes
    → (ps : List BlockPiece) × (r : List ℕ) × SplitsBlocks (Some order) later rest ps r)
    → (pieces : List BlockPiece) × (rest : List ℕ) × SplitsBlocks section offset bytes pieces rest
split_by section offset bytes (Some stop) is fits behind = grind (arith, begins_goes)
split_by section offset bytes None is fits behind =
    let there = block_there-law section Refuse 0 offset bytes fits is in
    let size = piece_size there.0 in
    let whole = (Reads-spelled section offset there.0 bytes (plain bytes fits) there.1).whole in
    let later = behind there.0.order (offset + size) (drop size bytes) (AreBytes-drop size bytes fits)
    (omega (arith, length-drop size bytes)) in
    (there.0 ∷ later.0, later.1, (there.1, later.2))

every : (n : ℕ) (section : Option Order) (offset : ℕ) (bytes : List ℕ) → AreBytes bytes → length bytes < n
    → (pieces : List BlockPiece) × (rest : List ℕ) × SplitsBlocks section offset bytes pieces rest
every zero section offset bytes fits few = absurd (omega arith)
every (suc n) section offset bytes fits few =
    split_by section offset bytes (block_stop_at section Refuse 0 offset bytes) refl fits
    (λ order later rest more fewer. every n (Some order) later rest more (omega arith))

pub every_split-law : EveryBlockSplit
every_split-law section offset bytes fits = every (suc (length bytes)) section offset bytes fits (omega arith)

-- the items at a fault, and at a block
no_end : (section : Option Order) (bytes : List ℕ) → (IsSome section → bytes ≡ [] → ⊥)
    → (is_some section && (length bytes == 0)) ≡ false
no_end section bytes some = grind (arith, common_steps, nat_tests)

pub items_at_fault-law : ItemsAtFault
items_at_fault-law section tail file offset bytes rule some fault =
    items_from-fault section tail file offset bytes rule (no_end section bytes some) fault

pub items_at_block-law : ItemsAtBlock
items_at_block-law section tail file offset bytes none =
    let head = (FieldsFit-from_header section offset bytes (faults-from_none section offset bytes none).0).head in
    items_from-block section tail file offset bytes (stop_at-whole section tail file offset bytes (omega arith) none)
