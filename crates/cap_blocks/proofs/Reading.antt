-- What a look at the window makes of a reader, and what that does to the items to come.
use Rattle.std.proofs.Common.{arith, ◌≡◌, ℕ, ◌+◌, ◌-◌, ◌≤◌, List, ◌∷◌, ◌++◌, length, drop, Option, Some, None, Ok}
use Rattle.std.proofs.Common.{IfSome, Bool, true, false, is_some, IsTrue, Result, ap, refl, sym, ◌∙◌, length-drop}
use Rattle.std.proofs.Common.{length-take-le}
use Rattle.std.proofs.lemmas.List.{take-append-le, drop-append-le}
use Rattle.cap_bytes.specs.Items.{given, items_by_stop}
use Rattle.cap_bytes.specs.inner.Reader.{ReaderState, ReaderKeeps}
use Rattle.cap_bytes.specs.declared.faults.Fault.{Fault}
use Rattle.cap_bytes.specs.declared.faults.Tail.{Tail}
use Rattle.cap_bytes.specs.declared.numbers.Order.{Order}
use Rattle.cap_bytes.specs.declared.stops.Stop.{Stop}
use Rattle.cap_bytes.specs.inner.Window.{WindowState, WindowPasses}
use Rattle.cap_bytes.proofs.Readers.{Stands-passed, Gives-seen}
use Rattle.cap_blocks.specs.Grammar.{is_known_kind}
use Rattle.cap_blocks.specs.inner.Parsing.{LeavesBlock, SeesBlock}
use Rattle.cap_blocks.specs.inner.Reader.{GivesBlock, GivesNextBlock, TakesBlock, blocks_to_come, shown_block_size}
use Rattle.cap_blocks.specs.inner.Reader.{body_of, shown_size}
use Rattle.cap_blocks.specs.inner.Reader.{block_reader_state}
use Rattle.cap_blocks.specs.Split.{block_at, body_in, block_stop_at, block_items_from}
use Rattle.cap_blocks.specs.declared.blocks.Block.{Block}
use Rattle.cap_blocks.proofs.Items.{items_from-stop, items_from-block}

-- the body of a block stands in its bytes, whatever comes after them
body_in-append : (total : ℕ) (xs ys : List ℕ) → 12 ≤ total → total ≤ length xs
    → body_in total (xs ++ ys) ≡ body_in total xs
body_in-append total xs ys least enough =
    rw (
      drop-append-le 8 xs ys (omega arith),
      take-append-le (total - 12) (drop 8 xs) ys
          (omega (arith, length-drop 8 xs)),
    ) refl

-- a block that is given is the first item
taken_items : (s t : Option Stop) (a b : Option Order) (tail tail' : Tail) (file file' offset offset' : ℕ)
    (bytes bytes' : List ℕ) (block : Block)
    → s ≡ None → t ≡ None → b ≡ Some block.order → tail' ≡ tail → file' ≡ file → offset' ≡ offset + block.total
    → block_stop_at a tail file offset bytes ≡ None → block ≡ block_at a offset bytes → bytes' ≡ drop block.total bytes
    → items_by_stop s (block_items_from a tail file offset bytes)
    ≡ given block (body_in block.total bytes) ∷ items_by_stop t (block_items_from b tail' file' offset' bytes')
unfolding block_at
taken_items s t a b tail tail' file file' offset offset' bytes bytes' block ss ts bb e f o none is l =
    grind (arith, items_from-block)

taken : (old new : ReaderState Order) (block : Block) → GivesBlock old block new → ReaderKeeps old new → IsTrue old.told
    → blocks_to_come old ≡ given block (body_in block.total old.coming) ∷ blocks_to_come new
taken old new block g k t = grind (arith, taken_items)

-- What `next_block` answers tells what it does to the items to come.
pub TakesItem_next : (old new : ReaderState Order) (result : Result (Option Block) Fault)
    → GivesNextBlock old result new
    → ReaderKeeps old new → IsTrue old.told
    → TakesBlock old result new
TakesItem_next old new result g k t = grind (arith, is_some, items_from-stop, taken)

-- A block is found after the one that was given last.
pub GivesBlock-found : (known : Bool) (w u v : WindowState) (tail : Tail) (section : Option Order) (shown : Option ℕ)
    (stop : Option Stop) (block : Block)
    → stop ≡ None → shown_block_size shown ≤ length w.shown → WindowPasses (shown_block_size shown) w u
    → is_known_kind block.kind ≡ known
    → SeesBlock section tail block u v
    → GivesBlock (block_reader_state w tail section shown stop) block
    (block_reader_state v tail (Some block.order) (shown_size known block.total) stop)
GivesBlock-found true w u v tail section shown stop block free within p known s =
    let at = Stands-passed w u tail section (shown_block_size shown) (body_of shown w.shown) stop free within p in
    let left : LeavesBlock true block.total u v = rw known at s.left in
    let enough = left.1 in record {
      gives = Gives-seen (block_reader_state w tail section shown stop) u v at (Some block.order) block.total
          block.total
          (body_of (Some block.total) v.shown)
          s.goes (ap (λ n. n + block.total) left.0) (λ t. ap (drop block.total) (left.2 t));
      offset = s.offset ∙ p.offset;
      allowed = s.allowed;
      least = s.least;
      known = sym known;
      size = omega (
        arith,
        length-take-le (block.total - 12) (drop 8 v.shown)
            (omega (arith, enough, s.least, length-drop 8 v.shown)),
        s.least,
      );
      none = λ t. rw (at.file, at.offset, at.coming_same) at (s.none (at.told t));
      block_is = λ t. rw (at.offset, at.coming_same) at (s.block_is (at.told t));
      body_is = λ t. sym (body_in-append block.total v.shown v.unread s.least enough)
          ∙ ap (body_in block.total) (left.2 (at.told t) ∙ at.coming_same);
    }
GivesBlock-found false w u v tail section shown stop block free within p known s =
    let at = Stands-passed w u tail section (shown_block_size shown) (body_of shown w.shown) stop free within p in
    let left : LeavesBlock false block.total u v = rw known at s.left in record {
      gives = Gives-seen (block_reader_state w tail section shown stop) u v at (Some block.order) block.total 0 None
          s.goes
          (omega (arith, left.0)) left.1;
      offset = s.offset ∙ p.offset;
      allowed = s.allowed;
      least = s.least;
      known = sym known;
      size = tt;
      none = λ t. rw (at.file, at.offset, at.coming_same) at (s.none (at.told t));
      block_is = λ t. rw (at.offset, at.coming_same) at (s.block_is (at.told t));
      body_is = λ t. tt;
    }

-- What a block that was shown already does to the items to come.
pub TakesItem_shown : (old new : ReaderState Order) (found : Option Block)
    → IfSome found (λ block. GivesNextBlock old (Ok (Some block)) new) → ReaderKeeps old new
    → IsTrue old.told → IfSome found (λ block. TakesBlock old (Ok (Some block)) new)
TakesItem_shown old new None g k t = tt
TakesItem_shown old new (Some block) g k t = TakesItem_next old new (Ok (Some block)) g k t
