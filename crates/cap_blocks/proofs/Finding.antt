-- A look at a block's header, and then one at its body.
use Rattle.std.proofs.Common.{◌≡◌, ℕ, ◌<◌, List, length, Option, Some, None, is_some, Bool, IsTrue, Ok, Err}
use Rattle.std.proofs.Common.{◌+◌, ◌-◌, ◌≤◌, true, drop, inr, refl, sym, ◌∙◌, ap, subst, arith}
use Rattle.std.proofs.Common.{length-append, length-drop}
use Rattle.cap_bytes.specs.Items.{stop_by}
use Rattle.cap_bytes.specs.inner.Parsing.{SeesStop, FailsBy}
use Rattle.std.proofs.lemmas.List.{take_all}
use Rattle.cap_bytes.specs.inner.Reach.{ReachesTo, Reaches, size_found}
use Rattle.cap_bytes.specs.inner.Window.{WindowState, WindowGoes, WindowShows, WindowPasses, coming, position, read_to}
use Rattle.cap_bytes.proofs.Parsing.{Goes-trans, some_left, SeesStop-fault, FailsBy-later}
use Rattle.cap_bytes.specs.declared.faults.Fault.{Fault}
use Rattle.cap_bytes.specs.declared.faults.Rule.{Rule}
use Rattle.cap_bytes.specs.declared.faults.Tail.{Tail}
use Rattle.cap_bytes.specs.declared.numbers.Order.{Order}
use Rattle.cap_bytes.specs.declared.stops.Stop.{Stop}
use Rattle.cap_bytes.proofs.Reach.{ReachesTo-looks}
use Rattle.cap_blocks.specs.inner.Reader.{block_size}
use Rattle.cap_blocks.specs.Grammar.{is_known_kind}
use Rattle.cap_blocks.specs.inner.Parsing.{ParsesBlockHeader, IsHeader, ParsingStays, SeesBlockHeader, SeesBody}
use Rattle.cap_blocks.specs.inner.Parsing.{SeesBlock, LeavesBlock}
use Rattle.cap_blocks.specs.inner.Parsing.{LooksAtBody}
use Rattle.cap_blocks.specs.Split.{block_order_at, block_header_fault, body_fault, block_fault, block_at, wanted_at}
use Rattle.cap_blocks.specs.Split.{LacksRoom}
use Rattle.cap_blocks.specs.declared.blocks.Block.{Block}
use Rattle.cap_blocks.proofs.Behind.{SeesBody-known}
use Rattle.cap_blocks.proofs.Faults.{block_fault-body, block_at-append, header_fault-append, stop_at-whole}
use Rattle.cap_blocks.proofs.Looking.{IsHeader-at}

-- the order of a block that stands there
pub order_told : (section : Option Order) (offset : ℕ) (bytes : List ℕ) (block : Block)
    → block ≡ block_at section offset bytes
    → block.order ≡ block_order_at section bytes
unfolding block_at
order_told section offset bytes block is = ap (λ (b : Block). b.order) is

Leaves-later : (known : Bool) (total : ℕ) (a b c : WindowState) → b.offset ≡ a.offset → (IsTrue a.told → IsTrue b.told)
    → (IsTrue a.told → coming b ≡ coming a) → LeavesBlock known total b c → LeavesBlock known total a c
Leaves-later known total a b c at told bytes l = grind arith

-- some bytes are to come
some_come : (section : Option Order) (block : Block) (a b : WindowState) → SeesBlockHeader section block a b
    → IsTrue a.told
    → 0 < length (coming a)
some_come section block a b f t = grind arith

-- what the body is refused by, if by anything
body_told : (section : Option Order) (block : Block) (fault : Option Rule) (a b c : WindowState)
    → SeesBlockHeader section block a b
    → (IsTrue a.told → IsTrue b.told) → SeesBody block fault b c → IsTrue a.told
    → body_fault (block_order_at section (coming a)) (coming a) ≡ fault
body_told section block fault a b c f told r t =
    rw (← order_told section a.offset (coming a) block (f.block_is t))
    (ap (body_fault block.order) (sym (f.shows.coming_same t)) ∙ r.told_fault (told t))

-- a block is there
pub SeesBlock-both : (section : Option Order) (tail : Tail) (block : Block) (a b c : WindowState)
    → SeesBlockHeader section block a b
    → (IsTrue a.told → IsTrue b.told) → SeesBody block None b c → SeesBlock section tail block a c
SeesBlock-both section tail block a b c f told r = record {
  goes = Goes-trans a b c f.shows.goes r.goes;
  offset = f.header.offset_is;
  allowed = f.header.allowed;
  limit = f.header.limit;
  least = f.header.least;
  left = Leaves-later (is_known_kind block.kind) block.total a b c f.shows.offset told f.shows.coming_same
      (r.left refl);
  none = λ t. stop_at-whole section tail a.file a.offset (coming a) (some_come section block a b f t)
      (block_fault-body section a.offset (coming a) None (f.none t) (body_told section block None a b c f told r t));
  block_is = f.block_is;
}

-- none is, by the body
pub SeesStop-body : (section : Option Order) (tail : Tail) (block : Block) (rule : Rule) (a b c : WindowState)
    → SeesBlockHeader section block a b
    → (IsTrue a.told → IsTrue b.told) → SeesBody block (Some rule) b c
    → SeesStop (is_some section) (block_fault section a.offset (coming a)) tail
    (stop_by (is_some section) tail a.file a.offset (read_to c - a.offset) rule) a c
SeesStop-body section tail block rule a b c f told r =
    SeesStop-fault (is_some section) _ tail (read_to c - a.offset) rule a c (Goes-trans a b c f.shows.goes r.goes)
    (some_left (is_some section) a b f.shows (omega (arith, f.header.head)))
    (λ t. block_fault-body section a.offset (coming a) (Some rule) (f.none t)
    (body_told section block (Some rule) a b c f told r t))
    (λ t cut. omega (arith, f.shows.offset, r.all_read (told t) (ap Some cut), ap length (f.shows.coming_same t)))

-- a fault in the second look
pub FailsBy-body : (section : Option Order) (block : Block) (a b c : WindowState) (fault : Fault)
    → SeesBlockHeader section block a b → ParsingStays a b
    → LooksAtBody block b (Err fault) c → FailsBy 524288 (LacksRoom section a.offset (coming a) a.room) a fault c
FailsBy-body section block a b c fault f k h =
    FailsBy-later 524288 _ _ a b c fault f.shows k.file k.told k.can_fail k.room
    (λ t lacks. inr (
      ap (λ (w : Block). is_known_kind w.kind) (sym (f.block_is t)) ∙ lacks.0,
      subst (λ (w : Block). a.room < w.total) (f.block_is t) (omega (arith, k.room, lacks.1)),
    )) h

-- how far both read
pub Reaches-both : (section : Option Order) (block : Block) (a b c : WindowState) → SeesBlockHeader section block a b
    → ParsingStays a b
    → ReachesTo a.most (a.offset + 12) (read_to a) (read_to b)
    → ReachesTo b.most (b.offset + block.total) (read_to b) (read_to c)
    → ReachesTo a.most (a.offset + block.total) (read_to a) (read_to c)
Reaches-both section block a b c f k p q = ReachesTo-looks 12 block.total a b c f.header.least k.most f.shows.offset p q

-- and a read that failed
pub Reaches-header : (section : Option Order) (a : WindowState) (f : Fault) (read : ℕ)
    → Reaches (λ (n : ℕ). Some n) 12 (position a) (Err f) read
    → Reaches (size_found {E = Stop} block_size) (wanted_at section a.offset (coming a)) (position a) (Err f) read
Reaches-header section a f read h = grind arith

pub Reaches-body : (section : Option Order) (block : Block) (a b : WindowState) (f : Fault) (read : ℕ)
    → SeesBlockHeader section block a b → ParsingStays a b
    → Reaches (λ (n : ℕ). Some n) block.total (position b) (Err f) read
    → Reaches (size_found {E = Stop} block_size) (wanted_at section a.offset (coming a)) (position a) (Err f) read
Reaches-body section block a b f read s k h = grind arith

-- a block of a known kind is shown already
pub SeesBlock-shown : (section : Option Order) (tail : Tail) (block : Block) (u : WindowState) → u.broken ≡ None
    → 12 ≤ length u.shown
    → block_header_fault section u.offset u.shown ≡ None → block ≡ block_at section u.offset u.shown
    → is_known_kind block.kind ≡ true
    → block.total ≤ length u.shown → None ≡ body_fault block.order u.shown → SeesBlock section tail block u u
SeesBlock-shown section tail block u whole head none is known enough fault =
    let h : IsHeader block u.offset u.shown = rw is (IsHeader-at section u.offset u.shown none) in
    let goes : WindowGoes u u = record { before = whole; after = whole; failed = refl } in
    let shows : WindowShows u u = record {
      goes = goes;
      offset = refl;
      front = take_all (length u.shown) u.shown (omega arith);
      coming_same = λ t. refl;
    } in
    let body = SeesBody-known block u u None h known (shows, enough) fault in
    let told : block ≡ block_at section u.offset (coming u) = is
    ∙ sym (block_at-append section u.offset u.shown u.unread head) in
    record {
      goes = goes;
      offset = h.offset_is;
      allowed = h.allowed;
      limit = h.limit;
      least = h.least;
      left = body.left refl;
      none = λ t. stop_at-whole section tail u.file u.offset (coming u)
          (omega (arith, length-append u.shown u.unread, head))
          (block_fault-body section u.offset (coming u) None
          (header_fault-append section u.offset u.shown u.unread head ∙ none)
          (rw (← order_told section u.offset (coming u) block told) (body.told_fault t)));
      block_is = λ t. told;
    }

-- the same after the bytes that are passed
pub SeesBlock-passed : (section : Option Order) (tail : Tail) (block : Block) (w u : WindowState) (given offset : ℕ)
    (bytes : List ℕ) → WindowPasses given w u
    → bytes ≡ drop given w.shown → offset ≡ w.offset + given → w.broken ≡ None → given + 12 ≤ length w.shown
    → ParsesBlockHeader section offset bytes (Ok block) → is_known_kind block.kind ≡ true → block.total ≤ length bytes
    → None ≡ body_fault block.order bytes → SeesBlock section tail block u u
SeesBlock-passed section tail block w u given offset bytes p is place whole head parsed known enough fault =
    let e : bytes ≡ u.shown = is ∙ sym p.shown in
    let o : offset ≡ u.offset = place ∙ sym p.offset in
    let q : ParsesBlockHeader section u.offset u.shown (Ok block) = rw (e, o) at parsed in
    SeesBlock-shown section tail block u (p.broken ∙ whole)
    (omega (arith, ap length p.shown, length-drop given w.shown, head))
    q.0 q.1 known (rw e at enough) (rw e at fault)
