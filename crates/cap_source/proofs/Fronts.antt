-- A file as it would be if it ended further on: what reading on makes of it.
use Rattle.std.proofs.Common.{◌≡◌, ℕ, ◌+◌, ◌-◌, ◌≤◌, List, [], ◌∷◌, length, take, Bool, false, Option, Some, None}
use Rattle.std.proofs.Common.{is_some, IsTrue, Result, Ok, Err, unwrap_or, refl, sym, ap, subst, ◌∙◌, arith}
use Rattle.std.proofs.Common.{inl, inr}
use Rattle.std.specs.Bool.{⊤}
use Rattle.cap_bytes.specs.Items.{PieceItem, given, stopped}
use Rattle.cap_bytes.specs.declared.faults.Fault.{Fault}
use Rattle.cap_bytes.specs.declared.faults.Fault.TheVariants.{Refused, Read, Write, Memory}
use Rattle.cap_bytes.specs.declared.faults.Rule.{Rule}
use Rattle.cap_bytes.specs.declared.faults.Tail.{Tail}
use Rattle.cap_bytes.specs.declared.numbers.Order.{Order}
use Rattle.cap_bytes.specs.declared.stops.Stop.TheVariants as stops
use Rattle.cap_bytes.specs.inner.Reader.{ReaderBreaks, ReaderKeeps, ReaderState}
use Rattle.cap_bytes.proofs.Parsing.{from_none}
use Rattle.cap_blocks.specs.Split.{block_items_from, body_in}
use Rattle.cap_blocks.specs.inner.Reader.{GivesBlock, GivesNextBlock}
use Rattle.cap_blocks.specs.declared.blocks.Block.{Block}
use Rattle.cap_blocks.proofs.Items.{items_from-none}
use Rattle.cap_source.proofs.BlockFronts as blocks
use Rattle.cap_source.proofs.Blocks.{content_same, ending_behind, frame_same, items_counted, packet_lent}
use Rattle.cap_source.proofs.Commenting.{commented-same}
use Rattle.cap_source.specs.Contents.{content_in}
use Rattle.cap_source.specs.Items.{SectionProgress, counted_behind, ending_in, ending_with, items_at_block}
use Rattle.cap_source.specs.Items.{items_of_blocks, meta_in, unless_faulty}
use Rattle.cap_source.specs.Feed as feeds
use Rattle.cap_source.specs.declared.contents.BlockContent.{BlockContent}
use Rattle.cap_source.specs.declared.contents.BlockContent.TheVariants as contents
use Rattle.cap_source.specs.declared.feeds.FileEnd.{FileEnd}
use Rattle.cap_source.specs.declared.feeds.Head.{Head}
use Rattle.cap_source.specs.declared.feeds.Head.TheVariants as heads
use Rattle.cap_source.specs.declared.packets.Meta.{Meta}
use Rattle.cap_source.specs.declared.readers.Peeked.{Peeked}
use Rattle.cap_source.specs.declared.readers.Peeked.TheVariants as peeks
use Rattle.cap_source.specs.inner.FileState.{IfTaken, items_from_next, next_at, next_frame, next_head, part_of}
use Rattle.cap_source.specs.inner.Fronts.{Fronts, FrontsAnswer, FrontsFail, FrontsFind, FrontsGive, FrontsPass}
use Rattle.cap_source.specs.inner.Fronts.{bytes_before}
use Rattle.cap_source.specs.inner.Fronts.{pcapng_fronts}

pub not-both : (b : Bool) → IsTrue b → b ≡ false → ⊥
not-both b is not = grind arith

-- nothing more was read
pub Fronts-same : (a : Fronts) → FrontsPass a None a
Fronts-same a = record {
  size = refl;
  broken = refl;
  begun = λ none. absurd (not-both false none refl);
  fresh = λ f. (f, refl);
  back = λ end may. may;
  items = λ end may. refl;
  ending = λ end may. refl;
}

-- one look after another
pub Fronts-behind : (a b c : Fronts) (next : Option Peeked) → FrontsPass a None b → FrontsPass b next c
    → FrontsPass a next c
Fronts-behind a b c next p q = record {
  size = q.size ∙ p.size;
  broken = q.broken ∙ p.broken;
  begun = q.begun;
  fresh = λ f. let g = q.fresh f in let h = p.fresh g.0 in (h.0, g.1 ∙ h.1);
  back = λ end may. p.back end (q.back end may);
  items = λ end may. p.items end (q.back end may) ∙ q.items end may;
  ending = λ end may. p.ending end (q.back end may) ∙ q.ending end may;
}

Fails-behind : (a b c : Fronts) (offset : ℕ) → FrontsPass a None b → FrontsFail b offset c → FrontsFail a offset c
Fails-behind a b c offset p f = record {
  within = subst (λ (n : ℕ). offset ≤ n) p.size f.within;
  fresh = λ n. let g = f.fresh n in let h = p.fresh g.0 in (h.0, g.1 ∙ h.1);
  back = λ n. p.back offset (f.back n);
  items = λ n. p.items offset (f.back n) ∙ f.items n;
  so_far = λ n. f.so_far n ∙ ap Some (sym (p.ending offset (f.back n)));
  whole = λ n. ap (λ (e : FileEnd). e.ending.cut) (p.ending offset (f.back n)) ∙ f.whole n;
}

taken-behind : (a b c : Fronts) (next mark : Option Peeked) → FrontsPass a None b → IfTaken mark (FrontsPass b next c)
    → IfTaken mark (FrontsPass a next c)
taken-behind a b c next None p q = Fronts-behind a b c next p q
taken-behind a b c next (Some (peeks.Packet meta place)) p q = Fronts-behind a b c next p q
taken-behind a b c next (Some (peeks.Refused refusal ending)) p q = tt
taken-behind a b c next (Some (peeks.End ending)) p q = tt

-- a look after which the file goes on
pub Fronts-further : (a b c : Fronts) (next : Option Peeked) → next ≡ None → FrontsPass a None b
    → IfTaken next (FrontsPass b next c) → FrontsPass a None c
Fronts-further a b c None is p q = Fronts-behind a b c None p q
Fronts-further a b c (Some next) is p q = cc

pub Fronts-taken : (a b c : Fronts) (next : Option Peeked) → FrontsPass a None b → IfTaken next (FrontsPass b next c)
    → IfTaken next (FrontsPass a next c)
Fronts-taken a b c next p q = taken-behind a b c next next p q

pub Fronts-answer : {A : Type 0} (a b c : Fronts) (result : Result A Fault) (next : Option Peeked) → FrontsPass a None b
    → FrontsAnswer b result next c → FrontsAnswer a result next c
Fronts-answer a b c (Ok x) next p q = Fronts-taken a b c next p q
Fronts-answer a b c (Err (Refused refusal)) next p q = tt
Fronts-answer a b c (Err (Read file offset)) next p q = λ none. Fails-behind a b c offset p (q (p.broken ∙ none))
Fronts-answer a b c (Err Write) next p q = tt
Fronts-answer a b c (Err Memory) next p q = tt

-- The blocks that stand before an end.
abbrev blocks_before : ReaderState Order → ℕ → List (PieceItem Block)
blocks_before reader end = block_items_from reader.known reader.tail reader.file reader.offset
    (bytes_before end reader.offset reader.coming)

module _ (file : ℕ) (old new : ReaderState Order) (p : SectionProgress) (block : Block) (named : file ≡ old.file)
    (g : GivesBlock old block new) (k : ReaderKeeps old new) (t : IsTrue old.told) where
  begins : IsTrue (is_some new.known)
  begins = rw g.gives.known_is refl

  block-split : (end : ℕ) → new.offset ≤ end
      → blocks_before old end ≡ given block (body_in block.total old.coming) ∷ blocks_before new end
  block-split end within =
      blocks.items-given old.known new.known old.tail new.tail old.file new.file old.offset new.offset end old.coming
      new.coming block g.gives.known_is k.tail k.file g.gives.next (g.none t) (g.block_is t) (g.gives.coming_next t)
      within

  block-size : new.offset + length new.coming ≡ old.offset + length old.coming
  block-size = ap (λ (n : ℕ). n + length new.coming) g.gives.next
      ∙ blocks.size-given old.known old.tail old.file old.offset old.coming new.coming block (g.none t) (g.block_is t)
      (g.gives.coming_next t)

  block-pass : (next : Option Peeked) (q : SectionProgress)
      → ((end : ℕ) → new.offset ≤ end → items_of_blocks old.file p (blocks_before old end)
      ≡ items_from_next next (next_frame next new.lent) (items_of_blocks new.file q (blocks_before new end)))
      → ((end : ℕ) → new.offset ≤ end → ending_in p (blocks_before old end) ≡ ending_in q (blocks_before new end))
      → FrontsPass (pcapng_fronts old p) next (pcapng_fronts new q)
  block-pass next q items ending = record {
    size = block-size;
    broken = g.gives.goes.after ∙ sym g.gives.goes.before;
    begun = λ some. begins;
    fresh = λ f. absurd (not-both (is_some new.known) begins f);
    back = λ end may. (omega (arith, may.0, g.gives.next), inr (omega (arith, may.0, g.gives.next, g.least)));
    items = λ end may. items end may.0;
    ending = λ end may. ending end may.0;
  }

  by-content : (c : Result BlockContent Rule) → c ≡ content_in p.interfaces block.kind block.order
      (unwrap_or new.lent [])
      → ((end : ℕ) → new.offset ≤ end → items_of_blocks old.file p (blocks_before old end)
      ≡ items_at_block new.file p block (body_in block.total old.coming) c
      (items_of_blocks new.file (counted_behind p block (unwrap_or new.lent []) c) (blocks_before new end)))
      → ((end : ℕ) → new.offset ≤ end → ending_in p (blocks_before old end)
      ≡ unless_faulty c (ending_with p None)
      (ending_in (counted_behind p block (unwrap_or new.lent []) c) (blocks_before new end)))
      → IfTaken (next_at file p block c)
      (FrontsPass (pcapng_fronts old p) (next_at file p block c)
      (pcapng_fronts new (counted_behind p block (unwrap_or new.lent []) c)))
  by-content (Ok contents.Section) is items ending = block-pass None _ items ending
  by-content (Ok (contents.Interface described)) is items ending = block-pass None _ items ending
  by-content (Ok (contents.Other kind)) is items ending = block-pass None _ items ending
  by-content (Ok (contents.Packet said)) is items ending =
      let there = packet_lent p.interfaces block.kind block.order new.lent said g.known is in
      let frame = frame_same new.lent (body_in block.total old.coming) said there (g.body_is t) in
      let which : new.file ≡ file = k.file ∙ sym named in
      let q = counted_behind p block (unwrap_or new.lent []) (Ok (contents.Packet said)) in
      block-pass (Some (peeks.Packet (meta_in file p block said) said.place)) q
      (λ end within. items end within
      ∙ (λ i. feeds.packet (meta_in (which i) p block said) (sym frame i)
      ∷ items_of_blocks new.file q (blocks_before new end))) ending
  by-content (Err rule) is items ending = tt

  -- after a block the file goes on, or a packet comes next
  pub block-passed : (content : Result BlockContent Rule) (next : Option Peeked) (q : SectionProgress)
      → content ≡ content_in p.interfaces block.kind block.order (unwrap_or new.lent [])
      → next ≡ next_at file p block content → q ≡ counted_behind p block (unwrap_or new.lent []) content
      → IfTaken next (FrontsPass (pcapng_fronts old p) next (pcapng_fronts new q))
  block-passed content next q is is_next is_q =
      let says = content_same p.interfaces block.kind block.order new.lent (body_in block.total old.coming) g.known
      (g.body_is t) ∙ sym is in
      rw (is_next, is_q) (by-content content is
      (λ end within. sym (items_counted new.file old.file p block (unwrap_or new.lent [])
      (body_in block.total old.coming) content (blocks_before old end) (blocks_before new end) k.file
      (block-split end within) says))
      (λ end within. sym (ending_behind p block (unwrap_or new.lent []) (body_in block.total old.coming) content
      (blocks_before old end) (blocks_before new end) (block-split end within) says
      (commented-same p block new.lent (body_in block.total old.coming) content g.known (g.body_is t) is))))

-- no bytes stand before the place where they begin
pub none-before : (offset : ℕ) (bytes : List ℕ) → bytes_before offset offset bytes ≡ []
none-before offset bytes = let none : offset - offset ≡ 0 = omega arith in ap (λ (n : ℕ). take n bytes) none

ended-items : (file : ℕ) (p : SectionProgress) (items : List (PieceItem Block)) → items ≡ stopped stops.End ∷ []
    → (items_of_blocks file p items ≡ []) × (ending_in p items ≡ ending_with p None)
unfolding items_of_blocks ending_in
ended-items file p items is = rw is (refl, refl)

no-blocks : (known : Option Order) (tail : Tail) (file offset : ℕ) (bytes : List ℕ) (p : SectionProgress)
    → IsTrue (is_some known)
    → (items_of_blocks file p (block_items_from known tail file offset (bytes_before offset offset bytes)) ≡ [])
    × (ending_in p (block_items_from known tail file offset (bytes_before offset offset bytes)) ≡ ending_with p None)
no-blocks None tail file offset bytes p is = absurd (not-both false is refl)
no-blocks (Some order) tail file offset bytes p is =
    ended-items file p _ (ap (block_items_from (Some order) tail file offset) (none-before offset bytes)
    ∙ items_from-none (Some order) tail file offset refl)

-- a read fails in a block
pub block-fails : (old new : ReaderState Order) (p : SectionProgress) (file offset : ℕ)
    → ReaderBreaks old file offset new
    → old.broken ≡ None → FrontsFail (pcapng_fronts old p) offset (pcapng_fronts new p)
block-fails old new p file offset b none =
    let at : offset ≡ old.offset = from_none old.broken (offset ≡ old.offset) none b.first in
    let known : is_some new.known ≡ is_some old.known = ap is_some b.known_same in
    let ends = λ (n : IsTrue (is_some new.known)). no-blocks old.known old.tail old.file old.offset old.coming p
    (subst (λ (b : Bool). IsTrue b) known n) in
    subst (λ (place : ℕ). FrontsFail (pcapng_fronts old p) place (pcapng_fronts new p)) (sym at)
    (record {
      within = omega arith;
      fresh = λ f. (sym known ∙ f, refl);
      back = λ n. (omega arith, inl (subst (λ (b : Bool). IsTrue b) known n));
      items = λ n. (ends n).0;
      so_far = λ n. ap Some (sym (ends n).1);
      whole = λ n. ap (λ (e : FileEnd). e.ending.cut) (ends n).1;
    })

pub block-fault : (old new : ReaderState Order) (p : SectionProgress) (fault : Fault) (next : Option Peeked)
    → GivesNextBlock old (Err fault) new
    → FrontsAnswer {A = ⊤} (pcapng_fronts old p) (Err fault) next (pcapng_fronts new p)
block-fault old new p (Refused refusal) next g = tt
block-fault old new p (Read file offset) next g = λ none. block-fails old new p file offset g none
block-fault old new p Write next g = tt
block-fault old new p Memory next g = tt

-- what that says of the packet that comes next
given-packet : (old new : Fronts) (meta : Meta) (place : ℕ) → FrontsPass old (Some (peeks.Packet meta place)) new
    → FrontsGive old (Some (heads.Packet meta)) new
given-packet old new meta place p =
    let begun = p.begun refl in record {
      meta = meta;
      frame = part_of new.lent place meta.captured;
      head_is = refl;
      size = p.size;
      broken = p.broken;
      begun = begun;
      back = λ end within. p.back end (within, inl begun);
      items = λ end within. p.items end (within, inl begun);
      ending = λ end within. p.ending end (within, inl begun);
    }

pub Fronts-given : (old new : Fronts) (next : Option Peeked) (n : Peeked) (meta : Meta) (place : ℕ) → Some n ≡ next
    → n ≡ peeks.Packet meta place → IfTaken next (FrontsPass old next new) → FrontsGive old (next_head next) new
Fronts-given old new next n meta place is which p =
    let same : next ≡ Some (peeks.Packet meta place) = sym is ∙ ap Some which in
    subst (λ (o : Option Peeked). FrontsGive old (next_head o) new) (sym same)
    (given-packet old new meta place
    (subst (λ (o : Option Peeked). IfTaken o (FrontsPass old o new)) same p))

pub Fronts-fault : (old new : Fronts) (next : Option Peeked) (head : Option Head) (fault : Fault)
    → FrontsAnswer {A = ⊤} old (Err fault) next new → FrontsFind old (Err fault) head new
Fronts-fault old new next head (Refused refusal) f = tt
Fronts-fault old new next head (Read file offset) f = f
Fronts-fault old new next head Write f = tt
Fronts-fault old new next head Memory f = tt

-- nothing is known of what comes next
pub none-next : (next : Option Peeked) → next_head next ≡ None → next ≡ None
none-next None is = refl
none-next (Some next) is = cc
