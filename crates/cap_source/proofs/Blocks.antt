-- What a block adds to what was read of a pcapng file.
use Rattle.std.proofs.Common.{◌≡◌, ◌≤◌, ◌<◌, ◌+◌, ◌%◌, ℕ, Bool, true, List, [], ◌∷◌, length, slice_get, Option}
use Rattle.std.proofs.Common.{Some, None, is_some, IsSome, IfSome, IsTrue, unwrap_or, Result, Ok, Err, refl, sym}
use Rattle.std.proofs.Common.{ap, ◌∙◌, subst, arith, nat_lt, ◌==◌, cond, length-append}
use Rattle.std.proofs.lemmas.Bool.Decides.{nat_tests}
use Rattle.cap_bytes.specs.declared.faults.Refusal.{Refusal}
use Rattle.cap_bytes.specs.declared.faults.Rule.{Rule}
use Rattle.cap_bytes.specs.declared.numbers.Order.{Order}
use Rattle.cap_time.specs.declared.resolutions.Interface.{Interface}
use Rattle.cap_blocks.specs.Grammar.{section_kind, interface_kind, obsolete_kind, simple_kind, enhanced_kind}
use Rattle.cap_blocks.specs.Grammar.{is_known_kind}
use Rattle.cap_blocks.specs.Grammar.{is_total, least_total}
use Rattle.cap_bytes.specs.Items.{IsEnd, PieceItem, cut_by, cut_of, given, stopped}
use Rattle.cap_bytes.specs.inner.Reader.{ReaderState, ReaderKeeps, GivesStop}
use Rattle.cap_blocks.specs.inner.Reader.{blocks_to_come, GivesBlock, ReachesBlock}
use Rattle.cap_blocks.specs.Split.{body_in, block_fault}
use Rattle.cap_blocks.specs.declared.blocks.Block.{Block}
use Rattle.cap_bytes.specs.declared.stops.CutRest.{CutRest}
use Rattle.cap_bytes.specs.declared.stops.Stop.{Stop}
use Rattle.cap_bytes.specs.declared.stops.Stop.TheVariants as stops
use Rattle.cap_bytes.proofs.Parsing.{from_none}
use Rattle.cap_source.proofs.Bodies.{other}
use Rattle.cap_source.proofs.Commenting.{commented-same, counted-more, first-counted, items-counted}
use Rattle.cap_source.proofs.Pcaps.{none_stops}
use Rattle.cap_bytes.specs.Number.{number}
use Rattle.cap_bytes.specs.declared.faults.Rule.TheVariants as rules
use Rattle.cap_source.specs.TimeBases.{interface_in}
use Rattle.cap_source.specs.Contents.{fitting, of_interface, timed_in, simple_in, of_body, described, content_in}
use Rattle.cap_source.specs.Feed as feeds
use Rattle.cap_source.specs.Items.{SectionProgress, behind, frame_in, items_at_block, items_of_blocks, ending_with}
use Rattle.cap_source.specs.Items.{commented, counted_behind, ending_in}
use Rattle.cap_source.specs.Items.{unless_faulty, first_in, unless_item}
use Rattle.cap_source.specs.inner.FileState.{FileState, pcapng_state, lent_length, part_of, FileLearns, FileKeeps}
use Rattle.cap_source.specs.inner.FileState.{GoesOn}
use Rattle.cap_source.specs.inner.FileState.{StepsTo}
use Rattle.cap_source.specs.inner.FileState.{FileTakes, TakesShown, next_at}
use Rattle.cap_source.specs.inner.SectionState.{counted_blocks}
use Rattle.cap_source.specs.declared.contents.BlockContent.{BlockContent}
use Rattle.cap_source.specs.declared.contents.BlockContent.TheVariants as contents
use Rattle.cap_source.specs.declared.contents.BlockPacket.{BlockPacket}
use Rattle.cap_source.specs.declared.feeds.FileEnd.{FileEnd}
use Rattle.cap_source.specs.declared.readers.Peeked.{Peeked}
use Rattle.cap_source.specs.declared.readers.Peeked.TheVariants as peeks

-- a total length that a kind allows
pub total_least : (kind total size : ℕ) → IsTrue (is_total kind total) → size + 12 ≡ total
    → least_total kind ≤ 12 + size
unfolding is_total
total_least kind total size allowed is = grind (arith, nat_tests)

-- what of a block
abbrev pub IsFit : ℕ → List ℕ → Result BlockContent Rule → Type 0
IsFit few body (Ok contents.Section) = Unit {0}
IsFit few body (Ok (contents.Interface described)) = few < 1024
IsFit few body (Ok (contents.Packet p)) = (p.place + p.captured ≤ length body) × (p.captured ≤ 262144)
IsFit few body (Ok (contents.Other kind)) = Unit {0}
IsFit few body (Err rule) = Unit {0}

if_fit : (few : ℕ) (body : List ℕ) (b : Bool) (x y : Result BlockContent Rule) → IsFit few body x → IsFit few body y
    → IsFit few body (cond b x y)
if_fit few body b x y p q = grind arith

interface_fit : (few : ℕ) (order : Order) (body : List ℕ)
    → IsFit few body (of_body (described order body) (interface_in few order body))
unfolding interface_in
interface_fit few order body = grind arith

fitting_by : (few : ℕ) (p : BlockPacket) (body : List ℕ) (a b : Bool) → nat_lt 262144 p.captured ≡ a
    → nat_lt (length body) (p.place + p.captured) ≡ b
    → IsFit few body (of_body contents.Packet (cond a (Err rules.PacketLong) (cond b (Err rules.Captured) (Ok p))))
fitting_by few p body a b is_a is_b = grind arith

packet_fit : (few : ℕ) (p : BlockPacket) (body : List ℕ)
    → IsFit few body (of_body contents.Packet (fitting p (length body)))
unfolding fitting
packet_fit few p body = fitting_by few p body (nat_lt 262144 p.captured)
    (nat_lt (length body) (p.place + p.captured)) refl refl

at_interface : (few : ℕ) (body : List ℕ) (i : Option Interface) (make : Interface → BlockPacket)
    → IsFit few body (of_body contents.Packet (of_interface i (λ interface. fitting (make interface) (length body))))
at_interface few body None make = tt
at_interface few body (Some interface) make = packet_fit few (make interface) body

timed_fit : (few : ℕ) (interfaces : List Interface) (n : ℕ) (order : Order) (body : List ℕ)
    → IsFit few body (of_body contents.Packet (timed_in interfaces n order body))
unfolding timed_in
timed_fit few interfaces n order body = at_interface few body (slice_get interfaces n) _

simple_fit : (few : ℕ) (interfaces : List Interface) (order : Order) (body : List ℕ)
    → IsFit few body (of_body contents.Packet (simple_in interfaces order body))
unfolding simple_in
simple_fit few interfaces order body = at_interface few body (slice_get interfaces 0) _

-- What a block says fits.
pub content_fit : (interfaces : List Interface) (kind : ℕ) (order : Order) (body : List ℕ)
    → IsFit (length interfaces) body (content_in interfaces kind order body)
unfolding content_in
content_fit interfaces kind order body =
    let few = length interfaces in
    if_fit few body (kind == section_kind) _ _ tt
    (if_fit few body (kind == interface_kind) _ _ (interface_fit few order body)
    (if_fit few body (kind == enhanced_kind) _ _ (timed_fit few interfaces (number order 4 body) order body)
    (if_fit few body (kind == obsolete_kind) _ _ (timed_fit few interfaces (number order 2 body) order body)
    (if_fit few body (kind == simple_kind) _ _ (simple_fit few interfaces order body) tt))))

pub padded_body : (kind total size : ℕ) → IsTrue (is_total kind total) → size + 12 ≡ total → size % 4 ≡ 0
unfolding is_total
padded_body kind total size allowed is = grind (arith, nat_tests)

-- What a block says doesn't depend on a body that isn't lent.
pub content_same : (interfaces : List Interface) (kind : ℕ) (order : Order) (lent : Option (List ℕ)) (body : List ℕ)
    → is_some lent ≡ is_known_kind kind
    → IfSome lent (λ b. b ≡ body) → content_in interfaces kind order body
    ≡ content_in interfaces kind order (unwrap_or lent [])
content_same interfaces kind order lent body known is = grind (arith, other)

pub packet_lent : (interfaces : List Interface) (kind : ℕ) (order : Order) (lent : Option (List ℕ)) (p : BlockPacket)
    → is_some lent ≡ is_known_kind kind
    → Ok (contents.Packet p) ≡ content_in interfaces kind order (unwrap_or lent []) → IsSome lent
packet_lent interfaces kind order lent p known is = grind (arith, other)

pub frame_same : (lent : Option (List ℕ)) (body : List ℕ) (p : BlockPacket) → IsSome lent → IfSome lent (λ b. b ≡ body)
    → part_of lent p.place p.captured ≡ frame_in p body
frame_same lent body p there is = grind arith

lent_size : (few : ℕ) (lent : Option (List ℕ)) (p : BlockPacket) → IsSome lent
    → IsFit few (unwrap_or lent []) (Ok (contents.Packet p)) → p.place + p.captured + 1 ≤ lent_length lent
lent_size few lent p there fit = grind arith

pub items_behind : (f g : ℕ) (p : SectionProgress) (block : Block) (body : List ℕ) (content : Result BlockContent Rule)
    (old new : List (PieceItem Block)) → f ≡ g → old ≡ given block body ∷ new
    → content_in p.interfaces block.kind block.order body ≡ content
    → items_at_block f p block body content (items_of_blocks f (behind p content) new) ≡ items_of_blocks g p old
unfolding items_of_blocks
items_behind f g p block body content old new fg is e = rw (is, ← e, fg) refl

-- the same with the comments of the block counted in a body that may not be lent
pub items_counted : (f g : ℕ) (p : SectionProgress) (block : Block) (bytes body : List ℕ)
    (content : Result BlockContent Rule)
    (old new : List (PieceItem Block)) → f ≡ g → old ≡ given block body ∷ new
    → content_in p.interfaces block.kind block.order body ≡ content
    → items_at_block f p block body content (items_of_blocks f (counted_behind p block bytes content) new)
    ≡ items_of_blocks g p old
items_counted f g p block bytes body content old new fg is e =
    ap (items_at_block f p block body content) (items-counted f p block bytes content new)
    ∙ items_behind f g p block body content old new fg is e

pub ending_behind : (p : SectionProgress) (block : Block) (bytes body : List ℕ) (content : Result BlockContent Rule)
    (old new : List (PieceItem Block)) → old ≡ given block body ∷ new
    → content_in p.interfaces block.kind block.order body ≡ content
    → commented p block bytes content ≡ commented p block body content
    → unless_faulty content (ending_with p None) (ending_in (counted_behind p block bytes content) new)
    ≡ ending_in p old
unfolding ending_in
ending_behind p block bytes body content old new is e same =
    ap (λ q. unless_faulty content (ending_with p None) (ending_in (behind q content) new)) same ∙ rw (is, ← e) refl

first_behind : (p : SectionProgress) (block : Block) (bytes body : List ℕ) (content : Result BlockContent Rule)
    (old new : List (PieceItem Block)) → old ≡ given block body ∷ new
    → content_in p.interfaces block.kind block.order body ≡ content
    → unless_item content p.first (first_in (counted_behind p block bytes content) new) ≡ first_in p old
unfolding first_in
first_behind p block bytes body content old new is e =
    ap (unless_item content p.first) (first-counted p block bytes content new) ∙ rw (is, ← e) refl

-- After a block the file goes on, or a packet or a refusal comes next.
pub block_steps : (file : ℕ) (old new : ReaderState Order) (p : SectionProgress) (block : Block)
    (content : Result BlockContent Rule)
    → file ≡ old.file → GivesBlock old block new → ReaderKeeps old new
    → (IsTrue old.told → blocks_to_come old ≡ given block (body_in block.total old.coming) ∷ blocks_to_come new)
    → content ≡ content_in p.interfaces block.kind block.order (unwrap_or new.lent [])
    → StepsTo (pcapng_state old p) (next_at file p block content)
    (pcapng_state new (counted_behind p block (unwrap_or new.lent []) content))
block_steps file old new p block content named g k taken is =
    by content is
    (subst (IsFit (length p.interfaces) (unwrap_or new.lent [])) (sym is)
    (content_fit p.interfaces block.kind block.order (unwrap_or new.lent [])))
    (λ t. items_counted new.file old.file p block (unwrap_or new.lent []) (body_in block.total old.coming) content
    (blocks_to_come old) (blocks_to_come new) k.file (taken t) (says t))
    (λ t. ending_behind p block (unwrap_or new.lent []) (body_in block.total old.coming) content (blocks_to_come old)
    (blocks_to_come new) (taken t) (says t)
    (commented-same p block new.lent (body_in block.total old.coming) content g.known (g.body_is t) is))
    (λ t. first_behind p block (unwrap_or new.lent []) (body_in block.total old.coming) content (blocks_to_come old)
    (blocks_to_come new) (taken t) (says t))
  where
    says : IsTrue old.told → content_in p.interfaces block.kind block.order (body_in block.total old.coming) ≡ content
    says t = content_same p.interfaces block.kind block.order new.lent (body_in block.total old.coming) g.known
        (g.body_is t) ∙ sym is

    goes : (q : SectionProgress)
        → (IsTrue old.told
        → items_of_blocks new.file q (blocks_to_come new) ≡ items_of_blocks old.file p (blocks_to_come old))
        → (IsTrue old.told → ending_in q (blocks_to_come new) ≡ ending_in p (blocks_to_come old))
        → (IsTrue old.told → first_in q (blocks_to_come new) ≡ first_in p (blocks_to_come old))
        → GoesOn (pcapng_state old p) (pcapng_state new q)
    goes q items ending first = grind arith

    by : (c : Result BlockContent Rule) → c ≡ content_in p.interfaces block.kind block.order (unwrap_or new.lent [])
        → IsFit (length p.interfaces) (unwrap_or new.lent []) c
        → (IsTrue old.told → items_at_block new.file p block (body_in block.total old.coming) c
        (items_of_blocks new.file (counted_behind p block (unwrap_or new.lent []) c) (blocks_to_come new))
        ≡ items_of_blocks old.file p (blocks_to_come old))
        → (IsTrue old.told → unless_faulty c (ending_with p None)
        (ending_in (counted_behind p block (unwrap_or new.lent []) c) (blocks_to_come new))
        ≡ ending_in p (blocks_to_come old))
        → (IsTrue old.told
        → unless_item c p.first (first_in (counted_behind p block (unwrap_or new.lent []) c) (blocks_to_come new))
        ≡ first_in p (blocks_to_come old))
        → StepsTo (pcapng_state old p) (next_at file p block c)
        (pcapng_state new (counted_behind p block (unwrap_or new.lent []) c))
    by c same fit items ending first = grind (arith, packet_lent, lent_size, none_stops, items_of_blocks, frame_same)

-- What a block leaves of the counts.
pub block_keeps : (old new : ReaderState Order) (p : SectionProgress) (block : Block)
    (content : Result BlockContent Rule)
    → GivesBlock old block new → ReaderKeeps old new
    → content ≡ content_in p.interfaces block.kind block.order (unwrap_or new.lent [])
    → FileKeeps (pcapng_state old p) (pcapng_state new (counted_behind p block (unwrap_or new.lent []) content))
block_keeps old new p block content g k is =
    grind (arith, unwrap_or, content_fit, counted_blocks, length-append, counted-more)

stopped_again : (new : ReaderState Order) (stop : Stop) → new.stop ≡ Some stop → blocks_to_come new ≡ stopped stop ∷ []
stopped_again new stop is = rw is refl

no_items : (stop : Stop) (file : ℕ) (p : SectionProgress) (items : List (PieceItem Block)) → IsEnd stop
    → items ≡ stopped stop ∷ []
    → [] ≡ items_of_blocks file p items
unfolding items_of_blocks
no_items stop file p items h is = grind arith

ending_stopped : (stop : Stop) (p : SectionProgress) (items : List (PieceItem Block)) → items ≡ stopped stop ∷ []
    → ending_with p (cut_of stop) ≡ ending_in p items
unfolding ending_in
ending_stopped stop p items is = rw is refl

first_stopped : (stop : Stop) (p : SectionProgress) (items : List (PieceItem Block)) → items ≡ stopped stop ∷ []
    → p.first ≡ first_in p items
unfolding first_in
first_stopped stop p items is = rw is refl

refused_items : (refusal : Refusal) (file : ℕ) (p : SectionProgress) (items : List (PieceItem Block))
    → items ≡ stopped (stops.Refused refusal) ∷ [] → feeds.refused refusal ∷ [] ≡ items_of_blocks file p items
unfolding items_of_blocks
refused_items refusal file p items is = rw is refl

-- The blocks end.
pub end_learned : (cut : Option CutRest) (stop : Stop) (old new : ReaderState Order) (p : SectionProgress)
    → old.stop ≡ None → IsEnd stop
    → GivesStop (is_some old.known) (block_fault old.known old.offset old.coming) stop old new
    → cut ≡ cut_by new.stop → ReaderKeeps old new
    → (IsTrue old.told → blocks_to_come new ≡ blocks_to_come old)
    → FileLearns (pcapng_state old p) (peeks.End (ending_with p cut)) (pcapng_state new p)
end_learned cut stop old new p free ends g was k same =
    let at = from_none old.stop _ free g.first in
    let which : cut ≡ cut_of stop = was ∙ ap cut_by g.stop_is in
    record {
      is = record { file = refl; lent = omega arith; captured = omega arith; behind = omega arith };
      place = k.offset;
      free = refl;
      goes = record { before = at.goes.before; after = at.goes.after; failed = at.goes.failed };
      items = λ t. no_items stop old.file p (blocks_to_come old) ends (sym (same t) ∙ stopped_again new stop g.stop_is);
      ending = λ t. ap (ending_with p) which ∙ ending_stopped stop p (blocks_to_come old) (sym (same t)
          ∙ stopped_again new stop g.stop_is);
      first = λ t. first_stopped stop p (blocks_to_come old) (sym (same t) ∙ stopped_again new stop g.stop_is);
    }

-- A rest is refused.
pub refusal_learned : (refusal : Refusal) (old new : ReaderState Order) (p : SectionProgress) → old.stop ≡ None
    → GivesStop (is_some old.known) (block_fault old.known old.offset old.coming) (stops.Refused refusal) old new
    → ReaderKeeps old new
    → (IsTrue old.told → blocks_to_come old ≡ stopped (stops.Refused refusal) ∷ [])
    → FileLearns (pcapng_state old p) (peeks.Refused refusal (ending_with p None)) (pcapng_state new p)
refusal_learned refusal old new p free g k same =
    let at = from_none old.stop _ free g.first in
    record {
      is = record {
        file = at.is_stop.0 ∙ sym k.file;
        lent = omega arith;
        captured = omega arith;
        behind = omega arith;
      };
      place = k.offset;
      free = refl;
      goes = record { before = at.goes.before; after = at.goes.after; failed = at.goes.failed };
      items = λ t. refused_items refusal old.file p (blocks_to_come old) (same t);
      ending = λ t. ending_stopped (stops.Refused refusal) p (blocks_to_come old) (same t);
      first = λ t. first_stopped (stops.Refused refusal) p (blocks_to_come old) (same t);
    }

-- the same, of what a call answered
pub block_stepped : (file : ℕ) (old new : ReaderState Order) (p q : SectionProgress) (block : Block)
    (content : Result BlockContent Rule)
    (next : Option Peeked)
    → next ≡ next_at file p block content → q ≡ counted_behind p block (unwrap_or new.lent []) content
    → file ≡ old.file → GivesBlock old block new → ReaderKeeps old new
    → (IsTrue old.told → blocks_to_come old ≡ given block (body_in block.total old.coming) ∷ blocks_to_come new)
    → content ≡ content_in p.interfaces block.kind block.order (unwrap_or new.lent [])
    → StepsTo (pcapng_state old p) next (pcapng_state new q)
block_stepped file old new p q block content next is_next is_q named g k taken is = grind (arith, block_steps)

-- The same of a packet's block, of which a packet or a refusal comes next.
pub packet_shown : (old new : FileState) (file : ℕ) (p : SectionProgress) (block : Block)
    (said : Result BlockPacket Rule)
    (next : Option Peeked)
    → next ≡ next_at file p block (of_body contents.Packet said) → StepsTo old next new → TakesShown old true next new
packet_shown old new file p block said (Some next) is steps = (next, refl, steps)
packet_shown old new file p block (Ok packet) None is steps = cc
packet_shown old new file p block (Err rule) None is steps = cc

pub block_kept : (old new : ReaderState Order) (p q : SectionProgress) (block : Block)
    (content : Result BlockContent Rule)
    → q ≡ counted_behind p block (unwrap_or new.lent []) content → GivesBlock old block new → ReaderKeeps old new
    → content ≡ content_in p.interfaces block.kind block.order (unwrap_or new.lent [])
    → FileKeeps (pcapng_state old p) (pcapng_state new q)
block_kept old new p q block content is_q g k is = grind (arith, block_keeps)

pub refusal_kept : (refusal : Refusal) (ending : FileEnd) (old new : ReaderState Order) (p : SectionProgress)
    → ending ≡ ending_with p None → old.stop ≡ None
    → GivesStop (is_some old.known) (block_fault old.known old.offset old.coming) (stops.Refused refusal) old new
    → ReaderKeeps old new
    → (IsTrue old.told → blocks_to_come old ≡ stopped (stops.Refused refusal) ∷ [])
    → FileLearns (pcapng_state old p) (peeks.Refused refusal ending) (pcapng_state new p)
refusal_kept refusal ending old new p is_ending free g k same =
    subst (λ (e : FileEnd). FileLearns (pcapng_state old p) (peeks.Refused refusal e) (pcapng_state new p))
    (sym is_ending)
    (refusal_learned refusal old new p free g k same)

-- what was said of the body that is lent
pub content_lent : (said : Result BlockContent Rule) (these those : List Interface) (kind : ℕ) (order : Order)
    (lent : Option (List ℕ)) (body : List ℕ)
    → said ≡ content_in these enhanced_kind order body → these ≡ those → kind ≡ enhanced_kind → lent ≡ Some body
    → said ≡ content_in those kind order (unwrap_or lent [])
content_lent said these those kind order lent body is same kind_is lent_is = rw (kind_is, lent_is, ← same) is

-- the body of an enhanced packet block has its fixed fields
pub enhanced_size : (kind total size : ℕ) → IsTrue (is_total kind total) → size + 12 ≡ total
    → kind ≡ enhanced_kind → 20 ≤ size
enhanced_size kind total size allowed is kind_is = let least = rw kind_is at (total_least kind total size allowed is) in
    omega (arith, least)

-- How far is read for a block.
pub block_taken : (old new : ReaderState Order) (block : Block) (p q : SectionProgress) → GivesBlock old block new
    → ReachesBlock old (Ok (Some block)) new
    → FileTakes (pcapng_state old p) (pcapng_state new q)
block_taken old new block p q g h = (omega (arith, g.gives.next, g.least), rw g.gives.next h)
