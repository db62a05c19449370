-- What a look at the next bytes of a pcapng file that is fed returns.
use Rattle.std.proofs.Common.{◌≡◌, ℕ, ◌+◌, ◌-◌, ◌^◌, ◌≤◌, ◌<◌, Bool, true, false, IsTrue, List, [], ◌∷◌, ◌++◌, length}
use Rattle.std.proofs.Common.{take}
use Rattle.std.proofs.Common.{drop, Option, Some, None, Ok, Err, refl, sym, ap, ◌∙◌, subst, arith, min, is_some}
use Rattle.std.specs.Prelude.{Result}
use Rattle.std.proofs.lemmas.Bool.Decides.{nat_tests}
use Rattle.std.proofs.Common.{append-nil, drop-drop, ◌||◌, not}
use Rattle.std.proofs.lemmas.List.{drop-take, take-take}
use Rattle.cap_blocks.proofs.Faults.{FieldsFit-from_header, total-least}
use Rattle.cap_blocks.proofs.More.{block-refused}
use Rattle.cap_blocks.proofs.Whole.{total-at}
use Rattle.cap_blocks.specs.Grammar.{is_known_kind, is_total}
use Rattle.cap_blocks.specs.Split.{block_at, block_fault, block_items_from, body_fault, body_in}
use Rattle.cap_blocks.specs.Split.{block_order_at, kind_at, total_at}
use Rattle.cap_blocks.specs.inner.Parsing.{ParsesBlockHeader}
use Rattle.cap_blocks.specs.declared.blocks.Block.{Block}
use Rattle.cap_bytes.specs.Items.{stop_by}
use Rattle.cap_bytes.specs.Number.{number}
use Rattle.cap_bytes.specs.declared.faults.Fault.{Fault}
use Rattle.cap_bytes.specs.declared.faults.Fault.TheVariants as faults
use Rattle.cap_bytes.specs.declared.faults.Rule.{Rule}
use Rattle.cap_bytes.specs.declared.faults.Rule.TheVariants.{BlockTrailer, Cut}
use Rattle.cap_bytes.specs.declared.faults.Tail.{Tail}
use Rattle.cap_bytes.specs.declared.formats.Format.{Format}
use Rattle.cap_bytes.specs.declared.formats.Format.TheVariants.{Pcapng}
use Rattle.cap_bytes.specs.declared.numbers.Order.{Order}
use Rattle.cap_bytes.specs.declared.stops.Stop.TheVariants as stops
use Rattle.cap_bytes.specs.declared.stops.Stop.{Stop}
use Rattle.cap_source.proofs.FedRecords.{format-append}
use Rattle.cap_source.proofs.FedBlocks.{block-fed, block-some, blocks-stop, skip-done, skip-entered}
use Rattle.cap_source.proofs.FedBlocks.{skip-facts}
use Rattle.cap_source.proofs.FedBlocks.{skip-other, skip-passed, skip-short}
use Rattle.cap_source.proofs.FedStops.{broken, broken-by, stop_by-short, stopped-as}
use Rattle.cap_source.specs.Contents.{content_in}
use Rattle.cap_source.proofs.FedBlocks.{rest_at_block}
use Rattle.cap_source.specs.Fed.{FedRest, PushView, is_over_at, packet_then, rest_after, rest_at_stage, rest_from}
use Rattle.cap_source.specs.Fed.{rest_of_blocks, rest_of_stop, skipped_rest}
use Rattle.cap_source.specs.Feed.{refused}
use Rattle.cap_source.specs.Items.{SectionProgress, after, behind, ending_from, frame_in, is_pcapng, items_from}
use Rattle.cap_source.specs.declared.contents.BlockContent.{BlockContent}
use Rattle.cap_source.specs.declared.contents.BlockContent.TheVariants as contents
use Rattle.cap_source.specs.declared.contents.BlockPacket.{BlockPacket}
use Rattle.cap_source.specs.declared.fed.PushEvent.{PushEvent}
use Rattle.cap_source.specs.declared.fed.PushEvent.TheVariants as steps
use Rattle.cap_source.specs.declared.fed.Stage.{Stage}
use Rattle.cap_source.specs.declared.fed.Stage.TheVariants.{Start, Blocks, Skipping, Stopped}
use Rattle.cap_source.specs.declared.packets.Meta.{Meta}
use Rattle.cap_source.specs.inner.FedSteps.{StandsStill, format_at}
use Rattle.cap_source.specs.inner.FedSteps.{AreShort, BreaksBy, BreaksOff, IsAtBlock, IsNoPacket, IsSoundPush}
use Rattle.cap_source.specs.inner.FedSteps.{StepsFed}
use Rattle.cap_source.specs.inner.FedSteps.{TakesBlockFed}
use Rattle.cap_source.specs.inner.FedSteps.{IsSoundStage, StopsFed, TakesFed, behind_block}

-- a packet's bytes in its block
frame-at : (p : BlockPacket) (total : ℕ) (b : List ℕ) → 12 + p.place + p.captured ≤ total
    → frame_in p (body_in total b) ≡ take p.captured (drop (8 + p.place) b)
frame-at p total b within =
    let m = (total - 12) - p.place in
    let sum : total - 12 ≡ p.place + m = omega (arith, within) in
    ap (λ (n : ℕ). take p.captured (drop p.place (take n (drop 8 b)))) sum
    ∙ (ap (take p.captured) (drop-take p.place m (drop 8 b))
    ∙ (take-take p.captured m (drop p.place (drop 8 b)) (omega (arith, within))
    ∙ ap (take p.captured) (drop-drop p.place 8 b)))

-- a block that gives no packet
no-packet : (file : ℕ) (progress : SectionProgress) (block : Block) (body : List ℕ) (content : BlockContent)
    (rest : FedRest)
    → IsNoPacket content → rest_at_block file progress block body (Ok content) rest ≡ rest
no-packet file progress block body contents.Section rest h = refl
no-packet file progress block body (contents.Interface described) rest h = refl
no-packet file progress block body (contents.Packet p) rest h = absurd h
no-packet file progress block body (contents.Other kind) rest h = refl

module _ (old : PushView) (section : Option Order) (b : List ℕ) (at : old.stage ≡ Blocks section) where
  -- a block that breaks a rule
  pub block-breaks : (rule : Rule) (result : Result PushEvent Fault) (new : PushView)
      → block_fault section old.offset b ≡ Some rule → (rule ≡ Cut → length b < 2 ^ 19)
      → BreaksOff old (is_some section) b rule result new → StepsFed old b result new
  block-breaks rule result new is few h =
      broken old (is_some section) (block_fault section old.offset) b rule
      (λ w stop e. ap (λ (s : Stage). rest_at_stage s old w) at
      ∙ (blocks-stop old.file old.progress section old.tail old.offset w stop e
      ∙ ap (λ (s : Stage). rest_of_stop (format_at s) old.progress stop) (sym at)))
      is (λ other later. block-refused section old.offset b later rule is other)
      (λ other. block-some old.file old.progress section old.tail old.offset b rule is other) few result new h

  module _ (block : Block) (p : ParsesBlockHeader section old.offset b (Ok block))
      (uncounted : old.progress.comments ≡ None) where
    offset-same : block.offset ≡ old.offset
    unfolding block_at
    offset-same = ap (λ (k : Block). k.offset) p.1

    -- one that stands whole, by what it says
    module _ (whole : block.total ≤ length b) (none : body_fault block.order b ≡ None) where
      said : Result BlockContent Rule
      said = content_in old.progress.interfaces block.kind block.order (body_in block.total b)

      fed : (later : List ℕ) → rest_after old (b ++ later)
          ≡ rest_at_block old.file old.progress block (body_in block.total b) said
          (rest_of_blocks old.file (behind old.progress said)
          (block_items_from (Some block.order) old.tail old.file (old.offset + block.total)
          (drop block.total b ++ later)))
      unfolding said
      fed later =
          ap (λ (s : Stage). rest_at_stage s old (b ++ later)) at
          ∙ block-fed old.file old.progress uncounted section old.tail old.offset b later block p whole none

      by-said : (s : Result BlockContent Rule) → said ≡ s → (later : List ℕ) → rest_after old (b ++ later)
          ≡ rest_at_block old.file old.progress block (body_in block.total b) s
          (rest_of_blocks old.file (behind old.progress s)
          (block_items_from (Some block.order) old.tail old.file (old.offset + block.total)
          (drop block.total b ++ later)))
      by-said s is later =
          fed later
          ∙ ap (λ (s : Result BlockContent Rule). rest_at_block old.file old.progress block (body_in block.total b) s
          (rest_of_blocks old.file (behind old.progress s)
          (block_items_from (Some block.order) old.tail old.file (old.offset + block.total)
          (drop block.total b ++ later)))) is

      -- and goes on behind it
      goes-on : (progress : SectionProgress) (new : PushView) (size : ℕ) (later : List ℕ) → size ≡ block.total
          → new ≡ behind_block old block progress
          → rest_of_blocks old.file progress
          (block_items_from (Some block.order) old.tail old.file (old.offset + block.total)
          (drop block.total b ++ later))
          ≡ rest_after new (drop size b ++ later)
      goes-on progress new size later sized is =
          (λ i. rest_of_blocks old.file progress
          (block_items_from (Some block.order) old.tail old.file (sym offset-same i + block.total)
          (drop (sym sized i) b ++ later)))
          ∙ ap (λ (c : PushView). rest_after c (drop size b ++ later)) (sym is)

      some : 0 < block.total
      some =
          let f = FieldsFit-from_header section old.offset b p.0 in
          omega (
            arith,
            total-least (kind_at (block_order_at section b) b) (total_at (block_order_at section b) b)
                f.allowed,
            ap (λ (k : Block). k.total) p.1,
            total-at section old.offset b,
          )

      taken-by : (result : Result PushEvent Fault) (new : PushView) → TakesFed old block said result new
          → StepsFed old b result new
      taken-by (Ok (steps.Packet meta place size)) new h =
          let pk = h.0 in
          let captured : meta.captured ≡ pk.captured = ap (λ (m : Meta). m.captured) h.2 in
          let frame : frame_in pk (body_in block.total b) ≡ take meta.captured (drop place b) =
          frame-at pk block.total b h.5 ∙ (λ i. take (sym captured i) (drop (sym h.3 i) b)) in (
            omega (arith, some, h.4),
            omega (arith, whole, h.4),
            omega (arith, captured, h.3, h.4, h.5),
            λ later may.
                by-said (Ok (contents.Packet pk)) h.1 later
                ∙ (λ i. packet_then (sym h.2 i) (frame i) (goes-on old.progress new size later h.4 h.6 i)),
          )
      taken-by (Ok (steps.Passed n)) new h = (
        omega (arith, some, h.3),
        omega (arith, whole, h.3),
        λ later may.
            by-said (Ok h.0) h.1 later
            ∙ (no-packet old.file old.progress block (body_in block.total b) h.0 _ h.2
            ∙ goes-on (after old.progress h.0) new n later h.3 h.4),
      )
      taken-by (Ok steps.Short) new h = absurd h
      taken-by (Ok steps.Ends) new h = absurd h
      taken-by (Err (faults.Refused refusal)) new h = (
        λ later may.
            by-said (Err h.0) h.1 later
            ∙ ((λ i. rest_of_stop (format_at (sym at i)) old.progress (stops.Refused (sym h.2 i)))
            ∙ ap (λ (c : PushView). rest_after c []) (sym h.3)),
        subst (λ (c : PushView). StandsStill c (refused refusal ∷ [])) (sym h.3)
            (record { items = refl; still = λ rest. refl }),
        ap (λ (c : PushView). is_over_at c.stage) h.3,
      )
      taken-by (Err (faults.Read file offset)) new h = absurd h
      taken-by (Err faults.Write) new h = absurd h
      taken-by (Err faults.Memory) new h = (
        subst IsAtBlock (sym (ap (λ (c : PushView). c.stage) h ∙ at)) tt,
        λ later. ap (λ (c : PushView). rest_after c (b ++ later)) (sym h),
      )

      pub taken : (result : Result PushEvent Fault) (new : PushView) → TakesBlockFed old block b result new
          → StepsFed old b result new
      unfolding said
      taken result new h = taken-by result new h

    -- one that is skipped
    module _ (unknown : is_known_kind block.kind ≡ false) (inside : is_some section ≡ true) where
      skip-some : (n : ℕ) → n ≡ min (block.total - 4) (length b) → (0 < n) × (n ≤ block.total - 4) × (n ≤ length b)
      skip-some n is =
          let f = FieldsFit-from_header section old.offset b p.0 in
          let facts =
          skip-facts old.file old.progress uncounted section old.tail old.offset b [] block p unknown inside in
          (grind (arith, f.head, facts.0), grind (arith, nat_tests), grind (arith, nat_tests))

      pub skip-least : 12 ≤ block.total
      skip-least =
          (skip-facts old.file old.progress uncounted section old.tail old.offset b [] block p unknown inside).0

      pub skip-begins : (n : ℕ) (new : PushView) → n ≡ min (block.total - 4) (length b)
          → new ≡ record old { stage = Skipping block (block.total - 4 - n) } → StepsFed old b (Ok (steps.Passed n)) new
      skip-begins n new is same =
          let s = skip-some n is in (
            s.0,
            s.2,
            λ later may.
                ap (λ (s : Stage). rest_at_stage s old (b ++ later)) at
                ∙ (skip-entered old.file old.progress uncounted section old.tail old.offset b later block p unknown
                inside
                ∙ (skip-passed old.file old.tail old.progress block (block.total - 4) n b later s.1 s.2
                (omega (arith, skip-least))
                ∙ ap (λ (c : PushView). rest_after c (drop n b ++ later)) (sym same))),
          )

      pub skip-sound : (n : ℕ) (new : PushView) → IsSoundPush old
          → new ≡ record old { stage = Skipping block (block.total - 4 - n) } → IsSoundPush new
      skip-sound n new s same =
          let facts =
          skip-facts old.file old.progress uncounted section old.tail old.offset b [] block p unknown inside in
          rw same (record {
            limit = s.limit;
            uncounted = s.uncounted;
            counted = s.counted;
            stage = (facts.1, facts.2, facts.0, omega (arith, facts.0));
          })

-- ---- in a block that is skipped

module _ (old : PushView) (block : Block) (left : ℕ) (b : List ℕ) (at : old.stage ≡ Skipping block left) where
  pub skip-on : (n : ℕ) (new : PushView) → IsSoundPush old → 0 < n → n ≡ min left (length b)
      → new ≡ record old { stage = Skipping block (left - n) } → StepsFed old b (Ok (steps.Passed n)) new
  skip-on n new s some is same =
      let within : n ≤ left = grind (arith, nat_tests) in
      let here : n ≤ length b = grind (arith, nat_tests) in (
        some,
        here,
        λ later may.
            ap (λ (s : Stage). rest_at_stage s old (b ++ later)) at
            ∙ (skip-passed old.file old.tail old.progress block left n b later within here
            (subst (λ (k : Stage). IsSoundStage k old.offset) at s.stage).3
            ∙ ap (λ (c : PushView). rest_after c (drop n b ++ later)) (sym same)),
      )

  module _ (s : IsSoundPush old) (none : min left (length b) ≡ 0) where
    placed : block.offset ≡ old.offset
    placed = (subst (λ (k : Stage). IsSoundStage k old.offset) at s.stage).0

    here-or : (stop : Stop) → (w : List ℕ)
        → skipped_rest old.file old.tail old.progress block left w ≡ rest_of_stop Pcapng old.progress stop
        → rest_after old w ≡ rest_of_stop (format_at old.stage) old.progress stop
    here-or stop w is =
        ap (λ (k : Stage). rest_at_stage k old w) at
        ∙ (is ∙ ap (λ (k : Stage). rest_of_stop (format_at k) old.progress stop) (sym at))

    pub skip-cut : (size : ℕ) (result : Result PushEvent Fault) (new : PushView) → length b < 4
        → size ≡ block.total - 4 - left + length b
        → BreaksBy old Cut (stop_by true old.tail old.file old.offset size Cut) result new → StepsFed old b result new
    skip-cut size result new few sized h =
        let stop = stop_by true old.tail old.file old.offset size Cut in
        broken-by old b Cut stop
        (here-or stop b
        (skip-short old.file old.tail old.progress block left b size (grind (arith, nat_tests)) sized
        ∙ ap (λ (n : ℕ). rest_of_stop Pcapng old.progress (stop_by true old.tail old.file n size Cut)) placed))
        (λ other later. absurd (other refl)) (λ cut. stop_by-short true old.tail old.file old.offset size)
        (λ cut. omega (arith, few)) result new h

    pub skip-trailer : (size : ℕ) (result : Result PushEvent Fault) (new : PushView) → 4 ≤ length b
        → (number block.order 4 b ≡ block.total → ⊥)
        → BreaksBy old BlockTrailer (stop_by true old.tail old.file old.offset size BlockTrailer) result new
        → StepsFed old b result new
    skip-trailer size result new four differs h =
        let stop = stop_by true old.tail old.file old.offset size BlockTrailer in
        let zero : left ≡ 0 = grind (arith, nat_tests) in
        let at_later : (later : List ℕ) → rest_after old (b ++ later)
        ≡ rest_of_stop (format_at old.stage) old.progress stop =
        λ later. here-or stop (b ++ later)
        (ap (λ (n : ℕ). skipped_rest old.file old.tail old.progress block n (b ++ later)) zero
        ∙ (skip-other old.file old.tail old.progress block b later size four differs
        ∙ ap (λ (n : ℕ). rest_of_stop Pcapng old.progress (stop_by true old.tail old.file n size BlockTrailer))
        placed)) in
        broken-by old b BlockTrailer stop (ap (rest_after old) (sym (append-nil b)) ∙ at_later [])
        (λ other later. at_later later) (λ cut. cc) (λ cut. cc) result new h

    pub skip-passes : (new : PushView) → 4 ≤ length b → number block.order 4 b ≡ block.total
        → new ≡ record old {
          offset = old.offset + block.total;
          stage = Blocks (Some block.order);
          progress = after old.progress (contents.Other block.kind);
        }
        → StepsFed old b (Ok (steps.Passed 4)) new
    skip-passes new four is same =
        let zero : left ≡ 0 = grind (arith, nat_tests) in (
          omega arith,
          four,
          λ later may.
              ap (λ (k : Stage). rest_at_stage k old (b ++ later)) at
              ∙ (ap (λ (n : ℕ). skipped_rest old.file old.tail old.progress block n (b ++ later)) zero
              ∙ (skip-done old.file old.tail old.progress block b later four is
              ∙ (ap (λ (n : ℕ). rest_of_blocks old.file (after old.progress (contents.Other block.kind))
              (block_items_from (Some block.order) old.tail old.file (n + block.total) (drop 4 b ++ later))) placed
              ∙ ap (λ (c : PushView). rest_after c (drop 4 b ++ later)) (sym same)))),
        )

    pub skip-room : (old.offset + block.total ≤ 2 ^ 40) × (12 ≤ block.total)
    skip-room =
        let k = subst (λ (k : Stage). IsSoundStage k old.offset) at s.stage in
        (k.1, k.2)

-- ---- the first block

from-blocks : (tail : Tail) (file : ℕ) (progress : SectionProgress) (offset : ℕ) (w : List ℕ) → is_pcapng w ≡ true
    → rest_from tail file progress offset w
    ≡ rest_of_blocks file progress (block_items_from None tail file offset w)
unfolding items_from ending_from
from-blocks tail file progress offset w is = rw is refl

four-there : (b : List ℕ) → is_pcapng b ≡ true → 4 ≤ length b
four-there b is = grind (arith, nat_tests)

pub first-same : (old new : PushView) (b : List ℕ) → old.stage ≡ Start → is_pcapng b ≡ true
    → new ≡ record old { stage = Blocks None } → (later : List ℕ)
    → rest_after old (b ++ later) ≡ rest_after new (b ++ later)
first-same old new b at pcapng same later =
    ap (λ (k : Stage). rest_at_stage k old (b ++ later)) at
    ∙ (from-blocks old.tail old.file old.progress old.offset (b ++ later)
    (format-append b later (four-there b pcapng) ∙ pcapng)
    ∙ ap (λ (c : PushView). rest_after c (b ++ later)) (sym same))

-- what a look returns from there on is what it returns at the first byte
begun : (old mid : PushView) (b : List ℕ) (result : Result PushEvent Fault) (new : PushView)
    → ((later : List ℕ) → rest_after old (b ++ later) ≡ rest_after mid (b ++ later)) → mid.ended ≡ old.ended
    → StepsFed mid b result new → StepsFed old b result new
begun old mid b (Ok (steps.Passed n)) new same ended h =
    (h.0, h.1, λ later may. same later ∙ h.2 later (subst (λ (e : Bool). IsTrue e → later ≡ []) (sym ended) may))
begun old mid b (Ok (steps.Packet meta place size)) new same ended h = (
  h.0,
  h.1,
  h.2,
  λ later may. same later ∙ h.3 later (subst (λ (e : Bool). IsTrue e → later ≡ []) (sym ended) may),
)
begun old mid b (Ok steps.Short) new same ended h = (
  sym ended ∙ h.0,
  subst AreShort (ap (λ (r : FedRest). r.items) (ap (rest_after mid) (sym (append-nil b)) ∙ (sym (same [])
      ∙ ap (rest_after old) (append-nil b)))) h.1,
  λ later. same later ∙ h.2 later,
  h.3,
)
begun old mid b (Ok steps.Ends) new same ended h =
    (λ later may. same later ∙ h.0 later (subst (λ (e : Bool). IsTrue e → later ≡ []) (sym ended) may), h.1, h.2)
begun old mid b (Err (faults.Refused refusal)) new same ended h =
    (λ later may. same later ∙ h.0 later (subst (λ (e : Bool). IsTrue e → later ≡ []) (sym ended) may), h.1, h.2)
begun old mid b (Err (faults.Read file offset)) new same ended h = absurd h
begun old mid b (Err faults.Write) new same ended h = absurd h
begun old mid b (Err faults.Memory) new same ended h = (h.0, λ later. same later ∙ h.1 later)

pub first-steps : (old mid : PushView) (b : List ℕ) (result : Result PushEvent Fault) (new : PushView)
    → old.stage ≡ Start → is_pcapng b ≡ true → mid ≡ record old { stage = Blocks None }
    → StepsFed mid b result new → StepsFed old b result new
first-steps old mid b result new at pcapng is h =
    begun old mid b result new (first-same old mid b at pcapng is) (ap (λ (c : PushView). c.ended) is) h

-- a file that was ended or refused stays so
pub stop-again : (old : PushView) (format : Format) (stop : Stop) (b : List ℕ) (result : Result PushEvent Fault)
    (new : PushView)
    → old.stage ≡ Stopped format stop → StopsFed old stop result new → StepsFed old b result new
stop-again old format stop b result new at h =
    stopped-as old b result new stop (λ later may. ap (λ (k : Stage). rest_at_stage k old (b ++ later)) at
    ∙ ap (λ (k : Stage). rest_of_stop (format_at k) old.progress stop) (sym at)) h

-- a block that isn't read whole
pub not-read : (known inside : Bool) → (known || not inside) ≡ false → (known ≡ false) × (inside ≡ true)
not-read known inside h = grind arith

-- what a header that was parsed has
pub header-facts : (section : Option Order) (offset : ℕ) (b : List ℕ) (block : Block)
    → ParsesBlockHeader section offset b (Ok block)
    → (block.offset ≡ offset) × (block.offset + block.total ≤ 2 ^ 40) × IsTrue (is_total block.kind block.total)
    × (12 ≤ block.total)
unfolding block_at
header-facts section offset b block p =
    let f = FieldsFit-from_header section offset b p.0 in
    let order = block_order_at section b in
    let total : block.total ≡ total_at order b = ap (λ (k : Block). k.total) p.1 in
    let kind : block.kind ≡ kind_at order b = ap (λ (k : Block). k.kind) p.1 in
    let placed : block.offset ≡ offset = ap (λ (k : Block). k.offset) p.1 in (
      placed,
      omega (arith, f.limit, total, placed),
      (λ i. is_total (kind i) (total i)) ∙ f.allowed,
      omega (arith, total, total-least (kind_at order b) (total_at order b) f.allowed),
    )
