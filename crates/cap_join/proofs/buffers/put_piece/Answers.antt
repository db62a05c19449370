use Rattle.std.proofs.Common.{◌≡◌, ℕ, ◌+◌, ◌-◌, ◌≤◌, ◌<◌, length, take, sym, ◌∙◌, ap, subst, arith, length-take}
use Rattle.std.specs.Prelude.{slice_index}
use Rattle.cap_join.specs.Holes.{IsChain, ChangesWithin, Punched}
use Rattle.cap_join.specs.Fragments.{end_of}
use Rattle.cap_join.specs.ByteMap.{rounded}
use Rattle.cap_join.proofs.Mapping.{Maps-put}
use Rattle.cap_join.proofs.Cursors.{HasCursor-copied}
use Rattle.cap_join.proofs.buffers.put_piece.Goals as goal

pub returns-clause-maps : goal.returns-clause-maps
returns-clause-maps c = λ p ps start_is bytes_is shaped maps.
    let before = take c.args.part.held c.args.bytes.now in
    let sizes : length p.bytes ≡ length c.args.piece.now = ap length bytes_is in
    let end_is : c.args.end ≡ rounded (end_of p) = omega arith in
    let size : length before ≡ c.args.part.held = omega (arith, length-take c.args.part.held c.args.bytes.now) in
    let chain = subst (λ (n : ℕ). IsChain before 0 n c.args.part.holes.first maps.spans) size maps.chain in
    let grown = c.grow-holes.ensures.grown maps.spans chain in
    let punched : Punched p.start c.args.end c.grow-holes.new.bytes grown.spans 0
    (length c.grow-holes.new.bytes) c.fill-holes.result.first c.fill-holes.new.bytes =
    subst (λ (n : ℕ). Punched n c.args.end c.grow-holes.new.bytes grown.spans 0
    (length c.grow-holes.new.bytes) c.fill-holes.result.first c.fill-holes.new.bytes) (sym start_is)
    (c.fill-holes.ensures.punched grown.spans grown.chain) in
    let within : ChangesWithin p.start (end_of p) c.fill-holes.new.bytes c.copy.new.bytes =
    record {
      length_is = c.copy.ensures.within.length_is;
      below = λ i h. c.copy.ensures.within.below i (omega arith);
      above = λ i h. c.copy.ensures.within.above i (omega arith);
    } in
    let copied : (i : ℕ) → p.start ≤ i → i < end_of p
    → slice_index c.copy.new.bytes i ≡ slice_index p.bytes (i - p.start) =
    λ i h k. c.copy.ensures.copied i (omega arith) (omega arith)
    ∙ sym (λ j. slice_index (bytes_is j) (i - start_is j)) in
    Maps-put p ps c.args.end c.args.part.holes.first c.grow-holes.result.first c.fill-holes.result.first before
    c.grow-holes.new.bytes c.fill-holes.new.bytes c.copy.new.bytes
    shaped end_is maps grown punched within copied

pub returns-clause-cursor : goal.returns-clause-cursor
returns-clause-cursor c =
    let before = take c.args.part.held c.args.bytes.now in
    let grown = c.grow-holes.ensures.grown c.requires.holes.spans c.requires.holes.chain in
    HasCursor-copied c.args.start (c.args.start + length c.args.piece.now) c.args.end c.fill-holes.result.first
    c.fill-holes.result.cursor c.grow-holes.new.bytes c.fill-holes.new.bytes c.copy.new.bytes grown.spans
    (omega arith) (omega (arith, c.fill-holes.auto.bytes, c.grow-holes.auto.bytes))
    (c.fill-holes.ensures.punched grown.spans grown.chain) c.copy.ensures.within c.fill-holes.ensures.cursor
