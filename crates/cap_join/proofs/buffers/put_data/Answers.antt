use Rattle.std.proofs.Common.{◌≡◌, ℕ, List, length, take, sym, ◌∙◌, ap, subst, take_at}
use Rattle.cap_join.specs.inner.Buffers.{Maps}
use Rattle.cap_join.proofs.buffers.put_data.Goals as goal

pub returns-clause-maps : goal.returns-clause-maps
returns-clause-maps c = λ p ps start_is bytes_is shaped maps.
    let long : length c.put_front-holes.new.buffer ≡ c.lengthen.new.buffer.len = c.put_front-holes.auto.buffer
    ∙ c.as_mut_slice.ensures.len in
    let same : take c.args.part.held c.as_mut_slice.result.now ≡ take c.args.part.held c.args.buffer.now.items =
    ap (take c.args.part.held) c.as_mut_slice.ensures.value
    ∙ c.in_ok-lengthen.ensures.front c.args.part.held c.requires.held in
    rw (take_at c.put_front-holes.new.buffer _ _ long)
    (c.put_front-holes.ensures.maps p ps start_is bytes_is shaped
    (subst (λ (l : List ℕ). Maps l c.args.part.holes.first ps) (sym same) maps))
