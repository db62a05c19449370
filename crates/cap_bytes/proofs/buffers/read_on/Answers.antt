use Rattle.std.proofs.Common.{◌≡◌, ◌-◌, ◌∙◌, ap, take, length, slice_range, take_at}
use Rattle.cap_bytes.proofs.Lists.{slice_range-longer}
use Rattle.cap_bytes.proofs.buffers.read_on.Goals as goal

pub returns-clause-reads : goal.returns-clause-reads
returns-clause-reads g c =
    let front : take (c.args.end - c.args.start) c.as_mut_slice.result.now
    ≡ slice_range c.args.buffer.now.items c.args.start c.args.end =
    ap (take (c.args.end - c.args.start)) c.as_mut_slice.ensures.value
    ∙ (c.move_to_front.ensures.front
    ∙ slice_range-longer _ _ _ c.args.start c.args.end c.in_ok-make_room.ensures.front c.requires.within) in
    let size : length c.fill.new.buffer ≡ c.move_to_front.new.buffer.len = c.fill.auto.buffer
    ∙ c.as_mut_slice.ensures.len in
    rw (take_at c.fill.new.buffer _ _ size, ← front) c.fill.ensures.reads
