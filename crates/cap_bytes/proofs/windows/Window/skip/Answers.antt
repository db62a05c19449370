use Rattle.std.proofs.lemmas.Grind.{common_steps}
use Rattle.std.proofs.Common.{◌≤◌, length, arith, vec_len}
use Rattle.cap_bytes.proofs.Lists.{length-slice_range, dropped_here, dropped_past}
use Rattle.cap_bytes.proofs.windows.Window.skip.Goals as goal

pub returns-then-n-here-clause-answer : goal.returns-then-n-here-clause-answer
returns-then-n-here-clause-answer g c =
    let i = c.self.inside in
    let longer : vec_len i.buffer ≤ length c.make_room.new.buffer.items =
    omega (arith, c.make_room.new.buffer.ok.0, c.in_ok-make_room.ensures.grows) in
    let d = dropped_here i.buffer.items c.make_room.new.buffer.items (g.R.Source.coming i.reader) (vec_len i.buffer)
    i.start i.end c.args.n c.in_ok-make_room.ensures.front longer c.self.invariant.order c.self.invariant.within
    c.if-n-here.true in
    grind arith

pub returns-in-Whole-clause-answer : goal.returns-in-Whole-clause-answer
returns-in-Whole-clause-answer g c = grind (arith, common_steps, dropped_past)

pub returns-in-Ended-clause-answer : goal.returns-in-Ended-clause-answer
returns-in-Ended-clause-answer g c = grind (arith, common_steps)

pub returns-in-Whole-clause-keeps : goal.returns-in-Whole-clause-keeps
returns-in-Whole-clause-keeps g c = grind (arith, common_steps)

pub returns-in-Ended-clause-keeps : goal.returns-in-Ended-clause-keeps
returns-in-Ended-clause-keeps g c = grind (arith, common_steps)

pub returns-in-Failed-clause-keeps : goal.returns-in-Failed-clause-keeps
returns-in-Failed-clause-keeps g c = grind (arith, common_steps)

pub returns-then-n-here-clause-keeps : goal.returns-then-n-here-clause-keeps
returns-then-n-here-clause-keeps g c = grind (arith, length-slice_range)

pub returns-in-Some-clause-keeps : goal.returns-in-Some-clause-keeps
returns-in-Some-clause-keeps g c = grind (arith, length-slice_range)

pub returns-in_err-make_room-clause-keeps : goal.returns-in_err-make_room-clause-keeps
returns-in_err-make_room-clause-keeps g c = grind (arith, length-slice_range)

pub returns-in-Failed-clause-answer : goal.returns-in-Failed-clause-answer
returns-in-Failed-clause-answer g c = grind (arith, common_steps)
