use Rattle.std.proofs.Common.{◌*◌, ◌+◌, arith}
use Rattle.cap_merge.specs.inner.First.{lane_turns}
use Rattle.cap_merge.proofs.Rounding.{kept-within, round-met}
use Rattle.cap_merge.proofs.tournament.meet.Goals as goal

pub first_of_two-requires-clause-first : goal.first_of_two-requires-clause-first
first_of_two-requires-clause-first c =
    kept-within c.args.lanes.now c.requires.firsts.0 c.args.halves.now (2 * c.args.group) c.requires.firsts.1
    (omega (arith, c.requires.halves, c.requires.group))

pub first_of_two-requires-clause-second : goal.first_of_two-requires-clause-second
first_of_two-requires-clause-second c =
    kept-within c.args.lanes.now c.requires.firsts.0 c.args.halves.now (2 * c.args.group + 1) c.requires.firsts.1
    (omega (arith, c.requires.halves, c.requires.group))

pub returns-clause-firsts : goal.returns-clause-firsts
returns-clause-firsts c = λ size.
    round-met (lane_turns c.args.lanes.now) size c.args.halves.now c.args.groups.now c.args.group
    c.first_of_two.result c.requires.halves c.requires.group c.first_of_two.ensures
