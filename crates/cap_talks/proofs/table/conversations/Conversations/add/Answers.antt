use Rattle.std.proofs.Common.{arith}
use Rattle.cap_talks.specs.table.Rows.{frames_in}
use Rattle.cap_talks.proofs.RowSums.{on_ok, few-kept, frames_in-more, bytes_in-more}
use Rattle.cap_talks.proofs.RowOrder.{order-kept}
use Rattle.cap_talks.proofs.Talking.{rows-more}
use Rattle.cap_talks.proofs.table.conversations.Conversations.add.Goals as goal

pub invariant_of-self : goal.invariant_of-self
invariant_of-self c = record {
  few = search (few-kept);
  order = order-kept c.add_unit.result _ _ c.args.unit.now c.add_unit.ensures.entries c.add_unit.ensures.err
      c.requires.unit.order c.self.invariant.order;
  keys = c.add_unit.ensures.keys;
  known = c.add_unit.ensures.known;
}

pub returns-clause-stands : goal.returns-clause-stands
returns-clause-stands c = grind (arith, on_ok, rows-more)

pub returns-clause-frames : goal.returns-clause-frames
returns-clause-frames c = grind (arith, on_ok, frames_in, frames_in-more)

pub returns-clause-bytes : goal.returns-clause-bytes
returns-clause-bytes c = grind (arith, on_ok, bytes_in-more)
