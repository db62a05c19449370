use Rattle.std.proofs.Common.{ap, ◌∙◌, ◌+◌}
use Rattle.cap_talks.specs.inner.table.Ipv4Units.{unit_of_ipv4}
use Rattle.cap_talks.specs.table.Rows.{TalksState, bytes_in, frames_in, with_talk}
use Rattle.cap_talks.proofs.RowSums.{on_ok, few-kept, frames_in-more, bytes_in-more}
use Rattle.cap_talks.proofs.RowOrder.{order-kept}
use Rattle.cap_talks.proofs.Talking.{rows-more}
use Rattle.cap_talks.proofs.table.conversations.Conversations.add_ipv4.Goals as goal

pub invariant_of-self : goal.invariant_of-self
invariant_of-self c = record {
  few = search (few-kept);
  order = order-kept c.add_ipv4.result _ _ (unit_of_ipv4 c.args.unit.now) c.add_ipv4.ensures.entries
      c.add_ipv4.ensures.err c.requires.unit.order c.self.invariant.order;
  keys = c.add_ipv4.ensures.keys;
  known = c.self.invariant.known;
}

pub returns-clause-stands : goal.returns-clause-stands
returns-clause-stands c =
    let unit = unit_of_ipv4 c.args.unit.now in
    let rows = ap (λ (talks : TalksState). talks.rows) c.self.view_is in
    on_ok c.add_ipv4.result (λ is units stands. record {
      rows = is ∙ ap (λ rows. with_talk rows unit) (rows ∙ stands.rows) ∙ rows-more units unit;
    }) c.add_ipv4.ensures.entries

pub returns-clause-frames : goal.returns-clause-frames
returns-clause-frames c =
    let unit = unit_of_ipv4 c.args.unit.now in
    on_ok c.add_ipv4.result (λ is. ap frames_in is ∙ frames_in-more _ unit
    ∙ ap (λ (talks : TalksState). frames_in talks.rows + unit.frames) c.self.view_is) c.add_ipv4.ensures.entries

pub returns-clause-bytes : goal.returns-clause-bytes
returns-clause-bytes c =
    let unit = unit_of_ipv4 c.args.unit.now in
    on_ok c.add_ipv4.result (λ is. ap bytes_in is ∙ bytes_in-more _ unit
    ∙ ap (λ (talks : TalksState). bytes_in talks.rows + unit.bytes) c.self.view_is) c.add_ipv4.ensures.entries
