use Rattle.std.proofs.Common.{ap, ◌∙◌}
use Rattle.cap_talks.specs.inner.table.Adding.{with_talk_delta}
use Rattle.cap_talks.specs.inner.table.Ipv4Units.{frame_delta}
use Rattle.cap_talks.specs.inner.table.Packed.{unpacked_talks}
use Rattle.cap_talks.specs.table.Rows.{is_refused, talk_limit}
use Rattle.cap_talks.proofs.Ipv4Units.{key-of-ends}
use Rattle.cap_talks.proofs.Packing.{on-err}
use Rattle.cap_talks.proofs.RowSums.{on_ok}
use Rattle.cap_talks.proofs.table.conversations.add_ipv4.Goals as goal

pub add_frame-requires-clause-key : goal.add_frame-requires-clause-key
add_frame-requires-clause-key c =
    let of = c.of-forward in
    (key-of-ends c.args.known.now.keys c.args.unit.now.ends of.result of.ensures.value of.ensures.narrow
    of.ensures.forward).packed

pub returns-clause-entries : goal.returns-clause-entries
returns-clause-entries c =
    let of = c.of-forward in
    let talks = unpacked_talks c.args.known.now.keys c.args.rows.now.entries in
    let key = key-of-ends c.args.known.now.keys c.args.unit.now.ends of.result of.ensures.value of.ensures.narrow
    of.ensures.forward in
    on_ok c.add_frame.result (λ is. is
    ∙ (λ i. with_talk_delta talks (key.key i) (frame_delta (of.ensures.forward i) c.args.unit.now.frame)))
    c.add_frame.ensures.entries

pub returns-clause-limit : goal.returns-clause-limit
returns-clause-limit c =
    let of = c.of-forward in
    let talks = unpacked_talks c.args.known.now.keys c.args.rows.now.entries in
    let key = key-of-ends c.args.known.now.keys c.args.unit.now.ends of.result of.ensures.value of.ensures.narrow
    of.ensures.forward in
    c.add_frame.ensures.limit ∙ ap (is_refused talk_limit talks) key.key

pub returns-clause-err : goal.returns-clause-err
returns-clause-err c =
    on-err c.add_frame.result c.add_frame.ensures.err (ap (unpacked_talks c.args.known.now.keys))
