use Rattle.std.proofs.Common.{ap, arith, ◌∙◌, not, nat_lt}
use Rattle.std.proofs.Common.{Err}
use Rattle.std.proofs.lemmas.Result.{err_from_is_err_and}
use Rattle.cap_talks.specs.inner.table.Adding.{with_talk_delta}
use Rattle.cap_talks.specs.inner.table.Packed.{unpacked_talks}
use Rattle.cap_talks.specs.table.Rows.{are_all_in_order, bytes_in, frames_in, is_limit, is_refused, talk_limit}
use Rattle.cap_talks.specs.declared.table.rows.RowDelta.{RowDelta}
use Rattle.cap_talks.specs.table.Conversations.{talk_key}
use Rattle.cap_talks.proofs.Packing.{grown-packed, grown-talks, if-err, on-err, refused-unknown}
use Rattle.cap_talks.proofs.RowSums.{on_ok}
use Rattle.cap_talks.proofs.table.conversations.add_unit.Goals as goal

-- no key is known: the keys known so far, or one more
pub returns-in_err-key-clause-keys : goal.returns-in_err-key-clause-keys
returns-in_err-key-clause-keys c =
    grown-packed c.args.known.now.keys c.key_of.new.known.keys _ c.args.rows.now.entries c.key_of.ensures.grows
    c.requires.keys

pub returns-in_err-key-clause-limit : goal.returns-in_err-key-clause-limit
returns-in_err-key-clause-limit c =
    let (e, is, same) = err_from_is_err_and c.from_residual.result c.from_residual.ensures.1 in
    ap is_limit is ∙ ap (λ x. is_limit (Err x)) same ∙ c.in_err-key.ensures.limit ∙ ap (λ n. not (nat_lt n talk_limit))
    c.len.ensures.len
    ∙ refused-unknown c.args.known.now.keys c.args.rows.now.entries (talk_key c.args.unit.now) c.requires.known
    c.requires.keys c.in_err-key.ensures.wide c.in_err-key.ensures.unknown

pub returns-in_err-key-clause-err : goal.returns-in_err-key-clause-err
returns-in_err-key-clause-err c =
    if-err c.from_residual.result
    (grown-talks c.args.known.now.keys c.key_of.new.known.keys _ c.args.rows.now.entries c.key_of.ensures.grows
    c.requires.keys)

-- the conversations are the same ones
pub add_delta-requires-clause-keys : goal.add_delta-requires-clause-keys
add_delta-requires-clause-keys c =
    grown-packed c.args.known.now.keys c.key_of.new.known.keys _ c.args.rows.now.entries c.key_of.ensures.grows
    c.requires.keys

pub add_delta-requires-clause-frames : goal.add_delta-requires-clause-frames
add_delta-requires-clause-frames c =
    let talks = grown-talks c.args.known.now.keys c.key_of.new.known.keys _ c.args.rows.now.entries
    c.key_of.ensures.grows c.requires.keys in
    omega (arith, ap frames_in talks, c.requires.frames, ap (λ (s : RowDelta). s.frames) c.of.ensures)

pub add_delta-requires-clause-bytes : goal.add_delta-requires-clause-bytes
add_delta-requires-clause-bytes c =
    let talks = grown-talks c.args.known.now.keys c.key_of.new.known.keys _ c.args.rows.now.entries
    c.key_of.ensures.grows c.requires.keys in
    omega (arith, ap bytes_in talks, c.requires.bytes, ap (λ (s : RowDelta). s.bytes) c.of.ensures)

pub add_delta-requires-clause-order : goal.add_delta-requires-clause-order
add_delta-requires-clause-order c =
    ap are_all_in_order (grown-talks c.args.known.now.keys c.key_of.new.known.keys _ c.args.rows.now.entries
    c.key_of.ensures.grows c.requires.keys)
    ∙ c.requires.order

pub returns-clause-entries : goal.returns-clause-entries
returns-clause-entries c =
    let talks = grown-talks c.args.known.now.keys c.key_of.new.known.keys _ c.args.rows.now.entries
    c.key_of.ensures.grows c.requires.keys in
    on_ok c.add_delta.result (λ is. is ∙ (λ i. with_talk_delta (talks i) (c.in_ok-key.ensures.key.key i)
    (c.of.ensures i)))
    c.add_delta.ensures.entries

pub returns-clause-limit : goal.returns-clause-limit
returns-clause-limit c =
    let talks = grown-talks c.args.known.now.keys c.key_of.new.known.keys _ c.args.rows.now.entries
    c.key_of.ensures.grows c.requires.keys in
    c.add_delta.ensures.limit ∙ (λ i. is_refused talk_limit (talks i) (c.in_ok-key.ensures.key.key i))

pub returns-clause-err : goal.returns-clause-err
returns-clause-err c =
    on-err c.add_delta.result c.add_delta.ensures.err
    (λ same. ap (unpacked_talks c.key_of.new.known.keys) same
    ∙ grown-talks c.args.known.now.keys c.key_of.new.known.keys _ c.args.rows.now.entries c.key_of.ensures.grows
    c.requires.keys)
