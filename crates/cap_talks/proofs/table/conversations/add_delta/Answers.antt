use Rattle.std.proofs.Common.{ap, sym, ◌∙◌, [], arith}
use Rattle.cap_talks.specs.inner.table.Packed.{are_packed, unpacked, unpacked_talks}
use Rattle.cap_talks.specs.table.Rows.{bytes_of_row, frames_of_row, is_in_order, row_in, with_delta}
use Rattle.cap_talks.specs.table.Conversations.{row_of}
use Rattle.cap_talks.proofs.Packing.{at-packed, by-result, insert-are_packed, new-more, refused-new, refused-there}
use Rattle.cap_talks.proofs.Packing.{row-in, set-are_packed, there-more}
use Rattle.cap_talks.proofs.RowOrder.{row_in-order}
use Rattle.cap_talks.proofs.RowSums.{bytes-within, frames-within, on_ok}
use Rattle.cap_talks.proofs.table.conversations.add_delta.Goals as goal

pub add_at-requires-clause-frames : goal.add_at-requires-clause-frames
add_at-requires-clause-frames c =
    let known = c.args.known.now.keys in
    let es = c.args.rows.now.entries in
    let within = frames-within (unpacked known c.args.key) (unpacked_talks known es) in
    let same = ap frames_of_row (at-packed known c.requires.known c.args.key c.requires.key es c.in-Some.place
    c.requires.keys c.in-Some.ensures.value) in
    omega (arith, same, within, c.requires.frames)

pub add_at-requires-clause-bytes : goal.add_at-requires-clause-bytes
add_at-requires-clause-bytes c =
    let known = c.args.known.now.keys in
    let es = c.args.rows.now.entries in
    let within = bytes-within (unpacked known c.args.key) (unpacked_talks known es) in
    let same = ap bytes_of_row (at-packed known c.requires.known c.args.key c.requires.key es c.in-Some.place
    c.requires.keys c.in-Some.ensures.value) in
    omega (arith, same, within, c.requires.bytes)

pub add_at-requires-clause-order : goal.add_at-requires-clause-order
add_at-requires-clause-order c =
    let known = c.args.known.now.keys in
    let es = c.args.rows.now.entries in
    ap is_in_order (sym (row-in known es c.in-Some.place))
    ∙ row_in-order (unpacked_talks known es) c.in-Some.place c.requires.order

pub returns-in-Some-clause-entries : goal.returns-in-Some-clause-entries
returns-in-Some-clause-entries c =
    there-more c.args.known.now.keys c.requires.known c.args.key c.requires.key c.args.rows.now.entries
    c.add_at.new.rows.entries c.in-Some.place c.args.delta.now c.requires.keys c.in-Some.ensures.index
    c.in-Some.ensures.value c.add_at.ensures

pub returns-in-Some-clause-keys : goal.returns-in-Some-clause-keys
returns-in-Some-clause-keys c =
    let known = c.args.known.now.keys in
    let es = c.args.rows.now.entries in
    ap (are_packed known) c.add_at.ensures
    ∙ set-are_packed known es c.in-Some.place (with_delta (row_in es c.in-Some.place) c.args.delta.now)
    ∙ c.requires.keys

pub returns-in-Some-clause-limit : goal.returns-in-Some-clause-limit
returns-in-Some-clause-limit c =
    refused-there c.args.known.now.keys c.requires.known c.args.key c.requires.key c.args.rows.now.entries
    c.requires.keys c.in-Some.ensures.found

pub returns-in-None-clause-entries : goal.returns-in-None-clause-entries
returns-in-None-clause-entries c =
    on_ok c.add_row.result
    (new-more c.args.known.now.keys c.requires.known c.args.key c.requires.key c.args.rows.now.entries
    c.add_row.new.rows.entries c.args.delta.now c.requires.keys c.in-None.ensures.found)
    c.add_row.ensures.entries

pub returns-in-None-clause-keys : goal.returns-in-None-clause-keys
returns-in-None-clause-keys c =
    let known = c.args.known.now.keys in
    let es = c.args.rows.now.entries in
    by-result c.add_row.result c.add_row.ensures.entries c.add_row.ensures.err
    (λ is. ap (are_packed known) is
    ∙ insert-are_packed known c.requires.known c.args.key c.requires.key (with_delta (row_of []) c.args.delta.now) es
    c.requires.keys)
    (λ same. ap (are_packed known) same ∙ c.requires.keys)

pub returns-in-None-clause-limit : goal.returns-in-None-clause-limit
returns-in-None-clause-limit c =
    c.add_row.ensures.limit
    ∙ refused-new c.args.known.now.keys c.requires.known c.args.key c.requires.key c.args.rows.now.entries
    c.requires.keys c.in-None.ensures.found
