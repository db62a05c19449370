use Rattle.std.proofs.Common.{◌≡◌, ℕ, None, ◌∙◌, ap, subst}
use Rattle.std.proofs.lemmas.Result.{err_from_is_err_and}
use Rattle.cap_bytes.proofs.Putting.{Prints-head, Prints-behind}
use Rattle.cap_bytes.specs.Printing.{Prints}
use Rattle.cap_commands.specs.DiffText.{data_place, difference_line, difference_words, row_start, sides_in}
use Rattle.cap_commands.specs.inner.DiffWalk.{compared_of}
use Rattle.cap_commands.proofs.diff.put_difference.Goals as goal

pub returns-in_err-put_all-clause-text : goal.returns-in_err-put_all-clause-text
returns-in_err-put_all-clause-text g c = λ w.
    let p = err_from_is_err_and c.from_residual.result c.from_residual.ensures.1 in
    let a = compared_of c.args.divergence.now.first (g.F.PacketFeed.feed c.args.first.now).frame in
    let b = compared_of c.args.divergence.now.second (g.F.PacketFeed.feed c.args.second.now).frame in
    let place = data_place a b in
    let line = difference_line c.args.options.form c.args.n (difference_words c.args.options.ignored a b) in
    rw (p.1, p.2)
    (Prints-head None (g.W.Sink.held c.args.writer.now) (g.W.Sink.held c.put_all.new.writer) (line place)
    (sides_in c.args.options.form c.args.options.most c.args.n (row_start place) c.args.cuts a b)
    c.in_err-put_all.field-0.0
    c.in_err-put_all.ensures.fault
    (rw (c.as_slice.ensures.value ∙ (c.head_line-line.ensures ∙ ap line c.data_place-place.ensures)) at
    (c.in_err-put_all.ensures.bytes w)))

pub returns-clause-text : goal.returns-clause-text
returns-clause-text g c = λ w.
    let a = compared_of c.args.divergence.now.first (g.F.PacketFeed.feed c.args.first.now).frame in
    let b = compared_of c.args.divergence.now.second (g.F.PacketFeed.feed c.args.second.now).frame in
    let place = data_place a b in
    let line = difference_line c.args.options.form c.args.n (difference_words c.args.options.ignored a b) in
    let mid = g.W.Sink.held c.put_all.new.writer in
    let new = g.W.Sink.held c.put_sides.new.writer in
    let from_is : c.row_start.result ≡ row_start place =
    c.row_start.ensures ∙ ap row_start c.data_place-place.ensures in
    let sides = λ (from : ℕ). sides_in c.args.options.form c.args.options.most c.args.n from c.args.cuts a b in
    Prints-behind None (g.W.Sink.held c.args.writer.now) mid new (line place) (sides (row_start place))
    c.put_sides.result
    (rw (c.as_slice.ensures.value ∙ (c.head_line-line.ensures ∙ ap line c.data_place-place.ensures)) at
    (c.in_ok-put_all.ensures.bytes w))
    (subst (λ (from : ℕ). Prints {A = Unit {0}} (sides from) None mid c.put_sides.result new) from_is
    (c.put_sides.ensures.text (c.in_ok-put_all.ensures.writer.told w)))
