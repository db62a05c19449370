use Rattle.std.proofs.Common.{◌∙◌, Err, Ok}
use Rattle.std.proofs.lemmas.Result.{err_from_is_err_and}
use Rattle.cap_source.specs.inner.Captures.{capture_feed}
use Rattle.cap_commands.proofs.Divergence.{ends-diff, fails-of-two, told-diff}
use Rattle.cap_commands.specs.declared.diff.DiffEnd.{DiffEnd}
use Rattle.cap_commands.specs.declared.diff.Divergence.{Divergence}
use Rattle.cap_commands.proofs.diff.diff_in.Goals as goal

pub returns-in_err-is_same-clause-text : goal.returns-in_err-is_same-clause-text
returns-in_err-is_same-clause-text g c = λ t u w.
    let q = err_from_is_err_and c.from_residual-in_err-is_same.result c.from_residual-in_err-is_same.ensures.1 in
    let first = c.new-first.ensures in
    let second = c.new-second.ensures in
    let e = c.in_ok-divergence.ensures in
    let told = first.told ∙ t in
    let tells = second.told ∙ u in
    rw (q.1, q.2)
    (told-diff c.args.options c.args.tail (g.R.Source.coming c.args.first) (g.R.Source.coming c.args.second)
    (capture_feed c.new-first.result) (capture_feed c.new-second.result) (capture_feed c.part.new.first)
    (capture_feed c.part.new.second) c.in_ok-divergence.divergence first.items second.items first.endings second.endings
    (e.parts told tells) (e.ends_first told) (e.ends_second tells) c.cut_of.result c.cut_of-2.result c.cut_of.ensures
    c.cut_of-2.ensures
    (g.W.Sink.held c.args.writer.now) (g.W.Sink.held c.put_divergence.new.writer) (Err c.in_err-is_same.field-0.0)
    (c.in_err-is_same.ensures.text w))

pub returns-clause-text : goal.returns-clause-text
returns-clause-text g c = λ t u w.
    let first = c.new-first.ensures in
    let second = c.new-second.ensures in
    let e = c.in_ok-divergence.ensures in
    let told = first.told ∙ t in
    let tells = second.told ∙ u in
    told-diff c.args.options c.args.tail (g.R.Source.coming c.args.first) (g.R.Source.coming c.args.second)
    (capture_feed c.new-first.result) (capture_feed c.new-second.result) (capture_feed c.part.new.first)
    (capture_feed c.part.new.second) c.in_ok-divergence.divergence first.items second.items first.endings second.endings
    (e.parts told tells) (e.ends_first told) (e.ends_second tells) c.cut_of.result c.cut_of-2.result c.cut_of.ensures
    c.cut_of-2.ensures
    (g.W.Sink.held c.args.writer.now) (g.W.Sink.held c.put_divergence.new.writer) (Ok c.in_ok-is_same.is_same)
    (c.in_ok-is_same.ensures.text w)

pub returns-clause-end : goal.returns-clause-end
returns-clause-end g c = λ t u.
    let first = c.new-first.ensures in
    let second = c.new-second.ensures in
    let e = c.in_ok-divergence.ensures in
    let told = first.told ∙ t in
    let tells = second.told ∙ u in
    ends-diff c.args.options c.args.tail (g.R.Source.coming c.args.first) (g.R.Source.coming c.args.second)
    (capture_feed c.new-first.result) (capture_feed c.new-second.result) (capture_feed c.part.new.first)
    (capture_feed c.part.new.second) c.in_ok-divergence.divergence first.items second.items first.endings second.endings
    (e.parts told tells) (e.ends_first told) (e.ends_second tells) c.cut_of.result c.cut_of-2.result c.cut_of.ensures
    c.cut_of-2.ensures
    c.in_ok-is_same.is_same c.in_ok-is_same.ensures.same

pub returns-in_err-divergence-clause-read : goal.returns-in_err-divergence-clause-read
returns-in_err-divergence-clause-read g c =
    let p = err_from_is_err_and c.from_residual.result c.from_residual.ensures.1 in
    let first = c.new-first.ensures in
    let second = c.new-second.ensures in
    rw (p.1, p.2)
    (fails-of-two Divergence DiffEnd (capture_feed c.new-first.result) (capture_feed c.new-second.result) _ _
    c.in_err-divergence.field-0.0 first.files second.files first.can_fail second.can_fail
    c.in_err-divergence.ensures.fails)
