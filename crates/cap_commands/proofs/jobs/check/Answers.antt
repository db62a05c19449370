use Rattle.std.proofs.Common.{Err, subst, sym}
use Rattle.std.proofs.lemmas.Result.{err_from_is_err_and}
use Rattle.cap_check.specs.CheckText.{WritesChecks, no_names}
use Rattle.cap_commands.proofs.CheckedFiles.{opened-are, whole-is}
use Rattle.cap_commands.proofs.jobs.check.Goals as goal

pub returns-clause-text : goal.returns-clause-text
returns-clause-text g c = λ t w.
    rw (
      c.whole_finding.ensures,
      whole-is c.in_ok-are_whole.are_whole,
      sym (opened-are g.R.Source.tells_coming g.R.Source.coming g.R.Device.can_fail c.args.sources.items t),
    )
    (c.in_ok-are_whole.ensures.text w)

pub returns-in_err-are_whole-clause-text : goal.returns-in_err-are_whole-clause-text
returns-in_err-are_whole-clause-text g c =
    let p = err_from_is_err_and c.from_residual.result c.from_residual.ensures.1 in
    rw (p.1, p.2)
    (λ t w.
    subst (λ files. WritesChecks c.args.which c.args.form c.args.tail no_names files (g.W.Sink.held c.args.writer.now)
    (Err c.in_err-are_whole.field-0.0) (g.W.Sink.held c.check_all_to.new.writer))
    (opened-are g.R.Source.tells_coming g.R.Source.coming g.R.Device.can_fail c.args.sources.items t)
    (c.in_err-are_whole.ensures.text w))
