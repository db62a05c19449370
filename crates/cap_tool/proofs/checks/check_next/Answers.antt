use Rattle.std.proofs.Common.{◌≡◌, ◌+◌, ◌∙◌, Err, Ok, Option, map, refl}
use Rattle.std.specs.Prelude.{option_map}
use Rattle.std.proofs.lemmas.Result.{err_from_is_err_and}
use Rattle.cap_check.specs.Checking.{Opened}
use Rattle.cap_commands.specs.Jobs.{form_by}
use Rattle.cap_tool.specs.CheckedNames.{name_fields}
use Rattle.cap_tool.proofs.CheckedFiles.{check-as, check-refused, check-unwritten, check-written}
use Rattle.cap_tool.proofs.CheckedFiles.{given-at, named-at}
use Rattle.cap_tool.proofs.checks.check_next.Goals as goal

pub returns-in_err-named-clause-text : goal.returns-in_err-named-clause-text
returns-in_err-named-clause-text g c = λ w.
    let p = err_from_is_err_and c.from_residual.result c.from_residual.ensures.1 in
    rw (p.1, p.2)
    (record {
      reader = c.reader_of-reader.result;
      opened = given-at (g.O.Opener.gives c.args.opener.now) c.args.names.now c.args.place _ _ _ c.requires.place
          c.open-opened.ensures c.reader_of-reader.ensures;
      checks = refl;
    })

pub returns-in_err-check-clause-text : goal.returns-in_err-check-clause-text
returns-in_err-check-clause-text g c = λ w.
    let p = err_from_is_err_and c.from_residual-in_err-check.result c.from_residual-in_err-check.ensures.1 in
    rw (p.1, p.2)
    (record {
      reader = c.reader_of-reader.result;
      opened = given-at (g.O.Opener.gives c.args.opener.now) c.args.names.now c.args.place _ _ _ c.requires.place
          c.open-opened.ensures c.reader_of-reader.ensures;
      checks = check-refused _ _ _ _ _ _ _ c.in_err-check.field-0.0 c.in_err-check.ensures.fault;
    })

pub returns-in_err-put_check_line-clause-text : goal.returns-in_err-put_check_line-clause-text
returns-in_err-put_check_line-clause-text g c = λ w.
    let p = err_from_is_err_and c.from_residual-in_err-put_check_line.result
    c.from_residual-in_err-put_check_line.ensures.1 in
    let job = c.args.job.now in
    let names = c.args.names.now in
    let given : Option Opened = option_map (λ s. record {
      told = g.O.Reader.Source.tells_coming s;
      bytes = g.O.Reader.Source.coming s;
      can_fail = g.O.Reader.Device.can_fail s;
    })
    c.reader_of-reader.result in
    let name_is : c.as_slice.result.now
    ≡ name_fields (form_by job.json job.time) job.names (map (λ n. n.now) names) (c.args.place + 1) =
    c.as_slice.ensures.value
    ∙ (rw c.form_of-form.ensures at c.in_ok-named.ensures
    ∙ named-at (form_by job.json job.time) job.names names c.args.place _ c.requires.place) in
    rw (p.1, p.2)
    (record {
      reader = c.reader_of-reader.result;
      opened = given-at (g.O.Opener.gives c.args.opener.now) names c.args.place _ _ _ c.requires.place
          c.open-opened.ensures c.reader_of-reader.ensures;
      checks = check-as _ _ _ _ _ _ (c.args.place + 1) _ _ given (g.W.Sink.held c.args.writer.now)
          (g.W.Sink.held c.put_check_line.new.writer) (Err c.in_err-put_check_line.field-0.0) c.line_of-which.ensures
          c.form_of-form.ensures c.tail_of-tail.ensures name_is
          (check-unwritten c.line_of-which.result c.form_of-form.result c.tail_of-tail.result (c.args.place + 1)
          c.as_slice.result.now given c.asks_digest.result c.in_ok-check.check c.asks_digest.ensures
          c.in_ok-check.ensures.checked
          (g.W.Sink.held c.args.writer.now) (g.W.Sink.held c.put_check_line.new.writer)
          c.in_err-put_check_line.field-0.0 c.in_err-put_check_line.ensures.fault
          (c.in_err-put_check_line.ensures.text w));
    })

pub returns-clause-text : goal.returns-clause-text
returns-clause-text g c = λ w.
    let job = c.args.job.now in
    let names = c.args.names.now in
    let given : Option Opened = option_map (λ s. record {
      told = g.O.Reader.Source.tells_coming s;
      bytes = g.O.Reader.Source.coming s;
      can_fail = g.O.Reader.Device.can_fail s;
    })
    c.reader_of-reader.result in
    let name_is : c.as_slice.result.now
    ≡ name_fields (form_by job.json job.time) job.names (map (λ n. n.now) names) (c.args.place + 1) =
    c.as_slice.ensures.value
    ∙ (rw c.form_of-form.ensures at c.in_ok-named.ensures
    ∙ named-at (form_by job.json job.time) job.names names c.args.place _ c.requires.place) in
    record {
      reader = c.reader_of-reader.result;
      opened = given-at (g.O.Opener.gives c.args.opener.now) names c.args.place _ _ _ c.requires.place
          c.open-opened.ensures c.reader_of-reader.ensures;
      checks = check-as _ _ _ _ _ _ (c.args.place + 1) _ _ given (g.W.Sink.held c.args.writer.now)
          (g.W.Sink.held c.put_check_line.new.writer) (Ok c.is_whole.result) c.line_of-which.ensures
          c.form_of-form.ensures c.tail_of-tail.ensures name_is
          (check-written c.line_of-which.result c.form_of-form.result c.tail_of-tail.result (c.args.place + 1)
          c.as_slice.result.now given c.asks_digest.result c.in_ok-check.check c.asks_digest.ensures
          c.in_ok-check.ensures.checked
          (g.W.Sink.held c.args.writer.now) (g.W.Sink.held c.put_check_line.new.writer) c.is_whole.result
          c.is_whole.ensures
          (c.in_ok-put_check_line.ensures.text w));
    }
