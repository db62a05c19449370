use Rattle.std.proofs.Common.{Err, List, Ok, Option, map, sym, ◌∙◌}
use Rattle.std.proofs.lemmas.List.{length-map}
use Rattle.std.proofs.lemmas.Result.{err_from_is_err_and}
use Rattle.cap_bytes.specs.declared.stops.CutRest.{CutRest}
use Rattle.cap_talks.proofs.CutRests.{files-cuts}
use Rattle.cap_talks.proofs.Telling.{tells-counted, tells-fault}
use Rattle.cap_talks.proofs.talks.files.file_lines_and_cuts.Goals as goal

pub returns-in_err-put_files-clause-text : goal.returns-in_err-put_files-clause-text
returns-in_err-put_files-clause-text g c = λ t w.
    let p = err_from_is_err_and c.from_residual-in_err-put_files.result c.from_residual-in_err-put_files.ensures.1 in
    let counts = c.in_ok-counted.ensures.counts t in
    let files = map g.R.Source.coming c.args.sources.items in
    rw (p.1, p.2)
    (tells-fault (Unit {0}) (List (Option CutRest)) _ _ _ _ c.in_err-put_files.field-0.0
    (tells-counted c.args.form c.args.tail files c.as_slice.result.now (Err c.in_err-put_files.field-0.0)
    (g.W.Sink.held c.args.writer.now) (g.W.Sink.held c.put_files.new.writer)
    (counts.0, c.as_slice.ensures.value ∙ counts.1) c.in_err-put_files.ensures.fault
    (c.in_err-put_files.ensures.text w)))

pub returns-clause-text : goal.returns-clause-text
returns-clause-text g c = λ t w.
    let counts = c.in_ok-counted.ensures.counts t in
    let files = map g.R.Source.coming c.args.sources.items in
    tells-counted c.args.form c.args.tail files c.as_slice.result.now (Ok c.in_ok-put_files.field-0)
    (g.W.Sink.held c.args.writer.now) (g.W.Sink.held c.put_files.new.writer)
    (counts.0, c.as_slice.ensures.value ∙ counts.1) c.in_ok-put_files.ensures.fault (c.in_ok-put_files.ensures.text w)

pub returns-clause-cuts : goal.returns-clause-cuts
returns-clause-cuts g c = λ t.
    c.cuts_of.ensures
    ∙ files-cuts c.args.tail (map g.R.Source.coming c.args.sources.items) c.as_slice-2.result.now _
    (c.as_slice-2.ensures.value ∙ (c.in_ok-counted.ensures.counts t).1)
    (sym (length-map c.args.sources.items g.R.Source.coming))
