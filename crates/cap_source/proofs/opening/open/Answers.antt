use Rattle.cap_source.proofs.Looks.{opened_reads, opened_by, opened_keeps, unread_keeps}
use Rattle.cap_source.proofs.Fronts.{Fronts-same}
use Rattle.cap_source.proofs.PcapFronts.{opened-answer, opening-answer}
use Rattle.cap_source.specs.inner.Fronts.{reader_fronts}
use Rattle.cap_source.specs.inner.Readers.{reader_file_state}
use Rattle.cap_bytes.proofs.Reach.{ReachesTo-here}
use Rattle.std.proofs.Common.{◌+◌}
use Rattle.std.proofs.lemmas.Result.{err_from_is_err_and}
use Rattle.cap_source.proofs.opening.open.Goals as goal

pub returns-in_ok-format-in-Unread-clause-answer : goal.returns-in_ok-format-in-Unread-clause-answer
returns-in_ok-format-in-Unread-clause-answer g c = λ progress.
    opened_by c.args.reader.now c.replace-unread.result c.reader_of.result c.in-Unread.window c.look.new.window
    c.in-Unread.field-1
    c.in_ok-format-in-Unread.format progress c.in-Unread.is c.replace-unread.ensures.value c.reader_of.ensures
    c.in_ok-format-in-Unread.ensures.answer c.in_ok-format-in-Unread.ensures.keeps

pub returns-in_ok-format-in-Unread-clause-keeps : goal.returns-in_ok-format-in-Unread-clause-keeps
returns-in_ok-format-in-Unread-clause-keeps g c = λ progress.
    opened_keeps c.args.reader.now c.replace-unread.result c.reader_of.result c.in-Unread.window c.look.new.window
    c.in-Unread.field-1
    c.in_ok-format-in-Unread.format progress c.in-Unread.is c.replace-unread.ensures.value c.reader_of.ensures
    c.in_ok-format-in-Unread.ensures.answer c.in_ok-format-in-Unread.ensures.keeps

pub returns-in_err-format-in-Unread-clause-keeps : goal.returns-in_err-format-in-Unread-clause-keeps
returns-in_err-format-in-Unread-clause-keeps g c = λ progress.
    rw c.in-Unread.is (unread_keeps c.in-Unread.window c.look.new.window c.in-Unread.field-1 progress c.look.result
    c.look.ensures.answer c.look.ensures.keeps)

pub returns-in_ok-format-in-Unread-clause-reaches : goal.returns-in_ok-format-in-Unread-clause-reaches
returns-in_ok-format-in-Unread-clause-reaches g c = λ progress.
    opened_reads c.args.reader.now c.replace-unread.result c.reader_of.result c.in-Unread.window c.look.new.window
    c.in-Unread.field-1
    c.in_ok-format-in-Unread.format progress c.in-Unread.is c.replace-unread.ensures.value c.reader_of.ensures
    c.in_ok-format-in-Unread.ensures.reaches

pub returns-in_default-clause-reaches : goal.returns-in_default-clause-reaches
returns-in_default-clause-reaches g c = λ progress.
    let s = reader_file_state c.args.reader.now progress in
    ReachesTo-here s.most (s.offset + 4) s.read

pub returns-in_ok-format-in-Unread-clause-fronts : goal.returns-in_ok-format-in-Unread-clause-fronts
returns-in_ok-format-in-Unread-clause-fronts g c = λ progress told.
    opened-answer c.args.reader.now c.replace-unread.result c.reader_of.result c.in-Unread.window c.look.new.window
    c.in-Unread.field-1
    c.in_ok-format-in-Unread.format progress c.in-Unread.is c.replace-unread.ensures.value c.reader_of.ensures
    c.in_ok-format-in-Unread.ensures.answer c.in_ok-format-in-Unread.ensures.keeps told

pub returns-in_err-format-in-Unread-clause-fronts : goal.returns-in_err-format-in-Unread-clause-fronts
returns-in_err-format-in-Unread-clause-fronts g c = λ progress told.
    let p = err_from_is_err_and c.from_residual.result c.from_residual.ensures.1 in
    rw (p.1, p.2)
    (opening-answer c.args.reader.now c.in-Unread.window c.look.new.window c.in-Unread.field-1 progress
    c.in_err-format-in-Unread.field-0.0 c.in-Unread.is c.in_err-format-in-Unread.ensures.answer)

pub returns-in_default-clause-fronts : goal.returns-in_default-clause-fronts
returns-in_default-clause-fronts g c = λ progress told. Fronts-same (reader_fronts c.args.reader.now progress)
