use Rattle.std.proofs.Common.{◌∙◌, Some}
use Rattle.std.proofs.lemmas.Result.{IfOk-weaker}
use Rattle.cap_tool.proofs.LineParts.{entry-garbled, entry-text}
use Rattle.cap_tool.proofs.digest_lines.entry_in.Goals as goal

pub returns-in_default : goal.returns-in_default
returns-in_default c = entry-garbled c.args.line.now c.in_default.ensures.cases.0

pub returns-in-Some : goal.returns-in-Some
returns-in-Some c =
    let text = c.in-Ok.ensures.cases in
    IfOk-weaker c.entry_by.result _ _
    (λ entry is. is
    ∙ entry-text c.args.line.now c.in-Ok.text.now (Some (c.in-Some.number, c.in-Some.shown.now)) text.0 text.1
    c.in-Some.ensures)
    c.entry_by.ensures
