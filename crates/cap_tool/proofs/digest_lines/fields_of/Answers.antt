use Rattle.std.proofs.Common.{◌∙◌, None, sym, arith, codes}
use Rattle.cap_tool.proofs.LineParts.{fields-are, fields-none, fields-some, split-found, split-lost}
use Rattle.cap_tool.proofs.digest_lines.fields_of.Goals as goal

pub returns-in_err-front : goal.returns-in_err-front
returns-in_err-front c =
    rw c.from_residual.ensures
    (fields-are c.args.line.now None
    (split-lost (codes " name ") c.args.line.now (omega arith) c.in_err-front.ensures.cases))

pub returns-in_err-number_before : goal.returns-in_err-number_before
returns-in_err-number_before c =
    let front = c.in_ok-front.front.now in
    let shown = c.in_ok-front.shown.now in
    let split = split-found (codes " name ") c.args.line.now front shown (omega arith) c.in_ok-front.ensures.cases in
    rw c.from_residual-in_err-number_before.ensures
    (fields-none c.args.line.now front shown split (sym c.number_before.ensures ∙ c.in_err-number_before.was))

pub returns : goal.returns
returns c =
    let front = c.in_ok-front.front.now in
    let shown = c.in_ok-front.shown.now in
    let split = split-found (codes " name ") c.args.line.now front shown (omega arith) c.in_ok-front.ensures.cases in
    fields-some c.args.line.now front shown _ split (sym c.number_before.ensures ∙ c.in_ok-number_before.was)
