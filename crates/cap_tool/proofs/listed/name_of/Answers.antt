use Rattle.std.proofs.Common.{◌∙◌, ◌++◌, ◌∷◌, [], sym, ap, arith}
use Rattle.std.proofs.lemmas.Result.{IfOk-weaker}
use Rattle.cap_tool.proofs.ListedNames.{listed-other, listed-text}
use Rattle.cap_tool.proofs.listed.name_of.Goals as goal

pub returns-in-Ok : goal.returns-in-Ok
returns-in-Ok c =
    let text = c.in-Ok.ensures.cases in
    IfOk-weaker c.from_str.result _ _ (λ name is. is ∙ (text.0 ∙ sym (listed-text c.args.bytes.now text.1)))
    c.from_str.ensures.ok

pub returns : goal.returns
returns c =
    let pushed = c.in_ok-push.ensures.bytes in
    let nul = c.in_ok-push.ensures.ascii (omega arith) in
    let lossy = c.in_ok-name.ensures.lossy in
    let other = listed-other c.args.bytes.now c.in_default.ensures.cases.0 in
    cc
