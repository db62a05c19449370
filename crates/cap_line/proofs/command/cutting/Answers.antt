use Rattle.std.proofs.Common.{◌∙◌, ap}
use Rattle.std.proofs.lemmas.Result.{IfOk-weaker}
use Rattle.cap_line.proofs.Parsing.{AddsArg-local}
use Rattle.cap_line.proofs.command.cutting.Goals as goal

pub returns-clause-local : goal.returns-clause-local
returns-clause-local c =
    let start = ap (λ f. f.has_globals) c.after_help.ensures ∙ ap (λ f. f.has_globals) c.about.ensures
    ∙ c.new.ensures.local in
    IfOk-weaker c.arg.result _ _ (λ r added. AddsArg-local _ _ r added start c.allow_cut.ensures.local) c.arg.ensures
