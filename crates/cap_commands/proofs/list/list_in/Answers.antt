use Rattle.std.proofs.Common.{◌∙◌, ap, sym, subst, Bool, IsTrue, arith}
use Rattle.cap_source.specs.Feed.{HasFile}
use Rattle.cap_commands.proofs.list.list_in.Goals as goal

pub ending-requires-clause-file : goal.ending-requires-clause-file
ending-requires-clause-file g c =
    subst (λ fs. HasFile fs 1) (sym (c.in_ok-list_packets.ensures.files ∙ c.new-capture.ensures.files)) (grind arith)

pub returns-clause-cut : goal.returns-clause-cut
returns-clause-cut g c = λ t.
    let e = c.new-capture.ensures in
    ap (λ end. end.cut) c.ending.ensures.ending
    ∙ ap (λ end. end.ending.cut)
    (c.in_ok-list_packets.ensures.endings (subst (λ (b : Bool). IsTrue b) (sym e.told) t) 1 ∙ e.endings 1)
