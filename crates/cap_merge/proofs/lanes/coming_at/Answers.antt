use Rattle.std.proofs.Common.{sym, ◌∙◌}
use Rattle.cap_merge.proofs.Placing.{coming-first, coming-none}
use Rattle.cap_merge.proofs.lanes.coming_at.Goals as goal

pub returns-in-Some-next : goal.returns-in-Some-next
returns-in-Some-next c = λ feeds e a.
    coming-first c.args.lanes.now feeds c.in-Some.first c.in-Some-next.coming _ c.requires.known e a
    (sym c.requires.place ∙ c.in-Some.is) c.in-Some-next.is

pub returns-in-None : goal.returns-in-None
returns-in-None c = λ feeds e a. coming-none c.args.lanes.now feeds c.requires.known a (sym c.requires.place
    ∙ c.in-None.is)
