use Rattle.std.proofs.Common.{◌≡◌, ◌∙◌, ap, sym, cond, Some, None}
use Rattle.cap_merge.specs.inner.First.{lane_turns}
use Rattle.cap_merge.proofs.Rounding.{turn-there, ones-set}
use Rattle.cap_merge.proofs.tournament.enter.Goals as goal
use Rattle.cap_merge.proofs.tournament.enter.Goals.{then-has_item, else-has_item}

pub returns-clause-firsts : goal.returns-clause-firsts
returns-clause-firsts c =
    let ls = c.args.lanes.now in
    let place = c.args.place in
    let noted : c.if-has_item.ones ≡ cond c.has_item.result (Some place) None =
    elim c.if-has_item.branch [
      | then-has_item w ↦ w.ones-is ∙ ap (λ b. cond b (Some place) None) (sym w.if-has_item.true)
      | else-has_item w ↦ w.ones-is ∙ ap (λ b. cond b (Some place) None) (sym w.if-has_item.false)
    ] in
    ones-set (lane_turns ls) c.args.ones.now place c.if-has_item.ones c.requires.place
    (noted ∙ ap (λ b. cond b (Some place) None) (turn-there ls place c.index-lanes-place.result c.has_item.result
    c.requires.lane c.index-lanes-place.is c.has_item.ensures))
