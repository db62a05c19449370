use Rattle.std.proofs.Common.{sym, ◌∙◌, subst, arith, take}
use Rattle.cap_join.specs.inner.Groups.{GroupState, IsGroupOf}
use Rattle.cap_join.proofs.Grouping.{completes-none, completes-some, covers_below-hole, total_of-reached}
use Rattle.cap_join.proofs.groups.Group.is_complete.Goals as goal

pub returns-in-None : goal.returns-in-None
returns-in-None c = λ ps group. grind (
  arith,
  subst (λ (s : GroupState). IsGroupOf s ps) (sym c.self.view_is) group,
  completes-none,
  c.in-None.is,
)

pub returns-in-Some : goal.returns-in-Some
returns-in-Some c = λ ps group.
    let g = subst (λ (s : GroupState). IsGroupOf s ps) (sym c.self.view_is) group in
    let total = sym g.total ∙ c.in-Some.is in
    covers_below-hole (take c.self.inside.part.held c.self.inside.buffer.items) c.self.inside.part.holes.first
    c.in-Some.total ps g.maps (total_of-reached ps c.in-Some.total g.maps.shaped total).0
    ∙ completes-some ps c.in-Some.total total
