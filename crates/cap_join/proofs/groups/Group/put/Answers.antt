use Rattle.std.proofs.Common.{ℕ, ◌+◌, ◌∷◌, sym, ◌∙◌, subst, ap, refl, arith}
use Rattle.cap_join.specs.inner.Incoming.{piece_in}
use Rattle.cap_join.specs.Frames.{earlier_stamped, later_stamped}
use Rattle.cap_join.specs.inner.Groups.{GroupState, IsGroupOf}
use Rattle.cap_join.specs.inner.GroupView.{group_view}
use Rattle.cap_join.proofs.Grouping.{IsGroupOf-put}
use Rattle.cap_join.proofs.groups.Group.put.Goals as goal

pub invariant_of-self-2 : goal.invariant_of-self-2
invariant_of-self-2 c = record {
  sound = record {
    pieces = piece_in c.args.incoming.now ∷ c.self.invariant.sound.pieces;
    group = IsGroupOf-put (group_view c.self.inside) _ c.args.incoming.now.header.now c.args.incoming.now.data.now
        c.args.incoming.now.stamped c.args.incoming.now.fragment c.args.incoming.now.found c.args.incoming.now.shape
        c.in_ok-self-inside.ensures.maps c.total_after-self-inside.ensures c.header_after-self-inside.ensures refl
        (ap (λ (n : ℕ). c.self.inside.bytes + n) c.from.ensures)
        (c.earlier-self-inside.ensures ∙ ap (earlier_stamped c.self.inside.first) c.timed.ensures)
        (c.later-self-inside.ensures ∙ ap (later_stamped c.self.inside.last) c.timed-2.ensures)
        c.self.invariant.sound.pieces c.self.invariant.sound.group;
    few = omega (arith, c.requires, ap (λ (s : GroupState). s.frames) c.self.view_is);
    bounded = omega (arith, c.args.incoming.now.fits, c.from.ensures, c.self.invariant.sound.bounded);
    clock = c.self.invariant.sound.clock;
  };
  held = c.in_ok-self-inside.ensures.held;
  short = c.put_data.ensures.bounded;
  cursor = c.in_ok-self-inside.ensures.cursor;
}

pub returns-clause-ok : goal.returns-clause-ok
returns-clause-ok c = λ ps group.
    IsGroupOf-put (group_view c.self.inside) _ c.args.incoming.now.header.now c.args.incoming.now.data.now
    c.args.incoming.now.stamped c.args.incoming.now.fragment c.args.incoming.now.found c.args.incoming.now.shape
    c.in_ok-self-inside.ensures.maps c.total_after-self-inside.ensures c.header_after-self-inside.ensures refl
    (ap (λ (n : ℕ). c.self.inside.bytes + n) c.from.ensures)
    (c.earlier-self-inside.ensures ∙ ap (earlier_stamped c.self.inside.first) c.timed.ensures)
    (c.later-self-inside.ensures ∙ ap (later_stamped c.self.inside.last) c.timed-2.ensures)
    ps (subst (λ (s : GroupState). IsGroupOf s ps) (sym c.self.view_is) group)

pub overflow_add-self-2 : goal.overflow_add-self-2
overflow_add-self-2 c = omega (arith, c.args.incoming.now.fits, c.from.ensures, c.self.invariant.sound.bounded)
