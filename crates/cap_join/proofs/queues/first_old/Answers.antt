use Rattle.std.proofs.Common.{◌≡◌, ◌∙◌, [], true, Option, sym, subst, arith}
use Rattle.std.specs.Prelude.{IsSomeAnd}
use Rattle.cap_join.specs.Frames.{is_too_old}
use Rattle.cap_join.specs.inner.Groups.{GroupState}
use Rattle.cap_join.proofs.Aging.{Looked, Looked-more, Looked-turn}
use Rattle.cap_join.proofs.Tabling.{Looked-found}
use Rattle.cap_join.proofs.queues.first_old.Goals as goal

pub loop-key-init : goal.loop-key-init
loop-key-init c = record {
  seen = [];
  split = sym (c.into_iter-key-iterator.ensures.into_iter_gives
      ∙ c.iter-key-items.ensures.rest);
  none = tt;
}

pub loop-key-preserved : goal.loop-key-preserved
loop-key-preserved c =
    grind (
      arith,
      Looked-more,
      c.is_too_old.ensures,
      c.if-is_too_old.false,
      c.in-Some.ensures.steps,
      c.loop-key.invariant,
    )

pub returns-then-is_too_old-clause-old : goal.returns-then-is_too_old-clause-old
returns-then-is_too_old-clause-old c =
    let found = Looked-found c.args.now c.args.groups.now.entries
    (c.in-Some.key.now, c.in-Some.group.now) c.next.new.self c.requires.unique
    (subst (Looked c.args.now c.args.groups.now.entries) c.in-Some.ensures.steps c.loop-key.invariant) in
    subst (λ (o : Option GroupState). IsSomeAnd o (λ s. is_too_old s.clock c.args.now ≡ true)) (sym found)
    (sym c.is_too_old.ensures ∙ c.if-is_too_old.true)

pub returns-then-has_clock-clause-none : goal.returns-then-has_clock-clause-none
returns-then-has_clock-clause-none c =
    Looked-turn c.args.now c.args.groups.now.entries (c.in-Some.key.now, c.in-Some.group.now) c.next.new.self
    (c.requires.in_turn c.if-in_order.true) (c.has_clock.ensures.some c.if-has_clock.true)
    (sym c.is_too_old.ensures ∙ c.if-is_too_old.false)
    (subst (Looked c.args.now c.args.groups.now.entries) c.in-Some.ensures.steps c.loop-key.invariant)
