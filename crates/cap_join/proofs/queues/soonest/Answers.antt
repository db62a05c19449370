use Rattle.std.proofs.Common.{◌≡◌, ◌∙◌, List, Option, sym, ap, subst, arith}
use Rattle.cap_time.specs.declared.stamps.Stamp.{Stamp}
use Rattle.cap_time.specs.Clock.{earlier}
use Rattle.cap_join.specs.Joiners.{Entry}
use Rattle.cap_join.specs.inner.Ages.{deadline_of, IsDeadline, AreInTurn}
use Rattle.cap_join.proofs.Aging.{Leaves, Leaves-more, Leaves-turn}
use Rattle.cap_join.proofs.queues.soonest.Goals as goal

pub loop-key-init : goal.loop-key-init
loop-key-init c = grind (
  arith,
  c.into_iter-key-iterator.ensures.into_iter_gives
      ∙ c.iter-key-items.ensures.rest,
  c.into_iter-key-iterator.ensures.into_iter_gives,
  c.iter-key-items.ensures.rest,
  c.requires,
)

pub loop-key-preserved : goal.loop-key-preserved
loop-key-preserved c =
    let es = c.args.groups.now.entries in
    let e : Entry = (c.in-Some._key.now, c.in-Some.group.now) in
    let soon : c.sooner-deadline.result ≡ earlier c.loop-key.deadline (deadline_of e.1.clock) =
    c.sooner-deadline.ensures ∙ ap (earlier c.loop-key.deadline) c.deadline.ensures in (
      subst (λ (d : Option Stamp). Leaves d c.next.new.self es) (sym soon)
          (Leaves-more c.loop-key.deadline e c.next.new.self es
          (subst (λ (l : List Entry). Leaves c.loop-key.deadline l es) c.in-Some.ensures.steps c.loop-key.invariant.0)),
      λ o. (subst AreInTurn c.in-Some.ensures.steps (c.loop-key.invariant.1 o)).1,
    )

pub returns-then-has_clock : goal.returns-then-has_clock
returns-then-has_clock c =
    let es = c.args.groups.now.entries in
    let e : Entry = (c.in-Some._key.now, c.in-Some.group.now) in
    let soon : c.sooner-deadline.result ≡ earlier c.loop-key.deadline (deadline_of e.1.clock) =
    c.sooner-deadline.ensures ∙ ap (earlier c.loop-key.deadline) c.deadline.ensures in
    subst (λ (d : Option Stamp). IsDeadline d es) (sym soon)
    (Leaves-turn c.loop-key.deadline e c.next.new.self es (c.has_clock.ensures.some c.if-has_clock.true)
    (subst AreInTurn c.in-Some.ensures.steps (c.loop-key.invariant.1 c.if-in_order.true))
    (subst (λ (l : List Entry). Leaves c.loop-key.deadline l es) c.in-Some.ensures.steps c.loop-key.invariant.0))
