use Rattle.std.proofs.Common.{◌≡◌, ◌<◌, ◌≤◌, ◌+◌, length, sym, subst, arith}
use Rattle.cap_join.specs.Holes.{word_at, HasHoles}
use Rattle.cap_join.proofs.Punching.{HasHoles-first}
use Rattle.cap_join.proofs.Reading.{Reached-first, Reached-next}
use Rattle.cap_join.proofs.holes.last_below.Goals as goal

pub loop-next-init : goal.loop-next-init
loop-next-init c = grind (
  arith,
  Reached-first,
  c.requires.holes,
  c.requires.first,
  c.requires.whole,
  c.requires.within,
  c.requires.short,
)

pub next_below-requires : goal.next_below-requires
next_below-requires c =
    let h = c.loop-next.invariant in
    let near : c.loop-next.last < c.args.below = h.1 in
    let whole : word_at c.args.bytes.now c.loop-next.last ≤ c.args.below = h.2 in
    let first = HasHoles-first c.args.bytes.now (length c.args.bytes.now) c.loop-next.last h.0
    (omega (arith, c.requires.within, c.requires.short)) in
    record {
      within = omega (arith, first.block, first.within);
      next = λ lt.
          let second = HasHoles-first c.args.bytes.now (length c.args.bytes.now)
          (word_at c.args.bytes.now (c.loop-next.last + 4)) first.rest
          (omega (arith, c.requires.within, c.requires.short)) in
          omega (arith, second.block, second.within);
    }

pub loop-next-preserved : goal.loop-next-preserved
loop-next-preserved c =
    let h = c.loop-next.invariant in
    let near : c.loop-next.last < c.args.below = h.1 in
    let first = HasHoles-first c.args.bytes.now (length c.args.bytes.now) c.loop-next.last h.0
    (omega (arith, c.requires.within, c.requires.short)) in
    let is : c.in-Some.next ≡ word_at c.args.bytes.now (c.loop-next.last + 4) = c.in-Some.ensures.0 in
    let lt : c.in-Some.next < c.args.below = c.in-Some.ensures.1 in (
      subst (HasHoles c.args.bytes.now (length c.args.bytes.now)) (sym is) first.rest,
      lt,
      c.in-Some.ensures.2,
      λ low high ss chain. Reached-next c.args.bytes.now c.args.below c.loop-next.last c.in-Some.next high ss is
          (omega (arith, c.requires.within, c.requires.short)) c.in-Some.ensures.2 (h.3 low high ss chain),
    )

pub loop-next-smaller : goal.loop-next-smaller
loop-next-smaller c =
    let h = c.loop-next.invariant in
    let near : c.loop-next.last < c.args.below = h.1 in
    let first = HasHoles-first c.args.bytes.now (length c.args.bytes.now) c.loop-next.last h.0
    (omega (arith, c.requires.within, c.requires.short)) in
    let is : c.in-Some.next ≡ word_at c.args.bytes.now (c.loop-next.last + 4) = c.in-Some.ensures.0 in
    let lt : c.in-Some.next < c.args.below = c.in-Some.ensures.1 in
    omega (arith, first.rises)

pub returns-clause-begins : goal.returns-clause-begins
returns-clause-begins c = λ low high ss chain. (c.loop-next.invariant.3 low high ss chain).begins
