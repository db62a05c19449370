use Rattle.std.proofs.Common.{◌≡◌, ℕ, ◌≤◌, ◌<◌, length, refl, sym, ◌∙◌, subst, arith}
use Rattle.cap_join.specs.Holes.{no_hole, HasHoles}
use Rattle.cap_join.proofs.Punching.{HasHoles-first}
use Rattle.cap_join.proofs.Reading.{HasHoles-cleared, Continues-more}
use Rattle.cap_join.proofs.holes.cover.Goals as goal

pub loop-end-init : goal.loop-end-init
loop-end-init c = (c.requires.holes, refl, omega arith, λ p. (refl, refl), λ result new punched. punched)

pub covered_end-requires : goal.covered_end-requires
covered_end-requires c = λ lt.
    let h = c.loop-end.invariant in
    let first = HasHoles-first c.loop-end.bytes (length c.loop-end.bytes) c.loop-end.first h.0
    (omega (arith, lt, c.requires.within, c.requires.short)) in
    omega (arith, first.block, first.within)

pub loop-end-preserved : goal.loop-end-preserved
loop-end-preserved c =
    let h = c.loop-end.invariant in
    let e = c.in-Some.ensures in
    let above : c.args.from ≤ c.loop-end.first = e.1 in
    let lt : c.loop-end.first < c.args.to = e.2 in
    let near : c.loop-end.first < no_hole = omega (arith, c.requires.within, c.requires.short) in
    let first = HasHoles-first c.loop-end.bytes (length c.loop-end.bytes) c.loop-end.first h.0 near in
    let size : length c.clear.new.bytes ≡ length c.loop-end.bytes = c.clear.ensures.within.length_is in
    let low : c.args.at ≤ c.loop-end.first = h.2 in (
      subst (λ (n : ℕ). HasHoles c.clear.new.bytes n c.word_at-next.result) (sym size)
          (HasHoles-cleared c.loop-end.bytes c.clear.new.bytes c.loop-end.first c.in-Some.end c.word_at-next.result
          (length c.loop-end.bytes) first h.0 near e.0 c.word_at-next.ensures c.clear.ensures.within),
      size ∙ h.1,
      omega (arith, first.rises, c.word_at-next.ensures),
      λ p. let same : c.loop-end.first ≡ c.args.at = (h.3 p).0 in absurd (omega arith),
      Continues-more c.args.from c.args.to c.args.at c.loop-end.first c.in-Some.end c.word_at-next.result
          c.args.bytes.now c.loop-end.bytes c.clear.new.bytes h.4 near e.0 e.1 e.3
          c.word_at-next.ensures c.clear.ensures.within c.clear.ensures.zeros,
    )

pub loop-end-smaller : goal.loop-end-smaller
loop-end-smaller c =
    let h = c.loop-end.invariant in
    let e = c.in-Some.ensures in
    let lt : c.loop-end.first < c.args.to = e.2 in
    let first = HasHoles-first c.loop-end.bytes (length c.loop-end.bytes) c.loop-end.first h.0
    (omega (arith, c.requires.within, c.requires.short)) in
    omega (arith, first.rises, c.word_at-next.ensures)

pub word_at-next-requires : goal.word_at-next-requires
word_at-next-requires c =
    let h = c.loop-end.invariant in
    let e = c.in-Some.ensures in
    let lt : c.loop-end.first < c.args.to = e.2 in
    let first = HasHoles-first c.loop-end.bytes (length c.loop-end.bytes) c.loop-end.first h.0
    (omega (arith, c.requires.within, c.requires.short)) in
    omega (arith, first.block, first.within)
