use Rattle.std.proofs.Common.{◌≡◌, ℕ, ◌<◌, length, sym, subst, arith}
use Rattle.cap_join.specs.Holes.{no_hole, HasCursor, Punched}
use Rattle.cap_join.proofs.Reading.{PunchedFrom, HasHoles-begins, Punched-behind}
use Rattle.cap_join.proofs.Cursors.{HasCursor-marked}
use Rattle.cap_join.proofs.holes.fill.Goals as goal

pub punch-requires-in-Some-clause-holes : goal.punch-requires-in-Some-clause-holes
punch-requires-in-Some-clause-holes c =
    grind (
      arith,
      HasHoles-begins,
      c.requires.holes.spans,
      c.requires.holes.chain,
      c.in-Some.ensures.begins,
      c.requires.short,
    )

pub returns-in-Some-clause-punched : goal.returns-in-Some-clause-punched
returns-in-Some-clause-punched c = λ ss chain.
    (Punched-behind c.args.from c.args.to 0 (length c.args.bytes.now) c.args.holes.first c.in-Some.last ss
    c.args.bytes.now c.punch-in-Some.new.bytes
    (omega (arith, c.in-Some.ensures.here, c.requires.some, c.requires.within, c.requires.short)) chain
    (c.in-Some.ensures.begins (length c.args.bytes.now) ss (omega (arith, c.requires.short)) chain)
    (λ low ss chain. subst (λ (n : ℕ). Punched c.args.from c.args.to c.args.bytes.now ss low
    (length c.args.bytes.now) n c.punch-in-Some.new.bytes)
    (c.punch-in-Some.ensures.stays c.in-Some.ensures.here c.in-Some.ensures.whole)
    (c.punch-in-Some.ensures.punched low ss chain))).punched

pub returns-in-Some-clause-cursor : goal.returns-in-Some-clause-cursor
returns-in-Some-clause-cursor c =
    let old = c.args.bytes.now in
    let new = c.punch-in-Some.new.bytes in
    let near : length old < no_hole = omega (arith, c.requires.short) in
    let size : length new ≡ length old = c.punch-in-Some.auto.bytes in
    let after : PunchedFrom c.args.from c.args.to old c.requires.holes.spans 0
    (length old) c.args.holes.first c.in-Some.last new =
    Punched-behind c.args.from c.args.to 0 (length old) c.args.holes.first c.in-Some.last c.requires.holes.spans old new
    (omega (arith, c.in-Some.ensures.here, c.requires.some, c.requires.within, c.requires.short)) c.requires.holes.chain
    (c.in-Some.ensures.begins (length old) c.requires.holes.spans near c.requires.holes.chain)
    (λ low ss chain. subst (λ (n : ℕ). Punched c.args.from c.args.to old ss low (length old) n new)
    (c.punch-in-Some.ensures.stays c.in-Some.ensures.here c.in-Some.ensures.whole)
    (c.punch-in-Some.ensures.punched low ss chain)) in
    subst (λ (n : ℕ). HasCursor new n c.args.holes.first c.in-Some.last) (sym size)
    (HasCursor-marked new (length old) c.args.holes.first c.in-Some.last after.punched.spans near after.punched.chain
    after.begins)
