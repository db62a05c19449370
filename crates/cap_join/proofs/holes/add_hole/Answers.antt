use Rattle.std.proofs.Common.{◌≡◌, ℕ, ◌<◌, length, sym, subst, arith}
use Rattle.cap_join.specs.Holes.{no_hole, HasCursor, Appended}
use Rattle.cap_join.proofs.Chains.{IsChain-higher}
use Rattle.cap_join.proofs.Reading.{AppendedFrom, HasHoles-begins, Appended-behind}
use Rattle.cap_join.proofs.Cursors.{HasCursor-marked, Begins-wider, IsChain-unique}
use Rattle.cap_join.proofs.holes.add_hole.Goals as goal

pub last_before-requires-clause-holes : goal.last_before-requires-clause-holes
last_before-requires-clause-holes c =
    grind (arith, IsChain-higher, c.requires.holes.spans, c.requires.some, c.requires.holes.chain)

pub last_before-requires-clause-cursor : goal.last_before-requires-clause-cursor
last_before-requires-clause-cursor c = grind (arith, IsChain-unique, Begins-wider)

pub append_hole-requires-in-Some-clause-holes : goal.append_hole-requires-in-Some-clause-holes
append_hole-requires-in-Some-clause-holes c = grind (
  arith,
  HasHoles-begins,
  c.requires.holes.spans,
  c.requires.holes.chain,
  c.in-Some.ensures.begins,
  c.requires.some,
  c.requires.short,
)

pub returns-in-Some-clause-appended : goal.returns-in-Some-clause-appended
returns-in-Some-clause-appended c = λ ss chain.
    (Appended-behind c.args.from 0 c.args.from c.args.holes.first c.in-Some.last ss c.args.bytes.now
    c.append_hole-in-Some.new.bytes
    (omega (arith, c.in-Some.ensures.here, c.requires.some, c.requires.short)) (omega (arith, c.requires.some))
    (omega arith) chain
    (c.in-Some.ensures.begins c.args.from ss (omega (arith, c.requires.some, c.requires.short)) chain)
    (λ low ss le chain. subst
    (λ (n : ℕ). Appended c.args.bytes.now ss low c.args.from n c.append_hole-in-Some.new.bytes)
    (c.append_hole-in-Some.ensures.stays c.in-Some.ensures.here)
    (c.append_hole-in-Some.ensures.appended low ss le chain))).appended

pub returns-in-Some-clause-cursor : goal.returns-in-Some-clause-cursor
returns-in-Some-clause-cursor c =
    let old = c.args.bytes.now in
    let new = c.append_hole-in-Some.new.bytes in
    let near : length old < no_hole = omega (arith, c.requires.short) in
    let size : length new ≡ length old = c.append_hole-in-Some.auto.bytes in
    let after : AppendedFrom old c.requires.holes.spans 0 c.args.from c.args.holes.first c.in-Some.last new =
    Appended-behind c.args.from 0 c.args.from c.args.holes.first c.in-Some.last c.requires.holes.spans old new
    (omega (arith, c.in-Some.ensures.here, c.requires.some, c.requires.short)) (omega (arith, c.requires.some))
    (omega arith) c.requires.holes.chain
    (c.in-Some.ensures.begins c.args.from c.requires.holes.spans
    (omega (arith, c.requires.some, c.requires.short)) c.requires.holes.chain)
    (λ low ss le chain. subst (λ (n : ℕ). Appended old ss low c.args.from n new)
    (c.append_hole-in-Some.ensures.stays c.in-Some.ensures.here)
    (c.append_hole-in-Some.ensures.appended low ss le chain)) in
    subst (λ (n : ℕ). HasCursor new n c.args.holes.first c.in-Some.last) (sym size)
    (HasCursor-marked new (length old) c.args.holes.first c.in-Some.last after.appended.spans near after.appended.chain
    after.begins)
