use Rattle.std.proofs.Common.{ap, arith, sym, ◌∙◌}
use Rattle.cap_talks.specs.inner.table.Packed.{is_wide}
use Rattle.cap_talks.proofs.Packing.{found-at, key-of-known, known-grown, stored-at, widened-wide, within-bool}
use Rattle.cap_talks.proofs.table.conversations.known_key.Goals as goal

pub returns-in-Some-clause-key : goal.returns-in-Some-clause-key
returns-in-Some-clause-key c =
    key-of-known c.args.known.now.keys c.args.unit.now c.of-forward.result.0 c.in-Some.place _ c.at.ensures
    (found-at c.args.known.now.keys c.of-forward.result.0 c.in-Some.place c.in-Some.ensures.index)
    c.of-forward.ensures.value (within-bool c.in-Some.place _ c.in-Some.ensures.within) c.of-forward.ensures.narrow
    c.of-forward.ensures.forward

pub returns-clause-key : goal.returns-clause-key
returns-clause-key c =
    let (it, at, same) = c.in_ok-place.ensures.stored in
    key-of-known c.add_known.new.known.keys c.args.unit.now c.of-forward.result.0 c.in_ok-place.place _ c.at-2.ensures
    (stored-at c.add_known.new.known.keys c.of-forward.result.0 it c.in_ok-place.place at same)
    c.of-forward.ensures.value (within-bool c.in_ok-place.place _ c.in_ok-place.ensures.within)
    c.of-forward.ensures.narrow c.of-forward.ensures.forward

pub returns-clause-known : goal.returns-clause-known
returns-clause-known c =
    known-grown c.args.known.now.keys c.add_known.new.known.keys c.of-forward.result.0 c.requires.known
    (ap is_wide c.of-forward.ensures.value
    ∙ widened-wide _ c.of-forward.ensures.narrow c.requires.wide) (sym c.in_default.ensures.found) (grind arith)
