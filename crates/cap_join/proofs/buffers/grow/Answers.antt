use Rattle.std.proofs.Common.{take, sym, arith, length-take}
use Rattle.cap_join.proofs.Growing.{IsChain-front, front_same, Grown-appended}
use Rattle.cap_join.proofs.buffers.grow.Goals as goal

pub add_hole-requires-clause-holes : goal.add_hole-requires-clause-holes
add_hole-requires-clause-holes c = record {
  spans = c.requires.holes.spans;
  chain = IsChain-front (take c.args.part.held c.args.bytes.now) c.args.bytes.now 0 c.args.part.held
      c.args.part.holes.first c.requires.holes.spans
      (λ k p. sym (front_same c.args.part.held c.args.bytes.now k p)) c.requires.holes.chain;
}

pub add_hole-requires-clause-cursor : goal.add_hole-requires-clause-cursor
add_hole-requires-clause-cursor c = λ ss chain lt.
    c.requires.cursor ss (IsChain-front c.args.bytes.now
    (take c.args.part.held c.args.bytes.now) 0 c.args.part.held c.args.part.holes.first ss
    (front_same c.args.part.held c.args.bytes.now) chain) lt

pub returns-clause-grown : goal.returns-clause-grown
returns-clause-grown c = λ ss chain.
    Grown-appended c.args.size c.args.part.held c.args.part.holes.first c.add_hole.result.first
    (take c.args.part.held c.args.bytes.now) c.args.bytes.now c.add_hole.new.bytes ss
    (omega (arith, length-take c.args.part.held c.args.bytes.now)) (omega arith) (omega arith)
    (λ k p. sym (front_same c.args.part.held c.args.bytes.now k p)) chain c.add_hole.ensures.appended
