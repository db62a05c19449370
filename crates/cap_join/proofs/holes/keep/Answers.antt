use Rattle.std.proofs.Common.{◌≡◌, ℕ, ◌+◌, ◌≤◌, ◌<◌, List, sym, ◌∙◌, subst, arith}
use Rattle.std.specs.Prelude.{slice_index}
use Rattle.cap_join.specs.Holes.{Span, IsChain, word_at}
use Rattle.cap_join.proofs.Chains.{word_at-same, kept-chain, IsChain-lower, kept-some}
use Rattle.cap_join.proofs.holes.keep.Goals as goal

pub returns-then-from-to-clause-chain : goal.returns-then-from-to-clause-chain
returns-then-from-to-clause-chain c = λ low middle high ss after lower le within chain.
    let xs = c.args.bytes.now in
    let mid = c.put_word.new.bytes in
    let ys = c.put_word-then-from-to.new.bytes in
    let first = c.put_word.ensures.within in
    let second = c.put_word-then-from-to.ensures.within in
    let some : c.args.from < c.args.to = c.if-from-to.true in
    let block : c.args.from + 8 ≤ c.args.to = omega (arith, c.requires.begins, c.requires.ends) in
    let end_is : word_at ys c.args.from ≡ c.args.to =
    word_at-same mid ys c.args.from (λ k p q. second.below k (omega arith)) ∙ c.put_word.ensures.word in
    let same : (k : ℕ) → c.args.to ≤ k → slice_index ys k ≡ slice_index xs k = λ k p. second.above k (omega arith)
    ∙ first.above k (omega arith) in
    subst (λ (spans : List Span). IsChain ys low high c.args.from spans) (sym (kept-some c.args.from c.args.to ss some))
    (kept-chain c.args.from c.args.to c.args.next low middle high xs ys ss some c.requires.begins c.requires.ends end_is
    c.put_word-then-from-to.ensures.word same after le within chain)

pub returns-else-from-to-clause-chain : goal.returns-else-from-to-clause-chain
returns-else-from-to-clause-chain c = grind (arith, IsChain-lower)
