use Rattle.std.proofs.Common.{rules, ◌≡◌, ℕ, ◌+◌, ◌≤◌, ◌<◌, List, [], ◌∷◌, sym, ◌∙◌, ap, subst, arith}
use Rattle.cap_join.specs.Holes.{Span, word_at, IsChain, Appended}
use Rattle.cap_join.proofs.Punching.{HasHoles-first, Appended-last, Appended-hole}
use Rattle.cap_join.proofs.holes.+append_hole.Goals as goal

pub returns-then-at-from-clause-appended : goal.returns-then-at-from-clause-appended
returns-then-at-from-clause-appended t c = λ low ss le chain. grind (
  arith,
  Appended-last,
  c.if-at-from.true,
  c.requires.some,
  c.requires.short,
  c.keep.ensures.within,
  c.keep.ensures.chain,
)

pub word_at-end-requires : goal.word_at-end-requires
word_at-end-requires t c =
    let first = HasHoles-first c.args.bytes.now c.args.from c.args.at c.requires.holes
    (omega (arith, c.requires.some, c.requires.short)) in
    omega (arith, first.block, first.within, c.requires.some)

pub word_at-next-requires : goal.word_at-next-requires
word_at-next-requires t c =
    let first = HasHoles-first c.args.bytes.now c.args.from c.args.at c.requires.holes
    (omega (arith, c.requires.some, c.requires.short)) in
    omega (arith, first.block, first.within, c.requires.some)

pub append_hole-rest-requires : goal.append_hole-rest-requires
append_hole-rest-requires t c =
    let first = HasHoles-first c.args.bytes.now c.args.from c.args.at c.requires.holes
    (omega (arith, c.requires.some, c.requires.short)) in
    let rises : c.args.at < c.word_at-next.result = rw c.word_at-next.ensures first.rises in (
      search rules,
      (
        rw c.word_at-next.ensures first.rest,
        (
          c.requires.begins,
          (c.requires.ends, (c.requires.some, c.requires.short)),
        ),
      ),
    )

pub keep-requires-2-clause-within : goal.keep-requires-2-clause-within
keep-requires-2-clause-within t c =
    let first = HasHoles-first c.args.bytes.now c.args.from c.args.at c.requires.holes
    (omega (arith, c.requires.some, c.requires.short)) in
    omega (arith, first.within, c.word_at-end.ensures, c.append_hole-rest.auto.bytes, c.requires.some)

pub keep-requires-2-clause-begins : goal.keep-requires-2-clause-begins
keep-requires-2-clause-begins t c =
    grind (
      arith,
      HasHoles-first c.args.bytes.now c.args.from c.args.at c.requires.holes
          (omega (arith, c.requires.some, c.requires.short)),
      HasHoles-first,
      c.requires.holes,
      c.requires.some,
      c.requires.short,
    )

pub keep-requires-2-clause-ends : goal.keep-requires-2-clause-ends
keep-requires-2-clause-ends t c =
    let first = HasHoles-first c.args.bytes.now c.args.from c.args.at c.requires.holes
    (omega (arith, c.requires.some, c.requires.short)) in
    rw c.word_at-end.ensures first.ends

pub returns-clause-appended : goal.returns-clause-appended
returns-clause-appended t c = λ low ss le chain. by low ss le chain
  where
    by : (low : ℕ) (ss : List Span) → low ≤ c.args.from → IsChain c.args.bytes.now low c.args.from c.args.at ss
        → Appended c.args.bytes.now ss low c.args.from c.keep-2.result c.keep-2.new.bytes
    by low [] le chain = absurd (omega (arith, chain, c.if-at-from.false, c.requires.some, c.requires.short))
    by low (s ∷ ss) le chain =
        let end_is : c.word_at-end.result ≡ s.to = c.word_at-end.ensures ∙ ap (word_at c.args.bytes.now) chain.0.here
        ∙ chain.0.end_is in
        let next_is : word_at c.args.bytes.now (s.from + 4) ≡ c.word_at-next.result =
        sym (c.word_at-next.ensures ∙ ap (λ (n : ℕ). word_at c.args.bytes.now (n + 4)) chain.0.here) in
        let tail : IsChain c.args.bytes.now s.to c.args.from c.word_at-next.result ss =
        subst (λ (n : ℕ). IsChain c.args.bytes.now s.to c.args.from n ss) next_is chain.1 in
        Appended-hole low c.args.from c.args.at c.word_at-end.result c.word_at-next.result c.append_hole-rest.result
        c.keep-2.result s ss
        c.args.bytes.now c.append_hole-rest.new.bytes c.keep-2.new.bytes
        c.requires.some chain.0 end_is tail (c.append_hole-rest.ensures.appended s.to ss chain.0.within tail)
        c.keep-2.ensures.within c.keep-2.ensures.chain

pub returns-clause-stays : goal.returns-clause-stays
returns-clause-stays t c = λ near.
    let first = HasHoles-first c.args.bytes.now c.args.from c.args.at c.requires.holes
    (omega (arith, c.requires.some, c.requires.short)) in
    c.keep-2.ensures.place (omega (arith, first.block, c.word_at-end.ensures))
