use Rattle.std.proofs.Common.{◌≡◌, ℕ, ◌+◌, ◌%◌, ◌<◌, List, [], ◌∷◌, length, sym, ◌∙◌, ap, subst, arith}
use Rattle.cap_join.specs.Holes.{Span, word_at, IsChain, Punched}
use Rattle.cap_join.proofs.Punching.{HasHoles-first, Punched-none, Punched-hole, min_block}
use Rattle.cap_join.proofs.holes.+punch.Goals as goal

pub returns-then-at-to-clause-punched : goal.returns-then-at-to-clause-punched
returns-then-at-to-clause-punched t c = grind (arith, Punched-none, c.cover-at.ensures.punched, c.if-at-to.true)

pub returns-then-at-to-clause-stays : goal.returns-then-at-to-clause-stays
returns-then-at-to-clause-stays t c = λ near whole. (c.cover-at.ensures.stays near).0

pub word_at-end-requires : goal.word_at-end-requires
word_at-end-requires t c =
    let first = HasHoles-first c.cover-at.new.bytes
    (length c.cover-at.new.bytes) c.cover-at.result c.cover-at.ensures.holes
    (omega (arith, c.requires.within, c.requires.short, c.cover-at.auto.bytes)) in
    omega (arith, first.block, first.within)

pub word_at-next-requires : goal.word_at-next-requires
word_at-next-requires t c =
    let first = HasHoles-first c.cover-at.new.bytes
    (length c.cover-at.new.bytes) c.cover-at.result c.cover-at.ensures.holes
    (omega (arith, c.requires.within, c.requires.short, c.cover-at.auto.bytes)) in
    omega (arith, first.block, first.within)

pub punch-rest-requires : goal.punch-rest-requires
punch-rest-requires t c =
    let first = HasHoles-first c.cover-at.new.bytes
    (length c.cover-at.new.bytes) c.cover-at.result c.cover-at.ensures.holes
    (omega (arith, c.requires.within, c.requires.short, c.cover-at.auto.bytes)) in
    let rises : c.cover-at.result < c.word_at-next.result = rw c.word_at-next.ensures first.rises in (
      omega (arith, c.cover-at.ensures.rises, c.if-at-to.false),
      (
        rw c.word_at-next.ensures first.rest,
        (
          c.requires.begins,
          (
            c.requires.ends,
            (
              c.requires.some,
              (
                omega (arith, c.requires.within, c.cover-at.auto.bytes),
                omega (arith, c.requires.short, c.cover-at.auto.bytes),
              ),
            ),
          ),
        ),
      ),
    )

pub keep-right-requires-clause-within : goal.keep-right-requires-clause-within
keep-right-requires-clause-within t c =
    let first = HasHoles-first c.cover-at.new.bytes
    (length c.cover-at.new.bytes) c.cover-at.result c.cover-at.ensures.holes
    (omega (arith, c.requires.within, c.requires.short, c.cover-at.auto.bytes)) in
    omega (arith, first.within, c.word_at-end.ensures, c.clear.auto.bytes, c.punch-rest.auto.bytes)

pub keep-right-requires-clause-ends : goal.keep-right-requires-clause-ends
keep-right-requires-clause-ends t c =
    let first = HasHoles-first c.cover-at.new.bytes
    (length c.cover-at.new.bytes) c.cover-at.result c.cover-at.ensures.holes
    (omega (arith, c.requires.within, c.requires.short, c.cover-at.auto.bytes)) in
    rw c.word_at-end.ensures first.ends

pub keep-requires-clause-begins : goal.keep-requires-clause-begins
keep-requires-clause-begins t c =
    let first = HasHoles-first c.cover-at.new.bytes
    (length c.cover-at.new.bytes) c.cover-at.result c.cover-at.ensures.holes
    (omega (arith, c.requires.within, c.requires.short, c.cover-at.auto.bytes)) in
    first.begins

pub keep-requires-clause-ends : goal.keep-requires-clause-ends
keep-requires-clause-ends t c =
    let first = HasHoles-first c.cover-at.new.bytes
    (length c.cover-at.new.bytes) c.cover-at.result c.cover-at.ensures.holes
    (omega (arith, c.requires.within, c.requires.short, c.cover-at.auto.bytes)) in
    min_block c.word_at-end.result c.args.from c.min-2.result c.min-2.ensures
    (ap (λ (n : ℕ). n % 8) c.word_at-end.ensures ∙ first.ends) c.requires.begins

pub returns-clause-punched : goal.returns-clause-punched
returns-clause-punched t c = c.cover-at.ensures.punched c.keep.result c.keep.new.bytes (λ low ss chain. by low ss chain)
  where
    by : (low : ℕ) (ss : List Span) → IsChain c.cover-at.new.bytes low
        (length c.cover-at.new.bytes) c.cover-at.result ss
        → Punched c.args.from c.args.to c.cover-at.new.bytes ss low
        (length c.cover-at.new.bytes) c.keep.result c.keep.new.bytes
    by low [] chain = absurd (omega (arith, chain, c.if-at-to.false, c.requires.within, c.requires.short))
    by low (s ∷ ss) chain =
        let end_is : c.word_at-end.result ≡ s.to = c.word_at-end.ensures
        ∙ ap (word_at c.cover-at.new.bytes) chain.0.here ∙ chain.0.end_is in
        let next_is : word_at c.cover-at.new.bytes (s.from + 4) ≡ c.word_at-next.result =
        sym (c.word_at-next.ensures ∙ ap (λ (n : ℕ). word_at c.cover-at.new.bytes (n + 4)) chain.0.here) in
        let tail : IsChain c.cover-at.new.bytes s.to (length c.cover-at.new.bytes) c.word_at-next.result ss =
        subst (λ (n : ℕ). IsChain c.cover-at.new.bytes s.to (length c.cover-at.new.bytes) n ss) next_is chain.1 in
        Punched-hole c.args.from c.args.to low (length c.cover-at.new.bytes) c.cover-at.result c.word_at-end.result
        c.word_at-next.result
        c.punch-rest.result c.keep-right.result c.keep.result s ss
        c.cover-at.new.bytes c.punch-rest.new.bytes c.clear.new.bytes c.keep-right.new.bytes c.keep.new.bytes
        c.max.result c.min.result c.min-2.result
        c.requires.some c.if-at-to.false chain.0 end_is tail
        (c.punch-rest.ensures.punched s.to ss tail) c.max.ensures c.min.ensures c.min-2.ensures
        c.clear.ensures.within c.clear.ensures.zeros
        c.keep-right.ensures.within c.keep-right.ensures.chain
        c.keep.ensures.within c.keep.ensures.chain

pub returns-clause-stays : goal.returns-clause-stays
returns-clause-stays t c = λ near whole.
    let first = HasHoles-first c.cover-at.new.bytes
    (length c.cover-at.new.bytes) c.cover-at.result c.cover-at.ensures.holes
    (omega (arith, c.requires.within, c.requires.short, c.cover-at.auto.bytes)) in
    let some : c.cover-at.result < c.word_at-end.result = omega (arith, first.block, c.word_at-end.ensures) in
    let same : c.cover-at.result ≡ c.args.at = (c.cover-at.ensures.stays near).0 in
    c.keep.ensures.place (omega (arith, c.min-2.ensures)) ∙ same
