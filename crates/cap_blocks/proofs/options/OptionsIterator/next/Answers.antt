use Rattle.std.proofs.Common.{◌≡◌, ◌≢◌, ◌+◌, ◌<◌, ◌∙◌, ap, sym, refl, List, length, drop, drop-drop, arith, ◌∷◌, take}
use Rattle.cap_blocks.specs.OptionList.{OptionItem, code_at, length_at, padded}
use Rattle.cap_blocks.proofs.OptionLaws.{options_of-short, options_of-end, options_of-overrun, options_of-more}
use Rattle.cap_blocks.proofs.options.OptionsIterator.next.Goals as goal

-- one item less is to come
fewer : (item : OptionItem) (old new : List OptionItem) → old ≡ item ∷ new → length new < length old
fewer item old new first = omega (arith, ap length first)

pub returns-then-self-lt4-clause-steps : goal.returns-then-self-lt4-clause-steps
returns-then-self-lt4-clause-steps c = search (options_of-short)

pub returns-then-code-eq0-clause-steps : goal.returns-then-code-eq0-clause-steps
returns-then-code-eq0-clause-steps c = grind (arith, options_of-end, options_of-short)

pub returns-then-behind-length-clause-steps : goal.returns-then-behind-length-clause-steps
returns-then-behind-length-clause-steps c = grind (arith, options_of-overrun, options_of-short)

pub returns-then-behind-length-clause-goes : goal.returns-then-behind-length-clause-goes
returns-then-behind-length-clause-goes c = record {
  on = λ _. (tt, tt, fewer _ _ _ (returns-then-behind-length-clause-steps c));
  keeps = tt;
  rests = λ _. tt;
}

pub returns-clause-steps : goal.returns-clause-steps
returns-clause-steps c =
    let order = c.args.self.now.order in
    let bytes = c.args.self.now.rest.now in
    let some : code_at order bytes ≢ 0 = λ zero. c.if-code-eq0.false (c.u16_at-code.ensures ∙ zero) in
    let size : c.from-length.result ≡ length_at order bytes = cc in
    let value : c.split_at-2.result.0.now ≡ take (length_at order bytes) (drop 4 bytes) =
    c.split_at-2.ensures.front ∙ (ap (λ n. take n c.split_at.result.1.now) size
    ∙ ap (take (length_at order bytes)) c.split_at.ensures.back) in
    let rest : c.behind_padding-self.result.now ≡ drop (4 + padded (length_at order bytes)) bytes =
    c.behind_padding-self.ensures
    ∙ (ap (λ n. drop (padded n) c.split_at.result.1.now) size
    ∙ (ap (drop (padded (length_at order bytes))) c.split_at.ensures.back
    ∙ drop-drop (padded (length_at order bytes)) 4 bytes)) in
    options_of-more order bytes some (omega arith)
    ∙ rw (sym value, sym rest, sym c.u16_at-code.ensures) refl

pub returns-clause-goes : goal.returns-clause-goes
returns-clause-goes c = record {
  on = λ _. (tt, tt, fewer _ _ _ (returns-clause-steps c));
  keeps = tt;
  rests = λ _. tt;
}
