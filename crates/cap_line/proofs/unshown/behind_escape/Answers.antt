use Rattle.std.proofs.Common.{◌≡◌, ◌∙◌, ◌∷◌, ◌++◌, [], ap, sym, arith, append_assoc, chars}
use Rattle.std.proofs.lemmas.Str.{IsUtf8-past_char, chars_past_char}
use Rattle.std.specs.Char.Iter.{escape_rest}
use Rattle.std.specs.Str.Iter.{chars_rest}
use Rattle.std.proofs.Common.{rules}
use Rattle.std.specs.Char.Escape.{escape_unicode}
use Rattle.cap_line.proofs.ReadingEscapes.{lacks-escape, lacks-other, shorter}
use Rattle.cap_line.proofs.unshown.behind_escape.Goals as goal

pub loop-letter-preserved : goal.loop-letter-preserved
loop-letter-preserved c =
    let i = c.loop-letter.invariant in
    let letter = c.in-Some.letter in
    let one : escape_rest c.loop-letter.escape ≡ letter ∷ escape_rest c.next.new.self =
    grind (arith, c.in-Some.ensures.steps) in
    let steps = c.in_ok-next.ensures.steps.0 in
    let here = chars_past_char (chars_rest c.loop-letter.rest) _ c.in_ok-next.field-0 i.1 steps in
    let same = c.if-branch-letter.false in
    let behind = chars (chars_rest c.next-in-Some.new.self) in
    let front = i.2.0 in (
      grind (arith, c.in-Some.ensures.steps, i.0),
      IsUtf8-past_char _ _ c.in_ok-next.field-0 i.1 steps,
      (
        front ++ letter ∷ [],
        append_assoc front (letter ∷ []) _ ∙ (sym (ap (λ l. front ++ l) one) ∙ i.2.1),
        i.2.2
            ∙ (ap (λ l. front ++ l) (here ∙ ap (λ x. x ∷ behind) same)
            ∙ sym (append_assoc front (letter ∷ []) behind)),
      ),
    )

pub returns-in_err-next : goal.returns-in_err-next
returns-in_err-next c =
    let i = c.loop-letter.invariant in
    let one : escape_rest c.loop-letter.escape ≡ c.in-Some.letter ∷ escape_rest c.next.new.self =
    grind (arith, c.in-Some.ensures.steps) in
    rw c.from_residual.ensures
    (lacks-escape (chars c.args.text.now) _ i.2.0 (escape_rest c.next.new.self) (chars_rest c.loop-letter.rest)
    c.in-Some.letter (sym i.2.1 ∙ ap (λ l. i.2.0 ++ l) one) i.2.2 c.in_err-next.ensures.steps.0.0)

pub returns-then-branch-letter : goal.returns-then-branch-letter
returns-then-branch-letter c =
    let i = c.loop-letter.invariant in
    let one : escape_rest c.loop-letter.escape ≡ c.in-Some.letter ∷ escape_rest c.next.new.self =
    grind (arith, c.in-Some.ensures.steps) in
    let here = chars_past_char (chars_rest c.loop-letter.rest) _ c.in_ok-next.field-0 i.1 c.in_ok-next.ensures.steps.0
    in
    lacks-other (chars c.args.text.now) _ i.2.0 (escape_rest c.next.new.self) _ c.in-Some.letter c.in_ok-next.field-0
    (sym i.2.1 ∙ ap (λ l. i.2.0 ++ l) one) (i.2.2 ∙ ap (λ l. i.2.0 ++ l) here) c.if-branch-letter.true

pub returns : goal.returns
returns c =
    let parts : chars c.args.text.now ≡ escape_unicode c.args.c ++ chars c.as_str.result.now = search rules in
    (parts, shorter c.args.text.now c.as_str.result.now c.args.c c.utf8.text c.as_str.utf8 parts)
