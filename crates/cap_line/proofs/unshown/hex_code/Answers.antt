use Rattle.std.proofs.Common.{◌≡◌, ◌∙◌, ap, sym, arith, chars, false, true}
use Rattle.std.proofs.lemmas.Str.{IsUtf8-past_char, chars_past_char}
use Rattle.std.specs.Str.Iter.{chars_rest}
use Rattle.cap_line.specs.Shown.{is_hex_digit}
use Rattle.cap_line.proofs.ReadingEscapes.{code-end, code-more, code-none, code-over, code-small, code_after}
use Rattle.cap_line.proofs.unshown.hex_code.Goals as goal

pub overflow_mul-code : goal.overflow_mul-code
overflow_mul-code c =
    let i = c.loop-place.invariant in
    let e = c.in-Some-to_digit.ensures.value in
    let small = code-small c.loop-place.place c.loop-place.code c.in-Some-to_digit.digit
    (omega (arith, c.loop-place-test.true)) i.small (omega (arith, e.0, e.1)) in
    omega (arith, small.0)

pub overflow_add-code : goal.overflow_add-code
overflow_add-code c =
    let i = c.loop-place.invariant in
    let e = c.in-Some-to_digit.ensures.value in
    let small = code-small c.loop-place.place c.loop-place.code c.in-Some-to_digit.digit
    (omega (arith, c.loop-place-test.true)) i.small (omega (arith, e.0, e.1)) in
    omega (arith, small.0)

pub returns-in-None-to_digit : goal.returns-in-None-to_digit
returns-in-None-to_digit c =
    let i = c.loop-place.invariant in
    let place = c.loop-place.place in
    let other : is_hex_digit c.in-Some.c ≡ false = grind (arith, c.in-None-to_digit.ensures.value) in
    let here = chars_past_char (chars_rest c.loop-place.rest) _ c.in-Some.c i.utf8 c.in-Some.ensures.steps.0 in
    sym (ap (code_after place c.loop-place.code) here
    ∙ code-over place c.loop-place.code c.in-Some.c _ (omega (arith, c.loop-place-test.true)) other) ∙ i.code

pub returns-in-None : goal.returns-in-None
returns-in-None c =
    let i = c.loop-place.invariant in
    sym (code-none c.loop-place.place c.loop-place.code (chars_rest c.loop-place.rest) c.in-None.ensures.steps.0.0)
    ∙ i.code

pub loop-place-preserved : goal.loop-place-preserved
loop-place-preserved c =
    let i = c.loop-place.invariant in
    let place = c.loop-place.place in
    let e = c.in-Some-to_digit.ensures.value in
    let steps = c.in-Some.ensures.steps.0 in
    let is : is_hex_digit c.in-Some.c ≡ true = grind (arith, e.0) in
    let here = chars_past_char (chars_rest c.loop-place.rest) _ c.in-Some.c i.utf8 steps in
    record {
      within = omega (arith, c.loop-place-test.true);
      utf8 = IsUtf8-past_char _ _ c.in-Some.c i.utf8 steps;
      small = (code-small place c.loop-place.code c.in-Some-to_digit.digit (omega (arith, c.loop-place-test.true))
          i.small (omega (arith, e.0, e.1))).1;
      code = rw e.1
          (sym (ap (code_after place c.loop-place.code) here
          ∙ code-more place c.loop-place.code c.in-Some.c _ (omega (arith, c.loop-place-test.true)) is) ∙ i.code);
    }
