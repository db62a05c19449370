use Rattle.std.proofs.Common.{◌∙◌, sym, chars}
use Rattle.cap_line.proofs.ReadingEscapes.{code-behind, first-hidden, first-other, first-shown, first-unopened}
use Rattle.cap_line.proofs.ReadingEscapes.{first-unscalar}
use Rattle.cap_line.proofs.unshown.escaped_first.Goals as goal

pub returns-in_err-strip_prefix : goal.returns-in_err-strip_prefix
returns-in_err-strip_prefix c =
    rw c.from_residual.ensures
    (first-unopened c.args.text.now c.utf8.text (λ rest is. c.in_err-strip_prefix.ensures.cases rest is))

pub returns-in_err-c : goal.returns-in_err-c
returns-in_err-c c =
    let strip = c.in_ok-strip_prefix.ensures.cases in
    let code = code-behind c.args.text.now c.in_ok-strip_prefix.field-0.now strip.0 c.hex_code.result strip.1.1
    strip.2 c.hex_code.ensures in
    rw c.from_residual-in_err-c.ensures
    (first-unscalar (chars c.args.text.now) c.hex_code.result code c.in_err-c.ensures.value)

pub returns-in_err-behind_escape : goal.returns-in_err-behind_escape
returns-in_err-behind_escape c =
    let strip = c.in_ok-strip_prefix.ensures.cases in
    let code = code-behind c.args.text.now c.in_ok-strip_prefix.field-0.now strip.0 c.hex_code.result strip.1.1
    strip.2 c.hex_code.ensures in
    rw c.from_residual-in_err-behind_escape.ensures
    (first-other (chars c.args.text.now) c.hex_code.result c.in_ok-c.c code c.in_ok-c.ensures.value.1
    c.in_err-behind_escape.ensures)

pub returns-in_ok-behind_escape : goal.returns-in_ok-behind_escape
returns-in_ok-behind_escape c = (
  first-hidden (chars c.args.text.now) (chars c.in_ok-behind_escape.field-0.now) c.in_ok-c.c
      (sym c.is_hidden.ensures ∙ c.if-is_hidden.true) c.in_ok-behind_escape.ensures.0,
  c.in_ok-behind_escape.ensures.0,
  c.in_ok-behind_escape.ensures.1,
)

pub returns-else-is_hidden : goal.returns-else-is_hidden
returns-else-is_hidden c =
    let strip = c.in_ok-strip_prefix.ensures.cases in
    let code = code-behind c.args.text.now c.in_ok-strip_prefix.field-0.now strip.0 c.hex_code.result strip.1.1
    strip.2 c.hex_code.ensures in
    first-shown (chars c.args.text.now) c.hex_code.result c.in_ok-c.c code c.in_ok-c.ensures.value.1
    (sym c.is_hidden.ensures ∙ c.if-is_hidden.false)
