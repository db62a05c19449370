use Rattle.std.proofs.Common.{◌∙◌, sym, append_assoc, append-nil, rules}
use Rattle.std.proofs.lemmas.Str.{IsUtf8-past_char}
use Rattle.cap_line.proofs.Escapes.{shown_nil, shown_step}
use Rattle.cap_line.proofs.shown.escape_by.Goals as goal

pub loop-c-init : goal.loop-c-init
loop-c-init c = (search rules, rw (c.new-shown.ensures.bytes, c.chars-rest.ensures.rest))

pub loop-c-preserved : goal.loop-c-preserved
loop-c-preserved c =
    let held = c.loop-c.invariant in
    let parts = c.in-Some.ensures.steps.0 in
    let step = shown_step c.args.keeps_lines _ _ c.in-Some.c held.0 parts in (
      IsUtf8-past_char _ _ c.in-Some.c held.0 parts,
      rw (c.in_ok-put_char.ensures, append_assoc) (rw step at held.1),
    )

pub returns : goal.returns
returns c = sym (append-nil _) ∙ rw (shown_nil _ _ c.in_default.ensures.steps.0.0) at c.loop-c.invariant.1
