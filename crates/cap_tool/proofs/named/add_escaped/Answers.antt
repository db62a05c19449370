use Rattle.std.proofs.Common.{◌∙◌, sym, append_assoc, append-nil, refl}
use Rattle.std.proofs.lemmas.Str.{IsUtf8-past_char}
use Rattle.std.specs.Str.Iter.{chars_rest}
use Rattle.cap_tool.proofs.Escaping.{escaped-nil, escaped-step}
use Rattle.cap_tool.proofs.named.add_escaped.Goals as goal

pub loop-c-init : goal.loop-c-init
loop-c-init c = rw c.chars-rest.ensures.rest (c.utf8.name, refl)

pub loop-c-preserved : goal.loop-c-preserved
loop-c-preserved c =
    let held = c.loop-c.invariant in
    let parts = c.in-Some.ensures.steps.0 in
    let text = c.as_slice.ensures.value ∙ c.escaped.ensures in
    let step = escaped-step _ _ c.in-Some.c held.0 parts in (
      IsUtf8-past_char _ _ c.in-Some.c held.0 parts,
      rw (c.in_ok-extend_from_slice.ensures.items, text, append_assoc) (rw step at held.1),
    )

pub returns : goal.returns
returns c = sym (append-nil _) ∙ rw (escaped-nil (chars_rest c.loop-c.rest) c.in_default.ensures.steps.0.0)
    at c.loop-c.invariant.1
