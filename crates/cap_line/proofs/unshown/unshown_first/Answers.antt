use Rattle.std.proofs.Common.{◌≡◌, ◌∷◌, ◌++◌, ◌∙◌, ap, subst, sym, chars, encode_utf8, None}
use Rattle.std.proofs.lemmas.Str.{chars_past_char}
use Rattle.cap_line.specs.Shown.{escaped_first, unshown_past}
use Rattle.cap_line.proofs.ReadingEscapes.{shorter-one}
use Rattle.cap_line.proofs.ShownNames.{unshown-hidden, unshown-plain}
use Rattle.cap_line.proofs.unshown.unshown_first.Goals as goal

pub returns-in-Some : goal.returns-in-Some
returns-in-Some c =
    let e = c.in-Some.ensures in
    (unshown-hidden (chars c.args.text.now) (chars c.in-Some.behind.now) c.in-Some.c e.0 e.1, e.2)

pub returns : goal.returns
returns c =
    let text = c.args.text.now in
    let steps = c.in_ok-c.ensures.steps.0 in
    let behind = c.as_str.ensures in
    let bytes : text ≡ encode_utf8 c.in_ok-c.c ++ c.as_str.result.now =
    sym c.chars-rest.ensures.rest ∙ (steps ∙ ap (λ l. encode_utf8 c.in_ok-c.c ++ l) (sym behind)) in
    let parts = chars_past_char text c.as_str.result.now c.in_ok-c.c c.utf8.text bytes in (
      ap (unshown_past 0) parts
          ∙ unshown-plain c.in_ok-c.c (chars c.as_str.result.now)
          (subst (λ l. escaped_first l ≡ None) parts c.in_default.ensures),
      shorter-one text c.as_str.result.now c.in_ok-c.c bytes,
    )
