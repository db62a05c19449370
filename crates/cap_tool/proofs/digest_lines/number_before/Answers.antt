use Rattle.std.proofs.Common.{◌≡◌, ◌∙◌, ◌++◌, None, ap, sym, arith, codes}
use Rattle.std.proofs.lemmas.Str.Pattern.{starts_text}
use Rattle.cap_tool.proofs.LineParts.{before-is, before-number, before-zero, split-found, split-lost}
use Rattle.cap_tool.proofs.digest_lines.number_before.Goals as goal

pub returns-in_err-digits : goal.returns-in_err-digits
returns-in_err-digits c =
    let strip = c.in_ok-strip_prefix.ensures.cases in
    let rest = c.in_ok-strip_prefix.field-0.now in
    let opened : c.args.front.now ≡ codes "digest " ++ rest =
    strip.1.1 ∙ ap (λ l. codes "digest " ++ l) (sym strip.2) in
    rw c.from_residual-in_err-digits.ensures
    (sym (before-is c.args.front.now rest None opened
    (split-lost (codes " ") rest (omega arith) c.in_err-digits.ensures.cases)))

pub returns-then-starts_with : goal.returns-then-starts_with
returns-then-starts_with c =
    let strip = c.in_ok-strip_prefix.ensures.cases in
    let rest = c.in_ok-strip_prefix.field-0.now in
    let digits = c.in_ok-digits.digits.now in
    let other = c.in_ok-digits.field-0-1.now in
    let opened : c.args.front.now ≡ codes "digest " ++ rest =
    strip.1.1 ∙ ap (λ l. codes "digest " ++ l) (sym strip.2) in
    let split = split-found (codes " ") rest digits other (omega arith) c.in_ok-digits.ensures.cases in
    before-zero c.args.front.now rest digits other opened split
    (sym c.if-starts_with.true ∙ starts_text c.starts_with.result (codes "0") digits c.starts_with.ensures.cases)

pub returns : goal.returns
returns c =
    let strip = c.in_ok-strip_prefix.ensures.cases in
    let rest = c.in_ok-strip_prefix.field-0.now in
    let digits = c.in_ok-digits.digits.now in
    let other = c.in_ok-digits.field-0-1.now in
    let opened : c.args.front.now ≡ codes "digest " ++ rest =
    strip.1.1 ∙ ap (λ l. codes "digest " ++ l) (sym strip.2) in
    let split = split-found (codes " ") rest digits other (omega arith) c.in_ok-digits.ensures.cases in
    c.number_of.ensures
    ∙ before-number c.args.front.now rest digits other opened split
    (sym c.if-starts_with.false ∙ starts_text c.starts_with.result (codes "0") digits c.starts_with.ensures.cases)
