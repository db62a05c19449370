use Rattle.std.proofs.Common.{[], ◌++◌, ◌∙◌, ap, append-nil, refl, sym}
use Rattle.std.proofs.lemmas.Result.{err_from_is_err_and}
use Rattle.std.proofs.lemmas.Str.{IsUtf8-past_char}
use Rattle.cap_tool.proofs.Escaping.{Escaping-ends, Escaping-fails, Escaping-more}
use Rattle.cap_tool.proofs.objects.put_escaped.Goals as goal

pub loop-c-init : goal.loop-c-init
loop-c-init g c = rw c.chars-rest.ensures.rest (record {
  head = [];
  utf8 = c.utf8.text;
  whole = refl;
  written = λ t. sym (append-nil _);
  told = λ t. t;
  failed = refl;
  cannot = λ t. t;
})

pub loop-c-preserved : goal.loop-c-preserved
loop-c-preserved g c =
    let parts = c.in-Some.ensures.steps.0 in
    let text = c.as_slice.ensures.value ∙ c.escaped.ensures in
    let e = c.in_ok-put_all.ensures in
    Escaping-more _ _ _ _ _ _ c.in-Some.c c.loop-c.invariant
    (IsUtf8-past_char _ _ c.in-Some.c c.loop-c.invariant.utf8 parts) parts
    (λ t. e.bytes t ∙ ap (λ l. g.W.Sink.held c.loop-c.writer ++ l) text) e.writer

pub returns-in_err-put_all-clause-text : goal.returns-in_err-put_all-clause-text
returns-in_err-put_all-clause-text g c =
    let p = err_from_is_err_and c.from_residual.result c.from_residual.ensures.1 in
    let text = c.as_slice.ensures.value ∙ c.escaped.ensures in
    rw p.1
    (Escaping-fails _ _ (g.W.Sink.held c.put_all.new.writer) _ _ _ c.in-Some.c c.in_err-put_all.field-0.0
    c.loop-c.invariant c.in-Some.ensures.steps.0 (λ t. rw text at c.in_err-put_all.ensures.bytes t))

pub returns-clause-text : goal.returns-clause-text
returns-clause-text g c = Escaping-ends _ _ _ _ c.loop-c.invariant c.in_default.ensures.steps.0.0
