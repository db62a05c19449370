use Rattle.std.proofs.Common.{◌++◌, chars, codes, flat_map}
use Rattle.std.proofs.lemmas.Result.{err_from_is_err_and}
use Rattle.cap_bytes.proofs.Putting.{Puts-first, Puts-second}
use Rattle.cap_tool.specs.Objects.{escaped_character}
use Rattle.cap_tool.proofs.objects.put_path.Goals as goal

pub returns-in_err-put_all-clause-text : goal.returns-in_err-put_all-clause-text
returns-in_err-put_all-clause-text g c =
    let p = err_from_is_err_and c.from_residual.result c.from_residual.ensures.1 in
    rw p.1
    (λ t. Puts-first (Unit {0}) _ _ (codes ",\"path\":\"")
    (flat_map escaped_character (chars c.args.text.now) ++ codes "\"}\n") c.in_err-put_all.field-0.0
    (c.in_err-put_all.ensures.bytes t))

pub returns-clause-text : goal.returns-clause-text
returns-clause-text g c =
    λ t. Puts-second (Unit {0}) _ (g.W.Sink.held c.put_all.new.writer) _ (codes ",\"path\":\"")
    (flat_map escaped_character (chars c.args.text.now) ++ codes "\"}\n") c.put_string_end.result
    (c.in_ok-put_all.ensures.bytes t) (c.put_string_end.ensures.text (c.in_ok-put_all.ensures.writer.told t))
