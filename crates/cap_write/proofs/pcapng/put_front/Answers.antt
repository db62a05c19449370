use Rattle.std.proofs.Common.{arith}
use Rattle.std.proofs.lemmas.Result.{err_from_is_err_and}
use Rattle.cap_blocks.specs.Grammar.{section_bytes}
use Rattle.cap_bytes.proofs.Putting.{Puts-first, Puts-second}
use Rattle.cap_write.specs.Texts.{first_bytes}
use Rattle.cap_write.proofs.pcapng.put_front.Goals as goal

pub returns-in_err-put_section-clause-bytes : goal.returns-in_err-put_section-clause-bytes
returns-in_err-put_section-clause-bytes g c =
    let p = err_from_is_err_and c.from_residual.result c.from_residual.ensures.1 in
    rw p.1
    (λ t. Puts-first (Unit {0}) _ _ (section_bytes c.args.order) (first_bytes c.args.order c.args.first)
    c.in_err-put_section.field-0.0 (c.in_err-put_section.ensures.bytes t))

pub returns-clause-bytes : goal.returns-clause-bytes
returns-clause-bytes g c = grind (arith, Puts-second)
