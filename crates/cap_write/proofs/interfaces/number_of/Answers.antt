use Rattle.std.proofs.Common.{sym, ap, subst}
use Rattle.cap_write.proofs.Numbers.{Numbers-own, Numbers-shared}
use Rattle.cap_write.specs.Numbering.{own, shared, is_description}
use Rattle.cap_write.specs.inner.Interfaces.{Numbers, NumbersKey, origins_of}
use Rattle.cap_write.proofs.interfaces.number_of.Goals as goal

pub returns-in-Own-clause-answer : goal.returns-in-Own-clause-answer
returns-in-Own-clause-answer c =
    let after = c.number_in.new.used.keys in
    subst (λ before. Numbers c.args.meta.now before c.number_in.result (own after)) (sym (ap origins_of c.in-Own.is))
    (Numbers-own c.args.meta.now c.in-Own.used.keys after c.number_in.result c.requires.time
    c.number_in.ensures.answer)

pub returns-in-Shared-clause-answer : goal.returns-in-Shared-clause-answer
returns-in-Shared-clause-answer c =
    let before = c.in-Shared.used.keys in
    let after = c.number_in-in-Shared.new.used.keys in
    let result = c.number_in-in-Shared.result in
    subst (λ origins. Numbers c.args.meta.now origins result (shared after)) (sym (ap origins_of c.in-Shared.is))
    (Numbers-shared c.args.meta.now before after result c.requires.time
    (subst (λ key. NumbersKey is_description key c.args.meta.now before result after) c.description_of.ensures
    c.number_in-in-Shared.ensures.answer))
