use Rattle.std.proofs.Common.{◌≡◌, arith, sym, ap, ◌∙◌, subst, map}
use Rattle.std.specs.List.{position_or_len}
use Rattle.cap_write.specs.Numbering.{description_of, is_description}
use Rattle.capt_c.proofs.Described.{first-same}
use Rattle.capt_c.proofs.interfaces.Interfaces.number_of.Goals as goal

pub returns-else-not-is_same-clause-number : goal.returns-else-not-is_same-clause-number
returns-else-not-is_same-clause-number c =
    let same = is_description (description_of c.args.interface.now) in
    subst (λ list. c.loop-number.number ≡ position_or_len same (map description_of list)) c.as_slice-list.ensures.value
    (first-same c.as_slice-list.result.now c.args.interface.now c.index-list-number.result c.loop-number.number
    c.loop-number.invariant.0 c.loop-number.invariant.1
    (λ less. ap (λ i. same (description_of i)) (sym c.index-list-number.is) ∙ sym c.is_same.ensures
    ∙ c.if-not-is_same.false))

pub returns-after-loop-number-clause-number : goal.returns-after-loop-number-clause-number
returns-after-loop-number-clause-number c =
    let same = is_description (description_of c.args.interface.now) in
    subst (λ list. c.loop-number.number ≡ position_or_len same (map description_of list)) c.as_slice-list.ensures.value
    (first-same c.as_slice-list.result.now c.args.interface.now c.args.interface.now c.loop-number.number
    c.loop-number.invariant.0 c.loop-number.invariant.1
    (λ less. absurd (omega (arith, less, c.loop-number-test.false))))
