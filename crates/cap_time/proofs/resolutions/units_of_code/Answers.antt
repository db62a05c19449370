use Rattle.std.proofs.Common.{ℕ, ◌%◌, ◌^◌, ◌<◌, ◌≤◌, ◌∙◌, subst, sym, arith}
use Rattle.cap_time.specs.ResolutionLaws.{code_positive, limits, power_of_two}
use Rattle.cap_time.proofs.Powers.{exponent_of_ten, exponent_of_two, power_at, units_of_ten, units_of_two}
use Rattle.cap_time.proofs.resolutions.units_of_code.Goals as goal

pub overflow_shl-result : goal.overflow_shl-result
overflow_shl-result c = omega (arith, exponent_of_two c.args.code c.requires c.if-code-lt128.false)

pub returns-then-code-lt128-clause-value : goal.returns-then-code-lt128-clause-value
returns-then-code-lt128-clause-value c =
    power_at (c.args.code % 128) (omega (arith, exponent_of_ten c.args.code c.requires c.if-code-lt128.true))
    ∙ sym (units_of_ten c.args.code c.if-code-lt128.true)

pub returns-else-code-lt128-clause-value : goal.returns-else-code-lt128-clause-value
returns-else-code-lt128-clause-value c =
    let e = c.args.code % 128 in
    let fits = power_of_two e (exponent_of_two c.args.code c.requires c.if-code-lt128.false) in
    grind (arith, fits, units_of_two c.args.code c.if-code-lt128.false)

pub returns-then-code-lt128-clause-positive : goal.returns-then-code-lt128-clause-positive
returns-then-code-lt128-clause-positive c =
    subst (λ (n : ℕ). 0 < n) (sym (returns-then-code-lt128-clause-value c)) (code_positive c.args.code c.requires)

pub returns-then-code-lt128-clause-most : goal.returns-then-code-lt128-clause-most
returns-then-code-lt128-clause-most c =
    subst (λ (n : ℕ). n ≤ 10 ^ 19) (sym (returns-then-code-lt128-clause-value c)) (limits c.args.code c.requires).0

pub returns-else-code-lt128-clause-positive : goal.returns-else-code-lt128-clause-positive
returns-else-code-lt128-clause-positive c =
    subst (λ (n : ℕ). 0 < n) (sym (returns-else-code-lt128-clause-value c)) (code_positive c.args.code c.requires)

pub returns-else-code-lt128-clause-most : goal.returns-else-code-lt128-clause-most
returns-else-code-lt128-clause-most c =
    subst (λ (n : ℕ). n ≤ 10 ^ 19) (sym (returns-else-code-lt128-clause-value c)) (limits c.args.code c.requires).0
