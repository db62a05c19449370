use Rattle.std.proofs.Common.{arith, sym, ◌∙◌}
use Rattle.capt_c.proofs.ToldTimes.{by-code, micro, nano}
use Rattle.capt_c.proofs.told_packets.resolution_of.Goals as goal

pub returns-in-1000000-clause-some : goal.returns-in-1000000-clause-some
returns-in-1000000-clause-some c =
    by-code c.from_code.result 6 c.args.units c.from_code.ensures.code c.from_code.ensures.units
    (micro ∙ sym c.in-1000000.is) (λ e. omega (arith, e))

pub returns-in-1000000000-clause-some : goal.returns-in-1000000000-clause-some
returns-in-1000000000-clause-some c =
    let e = c.from_code-in-1000000000.ensures in
    by-code c.from_code-in-1000000000.result 9 c.args.units e.code e.units
    (nano ∙ sym c.in-1000000000.is) (λ e. omega (arith, e))
