use Rattle.std.proofs.Common.{rules, sym, ◌∙◌, ap, ◌%◌}
use Rattle.capt_c.proofs.NearTimes.{fraction}
use Rattle.capt_c.proofs.packets.time_of.Goals as goal

pub returns-in-Some : goal.returns-in-Some
returns-in-Some c =
    let units = c.in-Some.units in let parts = fraction units c.args.meta.now.interface in
    let denominator = c.units-denominator.ensures.value in
    rw c.in-Some.is (
      search rules,
      c.split-seconds.ensures.left ∙ ap (λ d. units % d) denominator ∙ sym parts.0,
      denominator ∙ sym parts.1,
    )
