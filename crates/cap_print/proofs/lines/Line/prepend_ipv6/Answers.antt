use Rattle.std.proofs.Common.{arith}
use Rattle.std.proofs.lemmas.Grind.{common_steps}
use Rattle.cap_print.proofs.AddressTexts.{put-address, text-plain}
use Rattle.cap_print.proofs.lines.Line.prepend_ipv6.Goals as goal

pub returns-then-length-lt2-clause-text : goal.returns-then-length-lt2-clause-text
returns-then-length-lt2-clause-text c = grind (arith, common_steps, text-plain)

pub returns-clause-text : goal.returns-clause-text
returns-clause-text c =
    put-address c.args.address c.groups_of-groups.result c.longest_zero_run-start.result c.split_at-2.result.0.now
    c.split_at.result.1.now _ _ _ _ c.groups_of-groups.ensures.value c.longest_zero_run-start.ensures.value
    (omega arith)
    c.split_at-2.ensures.front c.split_at.ensures.back c.prepend_groups-2.ensures.text c.prepend_text.ensures.text
    c.prepend_groups-3.ensures.text
