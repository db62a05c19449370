use Rattle.std.proofs.Common.{◌+◌, arith}
use Rattle.cap_tool.proofs.NetworkTexts.{networks-put}
use Rattle.cap_tool.proofs.networks.prepend_networks.Goals as goal

pub returns-clause-text : goal.returns-clause-text
returns-clause-text c =
    let ipv6 = c.from-ipv6.result in
    networks-put c.args.counts.now ipv6 (ipv6 + c.from.result) _ _ _ _ c.from-ipv6.ensures
    (omega (arith, c.from-ipv6.ensures, c.from.ensures)) c.prepend_class.ensures.text c.prepend_class-2.ensures.text
    c.prepend_class-3.ensures.text
