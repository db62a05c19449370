use Rattle.cap_tool.proofs.NetworkTexts.{line-put}
use Rattle.cap_tool.proofs.networks.networks_text.Goals as goal

pub returns : goal.returns
returns c =
    line-put c.args.reads_ipv6 c.args.counts _ _ _ _ _ c.unread_networks.ensures c.new-line.ensures.text
    c.prepend_text.ensures.text c.prepend_networks.ensures.text c.prepend_name.ensures
