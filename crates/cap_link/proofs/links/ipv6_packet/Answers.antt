use Rattle.cap_link.proofs.Ipv6Frames.{ipv6-unread}
use Rattle.cap_link.proofs.links.ipv6_packet.Goals as goal

pub returns-in-1-clause-unread : goal.returns-in-1-clause-unread
returns-in-1-clause-unread c = ipv6-unread c.args.link c.args.frame.now

pub returns-in-101-clause-unread : goal.returns-in-101-clause-unread
returns-in-101-clause-unread c = ipv6-unread c.args.link c.args.frame.now

pub returns-in-113-clause-unread : goal.returns-in-113-clause-unread
returns-in-113-clause-unread c = ipv6-unread c.args.link c.args.frame.now

pub returns-in-276-clause-unread : goal.returns-in-276-clause-unread
returns-in-276-clause-unread c = ipv6-unread c.args.link c.args.frame.now

pub returns-in-229-clause-unread : goal.returns-in-229-clause-unread
returns-in-229-clause-unread c = ipv6-unread c.args.link c.args.frame.now
