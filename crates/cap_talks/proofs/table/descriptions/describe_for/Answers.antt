use Rattle.std.proofs.Common.{ap, ◌∙◌, arith}
use Rattle.cap_class.specs.Ipv6.{lone_class_for}
use Rattle.cap_ipv6.specs.Seen.{packet_seen}
use Rattle.cap_talks.specs.table.Descriptions.{describe_for}
use Rattle.cap_talks.specs.table.Descriptions.{described_class}
use Rattle.cap_talks.proofs.Describing.{described-for, unread-for, read-for}
use Rattle.cap_talks.proofs.table.descriptions.describe_for.Goals as goal

pub returns-then-not-ipv6-clause-value : goal.returns-then-not-ipv6-clause-value
unfolding describe_for
returns-then-not-ipv6-clause-value c = grind (arith, c.describe.ensures.value)

pub returns-then-not-ipv6-clause-class : goal.returns-then-not-ipv6-clause-class
unfolding lone_class_for
returns-then-not-ipv6-clause-class c = grind (arith, c.describe.ensures.class)

pub returns-in-None-clause-value : goal.returns-in-None-clause-value
returns-in-None-clause-value c =
    unread-for c.args.ipv6 c.args.meta.now c.args.frame.now c.describe-in-None.result c.describe_unread.result
    (grind arith) c.in-None.ensures.value c.describe-in-None.ensures.value c.describe_unread.ensures

pub returns-in-None-clause-class : goal.returns-in-None-clause-class
returns-in-None-clause-class c =
    ap described_class
    (unread-for c.args.ipv6 c.args.meta.now c.args.frame.now c.describe-in-None.result c.describe_unread.result
    (grind arith) c.in-None.ensures.value c.describe-in-None.ensures.value c.describe_unread.ensures)
    ∙ described-for c.args.ipv6 c.args.meta.now c.args.frame.now

pub returns-in-Some-clause-value : goal.returns-in-Some-clause-value
returns-in-Some-clause-value c =
    read-for c.args.ipv6 c.args.meta.now c.args.frame.now (packet_seen c.in-Some.read) c.describe_ipv6.result
    (grind arith) c.in-Some.ensures.value c.describe_ipv6.ensures

pub returns-in-Some-clause-class : goal.returns-in-Some-clause-class
returns-in-Some-clause-class c =
    ap described_class
    (read-for c.args.ipv6 c.args.meta.now c.args.frame.now (packet_seen c.in-Some.read) c.describe_ipv6.result
    (grind arith) c.in-Some.ensures.value c.describe_ipv6.ensures)
    ∙ described-for c.args.ipv6 c.args.meta.now c.args.frame.now
