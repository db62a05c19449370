use Rattle.cap_class.proofs.Ipv6Packets.{ipv6-plain}
use Rattle.cap_class.proofs.ipv6.read_ipv6.Goals as goal

pub returns-in-None-clause-plain : goal.returns-in-None-clause-plain
returns-in-None-clause-plain c = λ clock place. ipv6-plain clock place c.args.meta.now c.args.frame.now

pub returns-in-Some-clause-plain : goal.returns-in-Some-clause-plain
returns-in-Some-clause-plain c = λ clock place. ipv6-plain clock place c.args.meta.now c.args.frame.now
