use Rattle.cap_source.proofs.listed.ListedPacketFeed.peek.Goals as goal

pub returns-in-Packet-clause-answer : goal.returns-in-Packet-clause-answer
returns-in-Packet-clause-answer c = (c.in-Packet.field-0, rw c.in-Packet.is at c.in_ok-head.ensures.answer)
