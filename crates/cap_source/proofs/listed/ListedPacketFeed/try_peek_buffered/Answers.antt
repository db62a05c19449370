use Rattle.std.proofs.Common.{arith}
use Rattle.cap_source.proofs.listed.ListedPacketFeed.try_peek_buffered.Goals as goal
use Rattle.cap_source.proofs.listed.ListedPacketFeed.try_peek_buffered.Goals.{in-Some, in-None}

pub returns-in-Packet-clause-answer : goal.returns-in-Packet-clause-answer
returns-in-Packet-clause-answer c = (
  c.in-Packet.field-0,
  elim c.match-self.branch [
    | in-Some w ↦ grind (arith, w.in-Some.is, w.head-is, c.in-Packet.is)
    | in-None w ↦ grind
        (arith, w.in-None.is, w.head-is, c.in-Packet.is)
  ],
)
