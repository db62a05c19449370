use Rattle.std.proofs.Common.{rules}
use Rattle.cap_source.proofs.peek_slots.PeekSlot.set_packet.Goals as goal

pub returns : goal.returns
returns c = search rules
