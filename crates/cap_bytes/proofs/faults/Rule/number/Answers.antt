use Rattle.std.proofs.Common.{rules}
use Rattle.cap_bytes.proofs.faults.Rule.number.Goals as goal

pub returns-in-PacketLong : goal.returns-in-PacketLong
returns-in-PacketLong c = search rules
