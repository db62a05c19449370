use Rattle.std.proofs.Common.{arith}
use Rattle.std.proofs.lemmas.Grind.{common_steps}
use Rattle.cap_pcap.proofs.records.record_of.Goals as goal

pub returns-in-Big : goal.returns-in-Big
returns-in-Big c = grind (arith, common_steps)
