use native.Mathlib.Omega.{arith}
use Rattle.cap_write.proofs.pcap.time_of.Goals as goal

pub returns-in-Ok : goal.returns-in-Ok
returns-in-Ok c = grind arith

pub returns-in-Err : goal.returns-in-Err
returns-in-Err c = grind arith
