use Rattle.std.proofs.Common.{refl}
use Rattle.cap_class.specs.Classes.{classes}
use Rattle.cap_write.specs.LeftOut.{left_out_of}
use Rattle.cap_commands.proofs.counting.no_packets_if.Goals as goal

pub returns-then-counts-clause-none : goal.returns-then-counts-clause-none
unfolding left_out_of classes
returns-then-counts-clause-none c = refl
