use Rattle.std.proofs.lemmas.Bool.Decides.{nat_tests}
use Rattle.std.proofs.lemmas.Grind.{common_steps}
use Rattle.std.proofs.Common.{replicate, arith}
use Rattle.cap_pcap.proofs.Writing.{Begins-none, Begins-more, Begins-all}
use Rattle.cap_pcap.proofs.records.record_head.Goals as goal

pub returns : goal.returns
returns c = grind (arith, common_steps, nat_tests, Begins-more, replicate, Begins-none, Begins-all)
