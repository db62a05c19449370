use Rattle.cap_laws.proofs.again.PcapAgain.{pcap_again-law}
use Rattle.cap_laws.proofs.again.pcap_again.Goals as goal

pub returns : goal.returns
returns c = pcap_again-law
