use Rattle.cap_laws.proofs.LikeReports.{body-parts}
use Rattle.cap_laws.proofs.PcapWritten.{pcap-report}
use Rattle.cap_laws.proofs.laws.pcap_report.Goals as goal

pub returns : goal.returns
returns c = record { report = pcap-report c.pcap_again.ensures; lines = body-parts }
