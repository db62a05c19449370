use Rattle.cap_laws.proofs.again.Grouped as grouped
use Rattle.cap_laws.proofs.again.rounds_law.Goals as goal

pub returns : goal.returns
returns c = record { packets = grouped.rounds-law; files = grouped.file_rounds-law }
