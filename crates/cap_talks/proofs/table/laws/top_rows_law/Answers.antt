use Rattle.cap_talks.proofs.GreatestFirst.{top-law}
use Rattle.cap_talks.proofs.table.laws.top_rows_law.Goals as goal

pub returns : goal.returns
returns c = top-law
