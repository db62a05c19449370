use Rattle.cap_digest.proofs.Times.{lowest-of}
use Rattle.cap_digest.proofs.laws.lowest_terms.Goals as goal

pub returns : goal.returns
returns c = lowest-of
