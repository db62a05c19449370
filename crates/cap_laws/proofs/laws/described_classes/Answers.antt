use Rattle.cap_laws.proofs.Described.{described-alone, described-together}
use Rattle.cap_laws.proofs.laws.described_classes.Goals as goal

pub returns-clause-alone : goal.returns-clause-alone
returns-clause-alone c = described-alone

pub returns-clause-together : goal.returns-clause-together
returns-clause-together c = described-together
