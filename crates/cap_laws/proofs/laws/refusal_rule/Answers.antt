use Rattle.cap_laws.proofs.Rules.{rule-law}
use Rattle.cap_laws.proofs.laws.refusal_rule.Goals as goal

pub returns : goal.returns
returns c = rule-law
