use Rattle.std.proofs.Common.{rules}
use Rattle.cap_commands.proofs.Telling.{Puts-front}
use Rattle.cap_tool.proofs.outcomes.tell.Goals as goal

pub returns-clause-told : goal.returns-clause-told
returns-clause-told g c = λ t _. Puts-front c.put_told-2.result _ _ _ (c.put_told-2.ensures.text t)

pub returns-clause-help : goal.returns-clause-help
returns-clause-help g c = search rules
