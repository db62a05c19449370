use Rattle.cap_commands.proofs.Telling.{Puts-front}
use Rattle.cap_tool.proofs.objects.tell_object.Goals as goal

pub returns-clause-told : goal.returns-clause-told
returns-clause-told g c = λ t _. Puts-front c.put_told_object-2.result _ _ _ (c.put_told_object-2.ensures.text t)
