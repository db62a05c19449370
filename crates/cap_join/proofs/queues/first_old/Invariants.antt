use Rattle.cap_join.proofs.Aging.{Looked}
use Rattle.cap_join.proofs.queues.first_old.Given as goal

-- none before what is left is too old
abbrev pub invariant-loop-key : goal.invariant-loop-key
invariant-loop-key l = Looked l.now l.groups.entries l.key-iterator
