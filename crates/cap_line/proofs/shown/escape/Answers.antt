use Rattle.std.proofs.Common.{false}
use Rattle.std.proofs.lemmas.Result.{IfOk-weaker}
use Rattle.cap_line.proofs.Escapes.{shown_same, shown_seen}
use Rattle.cap_line.proofs.shown.escape.Goals as goal

pub returns-clause-seen : goal.returns-clause-seen
returns-clause-seen c = IfOk-weaker c.escape_by.result _ _
    (λ s is. rw is (shown_seen false c.args.text.now c.utf8.text)) c.escape_by.ensures

pub returns-clause-same : goal.returns-clause-same
returns-clause-same c = IfOk-weaker c.escape_by.result _ _
    (λ s is are. rw is (shown_same false c.args.text.now c.utf8.text are)) c.escape_by.ensures
