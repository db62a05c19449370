use Rattle.std.proofs.Common.{◌∙◌}
use Rattle.cap_line.proofs.ShownNames.{text-back, text-done}
use Rattle.cap_line.proofs.unshown.unescape.Goals as goal

pub returns-clause-text : goal.returns-clause-text
returns-clause-text c = text-done _ _ _ c.in_default.ensures c.loop-c.invariant.1

pub returns-clause-back : goal.returns-clause-back
returns-clause-back c = λ name utf8 plain is.
    text-done _ _ _ c.in_default.ensures c.loop-c.invariant.1 ∙ text-back name c.args.text.now utf8 plain is
