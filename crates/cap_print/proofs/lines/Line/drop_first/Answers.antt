use Rattle.std.proofs.Common.{sym}
use Rattle.std.proofs.lemmas.List.{drop-drop}
use Rattle.cap_print.proofs.lines.Line.drop_first.Goals as goal

pub returns-then-self-lt-LINE-clause-text : goal.returns-then-self-lt-LINE-clause-text
returns-then-self-lt-LINE-clause-text c = sym (drop-drop 1 c.args.self.now.start c.args.self.now.bytes)
