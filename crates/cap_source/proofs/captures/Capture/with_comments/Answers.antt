use Rattle.cap_source.proofs.Commenting.{first-beginning, items-beginning}
use Rattle.cap_source.proofs.captures.Capture.with_comments.Goals as goal

pub returns-clause-files : goal.returns-clause-files
returns-clause-files g c = rw (c.new.ensures)

pub returns-clause-items : goal.returns-clause-items
returns-clause-items g c =
    rw (c.new-2.ensures, c.new.ensures, c.beginning.ensures)
    (items-beginning c.args.comments c.args.tail c.args.file 0 _)

pub returns-clause-endings : goal.returns-clause-endings
returns-clause-endings g c = λ n. rw (c.new-2.ensures, c.new.ensures, c.beginning.ensures)

pub returns-clause-first : goal.returns-clause-first
returns-clause-first g c =
    rw (c.new-2.ensures, c.new.ensures, c.beginning.ensures)
    (first-beginning c.args.comments c.args.tail c.args.file 0 _)

pub returns-clause-number : goal.returns-clause-number
returns-clause-number g c = rw (c.new.ensures)
