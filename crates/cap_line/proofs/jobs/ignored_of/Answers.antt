use Rattle.std.proofs.Common.{codes}
use Rattle.cap_line.proofs.FileNames.{named_among}
use Rattle.cap_line.proofs.jobs.ignored_of.Goals as goal

pub returns : goal.returns
returns c =
    rw (
      c.is_named.ensures,
      c.is_named-2.ensures,
      c.is_named-3.ensures,
      named_among (codes "time") c.args.words.now,
      named_among (codes "link") c.args.words.now,
      named_among (codes "original") c.args.words.now,
    )
