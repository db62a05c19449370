use Rattle.std.proofs.Common.{codes, arith}
use Rattle.cap_line.proofs.FileNames.{named_among}
use Rattle.cap_line.proofs.jobs.can_skip.Goals as goal

pub returns : goal.returns
returns c =
    let named = named_among (codes "-") c.args.files.now in
    grind arith
