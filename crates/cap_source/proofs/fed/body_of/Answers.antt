use Rattle.std.proofs.Common.{◌∙◌, ap, drop}
use Rattle.cap_source.proofs.FedBodies.{body-is}
use Rattle.cap_source.proofs.fed.body_of.Goals as goal

pub returns : goal.returns
returns c =
    c.split_at-2.ensures.back
    ∙ (ap (drop 8) c.split_at.ensures.front ∙ body-is c.args.block.total c.args.bytes.now c.requires.least)
