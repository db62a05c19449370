use Rattle.std.proofs.Common.{◌∙◌, ap}
use Rattle.cap_talks.proofs.Describing.{described-lone}
use Rattle.cap_talks.specs.table.Descriptions.{described_class}
use Rattle.cap_talks.proofs.table.descriptions.describe.Goals as goal

pub returns-clause-class : goal.returns-clause-class
returns-clause-class c = ap described_class c.describe_frame.ensures ∙ described-lone c.args.meta.now c.args.frame.now
