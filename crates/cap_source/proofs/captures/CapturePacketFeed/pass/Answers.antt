use Rattle.std.proofs.Common.{rules}
use Rattle.cap_source.proofs.captures.CapturePacketFeed.pass.Goals as goal

pub returns-clause-passes : goal.returns-clause-passes
returns-clause-passes g c = search rules
