use Rattle.std.proofs.Common.{rules}
use Rattle.cap_source.proofs.captures.CapturePacketFeed.feed_held.Goals as goal

pub returns : goal.returns
returns c = search rules
