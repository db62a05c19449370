use Rattle.std.proofs.Common.{rules}
use Rattle.cap_class.proofs.counts.with_group.Goals as goal

pub with_frames-requires : goal.with_frames-requires
with_frames-requires c = search rules
