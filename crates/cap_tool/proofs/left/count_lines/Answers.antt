use Rattle.std.proofs.Common.{append-nil, refl}
use Rattle.cap_tool.proofs.left.count_lines.Goals as goal

pub returns : goal.returns
returns c = rw (c.prepend_dropped.ensures, c.prepend_count.ensures.text, c.new-line.ensures.text, append-nil) refl
