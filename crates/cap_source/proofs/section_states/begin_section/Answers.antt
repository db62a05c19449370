use Rattle.std.proofs.Common.{rules}
use Rattle.cap_source.proofs.section_states.begin_section.Goals as goal

pub returns : goal.returns
returns c = search rules
