use Rattle.std.proofs.Common.{rules}
use Rattle.cap_source.proofs.section_states.add_interface.Goals as goal

pub returns : goal.returns
returns c = search rules
