use Rattle.std.proofs.Common.{rules}
use Rattle.cap_source.specs.TimeBases.{option_read}
use Rattle.cap_source.proofs.interfaces.with_option.Goals as goal

pub returns : goal.returns
unfolding option_read
returns c = search rules
