use Rattle.cap_source.proofs.Written.{interface_written-law}
use Rattle.cap_source.proofs.laws.interface_written.Goals as goal

pub returns : goal.returns
returns c = interface_written-law
