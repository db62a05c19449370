use Rattle.cap_source.proofs.Resolutions.{from_code_is}
use Rattle.cap_source.proofs.interfaces.resolution_of.Goals as goal

pub returns : goal.returns
returns c = from_code_is c.args.code c.from_code.result c.from_code.ensures.allowed c.from_code.ensures.code
