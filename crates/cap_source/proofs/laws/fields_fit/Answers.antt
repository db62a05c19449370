use Rattle.cap_source.proofs.Fields.{fields_fit-law}
use Rattle.cap_source.proofs.Frames.{frames_fit-law}
use Rattle.cap_source.proofs.laws.fields_fit.Goals as goal

pub returns-clause-law : goal.returns-clause-law
returns-clause-law c = fields_fit-law

pub returns-clause-frames : goal.returns-clause-frames
returns-clause-frames c = frames_fit-law
