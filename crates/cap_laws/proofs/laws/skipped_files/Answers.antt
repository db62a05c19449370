use Rattle.cap_laws.proofs.SkippedFiles.{keeps-whole, skips-as-others}
use Rattle.cap_laws.proofs.laws.skipped_files.Goals as goal

pub returns-clause-kept : goal.returns-clause-kept
returns-clause-kept c = keeps-whole

pub returns-clause-printed : goal.returns-clause-printed
returns-clause-printed c = skips-as-others
