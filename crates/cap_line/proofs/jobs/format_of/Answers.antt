use Rattle.std.proofs.Common.{rules}
use Rattle.cap_line.proofs.jobs.format_of.Goals as goal

pub returns-in-Some-pcapng : goal.returns-in-Some-pcapng
returns-in-Some-pcapng c = search rules
