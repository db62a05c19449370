use Rattle.std.proofs.Common.{rules}
use Rattle.cap_tool.proofs.progress_devices.ProgressDeviceSource.take.Goals as goal

pub returns-clause-bytes : goal.returns-clause-bytes
returns-clause-bytes g c = search rules
