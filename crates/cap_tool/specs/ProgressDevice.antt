-- A device whose bytes are counted.
use Rattle.std.specs.Prelude.{}
use Rattle.cap_tool.specs.declared.progress_devices.ProgressDevice.{ProgressDevice}

-- what it reads from or writes to
abbrev pub progress_inner : {T C : Type 0} → ProgressDevice T C → T
progress_inner device = device.inner
