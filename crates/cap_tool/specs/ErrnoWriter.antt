-- A writer of which it is known what the system said of it.
use Rattle.std.specs.Prelude.{ℤ, Option}
use Rattle.cap_tool.specs.declared.errno_writers.ErrnoWriter.{ErrnoWriter}

-- what it writes to
abbrev pub errno_inner : {W : Type 0} → ErrnoWriter W → W
errno_inner writer = writer.inner

-- the number of its last error
abbrev pub error_of : {W : Type 0} → ErrnoWriter W → Option ℤ
error_of writer = writer.error
