-- What opens files by their names.
use Rattle.std.specs.Prelude.{Option, Some, None, Result, Ok, Err}
use Rattle.cap_tool.specs.declared.causes.Cause.{Cause}

-- what a file is read from, if it was opened
abbrev pub reader_of : {R K : Type 0} → Result (R × K) Cause → Option R
reader_of (Ok opened) = Some opened.0
reader_of (Err cause) = None
