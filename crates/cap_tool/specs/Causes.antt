-- Why a run stopped.
use Rattle.std.specs.Prelude.{ℤ, Option, Some, None}
use Rattle.cap_tool.specs.declared.causes.Cause.{Cause}
use Rattle.cap_tool.specs.declared.causes.Cause.TheVariants as causes

-- the system's error of that number, if it has one
abbrev pub cause_of_error : Option ℤ → Cause
cause_of_error (Some error) = causes.System error
cause_of_error None = causes.Unknown
