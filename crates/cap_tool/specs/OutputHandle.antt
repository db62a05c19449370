-- An output that is shared.
use Rattle.std.specs.Prelude.{Bool}
use Rattle.cap_tool.specs.declared.shared.OutputHandle.{OutputHandle}

-- whether a write of it has failed
abbrev pub handle_failed : OutputHandle → Bool
handle_failed handle = handle.failed
