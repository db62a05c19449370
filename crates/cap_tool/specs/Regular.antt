-- What a file is.
use Rattle.std.specs.Prelude.{Option, Some, None}
use Rattle.cap_tool.specs.declared.regular.FileType.{FileType}
use Rattle.cap_tool.specs.declared.regular.FileType.TheVariants as types
use Rattle.cap_tool.specs.declared.regular.Regular.{Regular}

-- a regular file, with what is known of it, or something else
abbrev pub type_by : Option Regular → FileType
type_by (Some regular) = types.Regular regular
type_by None = types.Other

-- what is known of a regular file
abbrev pub regular_in : FileType → Option Regular
regular_in (types.Regular regular) = Some regular
regular_in types.Folder = None
regular_in types.Other = None
