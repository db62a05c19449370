use Rattle.std.proofs.Common.{◌≡◌, ◌++◌, length, map}
use Rattle.std.specs.Prelude.{string_bytes}
use Rattle.cap_tool.specs.ListedNames.{listed_names}
use Rattle.cap_tool.proofs.listed.names_in.Given as goal

-- the names so far and those of the rest are those of the list
abbrev pub invariant-loop-rest : goal.invariant-loop-rest
invariant-loop-rest l = map string_bytes l.names.items ++ listed_names l.rest ≡ listed_names l.list

abbrev pub decreases-loop-rest : goal.decreases-loop-rest
decreases-loop-rest l = length l.rest
