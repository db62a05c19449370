use Rattle.std.proofs.Common.{◌≡◌, map, take}
use Rattle.std.specs.Prelude.{string_bytes}
use Rattle.cap_tool.proofs.listed.texts_of.Given as goal

-- the texts so far are those of the first names
abbrev pub invariant-loop-name : goal.invariant-loop-name
invariant-loop-name l = map (λ t. t.now) l.texts.items ≡ map string_bytes (take l.name-index l.names)
