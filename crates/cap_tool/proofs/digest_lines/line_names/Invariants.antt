use Rattle.std.proofs.Common.{◌≡◌, map, take}
use Rattle.std.specs.Prelude.{string_bytes}
use Rattle.cap_tool.proofs.digest_lines.line_names.Given as goal

-- the texts so far are the names of the first lines
abbrev pub invariant-loop-line : goal.invariant-loop-line
invariant-loop-line l = map (λ t. t.now) l.texts.items ≡ map (λ x. string_bytes x.name) (take l.line-index l.lines)
