use Rattle.std.proofs.Common.{◌≡◌, ◌++◌, IsUtf8, chars, flat_map}
use Rattle.std.specs.Str.Iter.{chars_rest}
use Rattle.cap_tool.specs.Objects.{escaped_character}
use Rattle.cap_tool.proofs.named.add_escaped.Given as goal

-- what was added, and what the rest of the name will add
abbrev pub invariant-loop-c : goal.invariant-loop-c
invariant-loop-c l = IsUtf8 (chars_rest l.rest)
    × (l.field.items ++ flat_map escaped_character (chars (chars_rest l.rest))
    ≡ l.fn.field.items ++ flat_map escaped_character (chars l.fn.name))
