use Rattle.std.proofs.Common.{◌≡◌, ◌≤◌, ◌++◌, string_bytes, encode_utf8_all}
use Rattle.std.specs.Char.Escape.{escape_unicode}
use Rattle.std.specs.Char.Iter.{escape_end, escape_rest}
use Rattle.cap_line.proofs.shown.put_escape.Given as goal

-- what was added, and what the rest of the escape will add
abbrev pub invariant-loop-letter : goal.invariant-loop-letter
invariant-loop-letter l = (escape_end l.escape ≤ 10)
    × (string_bytes l.text ++ encode_utf8_all (escape_rest l.escape) ≡ string_bytes l.fn.text
    ++ encode_utf8_all (escape_unicode l.fn.c))
