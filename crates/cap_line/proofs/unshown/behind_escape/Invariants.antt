use Rattle.std.proofs.Common.{◌≡◌, ◌≤◌, ◌++◌, ℕ, List, IsUtf8, chars}
use Rattle.std.specs.Char.Escape.{escape_unicode}
use Rattle.std.specs.Char.Iter.{escape_end, escape_rest}
use Rattle.std.specs.Str.Iter.{chars_rest}
use Rattle.cap_line.proofs.unshown.behind_escape.Given as goal

-- the front of the escape stands at the front of the text
abbrev pub invariant-loop-letter : goal.invariant-loop-letter
invariant-loop-letter l = (escape_end l.escape ≤ 10)
    × IsUtf8 (chars_rest l.rest)
    × ((front : List ℕ) × (front ++ escape_rest l.escape ≡ escape_unicode l.fn.c)
    × (chars l.fn.text ≡ front ++ chars (chars_rest l.rest)))
