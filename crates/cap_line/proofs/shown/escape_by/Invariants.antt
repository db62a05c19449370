use Rattle.std.proofs.Common.{◌≡◌, ◌++◌, IsUtf8, string_bytes}
use Rattle.std.specs.Str.Iter.{chars_rest}
use Rattle.cap_line.specs.Shown.{shown_text}
use Rattle.cap_line.proofs.shown.escape_by.Given as goal

-- what is shown, and what the rest of the text will add
abbrev pub invariant-loop-c : goal.invariant-loop-c
invariant-loop-c l = IsUtf8 (chars_rest l.rest)
    × (string_bytes l.shown ++ shown_text l.fn.keeps_lines (chars_rest l.rest) ≡ shown_text l.fn.keeps_lines l.fn.text)
