use Rattle.std.proofs.Common.{◌≡◌, ◌++◌, chars, encode_utf8_all, length, string_bytes}
use Rattle.cap_line.specs.Shown.{unshown_past, unshown_text}
use Rattle.cap_line.proofs.unshown.unescape.Given as goal
use denote.Shadow.{shadow}
use denote.Text.{Utf8}

-- the name so far, and what the rest of the text gives
abbrev pub invariant-loop-c : goal.invariant-loop-c
invariant-loop-c l = shadow (Utf8 l.rest)
    × (string_bytes l.name ++ encode_utf8_all (unshown_past 0 (chars l.rest)) ≡ unshown_text l.fn.text)

-- the rest of the text is shorter at each turn
abbrev pub decreases-loop-c : goal.decreases-loop-c
decreases-loop-c l = length l.rest
