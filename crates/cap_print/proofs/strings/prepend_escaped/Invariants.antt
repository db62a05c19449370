use Rattle.std.proofs.Common.{◌≡◌, ◌≤◌, ◌+◌, ◌*◌, ◌++◌, drop, length}
use Rattle.std.specs.List.{flat_map}
use Rattle.cap_print.specs.Lines.{room_in, text_in}
use Rattle.cap_print.specs.Strings.{escaped_byte}
use Rattle.cap_print.proofs.strings.prepend_escaped.Given as goal

-- the bytes from `left` on were put, each as at most six, and there is room for those before
abbrev pub invariant-loop-left : goal.invariant-loop-left
invariant-loop-left l = (l.left ≤ length l.text) × (6 * l.left ≤ room_in l.line)
    × (text_in l.line ≡ flat_map escaped_byte (drop l.left l.text) ++ text_in l.fn.line)
    × (room_in l.fn.line + 6 * l.left ≤ room_in l.line + 6 * length l.text)

abbrev pub decreases-loop-left : goal.decreases-loop-left
decreases-loop-left l = l.left
