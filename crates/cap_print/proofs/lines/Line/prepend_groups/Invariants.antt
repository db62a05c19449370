use Rattle.std.proofs.Common.{◌≡◌, ◌+◌, ◌*◌, ◌-◌, ◌≤◌, ◌++◌, length, drop}
use Rattle.std.specs.Prelude.{codes, flat_map}
use Rattle.std.specs.Net.Text.{hex}
use Rattle.cap_print.specs.Lines.{room_in, text_in}
use Rattle.cap_print.proofs.lines.Line.prepend_groups.Given as goal

abbrev pub invariant-rest : goal.invariant-rest
invariant-rest l =
    (text_in l.self ≡ flat_map (λ t. codes ":" ++ hex t) (drop l.i l.rest) ++ text_in l.fn.self)
    × (room_in l.fn.self ≤ room_in l.self + 5 * (length l.rest - l.i))
