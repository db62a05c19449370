use Rattle.std.proofs.Common.{◌≡◌, ◌≤◌, Some, length, map, vec_len}
use Rattle.cap_tool.specs.CheckedNames.{AreGiven}
use Rattle.cap_tool.proofs.streams.open_all.Given as goal

-- the inputs of the names so far are opened
abbrev pub invariant-loop-place : goal.invariant-loop-place
invariant-loop-place g l =
    AreGiven (g.O.Opener.gives l.opener) (map (λ n. n.now) l.names) (map Some l.inputs.sources.items)
    × (vec_len l.inputs.sources ≡ l.place)
    × (l.place ≤ length l.names)
