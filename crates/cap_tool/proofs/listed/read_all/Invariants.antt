use Rattle.std.proofs.Common.{◌≡◌, ◌<◌, ◌++◌, length, IsTrue}
use Rattle.cap_tool.proofs.listed.read_all.Given as goal

-- what was read so far and what is to come is what was to come
abbrev pub invariant-loop : goal.invariant-loop
invariant-loop g l =
    (0 < length l.piece)
    × (IsTrue (g.R.Device.can_fail l.source) → IsTrue (g.R.Device.can_fail l.fn.source))
    × (IsTrue (g.R.Source.tells_coming l.fn.source)
    → IsTrue (g.R.Source.tells_coming l.source)
    × (l.list.items ++ g.R.Source.coming l.source ≡ l.fn.list.items ++ g.R.Source.coming l.fn.source))
