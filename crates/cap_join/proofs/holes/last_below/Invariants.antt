use Rattle.std.proofs.Common.{ℕ, List, ◌-◌, ◌<◌, ◌≤◌, length}
use Rattle.cap_join.specs.Holes.{Span, word_at, IsChain, HasHoles}
use Rattle.cap_join.proofs.Reading.{Reached}
use Rattle.cap_join.proofs.holes.last_below.Given as goal

-- the hole that was reached is one of them and lies below the place
abbrev pub invariant-loop-next : goal.invariant-loop-next
invariant-loop-next l = HasHoles l.bytes (length l.bytes) l.last × (l.last < l.below)
    × (word_at l.bytes l.last ≤ l.below)
    × ((low high : ℕ) (ss : List Span) → IsChain l.bytes low high l.at ss → Reached l.bytes l.below l.last high ss)

abbrev pub decreases-loop-next : goal.decreases-loop-next
decreases-loop-next l = l.below - l.last
