use Rattle.std.proofs.Common.{◌≡◌, take}
use Rattle.cap_merge.specs.inner.First.{lane_turns, first_place}
use Rattle.cap_merge.specs.inner.Tournament.{IsTournament}
use Rattle.cap_merge.proofs.tournament.Tournament.play_all.Given as goal

abbrev pub invariant-loop-place : goal.invariant-loop-place
invariant-loop-place l = IsTournament (lane_turns (take l.place l.lanes)) l.self
    × (l.first ≡ first_place (lane_turns (take l.place l.lanes)))
