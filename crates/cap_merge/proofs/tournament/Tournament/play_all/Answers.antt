use Rattle.std.proofs.Common.{◌≡◌, ℕ, suc, ◌+◌, take, refl, arith, subst}
use Rattle.cap_merge.specs.inner.First.{first_from, lane_turns}
use Rattle.cap_merge.specs.inner.Tournament.{IsTournamentBut}
use Rattle.cap_merge.proofs.Rounding.{one-more, but-same, all-but}
use Rattle.cap_merge.proofs.tournament.Tournament.play_all.Goals as goal

pub loop-place-init : goal.loop-place-init
unfolding first_from
loop-place-init c = (c.new.ensures, refl)

pub play-first-requires-clause-others : goal.play-first-requires-clause-others
play-first-requires-clause-others c =
    let place = c.loop-place.place in
    let ls = c.args.lanes.now in
    let before = lane_turns (take place ls) in
    let next : suc place ≡ place + 1 = omega arith in
    subst (λ (n : ℕ). IsTournamentBut (lane_turns (take n ls)) c.loop-place.self place) next
    (but-same before (lane_turns (take (suc place) ls)) c.loop-place.self place (one-more ls place)
    (all-but before c.loop-place.self place c.loop-place.invariant.0))
