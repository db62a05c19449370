use Rattle.cap_talks.proofs.CutRests.{Placed}
use Rattle.cap_talks.proofs.counts.files.cuts_of.Given as goal

-- the rests of the files so far are at their places
abbrev pub invariant-loop-place : goal.invariant-loop-place
invariant-loop-place l = Placed l.counted l.place l.cuts
