use Rattle.cap_merge.proofs.Finding.{place-within}
use Rattle.cap_merge.proofs.tournament.Tournament.first.Goals as goal

pub returns-in-Some-clause-within : goal.returns-in-Some-clause-within
returns-in-Some-clause-within c = place-within c.args.lanes.now c.play.result c.play.ensures.place

pub returns-in-None-clause-within : goal.returns-in-None-clause-within
returns-in-None-clause-within c = place-within c.args.lanes.now c.play_all.result c.play_all.ensures.place
