use Rattle.cap_merge.proofs.Asking.{matches-at, agrees-at, turns-at}
use Rattle.cap_merge.proofs.Others.{asks-at, but_within}
use Rattle.cap_merge.proofs.lanes.ask_all.Goals as goal

pub ask-requires : goal.ask-requires
ask-requires g c =
    let f = g.F.PacketFeed.feed in
    let others = rw c.in-Some.is at c.requires.others in
    matches-at f c.args.lanes.now.items c.deref_mut.result.now c.args.feeds.now.items c.in-Some.place _ _
    c.deref_mut.ensures.value c.index_mut.ensures.value (but_within f _ _ _ c.requires.alike others)
    c.requires.alike c.requires.agrees

pub returns-in-Some-clause-asks : goal.returns-in-Some-clause-asks
returns-in-Some-clause-asks g c =
    let others = rw c.in-Some.is at c.requires.others in
    search (asks-at, others)

pub returns-in-Some-clause-agrees : goal.returns-in-Some-clause-agrees
returns-in-Some-clause-agrees g c = search (agrees-at)

pub returns-in-Some-clause-turns : goal.returns-in-Some-clause-turns
returns-in-Some-clause-turns g c =
    rw c.in-Some.is (turns-at c.args.lanes.now.items c.deref_mut.result.now c.in-Some.place c.ask.new.self
    c.deref_mut.ensures.value)
