use Rattle.cap_merge.proofs.Asking.{matches-at, agrees-at, next-at, turns-at}
use Rattle.cap_merge.proofs.Others.{but_within}
use Rattle.cap_merge.proofs.Peeking.{shows-at}
use Rattle.cap_merge.proofs.lanes.show_at.Goals as goal

pub show-requires : goal.show-requires
show-requires g c =
    let f = g.F.PacketFeed.feed in
    matches-at f c.args.lanes.now.items c.deref_mut.result.now c.args.feeds.now.items c.args.place _ _
    c.deref_mut.ensures.value c.index_mut.ensures.value (but_within f _ _ _ c.requires.alike c.requires.others)
    c.requires.alike c.requires.agrees

pub returns-clause-shows : goal.returns-clause-shows
returns-clause-shows g c = search (shows-at, but_within)

pub returns-clause-agrees : goal.returns-clause-agrees
returns-clause-agrees g c = search (agrees-at)

pub returns-clause-packet : goal.returns-clause-packet
returns-clause-packet g c = λ t.
    next-at c.args.lanes.now.items c.deref_mut.result.now c.args.place c.show.new.self c.deref_mut.ensures.value
    (but_within g.F.PacketFeed.feed _ _ _ c.requires.alike c.requires.others) (c.show.ensures.packet t)

pub returns-clause-turns : goal.returns-clause-turns
returns-clause-turns g c = search (turns-at)
