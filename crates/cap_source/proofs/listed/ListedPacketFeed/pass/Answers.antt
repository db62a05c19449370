use Rattle.std.proofs.Common.{◌+◌, None, drop, subst, arith, length-drop}
use Rattle.std.proofs.lemmas.List.{drop-drop}
use Rattle.cap_source.proofs.Lists.{list_passes}
use Rattle.cap_source.specs.Feed.{FeedPasses}
use Rattle.cap_source.specs.inner.Listed.{list_feed}
use Rattle.cap_source.proofs.listed.ListedPacketFeed.pass.Goals as goal

pub returns-clause-passes : goal.returns-clause-passes
returns-clause-passes c =
    let l = c.args.self.now in
    subst (λ times. FeedPasses (list_feed l.file l.interface l.end l.place (drop l.place l.times.items) l.next)
    (list_feed l.file l.interface l.end (l.place + 1) times None))
    (drop-drop 1 l.place l.times.items)
    (list_passes l.file l.interface l.end l.place (drop l.place l.times.items) l.next
    (omega (arith, l.most, l.within, length-drop l.place l.times.items)) l.known c.requires.packet)
