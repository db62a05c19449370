use Rattle.std.proofs.Common.{ap, arith, rules}
use Rattle.cap_merge.specs.inner.MergedLaws.{merged-is-feed}
use Rattle.cap_source.specs.declared.feeds.FeedHeld.{FeedHeld}
use Rattle.cap_talks.proofs.table.tables.Table.held.Goals as goal

pub returns-clause-window : goal.returns-clause-window
returns-clause-window g c =
    let m = c.args.self.now.merged in
    let law = merged-is-feed m g.met.F.PacketFeed.lawful in
    omega (arith, ap (λ (h : FeedHeld). h.window) c.feed_held-feed.ensures.held, law.window)

pub returns-clause-interfaces : goal.returns-clause-interfaces
returns-clause-interfaces g c =
    let m = c.args.self.now.merged in
    let law = merged-is-feed m g.met.F.PacketFeed.lawful in
    omega (arith, ap (λ (h : FeedHeld). h.interfaces) c.feed_held-feed.ensures.held, law.interfaces)

pub returns-clause-value : goal.returns-clause-value
returns-clause-value g c = search rules
