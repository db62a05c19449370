use Rattle.std.proofs.Common.{◌≡◌, ◌+◌, length, map, drop}
use Rattle.cap_source.specs.Feed.{Feed}
use Rattle.cap_source.specs.declared.listed.Listed.{Listed}
use Rattle.cap_source.specs.inner.Listed.{list_feed}
use Rattle.cap_merge.specs.Parts.{AreNumberedFeeds}
use Rattle.cap_tests.proofs.merge.many_of.Given as goal

abbrev pub feed_of : Listed → Feed
feed_of l = list_feed l.file l.interface l.end l.place (drop l.place l.times.items) l.next

-- the files so far are numbered from 1
abbrev pub invariant-loop-side : goal.invariant-loop-side
invariant-loop-side g l = (l.file ≡ 1 + length l.feeds.items) × (length l.feeds.items ≡ l.side-index)
    × AreNumberedFeeds (map feed_of l.feeds.items)
