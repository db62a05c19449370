-- Why the feeds as one are a lawful feed.
use Rattle.cap_source.specs.Feed.{IsFeed}
use Rattle.cap_merge.specs.declared.merging.Merged.{Merged}
use Rattle.cap_merge.specs.Parts.{merged_feed}
use Rattle.cap_merge.specs.inner.Sound.{sound-parts, lawful-each, numbered-from}
use Rattle.cap_merge.specs.inner.Lawful.{merged-lawful}
use Rattle.cap_merge.specs.inner.View.{parts_of}

-- a merge is a lawful feed if each of its feeds is
pub merged-is-feed : {F : Type 0} {g : _} (m : Merged F g) → ((x : F) → IsFeed (g.feed x))
    → IsFeed (merged_feed (parts_of m))
merged-is-feed {F} {g} m law =
    merged-lawful (parts_of m) (numbered-from g.feed m.lanes.items m.feeds.items m.kept.alike m.kept.numbered)
    (sound-parts g.feed m.lanes.items m.feeds.items m.kept.reached) (lawful-each g.feed law m.lanes.items m.feeds.items)
