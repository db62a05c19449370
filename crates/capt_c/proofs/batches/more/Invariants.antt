use Rattle.std.proofs.Common.{◌≡◌, ◌≤◌, ◌-◌, length, drop, take}
use Rattle.std.specs.Prelude.{IsTrue}
use Rattle.cap_source.specs.Feed.{FeedKeeps}
use Rattle.capt_c.specs.Packets.{Told}
use Rattle.capt_c.proofs.batches.more.Given as goal

-- the packets so far were told
abbrev pub invariant-loop-count : goal.invariant-loop-count
invariant-loop-count g l =
    let old = g.F.PacketFeed.feed l.fn.feed in let now = g.F.PacketFeed.feed l.feed in
    (l.count ≤ length l.packets) × (length l.packets ≡ length l.fn.packets) × FeedKeeps old now
    × (IsTrue old.told → Told old.items (take l.count l.packets) now.items)
    × (drop l.count l.packets ≡ drop l.count l.fn.packets)

abbrev pub decreases-loop-count : goal.decreases-loop-count
decreases-loop-count g l = length l.packets - l.count
