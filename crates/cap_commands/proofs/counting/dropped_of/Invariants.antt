use Rattle.std.proofs.Common.{◌≡◌, ◌≤◌, ◌*◌, ◌-◌, ◌^◌, drop, length, take, None}
use Rattle.std.specs.Prelude.{replicate}
use Rattle.cap_commands.specs.Left.{dropped_comments, named_in, name_blocks_in, secret_blocks_in, skipped_in}
use Rattle.cap_talks.specs.talks.CutRests.{rests_in}
use Rattle.cap_commands.proofs.counting.dropped_of.Given as goal

-- the blocks, also by kind, the names and the rests of the files so far
abbrev pub invariant-loop-place : goal.invariant-loop-place
invariant-loop-place g l = record {
  skipped : l.skipped ≡ skipped_in (g.F.PacketFeed.feed l.feed).endings l.place;
  named : l.named ≡ named_in (g.F.PacketFeed.feed l.feed).endings l.place;
  secrets : l.secret_blocks ≡ secret_blocks_in (g.F.PacketFeed.feed l.feed).endings l.place;
  names : l.name_blocks ≡ name_blocks_in (g.F.PacketFeed.feed l.feed).endings l.place;
  comments : l.comments ≡ dropped_comments (g.F.PacketFeed.feed l.feed).endings l.place;
  few_skipped : l.skipped ≤ l.place * 2 ^ 64;
  few_named : l.named ≤ l.place * 2 ^ 64;
  few_secrets : l.secret_blocks ≤ l.place * 2 ^ 64;
  few_names : l.name_blocks ≤ l.place * 2 ^ 64;
  few_comments : l.comments ≤ l.place * 2 ^ 64;
  places : length l.cuts ≡ 32;
  cuts : take l.place l.cuts ≡ rests_in (g.F.PacketFeed.feed l.feed).endings l.place;
  others : drop l.place l.cuts ≡ replicate (32 - l.place) None;
}
