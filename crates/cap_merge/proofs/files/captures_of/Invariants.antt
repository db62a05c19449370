use Rattle.std.proofs.Common.{◌≡◌, ◌+◌, length, map}
use Rattle.cap_merge.specs.inner.Readers.{AreUnread, reader_of}
use Rattle.cap_source.specs.inner.Captures.{capture_feed}
use Rattle.cap_merge.proofs.files.captures_of.Given as goal

-- the readers so far are captures
abbrev pub invariant-loop-source : goal.invariant-loop-source
invariant-loop-source g l = record {
  number : l.file ≡ 1 + length l.yielded;
  unread :
      AreUnread l.comments l.tail 1
      (map (reader_of g.R.Source.tells_coming g.R.Device.can_fail g.R.Source.coming) l.yielded)
      (map capture_feed l.captures.items);
}
