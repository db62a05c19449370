use Rattle.std.proofs.lemmas.List.{length-map}
use Rattle.std.proofs.Common.{map, arith}
use Rattle.cap_source.specs.inner.Captures.{capture_feed}
use Rattle.cap_merge.proofs.Unread.{AreUnread-length, AreUnread-numbered, IsCountedRun-feeds}
use Rattle.cap_merge.specs.inner.Readers.{reader_of}
use Rattle.cap_merge.proofs.files.merge_files_with_comments.Goals as goal

pub new-requires-clause-some : goal.new-requires-clause-some
new-requires-clause-some g c =
    let reader = reader_of g.R.Source.tells_coming g.R.Device.can_fail g.R.Source.coming in
    let v = c.in_ok-captures.captures in
    let sources = c.args.sources in
    let same = AreUnread-length c.args.comments c.args.tail 1 (map reader sources.items)
    (map capture_feed v.items) c.in_ok-captures.ensures.unread in
    omega (
      arith,
      same,
      length-map v.items capture_feed,
      length-map sources.items reader,
      v.ok.0,
      sources.ok.0,
      c.requires.some,
    )

pub new-requires-clause-most : goal.new-requires-clause-most
new-requires-clause-most g c =
    let reader = reader_of g.R.Source.tells_coming g.R.Device.can_fail g.R.Source.coming in
    let v = c.in_ok-captures.captures in
    let sources = c.args.sources in
    let same = AreUnread-length c.args.comments c.args.tail 1 (map reader sources.items)
    (map capture_feed v.items) c.in_ok-captures.ensures.unread in
    omega (
      arith,
      same,
      length-map v.items capture_feed,
      length-map sources.items reader,
      v.ok.0,
      sources.ok.0,
      c.requires.most,
    )

pub new-requires-clause-numbered : goal.new-requires-clause-numbered
new-requires-clause-numbered g c =
    let reader = reader_of g.R.Source.tells_coming g.R.Device.can_fail g.R.Source.coming in
    AreUnread-numbered c.args.comments c.args.tail (map reader c.args.sources.items)
    (map capture_feed c.in_ok-captures.captures.items) c.in_ok-captures.ensures.unread

pub returns-clause-unread : goal.returns-clause-unread
returns-clause-unread g c =
    let reader = reader_of g.R.Source.tells_coming g.R.Device.can_fail g.R.Source.coming in
    let sources = c.args.sources in
    IsCountedRun-feeds c.args.comments c.args.tail (map reader sources.items)
    (map capture_feed c.in_ok-captures.captures.items) _
    (omega (arith, length-map sources.items reader, sources.ok.0, c.requires.some)) c.in_ok-captures.ensures.unread
    c.new.ensures.parts c.new.ensures.run
