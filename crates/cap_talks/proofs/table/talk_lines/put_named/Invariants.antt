use Rattle.std.proofs.Common.{◌≡◌, List, drop}
use Rattle.cap_bytes.proofs.Putting.{Putting}
use Rattle.cap_talks.specs.inner.table.Ranked.{AreRanked}
use Rattle.cap_talks.specs.table.Conversations.{Conversation}
use Rattle.cap_talks.specs.table.TalkLines.{talk_texts_in}
use Rattle.cap_talks.proofs.table.talk_lines.put_named.Given as goal

-- the lines of the conversations so far are written
abbrev pub invariant-loop-each : goal.invariant-loop-each
invariant-loop-each g l = record {
  failed : g.W.Device.has_failed l.writer ≡ g.W.Device.has_failed l.fn.writer;
  putting : (talks : List Conversation) → AreRanked l.talks.rows l.named talks
      → Putting
      (record {
        told = g.W.Sink.tells_held l.fn.writer;
        held = g.W.Sink.held l.fn.writer;
        failed = g.W.Device.has_failed l.fn.writer;
        can_fail = g.W.Device.can_fail l.fn.writer;
      })
      (record {
        told = g.W.Sink.tells_held l.writer;
        held = g.W.Sink.held l.writer;
        failed = g.W.Device.has_failed l.writer;
        can_fail = g.W.Device.can_fail l.writer;
      })
      (talk_texts_in l.form talks) (talk_texts_in l.form (drop l.each-index talks));
}
