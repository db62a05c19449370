use Rattle.std.proofs.Common.{◌≡◌}
use Rattle.std.specs.Prelude.{is_some}
use Rattle.cap_merge.specs.Parts.{merged_feed}
use Rattle.cap_merge.specs.inner.View.{parts_of}
use Rattle.cap_write.proofs.CountingOut.{CountingOut}
use Rattle.cap_write.proofs.Joining.{Joining}
use Rattle.cap_write.specs.inner.Forms.{form_state}
use Rattle.cap_write.proofs.joined.put_joined.Given as goal

-- the datagrams of the packets that were given are written, and the others are to be; and these packets are counted
abbrev pub invariant-loop-joining : goal.invariant-loop-joining
invariant-loop-joining g l =
    (Joining l.order (parts_of l.fn.merged) (parts_of l.merged) (form_state l.fn.form)
    (form_state l.form) l.joining.joiner l.joining.place
    (g.W.Device.has_failed l.fn.writer) (g.W.Device.has_failed l.writer)
    (record {
      told = g.W.Sink.tells_held l.fn.writer;
      held = g.W.Sink.held l.fn.writer;
      failed = g.W.Device.has_failed l.fn.writer;
      can_fail = g.W.Device.can_fail l.fn.writer;
    })
    (record {
      told = g.W.Sink.tells_held l.writer;
      held = g.W.Sink.held l.writer;
      failed = g.W.Device.has_failed l.writer;
      can_fail = g.W.Device.can_fail l.writer;
    }))
    × (CountingOut (parts_of l.fn.merged) (parts_of l.merged) l.joining.joiner l.joining.place l.joining.left
    × (is_some l.joining.left ≡ is_some l.fn.left))

abbrev pub decreases-loop-joining : goal.decreases-loop-joining
decreases-loop-joining g l = (merged_feed (parts_of l.merged)).left
