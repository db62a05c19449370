use Rattle.std.proofs.Common.{◌∙◌}
use Rattle.cap_merge.specs.inner.View.{parts_of}
use Rattle.cap_talks.specs.inner.table.Stepping.{next_taken}
use Rattle.cap_talks.proofs.TableCounts.{totals-are}
use Rattle.cap_talks.proofs.table.tables.Table.totals.Goals as goal

pub returns : goal.returns
returns g c = record {
  value = λ xs stands.
      let t = c.args.self.now in
      (λ i. record {
        packets = c.packets.ensures i;
        bytes = c.bytes.ensures i;
        truncated = c.truncated.ensures i;
        classes = c.classes.ensures i;
        joined = c.joined.ensures i;
        given_up = c.given_up.ensures i;
      })
      ∙ totals-are t.totals t.tally xs (next_taken (parts_of t.merged)) stands.totals stands.tally;
}
