use Rattle.std.proofs.Common.{length, sym, ap, ◌∙◌, Some}
use Rattle.cap_talks.specs.inner.table.Stepping.{endings_so_far}
use Rattle.cap_talks.specs.inner.table.TableView.{table_of}
use Rattle.cap_talks.proofs.TableCounts.{file-told, has-number, place-within}
use Rattle.cap_talks.proofs.table.tables.Table.file.Goals as goal

pub ending_of-requires-clause-file : goal.ending_of-requires-clause-file
ending_of-requires-clause-file g c =
    let t = c.args.self.now in
    let p = place-within t.totals.files c.args.number c.in_ok-counts.counts
    (rw c.files.ensures.files at (sym c.counts_at.ensures ∙ c.in_ok-counts.was)) in
    rw t.numbered (has-number (length t.totals.files) c.args.number p.0 p.1)

pub returns : goal.returns
returns g c = record {
  value = λ xs stands.
      let t = c.args.self.now in
      ap (λ e. Some (record { counts = c.in_ok-counts.counts; ending = e })) c.ending_of.ensures
      ∙ file-told t.totals xs (endings_so_far (table_of t)) c.args.number c.in_ok-counts.counts stands.totals
      (rw c.files.ensures.files at (sym c.counts_at.ensures ∙ c.in_ok-counts.was));
}
