use Rattle.std.proofs.Common.{◌∙◌, ap, None, refl, sym, arith}
use Rattle.std.specs.List.{range_with_len}
use Rattle.cap_merge.specs.inner.MergedLaws.{merged-is-feed}
use Rattle.cap_merge.specs.inner.View.{parts_of}
use Rattle.cap_talks.specs.inner.table.Stepping.{next_taken}
use Rattle.cap_talks.proofs.table.tables.Table.reading.Goals as goal

pub invariant_of-result : goal.invariant_of-result
invariant_of-result g c =
    let m = c.args.merged in
    let law = merged-is-feed m g.met.F.PacketFeed.lawful in
    record {
      numbered = c.files.ensures.numbered ∙ ap (range_with_len 1) (sym c.new-totals.ensures.files);
      finished = refl;
      counted = c.new-totals.ensures.stands.packets ∙ sym (c.new.ensures.stands None).place;
      places = omega (arith, (c.new.ensures.stands None).place, law.most, c.files.ensures.files, c.files.ensures.most);
    }

pub returns-clause-stands : goal.returns-clause-stands
returns-clause-stands g c = record {
  totals = c.new-totals.ensures.stands;
  tally =
      c.new.ensures.stands (next_taken (parts_of c.args.merged));
}

pub returns-clause-going : goal.returns-clause-going
returns-clause-going g c = refl
