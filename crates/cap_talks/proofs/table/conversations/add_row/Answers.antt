use Rattle.std.proofs.Common.{ap, rules, ◌∙◌}
use Rattle.indexmap.specs.IndexMap.{insert_entry}
use Rattle.cap_talks.specs.inner.table.Packed.{same_packed}
use Rattle.cap_talks.specs.table.Rows.{with_delta}
use Rattle.cap_talks.proofs.table.conversations.add_row.Goals as goal

pub returns-in-Ok-clause-entries : goal.returns-in-Ok-clause-entries
returns-in-Ok-clause-entries c =
    c.in-Ok.ensures.entries
    ∙ ap (insert_entry same_packed c.args.rows.now.entries c.args.key) (c.take.ensures
    ∙ ap (λ w. with_delta w c.args.delta) c.new-row.ensures)

pub returns-in-Ok-clause-limit : goal.returns-in-Ok-clause-limit
returns-in-Ok-clause-limit c = search rules
