use Rattle.std.proofs.Common.{◌∙◌, sym, arith}
use Rattle.cap_talks.proofs.Ranking.{bytes-at}
use Rattle.cap_talks.proofs.table.top.bytes_at.Goals as goal

pub overflow_add-result : goal.overflow_add-result
overflow_add-result c =
    let within = bytes-at c.args.talks.now.rows c.args.place _ (sym c.get.ensures ∙ c.in-Some.is) in
    omega (arith, within, c.requires.bytes)
