use Rattle.std.proofs.Common.{◌≡◌, ◌∙◌, ap, rules}
use Rattle.std.proofs.lemmas.List.Sorted.{answers_always}
use Rattle.std.specs.Ordering.{is_lt, nat_cmp}
use Rattle.cap_talks.specs.table.TopRows.{greatest_first}
use Rattle.cap_talks.specs.declared.table.top.Ranked.{Ranked}
use Rattle.cap_talks.proofs.GreatestFirst.{before, before-order, sorted-greatest}
use Rattle.cap_talks.proofs.Ranking.{is-less, ranked-top}
use Rattle.cap_talks.proofs.table.top.top_of.Goals as goal

pub returns-clause-top : goal.returns-clause-top
returns-clause-top c =
    let bytes = λ (it : Ranked). it.bytes in
    let rows = c.args.talks.now.rows in
    let e = c.in_ok-sort_by.ensures in
    let compares = answers_always _ _ _ (λ f a r g h.
    let is : r ≡ nat_cmp a.1.0.now.bytes a.0.now.bytes = search rules in
    ap is_lt is ∙ is-less a.1.0.now.bytes a.0.now.bytes) in
    let same : c.sort_by.new.self.items ≡ greatest_first bytes c.in_ok-ranked.ranked.items =
    sorted-greatest bytes c.in_ok-ranked.ranked.items c.sort_by.new.self.items
    (e.sorted (before bytes) (before-order bytes) compares) (e.stable (before bytes) (before-order bytes) compares) in
    rw (c.truncate.ensures.items, same)
    (ranked-top c.args.most rows rows c.in_ok-ranked.ranked.items c.in_ok-ranked.ensures.ranked)
