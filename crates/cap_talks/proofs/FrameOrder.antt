-- The least and the greatest time of some units' frames, one unit after another.
use Rattle.std.proofs.Common.{◌≡◌, List, [], ◌∷◌, ◌++◌, ◌∙◌, Option, None}
use Rattle.std.specs.Cmp.{IsTotalOrder}
use Rattle.std.proofs.lemmas.Cmp.{then_total, on_total, back_total, nat_cmp_total}
use Rattle.cap_talks.specs.declared.table.units.TimedFrame.{TimedFrame}
use Rattle.cap_time.specs.inner.StampLaws.{stamp_cmp_total}
use Rattle.cap_time.proofs.Chosen.{chosen, chosen-assoc, chosen-alone}
use Rattle.cap_talks.specs.table.Conversations.{by_time, by_time_down, earlier_frame, later_frame, least_frame}
use Rattle.cap_talks.specs.table.Conversations.{greatest_frame}
use Rattle.cap_talks.specs.declared.table.units.CountedUnit.{CountedUnit}

pub by_time_total : IsTotalOrder by_time
by_time_total = then_total (on_total (λ f. f.time) stamp_cmp_total) (on_total (λ f. f.place) nat_cmp_total)

pub by_time_down_total : IsTotalOrder by_time_down
by_time_down_total = then_total (back_total (on_total (λ f. f.time) stamp_cmp_total))
    (on_total (λ f. f.place) nat_cmp_total)

pub earlier_is : (a b : Option TimedFrame) → earlier_frame a b ≡ chosen by_time a b
earlier_is a b = cc

pub later_is : (a b : Option TimedFrame) → later_frame a b ≡ chosen by_time_down a b
later_is a b = cc

earlier-assoc : (a b c : Option TimedFrame) → earlier_frame (earlier_frame a b) c ≡ earlier_frame a (earlier_frame b c)
earlier-assoc a b c = search (earlier_is, chosen, chosen-assoc, by_time_total)

later-assoc : (a b c : Option TimedFrame) → later_frame (later_frame a b) c ≡ later_frame a (later_frame b c)
later-assoc a b c = search (later_is, chosen, chosen-assoc, by_time_down_total)

-- one unit more
pub least-more : (units : List CountedUnit) (unit : CountedUnit)
    → least_frame (units ++ unit ∷ []) ≡ earlier_frame (least_frame units) unit.first
least-more [] unit = earlier_is unit.first None ∙ chosen-alone by_time unit.first
least-more (u ∷ units) unit = search (least-more units unit, earlier-assoc)

pub greatest-more : (units : List CountedUnit) (unit : CountedUnit)
    → greatest_frame (units ++ unit ∷ []) ≡ later_frame (greatest_frame units) unit.last
greatest-more [] unit = later_is unit.last None ∙ chosen-alone by_time_down unit.last
greatest-more (u ∷ units) unit = search (greatest-more units unit, later-assoc)
