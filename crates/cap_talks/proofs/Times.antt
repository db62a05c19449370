-- The least and the greatest of some times, one time after another.
use Rattle.std.proofs.Common.{◌≡◌, true, List, [], ◌∷◌, ◌++◌, ◌∙◌, Ordering, Less, Option, Some, None, arith, refl, sym}
use Rattle.std.specs.Cmp.{IsTotalOrder}
use Rattle.std.proofs.lemmas.Cmp.{back_total}
use Rattle.cap_time.specs.Clock.{earlier, later}
use Rattle.cap_source.specs.declared.packets.Meta.{Meta}
use Rattle.cap_time.specs.Stamp.{stamp_cmp}
use Rattle.cap_time.specs.inner.StampLaws.{stamp_cmp_total}
use Rattle.cap_time.specs.declared.stamps.Stamp.{Stamp}
use Rattle.cap_source.specs.Times.{meta_time}
use Rattle.cap_talks.specs.counts.Counting.{are_in_order, least_time, greatest_time}
use Rattle.cap_time.proofs.Chosen.{chosen, chosen-assoc, chosen-alone, not_trans}

-- the order of times from the greatest down
abbrev down : Stamp → Stamp → Ordering
down a b = stamp_cmp b a

down_total : IsTotalOrder down
down_total = back_total stamp_cmp_total

earlier_is : (a b : Option Stamp) → earlier a b ≡ chosen stamp_cmp a b
earlier_is a b = cc

later_is : (a b : Option Stamp) → later a b ≡ chosen down a b
later_is a b = grind arith

earlier-assoc : (a b c : Option Stamp) → earlier (earlier a b) c ≡ earlier a (earlier b c)
earlier-assoc a b c = search (earlier_is, chosen, chosen-assoc, stamp_cmp_total)

later-assoc : (a b c : Option Stamp) → later (later a b) c ≡ later a (later b c)
later-assoc a b c = search (later_is, chosen, chosen-assoc, down_total)

-- one time more
pub least-more : (metas : List Meta) (meta : Meta)
    → least_time (metas ++ meta ∷ []) ≡ earlier (least_time metas) (meta_time meta)
least-more [] meta = earlier_is (meta_time meta) None ∙ chosen-alone stamp_cmp (meta_time meta)
least-more (m ∷ metas) meta = search (least-more metas meta, earlier-assoc)

pub greatest-more : (metas : List Meta) (meta : Meta)
    → greatest_time (metas ++ meta ∷ []) ≡ later (greatest_time metas) (meta_time meta)
greatest-more [] meta = later_is (meta_time meta) None
    ∙ (chosen-alone down (meta_time meta) ∙ sym (later_is None (meta_time meta)))
greatest-more (m ∷ metas) meta = search (greatest-more metas meta, later-assoc)

-- a time after the greatest isn't before the least
pub past-last : (first : Option Stamp) (last time : Stamp) → are_in_order first (Some last) ≡ true
    → stamp_cmp last time ≡ Less → first ≡ earlier first (Some time)
past-last first last time order later = grind (arith, not_trans, stamp_cmp_total, stamp_cmp_total.antisymm)

-- one time more, before the others, leaves the least and the greatest in order
in_order-more : (time first last : Option Stamp) → are_in_order first last ≡ true
    → are_in_order (earlier time first) (later time last) ≡ true
in_order-more time first last order = grind (arith, not_trans, stamp_cmp_total, stamp_cmp_total.antisymm)

pub times-in_order : (metas : List Meta) → are_in_order (least_time metas) (greatest_time metas) ≡ true
times-in_order [] = refl
times-in_order (m ∷ metas) = in_order-more (meta_time m) (least_time metas) (greatest_time metas) (times-in_order metas)
