-- The least and the greatest of some times, one time after another.
use Rattle.std.proofs.Common.{◌≡◌, true, false, Option, Some, arith}
use Rattle.std.specs.Ordering.{is_gt}
use Rattle.cap_time.specs.Clock.{earlier, later}
use Rattle.cap_time.specs.Stamp.{stamp_cmp}
use Rattle.cap_time.specs.inner.StampLaws.{stamp_cmp_total}
use Rattle.cap_time.specs.declared.stamps.Stamp.{Stamp}
use Rattle.cap_time.proofs.Chosen.{not_trans}
use Rattle.cap_check.specs.inner.Taking.{are_least_first}

-- a time that isn't below the greatest isn't below the least
pub above-least : (first : Option Stamp) (last time : Stamp) → are_least_first first (Some last) ≡ true
    → is_gt (stamp_cmp last time) ≡ false → first ≡ earlier first (Some time)
above-least first last time order later = grind (arith, not_trans, stamp_cmp_total, stamp_cmp_total.antisymm)

-- one time more leaves the least and the greatest in order
pub least-first-more : (time first last : Option Stamp) → are_least_first first last ≡ true
    → are_least_first (earlier first time) (later last time) ≡ true
least-first-more time first last order = grind (arith, not_trans, stamp_cmp_total, stamp_cmp_total.antisymm)
