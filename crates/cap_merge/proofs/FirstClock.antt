-- What is known of the clock of the item that comes first.
use Rattle.std.proofs.Common.{◌≡◌, ℕ, ◌≤◌, true, List, length, map, Option, Some, subst}
use Rattle.std.specs.Prelude.{IsTrue, IfSome, ◌<ℤ◌, pos, ◌^◌}
use Rattle.cap_time.specs.declared.stamps.Stamp.{Stamp}
use Rattle.cap_time.specs.Stamp.{seconds_of}
use Rattle.cap_source.specs.Feed.{Feed, IsFeed}
use Rattle.cap_merge.specs.inner.Clocks.{AtMost}
use Rattle.cap_merge.specs.inner.First.{has_next, lane_at, first_place}
use Rattle.cap_merge.specs.Parts.{Part, parts, turns, merged_feed, clock_of, run_of, ClocksFrom, BeginsAt, HasReached}
use Rattle.cap_merge.specs.Parts.{AreBounded}
use Rattle.cap_merge.specs.declared.lanes.Lane.{Lane}
use Rattle.cap_merge.proofs.Bounds.{first-bounded}
use Rattle.cap_merge.proofs.Firsts.{clock-of-first, clocks-of, begins-of, not-below-first}

pub record IsFirstClock (ps : List Part) (clock : Option Stamp) : Type 0 where
  pub value : clock ≡ clock_of ps
  pub bounded : IfSome clock (λ c. seconds_of c <ℤ pos (2 ^ 65))
  pub from : ClocksFrom clock ps
  pub not_below : (k : Option Stamp) → ClocksFrom k ps → AtMost k clock
  pub run : IsTrue (merged_feed ps).told → BeginsAt clock (run_of ps)

-- It is the clock of the lane at the place of that item.
pub first-clock : {F : Type 0} (f : F → Feed) → ((x : F) → IsFeed (f x)) → (ls : List Lane) (fs : List F) (place : ℕ)
    → 1 ≤ length fs → length ls ≡ length fs
    → first_place (turns (parts ls (map f fs))) ≡ Some place → has_next (merged_feed (parts ls (map f fs))).known ≡ true
    → AreBounded (parts ls (map f fs)) → HasReached (parts ls (map f fs))
    → (clock : Option Stamp) → (lane_at ls place).clock ≡ clock → IsFirstClock (parts ls (map f fs)) clock
first-clock f law ls fs place some alike at next bounded reached clock is =
    subst (IsFirstClock (parts ls (map f fs))) is (record {
      value = clock-of-first f ls fs place some alike at;
      bounded = first-bounded f ls fs place alike at bounded;
      from = clocks-of f ls fs place some alike at next;
      not_below = not-below-first f ls fs place some alike at;
      run = begins-of f law ls fs place some alike at next reached;
    })
