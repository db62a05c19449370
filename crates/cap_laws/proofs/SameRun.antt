-- Runs of which the same packets are written have the same report: a packet's clock is told by the greatest time so
-- far.
use Rattle.std.proofs.Common.{arith, ◌≡◌, Bool, List, ◌∷◌, sym, ap, subst, Option, None, Equal}
use Rattle.std.specs.List.{AllZip}
use Rattle.std.specs.Ordering.{is_lt}
use Rattle.std.specs.Prelude.{map, if◌then◌else◌}
use Rattle.cap_merge.proofs.RunLaws.{ClocksAreTold, run-clocks}
use Rattle.cap_time.specs.Clock.{clock_cmp, later}
use Rattle.cap_merge.specs.inner.Clocks.{clock_total}
use Rattle.cap_merge.specs.Files.{run_of_lists}
use Rattle.cap_merge.specs.Parts.{item_time, is_refusal}
use Rattle.cap_merge.specs.Run.{Clocked, opened_track, run}
use Rattle.cap_source.specs.Feed.{Item}
use Rattle.cap_time.specs.declared.stamps.Stamp.{Stamp}
use Rattle.cap_write.specs.Numbering.{Origins, numbered, refusal_in}
use Rattle.cap_laws.proofs.Alike.{AlikeItems, RunsAlike, same-report}
use Rattle.cap_laws.proofs.Twins.{TwinItems, twins}
use Rattle.cap_laws.specs.Reports.{SameReport}

-- two clocks that are told by equal times
pub told_twice : (t u a b : Option Stamp) → clock_cmp t u ≡ Equal → clock_cmp t a ≡ Equal → clock_cmp u b ≡ Equal
    → clock_cmp a b ≡ Equal
told_twice t u a b e f g = grind (arith, clock_total)

later_by : (t u x : Option Stamp) (b c : Bool) → b ≡ c → clock_cmp t u ≡ Equal
    → clock_cmp (if b then x else t) (if c then x else u) ≡ Equal
later_by t u x b c e h = grind (arith, clock_total)

later_equal : (t u x y : Option Stamp) → x ≡ y → clock_cmp t u ≡ Equal → clock_cmp (later t x) (later u y) ≡ Equal
later_equal t u x y same h =
    subst (λ (z : Option Stamp). clock_cmp (later t x) (later u z) ≡ Equal) same
    (later_by t u x (is_lt (clock_cmp t x)) (is_lt (clock_cmp u x)) (ap is_lt (clock_total.congr t u x h)) h)

twin_times : (i j : Item) → TwinItems i j → item_time i ≡ item_time j
twin_times i j h = grind arith

alike-twins : (c d : Option Stamp) (i j : Item) → clock_cmp c d ≡ Equal → TwinItems i j → AlikeItems c d i j
alike-twins c d i j e h = grind arith

runs-alike : (t u : Option Stamp) (as_ bs : List (Clocked Item)) → clock_cmp t u ≡ Equal → ClocksAreTold item_time t as_
    → ClocksAreTold item_time u bs
    → AllZip TwinItems (map (λ x. x.item) as_) (map (λ x. x.item) bs) → RunsAlike as_ bs
runs-alike t u (a ∷ as_) (b ∷ bs) e h k w = search (
  runs-alike (later t (item_time a.item)) (later u (item_time b.item)) as_ bs,
  later_equal,
  twin_times,
  told_twice,
  alike-twins,
)
runs-alike t u as_ bs e h k w = grind arith

-- Of the runs of two lists of files the same packets are written, after those interfaces, and none is refused.
pub record IsRewritten (origins others : Origins) (files again : List (List Item)) : Type 0 where
  pub accepted : refusal_in origins (run_of_lists files) ≡ None
  pub accepted_again : refusal_in others (run_of_lists again) ≡ None
  pub packets : numbered others (run_of_lists again) ≡ numbered origins (run_of_lists files)

back_again : (origins others : Origins) (files again : List (List Item)) → IsRewritten origins others files again
    → IsRewritten others origins again files
back_again origins others files again is = record {
  accepted = is.accepted_again;
  accepted_again =
      is.accepted;
  packets = sym is.packets;
}

-- Such runs are alike,
pub rewritten-alike : (origins others : Origins) (files again : List (List Item))
    → IsRewritten origins others files again
    → RunsAlike (run item_time is_refusal (map opened_track files)) (run item_time is_refusal (map opened_track again))
rewritten-alike origins others files again is =
    grind (
      arith,
      runs-alike,
      run-clocks,
      twins,
      run-clocks item_time is_refusal files,
      run-clocks item_time is_refusal again,
    )

-- and have the same report.
pub same-run : (origins others : Origins) (files again : List (List Item)) → IsRewritten origins others files again
    → SameReport (run item_time is_refusal (map opened_track files)) (run item_time is_refusal (map opened_track again))
same-run origins others files again is = search (same-report, rewritten-alike, back_again)
