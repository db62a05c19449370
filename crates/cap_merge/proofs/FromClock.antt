-- What isn't above the clocks of all items to come, part by part.
use Rattle.std.proofs.Common.{arith, ◌≡◌, Bool, true, false, List, [], ◌∷◌, Option, Some}
use Rattle.std.specs.Prelude.{◌||◌, ◌⊎◌, not}
use Rattle.std.specs.List.{AllByRecursion}
use Rattle.std.specs.Ordering.{is_gt}
use Rattle.cap_time.specs.declared.stamps.Stamp.{Stamp}
use Rattle.cap_source.specs.declared.feeds.Head.{Head}
use Rattle.cap_source.specs.declared.feeds.Head.TheVariants as heads
use Rattle.cap_merge.specs.inner.Lists.{all-each, each-all}
use Rattle.cap_time.specs.Clock.{clock_cmp}
use Rattle.cap_merge.specs.inner.Clocks.{AtMost}
use Rattle.cap_merge.specs.Parts.{Part, is_end_head, ClocksFrom}

-- Nothing comes any more of the part, or its clock isn't below that.
abbrev pub From : Option Stamp → Part → Type 0
From clock p = (p.lane.head ≡ Some heads.End) ⊎ AtMost clock p.lane.clock

abbrev pub EachFrom : Option Stamp → List Part → Type 0
EachFrom clock ps = AllByRecursion (From clock) ps

test_of : (h : Option Head) (above : Bool) → (h ≡ Some heads.End) ⊎ (above ≡ false)
    → (is_end_head h || not above) ≡ true
test_of h above h' = grind arith

of_test : (h : Option Head) (above : Bool) → (is_end_head h || not above) ≡ true → (h ≡ Some heads.End)
    ⊎ (above ≡ false)
of_test h above e = grind arith

tests_of : (clock : Option Stamp) (ps : List Part) → EachFrom clock ps
    → AllByRecursion (λ p. (is_end_head p.lane.head || not (is_gt (clock_cmp clock p.lane.clock))) ≡ true) ps
tests_of clock [] f = tt
tests_of clock (p ∷ ps) f = (test_of p.lane.head (is_gt (clock_cmp clock p.lane.clock)) f.0, tests_of clock ps f.1)

of_tests : (clock : Option Stamp) (ps : List Part)
    → AllByRecursion (λ p. (is_end_head p.lane.head || not (is_gt (clock_cmp clock p.lane.clock))) ≡ true) ps
    → EachFrom clock ps
of_tests clock [] f = tt
of_tests clock (p ∷ ps) f = (of_test p.lane.head (is_gt (clock_cmp clock p.lane.clock)) f.0, of_tests clock ps f.1)

pub each-from : (clock : Option Stamp) (ps : List Part) → EachFrom clock ps → ClocksFrom clock ps
each-from clock ps f = each-all (λ p. is_end_head p.lane.head || not (is_gt (clock_cmp clock p.lane.clock))) ps
    (tests_of clock ps f)

pub from-each : (clock : Option Stamp) (ps : List Part) → ClocksFrom clock ps → EachFrom clock ps
from-each clock ps f =
    of_tests clock ps (all-each (λ p. is_end_head p.lane.head || not (is_gt (clock_cmp clock p.lane.clock))) ps f)
