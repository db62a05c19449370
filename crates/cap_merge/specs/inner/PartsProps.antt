-- What a merge keeps, and what is known of its clocks, has one proof at most.
use Rattle.std.specs.Prelude.{◌≡◌, ◌≤◌, ℕ, List, length, map, Option}
use Rattle.std.proofs.Props.{props}
use Rattle.std.specs.Coded.{Coded-set, coded_ℕ, coded_list, coded_option, coded_result, coded_bool}
use Rattle.cap_bytes.specs.contracts.faults.Refusal as refusal
use Rattle.cap_merge.specs.declared.lanes.Lane.{Lane}
use Rattle.cap_source.specs.Feed.{Feed}
use Rattle.cap_merge.specs.Parts.{Part, parts, AreNumberedFeeds, LanesAgree, HasReached, AreBounded, OthersKnown}
use Rattle.cap_merge.specs.Parts.{IsFound}

-- What a merge always keeps. Its feeds are of files that are numbered from 1, each with a lane that says what it knows
-- to come next and which clock it has reached. If there is a place, it is that of the feed whose item came first when
-- that was looked for: only there may it be unknown what comes next.
pub record IsMergeState {F : Type 0} (feed : F → Feed) (lanes : List Lane) (feeds : List F) (front : Option ℕ)
    : Type 0 where
  pub alike : length lanes ≡ length feeds
  pub some : 1 ≤ length feeds
  pub most : length feeds ≤ 32
  pub numbered : AreNumberedFeeds (map feed feeds)
  pub agrees : LanesAgree lanes (map feed feeds)
  pub reached : HasReached (parts lanes (map feed feeds))
  pub bounded : AreBounded (parts lanes (map feed feeds))
  pub others : OthersKnown (parts lanes (map feed feeds)) front
  pub found : IsFound (parts lanes (map feed feeds)) front

AreNumberedFeeds-prop : (feeds : List Feed) → IsProp (AreNumberedFeeds feeds)
AreNumberedFeeds-prop feeds = Coded-set (coded_list (coded_list coded_ℕ)) _ _

Agrees-prop : (lanes : List Lane) (feeds : List Feed) → IsProp (LanesAgree lanes feeds)
Agrees-prop lanes feeds = Coded-set (coded_list (coded_option (coded_result coded_bool (refusal.the_row).coded))) _ _

HasReached-prop : (ps : List Part) → IsProp (HasReached ps)
HasReached-prop ps = Coded-set coded_bool _ _

AreBounded-prop : (ps : List Part) → IsProp (AreBounded ps)
AreBounded-prop ps = Coded-set coded_bool _ _

OthersKnown-prop : (ps : List Part) (place : Option ℕ) → IsProp (OthersKnown ps place)
OthersKnown-prop ps place = Coded-set coded_bool _ _

IsFound-prop : (ps : List Part) (place : Option ℕ) → IsProp (IsFound ps place)
IsFound-prop ps place = Coded-set (coded_option coded_ℕ) _ _

pub IsMergeState-prop : {F : Type 0} (feed : F → Feed) (lanes : List Lane) (feeds : List F) (front : Option ℕ)
    → IsProp (IsMergeState feed lanes feeds front)
IsMergeState-prop feed lanes feeds front =
    hlevel (props, AreNumberedFeeds-prop, Agrees-prop, HasReached-prop, AreBounded-prop, OthersKnown-prop, IsFound-prop)
