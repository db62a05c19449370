-- The tournament of a merge, whatever its lanes are asked.
use Rattle.std.proofs.Common.{◌≡◌, ℕ, ◌<◌, List, length, sym, subst, refl, arith, Option, Some, None}
use Rattle.std.specs.Prelude.{IfSome, map}
use Rattle.std.proofs.lemmas.List.{length-map}
use Rattle.cap_source.specs.Feed.{Feed}
use Rattle.cap_merge.specs.declared.lanes.Lane.{Lane}
use Rattle.cap_merge.specs.declared.tournament.Tournament.{Tournament}
use Rattle.cap_merge.specs.inner.First.{lane_turn, lane_turns, AreSameBut}
use Rattle.cap_merge.specs.inner.Tournament.{IsSettled}
use Rattle.cap_merge.specs.Parts.{parts, OthersKnown}
use Rattle.cap_merge.proofs.Others.{but_within}
use Rattle.cap_merge.proofs.Rounding.{but-same}

settled_same : (ls ms : List Lane) (t : Tournament) (place : ℕ) → length ms ≡ length ls
    → AreSameBut (lane_turns ls) (lane_turns ms) place
    → IsSettled (lane_turns ls) t (Some place) → IsSettled (lane_turns ms) t (Some place)
settled_same ls ms t place e same h =
    λ many. but-same (lane_turns ls) (lane_turns ms) t place same
    (h (omega (arith, many, e, length-map ls lane_turn, length-map ms lane_turn)))

-- It stays settled if only the lane at the front changes.
pub settled-passed : (ls ms : List Lane) (t : Tournament) (front : Option ℕ) (place : ℕ)
    → ((p : ℕ) → front ≡ Some p → p ≡ place) → length ms ≡ length ls
    → AreSameBut (lane_turns ls) (lane_turns ms) place
    → IsSettled (lane_turns ls) t front → IsSettled (lane_turns ms) t front
settled-passed ls ms t None place is e same h = tt
settled-passed ls ms t (Some p) place is e same h =
    settled_same ls ms t p e (subst (AreSameBut (lane_turns ls) (lane_turns ms)) (sym (is p refl)) same) h

-- the same of the place that is asked
pub settled-at : (ls ms : List Lane) (t : Tournament) (front : Option ℕ) (place : ℕ) → front ≡ Some place
    → length ms ≡ length ls → AreSameBut (lane_turns ls) (lane_turns ms) place
    → IsSettled (lane_turns ls) t front → IsSettled (lane_turns ms) t (Some place)
settled-at ls ms t front place at e same h =
    settled_same ls ms t place e same (subst (IsSettled (lane_turns ls) t) at h)

-- and of the place, if there is one, that alone was asked
pub settled-asked : (ls ms : List Lane) (t : Tournament) (front : Option ℕ) → length ms ≡ length ls
    → IfSome front (AreSameBut (lane_turns ls) (lane_turns ms))
    → IsSettled (lane_turns ls) t front → IsSettled (lane_turns ms) t front
settled-asked ls ms t None e same h = tt
settled-asked ls ms t (Some place) e same h = settled_same ls ms t place e same h

-- The place whose next may be unknown is one of the lanes.
pub front-within : {F : Type 0} (f : F → Feed) (ls : List Lane) (fs : List F) (front : Option ℕ)
    → length ls ≡ length fs → OthersKnown (parts ls (map f fs)) front → IfSome front (λ n. n < length ls)
front-within f ls fs None e k = tt
front-within f ls fs (Some place) e k = but_within f ls fs place e k
