-- The feeds whose next is known, if one packet was passed.
use Rattle.std.proofs.Common.{◌≡◌, ℕ, suc, ◌<◌, true, List, [], ◌∷◌, length, get_or, arith, Some, Result}
use Rattle.std.specs.Prelude.{map, is_some}
use Rattle.std.specs.List.{refill}
use Rattle.std.proofs.Math.ListN.{set}
use Rattle.std.proofs.lemmas.Bool.{true≢false}
use Rattle.cap_bytes.specs.declared.faults.Fault.{Fault}
use Rattle.cap_source.specs.Feed.{Feed, IsPacket}
use Rattle.cap_merge.specs.inner.Lists.{and-both}
use Rattle.cap_merge.specs.declared.lanes.Lane.{Lane}
use Rattle.cap_merge.specs.Parts.{Part, part, parts, are_known, known_but, OthersKnown, merged_feed}
use Rattle.cap_merge.specs.inner.Merge.{LearnsAll, Asks, AsksAll, PassesAt}
use Rattle.cap_merge.proofs.Asking.{at-place}
use Rattle.cap_merge.proofs.Firsts.{known-holds}

known_behind : (p : Part) (ps : List Part) → are_known (p ∷ ps) ≡ true → (is_some p.lane.head ≡ true)
    × (are_known ps ≡ true)
known_behind p ps k = and-both (is_some p.lane.head) (are_known ps) k

passed_known : (ps qs : List Part) (place : ℕ) → PassesAt ps place qs → are_known ps ≡ true → known_but qs place ≡ true
passed_known (p ∷ ps) (q ∷ qs) (suc place) h k = grind (arith, passed_known ps qs place h.1)
passed_known ps qs place h k = grind (arith, known_behind)

-- after a pass what comes next of the other feeds is known
pub others-passed : (ps qs : List Part) (place : ℕ) → PassesAt ps place qs → IsPacket (merged_feed ps).known
    → OthersKnown qs (Some place)
others-passed ps qs place h p = passed_known ps qs place h (known-holds ps IsPacket (λ never. never) p).0

learns_all : (ps : List Part) → are_known ps ≡ true → LearnsAll ps ps
learns_all [] k = tt
learns_all (p ∷ ps) k = grind (arith, learns_all ps)

asks_front : {T : Type 0} (p q : Part) (ps : List Part) (r : Result T Fault) → are_known ps ≡ true → Asks p r q
    → AsksAll (p ∷ ps) r (q ∷ ps)
asks_front p q ps r k h = grind (arith, learns_all)

-- If the others are known, one feed is asked as all are.
pub asks-there : {F : Type 0} (f : F → Feed) (ls : List Lane) (fs : List F) (i : ℕ) (l m : Lane) (x y : F) {T : Type 0}
    (r : Result T Fault) → length ls ≡ length fs
    → known_but (parts ls (map f fs)) i ≡ true → Asks (part (get_or ls i l) (f (get_or fs i x))) r (part m (f y))
    → AsksAll (parts ls (map f fs)) r (parts (set ls i m) (map f (set fs i y)))
asks-there f (a ∷ ls) (b ∷ fs) (suc i) l m x y r e k h = grind (arith, asks-there f ls fs i l m x y r (omega arith))
asks-there f ls fs i l m x y r e g k = grind (arith, true≢false, asks_front, part)

pub asks-at : {F : Type 0} (f : F → Feed) (ls xs : List Lane) (fs : List F) (i : ℕ) (l m : Lane) (y z : F) {T : Type 0}
    (r : Result T Fault) → xs ≡ ls → y ≡ get_or fs i y → length ls ≡ length fs
    → known_but (parts ls (map f fs)) i ≡ true → Asks (part (get_or xs i l) (f y)) r (part m (f z))
    → AsksAll (parts ls (map f fs)) r (parts (refill (length ls) ls (set xs i m)) (map f (set fs i z)))
asks-at f ls xs fs i l m y z r a b e k =
    at-place f (λ w x ms gs. Asks (part w x) r (part m (f z)) → AsksAll (parts ls (map f fs)) r (parts ms gs))
    ls xs fs i l m y z a b (asks-there f ls fs i l m y z r e k)

-- the one that isn't known is one of them
pub but_within : {F : Type 0} (f : F → Feed) (ls : List Lane) (fs : List F) (i : ℕ) → length ls ≡ length fs
    → known_but (parts ls (map f fs)) i ≡ true → i < length ls
but_within f (a ∷ ls) (b ∷ fs) (suc i) e k = grind (arith, but_within f ls fs i (omega arith))
but_within f ls fs i e k = grind (arith, true≢false)
