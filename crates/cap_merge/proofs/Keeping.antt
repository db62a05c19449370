-- What a merge keeps, whatever its feeds are asked.
use Rattle.std.proofs.Common.{◌≡◌, ℕ, suc, ◌<◌, true, false, List, ◌∷◌, length, refl, sym, ap, ◌∙◌, subst, arith}
use Rattle.std.proofs.Common.{Bool, Option, Some, None, Result, Ok}
use Rattle.std.specs.Prelude.{map, is_some, ◌&&◌, if◌then◌else◌}
use Rattle.std.proofs.lemmas.List.{length-map}
use Rattle.cap_bytes.specs.declared.faults.Fault.{Fault}
use Rattle.cap_source.specs.Feed.{Feed, IsFeed, IsPacket}
use Rattle.cap_merge.specs.declared.lanes.Lane.{Lane}
use Rattle.cap_merge.specs.inner.First.{lane_turns, first_place}
use Rattle.cap_merge.specs.inner.Merge.{LearnsAll, AsksAll, PeeksAt, PassesAt}
use Rattle.cap_merge.specs.inner.PartsProps.{IsMergeState}
use Rattle.cap_merge.specs.inner.Sound.{each-reached}
use Rattle.cap_merge.specs.Parts.{Part, parts, turn, turns, are_known, known_but, OthersKnown, IsFound, LanesAgree}
use Rattle.cap_merge.specs.Parts.{merged_feed}
use Rattle.cap_merge.proofs.Bounds.{asked-bounded, passed-bounded}
use Rattle.cap_merge.proofs.Calls.{asked-numbered, asked-sound-each, numbered-kept}
use Rattle.cap_merge.proofs.Finding.{first-within}
use Rattle.cap_merge.proofs.Firsts.{known-packet, passed-of, passes-each}
use Rattle.cap_merge.proofs.Heads.{known_all}
use Rattle.cap_merge.proofs.Others.{others-passed}
use Rattle.cap_merge.proofs.Peeking.{peeked-kept, peeked-reached, peeked-bounded, peeked-known, peeked-found}
use Rattle.cap_merge.proofs.Placing.{turns-agree}

either : {A : Type 0} (b : Bool) (x y : A) → x ≡ y → (if b then x else y) ≡ y
either b x y e = grind arith

first_found : (ps : List Part) (place : Option ℕ) → place ≡ first_place (turns ps) → IsFound ps place
first_found ps place e = either (is_some place && are_known ps) (first_place (turns ps)) place (sym e)

-- a place that was found is that of the first
pub found-first : (ps : List Part) (place : ℕ) → IsFound ps (Some place) → are_known ps ≡ true
    → first_place (turns ps) ≡ Some place
found-first ps place f k = rw k at f

all_but : (ps : List Part) (place : ℕ) → are_known ps ≡ true → place < length ps → known_but ps place ≡ true
all_but (p ∷ ps) (suc place) k h = grind (arith, all_but ps place)
all_but ps place k h = grind arith

others_known : (ps : List Part) (place : Option ℕ) → are_known ps ≡ true → place ≡ first_place (turns ps)
    → OthersKnown ps place
others_known ps None k e = refl
others_known ps (Some place) k e =
    all_but ps place k (omega (arith, first-within (turns ps) place (sym e), length-map ps turn))

passed_unknown : (ps qs : List Part) (place : ℕ) → PassesAt ps place qs → are_known qs ≡ false
passed_unknown (p ∷ ps) (q ∷ qs) (suc place) h = grind (arith, passed_unknown ps qs place h.1)
passed_unknown ps qs place h = grind arith

-- the place that is kept is that of the packet that was passed, if one is
front_passed : (ps qs : List Part) (front : Option ℕ) (place : ℕ) → IsFound ps front → are_known ps ≡ true
    → first_place (turns ps) ≡ Some place → OthersKnown qs (Some place) → are_known qs ≡ false
    → OthersKnown qs front × IsFound qs front
front_passed ps qs None place f k at others unknown = (refl, refl)
front_passed ps qs (Some p) place f k at others unknown =
    let same : Some place ≡ Some p = sym at ∙ found-first ps p f k in
    (subst (OthersKnown qs) same others, rw unknown refl)

module _ {F : Type 0} (f : F → Feed) (law : (x : F) → IsFeed (f x)) (ls ms : List Lane) (fs ys : List F)
    (front : Option ℕ) (merge : IsMergeState f ls fs front) (lanes : length ms ≡ length ls)
    (feeds : length ys ≡ length fs)
    (agrees : LanesAgree ms (map f ys)) where
  -- each feed was asked up to the first that can't tell
  pub asked-merge : {T : Type 0} (result : Result T Fault)
      → AsksAll (parts ls (map f fs)) result (parts ms (map f ys))
      → (place : Option ℕ) → OthersKnown (parts ms (map f ys)) place → IsFound (parts ms (map f ys)) place
      → IsMergeState f ms ys place
  asked-merge result asks place others found = record {
    alike = lanes ∙ merge.alike ∙ sym feeds;
    some = rw feeds merge.some;
    most = rw feeds merge.most;
    numbered = asked-numbered f law ls ms fs ys result merge.alike lanes feeds asks merge.numbered;
    agrees = agrees;
    reached = each-reached (parts ms (map f ys)) (asked-sound-each f law ls ms fs ys result asks merge.reached);
    bounded = asked-bounded (parts ls (map f fs)) (parts ms (map f ys)) result asks merge.bounded;
    others = others;
    found = found;
  }

  -- each feed has told, and it was found whose item comes first
  pub learned-merge : LearnsAll (parts ls (map f fs)) (parts ms (map f ys)) → (place : Option ℕ)
      → place ≡ first_place (lane_turns ms) → IsMergeState f ms ys place
  learned-merge learns place first =
      let qs = parts ms (map f ys) in
      let r : Result Bool Fault = Ok true in
      let at = first ∙ ap first_place (sym (turns-agree ms (map f ys) agrees)) in
      asked-merge r learns place (others_known qs place (known_all (parts ls (map f fs)) qs learns) at)
      (first_found qs place at)

  -- the feed that was passed has no packet at hand
  pub peeked-merge : (place : ℕ) → front ≡ Some place
      → PeeksAt (parts ls (map f fs)) place (parts ms (map f ys)) → IsMergeState f ms ys front
  peeked-merge place at peeks =
      let ps = parts ls (map f fs) in
      let qs = parts ms (map f ys) in
      record {
        alike = lanes ∙ merge.alike ∙ sym feeds;
        some = rw feeds merge.some;
        most = rw feeds merge.most;
        numbered = numbered-kept f ls ms fs ys merge.alike lanes feeds (peeked-kept place ps qs peeks) merge.numbered;
        agrees = agrees;
        reached = peeked-reached place ps qs peeks merge.reached;
        bounded = peeked-bounded place ps qs peeks merge.bounded;
        others = subst (OthersKnown qs) (sym at)
            (peeked-known place ps qs peeks (subst (OthersKnown ps) at merge.others));
        found = subst (IsFound qs) (sym at) (peeked-found place ps qs peeks (subst (IsFound ps) at merge.found));
      }

  -- the packet that comes first was passed
  pub passed-merge : (place : ℕ) → first_place (turns (parts ls (map f fs))) ≡ Some place
      → IsPacket (merged_feed (parts ls (map f fs))).known
      → PassesAt (parts ls (map f fs)) place (parts ms (map f ys)) → IsMergeState f ms ys front
  passed-merge place at packet passes =
      let ps = parts ls (map f fs) in
      let qs = parts ms (map f ys) in
      let passed = passed-of f law ls ms fs ys place merge.some merge.alike at merge.numbered merge.reached packet
      passes in
      let kept = front_passed ps qs front place merge.found (known-packet ps packet) at
      (others-passed ps qs place passes packet) (passed_unknown ps qs place passes) in
      record {
        alike = lanes ∙ merge.alike ∙ sym feeds;
        some = rw feeds merge.some;
        most = rw feeds merge.most;
        numbered = numbered-kept f ls ms fs ys merge.alike lanes feeds (passes-each place ps qs passes) merge.numbered;
        agrees = agrees;
        reached = each-reached qs passed.sound;
        bounded = passed-bounded ps qs place passes merge.bounded;
        others = kept.0;
        found = kept.1;
      }

-- a place that is kept is that of the first
pub front-is : (ps : List Part) (front : Option ℕ) (place : ℕ) → IsFound ps front → are_known ps ≡ true
    → first_place (turns ps) ≡ Some place → (p : ℕ) → front ≡ Some p → p ≡ place
front-is ps front place f k at p is = same (sym (found-first ps p (subst (IsFound ps) is f) k) ∙ at)
  where
    same : {a b : ℕ} → Some a ≡ Some b → a ≡ b
    same e = cc
