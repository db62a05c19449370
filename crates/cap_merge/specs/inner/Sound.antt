-- What a merge keeps of its parts, part by part.
use Rattle.std.proofs.Common.{◌≡◌, ℕ, suc, ◌+◌, Bool, true, false, cond, List, [], ◌∷◌, length, ap, ◌∙◌, subst, arith}
use Rattle.std.proofs.Common.{Option, Some, None}
use Rattle.std.specs.Prelude.{not, map, ⊤, is_some, IfSome}
use Rattle.std.specs.List.{AllByRecursion, range_with_len}
use Rattle.std.specs.Ordering.{is_lt}
use Rattle.std.proofs.lemmas.List.{length-map}
use Rattle.cap_source.specs.declared.feeds.Head.{Head}
use Rattle.cap_source.specs.Feed.{Feed, IsFeed}
use Rattle.cap_merge.specs.inner.Lists.{all-each, each-all}
use Rattle.cap_merge.specs.declared.lanes.Lane.{Lane}
use Rattle.cap_time.specs.Clock.{clock_cmp}
use Rattle.cap_merge.specs.Parts.{Part, part, parts, AreNumberedFeeds, HasReached, known_time}

-- What is known of a part is what its feed knows, and its clock was reached.
pub record IsSoundPart (p : Part) : Type 0 where
  pub agrees : IfSome p.lane.head (λ head. p.feed.known ≡ Some head)
  pub reached : is_lt (clock_cmp p.lane.clock (known_time p.lane.head)) ≡ false

not-true : (b : Bool) → not b ≡ true → b ≡ false
not-true b e = grind arith

agreed : (b : Bool) (k : Option Head) → IfSome (cond b k None) (λ head. k ≡ Some head)
agreed b k = grind arith

sound_each : (ls : List Lane) (fs : List Feed)
    → AllByRecursion (λ p. not (is_lt (clock_cmp p.lane.clock (known_time p.lane.head))) ≡ true) (parts ls fs)
    → AllByRecursion IsSoundPart (parts ls fs)
sound_each [] fs r = tt
sound_each (l ∷ ls) [] r = tt
sound_each (l ∷ ls) (f ∷ fs) r = (
  record {
    agrees = agreed (is_some l.next) f.known;
    reached = not-true (is_lt (clock_cmp l.clock (known_time (part l f).lane.head))) r.0;
  },
  sound_each ls fs r.1,
)

-- lanes with their feeds are sound
pub sound-parts : {F : Type 0} (f : F → Feed) (ls : List Lane) (fs : List F) → HasReached (parts ls (map f fs))
    → AllByRecursion IsSoundPart (parts ls (map f fs))
sound-parts f ls fs r =
    sound_each ls (map f fs) (all-each (λ p. not (is_lt (clock_cmp p.lane.clock (known_time p.lane.head))))
    (parts ls (map f fs)) r)

reached_each : (ps : List Part) → AllByRecursion IsSoundPart ps
    → AllByRecursion (λ p. not (is_lt (clock_cmp p.lane.clock (known_time p.lane.head))) ≡ true) ps
reached_each [] f = tt
reached_each (p ∷ ps) f = (ap not f.0.reached, reached_each ps f.1)

pub each-reached : (ps : List Part) → AllByRecursion IsSoundPart ps → HasReached ps
each-reached ps f = each-all (λ p. not (is_lt (clock_cmp p.lane.clock (known_time p.lane.head)))) ps (reached_each ps f)

-- the files of the parts are numbered from there on
abbrev pub AreFrom : ℕ → List Part → Type 0
AreFrom file [] = ⊤
AreFrom file (p ∷ ps) = (p.feed.files ≡ file ∷ []) × AreFrom (suc file) ps

are_from : {F : Type 0} (f : F → Feed) (n : ℕ) (ls : List Lane) (fs : List F) → length ls ≡ length fs
    → map (λ (x : Feed). x.files) (map f fs) ≡ map (λ k. k ∷ []) (range_with_len n (length fs))
    → AreFrom n (parts ls (map f fs))
are_from f n [] fs l e = tt
are_from f n (y ∷ ls) [] l e = tt
are_from f n (y ∷ ls) (x ∷ xs) l e =
    let first : (f x).files ≡ n ∷ [] = cc in
    let rest : map (λ (z : Feed). z.files) (map f xs) ≡ map (λ k. k ∷ []) (range_with_len (n + 1) (length xs)) = cc in
    let next : n + 1 ≡ suc n = omega arith in
    (first, subst (λ (k : ℕ). AreFrom k (parts ls (map f xs))) next (are_from f (n + 1) ls xs (omega arith) rest))

pub numbered-from : {F : Type 0} (f : F → Feed) (ls : List Lane) (fs : List F) → length ls ≡ length fs
    → AreNumberedFeeds (map f fs) → AreFrom 1 (parts ls (map f fs))
numbered-from f ls fs l e = are_from f 1 ls fs l (e
    ∙ ap (λ n. map (λ k. k ∷ []) (range_with_len 1 n)) (length-map fs f))

-- each feed is lawful
pub lawful-each : {F : Type 0} (f : F → Feed) → ((x : F) → IsFeed (f x)) → (ls : List Lane) (fs : List F)
    → AllByRecursion (λ p. IsFeed p.feed) (parts ls (map f fs))
lawful-each f law [] fs = tt
lawful-each f law (l ∷ ls) [] = tt
lawful-each f law (l ∷ ls) (x ∷ xs) = (law x, lawful-each f law ls xs)
