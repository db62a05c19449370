-- The first lane, by place, and the part that it is of.
use Rattle.std.proofs.Common.{◌≡◌, ℕ, zero, suc, ◌<◌, true, List, [], ◌∷◌, ◌++◌, length, get_or, refl, sym, ap, ◌∙◌}
use Rattle.std.proofs.Common.{subst, arith, map-id, Option, Some, None, Bool, false, Result, Ok}
use Rattle.std.specs.Prelude.{map, is_some, replicate}
use Rattle.std.specs.List.{AllByRecursion, list_all, slice_get}
use Rattle.std.specs.Option.{option_and_then}
use Rattle.std.proofs.Math.Seq.{get_or-append_seam}
use Rattle.std.proofs.lemmas.List.{length-map, length-replicate}
use Rattle.std.proofs.lemmas.Option.{slice_get-get_or}
use Rattle.cap_bytes.specs.declared.faults.Refusal.{Refusal}
use Rattle.cap_source.specs.Feed.{Feed}
use Rattle.cap_merge.specs.declared.lanes.Lane.{Lane}
use Rattle.cap_merge.specs.inner.First.{head_coming, fresh_lane, lane_turn, lane_turns, first_place}
use Rattle.cap_merge.specs.Run.{opened_track, run}
use Rattle.cap_merge.specs.Parts.{Part, part, parts, turn, turns, are_known, known_of, part_head, first_part, new_lane}
use Rattle.cap_merge.specs.Parts.{new_parts, item_time, is_refusal, run_of, tracks, Matches, LanesAgree, HasReached}
use Rattle.cap_merge.specs.inner.Leading.{Split, IsFirstOf, first_is}
use Rattle.cap_merge.specs.inner.Sound.{IsSoundPart, each-reached}
use Rattle.cap_merge.proofs.Asking.{parts-get, length-parts, matches-there}
use Rattle.cap_merge.proofs.Finding.{first-within}

-- lanes have the turns of the parts that they are of
pub turns-agree : (ls : List Lane) (fs : List Feed) → LanesAgree ls fs → turns (parts ls fs) ≡ lane_turns ls
turns-agree (l ∷ ls) (x ∷ fs) a = grind (arith, turns-agree ls fs)
turns-agree ls fs a = grind arith

pub place_within : {F : Type 0} (f : F → Feed) (ls : List Lane) (fs : List F) (place : ℕ) → length ls ≡ length fs
    → first_place (turns (parts ls (map f fs))) ≡ Some place
    → place < length ls
place_within f ls fs place e h =
    omega (
      arith,
      first-within (turns (parts ls (map f fs))) place h,
      length-map (parts ls (map f fs)) turn,
      length-parts f ls fs (sym e),
    )

split_there : {F : Type 0} (f : F → Feed) (ls : List Lane) (fs : List F) (place : ℕ) (d : Lane) (x : F)
    (o : Option Part) → IsFirstOf (parts ls (map f fs)) o
    → first_part (parts ls (map f fs)) ≡ o → length ls ≡ length fs
    → first_place (turns (parts ls (map f fs))) ≡ Some place → place < length ls
    → (s : Split (parts ls (map f fs)) (part (get_or ls place d) (f (get_or fs place x)))) × (length s.before ≡ place)
unfolding first_part
split_there f ls fs place d x None n is e h w =
    let ps = parts ls (map f fs) in
    let there : slice_get ps place ≡ None = sym (ap (option_and_then (slice_get ps)) h) ∙ is in
    absurd (some_none (sym (slice_get-get_or ps place (part d (f x))
    (omega (arith, length-parts f ls fs (sym e)))) ∙ there))
  where
    some_none : {A : Type 0} {y : A} → Some y ≡ None → ⊥
    some_none e = cc
split_there f ls fs place d x (Some q) s is e h w =
    let ps = parts ls (map f fs) in
    let place_is : length s.before ≡ place = cc (s.place, h) in
    let first : q ≡ part (get_or ls place d) (f (get_or fs place x)) =
    sym (ap (λ xs. get_or xs (length s.before) (part d (f x))) s.whole
    ∙ get_or-append_seam s.before q s.after (part d (f x)))
    ∙ ap (λ n. get_or ps n (part d (f x))) place_is ∙ parts-get f ls fs place d x w (sym e) in
    subst (λ (p : Part). (t : Split ps p) × (length t.before ≡ place)) first (s, place_is)

-- The part that comes first stands where its lane does.
pub placed-split : {F : Type 0} (f : F → Feed) (ls : List Lane) (fs : List F) (place : ℕ) (d : Lane) (x : F)
    → length ls ≡ length fs
    → first_place (turns (parts ls (map f fs))) ≡ Some place
    → (s : Split (parts ls (map f fs)) (part (get_or ls place d) (f (get_or fs place x)))) × (length s.before ≡ place)
placed-split f ls fs place d x e h =
    split_there f ls fs place d x (first_part (parts ls (map f fs))) (first_is (parts ls (map f fs))) refl e h
    (place_within f ls fs place e h)

known_parts : (ls : List Lane) (fs : List Feed) → list_all (λ l. is_some l.next) ls ≡ true → LanesAgree ls fs
    → are_known (parts ls fs) ≡ true
known_parts (l ∷ ls) (x ∷ fs) k a = grind (arith, known_parts ls fs)
known_parts ls fs k a = grind arith

-- what is known of all is what the first lane says
pub coming-first : (ls : List Lane) (fs : List Feed) (place : ℕ) (coming : Result Bool Refusal) (d : Lane)
    → list_all (λ l. is_some l.next) ls ≡ true → length fs ≡ length ls → LanesAgree ls fs
    → first_place (lane_turns ls) ≡ Some place → (get_or ls place d).next ≡ Some coming
    → head_coming (known_of (parts ls fs)) ≡ Some coming
unfolding known_of
coming-first ls [] place coming d k e a h is =
    let within : place < length (lane_turns ls) = first-within (lane_turns ls) place h in
    absurd (omega (arith, length-map ls lane_turn))
coming-first ls (x ∷ xs) place coming d k e a h is =
    let fs = x ∷ xs in
    let same : map (λ (w : Feed). w) fs ≡ fs = map-id fs in
    let at : first_place (turns (parts ls (map (λ (w : Feed). w) fs))) ≡ Some place =
    ap (λ ys. first_place (turns (parts ls ys))) same ∙ ap first_place (turns-agree ls fs a) ∙ h in
    let s = placed-split (λ (w : Feed). w) ls fs place d x (sym e) at in
    let first : first_part (parts ls fs) ≡ Some (part (get_or ls place d) (get_or fs place x)) =
    subst (λ ys. first_part (parts ls ys) ≡ Some (part (get_or ls place d) (get_or fs place x))) same s.0.is_first in
    let there : Matches (get_or ls place d) (get_or fs place x) =
    matches-there (λ (w : Feed). w) ls fs place d x (place_within (λ (w : Feed). w) ls fs place (sym e) at) e
    (subst (LanesAgree ls) (sym same) a) in
    rw (known_parts ls fs k a) (ap (λ o. head_coming (part_head o)) first ∙ there ∙ is)

pub coming-none : (ls : List Lane) (fs : List Feed) → list_all (λ l. is_some l.next) ls ≡ true → LanesAgree ls fs
    → first_place (lane_turns ls) ≡ None
    → head_coming (known_of (parts ls fs)) ≡ Some (Ok false)
unfolding known_of first_part
coming-none ls fs k a h =
    rw (known_parts ls fs k a) (ap (λ o. head_coming (part_head (option_and_then (slice_get (parts ls fs)) o)))
    (ap first_place (turns-agree ls fs a) ∙ h))

-- no part is first if no place is
pub none-placed : (ps : List Part) → first_place (turns ps) ≡ None → first_part ps ≡ None
unfolding first_part
none-placed ps h = ap (option_and_then (slice_get ps)) h

pub parts-new : (fs : List Feed) → parts (replicate (length fs) fresh_lane) fs ≡ new_parts fs
parts-new [] = refl
parts-new (f ∷ fs) = ap (λ ps. record { lane = new_lane; feed = f } ∷ ps) (parts-new fs)

pub new-sound : (fs : List Feed) → AllByRecursion IsSoundPart (new_parts fs)
new-sound [] = tt
new-sound (f ∷ fs) = (record { agrees = tt; reached = refl }, new-sound fs)

pub one_more : (n : ℕ) (ls : List Lane) (l : Lane) → ls ≡ replicate n l → ls ++ (l ∷ []) ≡ replicate (suc n) l
one_more n ls l e = ap (λ xs. xs ++ (l ∷ [])) e ∙ behind n
  where
    behind : (k : ℕ) → replicate k l ++ (l ∷ []) ≡ replicate (suc k) l
    behind zero = refl
    behind (suc k) = ap (λ xs. l ∷ xs) (behind k)

-- what a merge keeps is true of new lanes
pub new-alike : (ls : List Lane) (n : ℕ) → ls ≡ replicate n fresh_lane → length ls ≡ n
new-alike ls n e = ap length e ∙ length-replicate n fresh_lane

pub new-is : {F : Type 0} (f : F → Feed) (ls : List Lane) (xs : List F) → ls ≡ replicate (length xs) fresh_lane
    → parts ls (map f xs) ≡ new_parts (map f xs)
new-is f ls xs e =
    ap (λ ks. parts ks (map f xs)) (e ∙ ap (λ n. replicate n fresh_lane) (sym (length-map xs f))) ∙ parts-new (map f xs)

agrees_new : {F : Type 0} (f : F → Feed) (xs : List F) → LanesAgree (replicate (length xs) fresh_lane) (map f xs)
agrees_new f [] = refl
agrees_new f (x ∷ xs) = ap (λ ns. None ∷ ns) (agrees_new f xs)

pub new-agrees : {F : Type 0} (f : F → Feed) (ls : List Lane) (xs : List F) → ls ≡ replicate (length xs) fresh_lane
    → LanesAgree ls (map f xs)
new-agrees f ls xs e = subst (λ (w : List Lane). LanesAgree w (map f xs)) (sym e) (agrees_new f xs)

pub new-reached : {F : Type 0} (f : F → Feed) (ls : List Lane) (xs : List F) → ls ≡ replicate (length xs) fresh_lane
    → HasReached (parts ls (map f xs))
new-reached f ls xs e = subst HasReached (sym (new-is f ls xs e))
    (each-reached (new_parts (map f xs)) (new-sound (map f xs)))

tracks_new : (fs : List Feed) → tracks (new_parts fs) ≡ map (λ f. opened_track f.items) fs
tracks_new [] = refl
tracks_new (f ∷ fs) = ap (λ ts. opened_track f.items ∷ ts) (tracks_new fs)

-- the run of feeds of which nothing is known
pub run-new : (fs : List Feed) → run_of (new_parts fs) ≡ run item_time is_refusal (map (λ f. opened_track f.items) fs)
unfolding run_of
run-new fs = ap (run item_time is_refusal) (tracks_new fs)
