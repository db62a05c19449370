-- Feeds that are asked in turn.
use Rattle.std.proofs.Common.{◌≡◌, ℕ, zero, suc, ◌<◌, ◌≤◌, List, [], ◌∷◌, length, get_or, take, drop, ◌++◌, refl, sym}
use Rattle.std.proofs.Common.{ap, ◌∙◌, subst, arith, length-set, Bool, Option, Result}
use Rattle.std.specs.Prelude.{map, ⊤}
use Rattle.std.proofs.Common.{inl, inr}
use Rattle.std.proofs.Math.ListN.{set}
use Rattle.cap_bytes.specs.declared.faults.Fault.{Fault}
use Rattle.cap_bytes.specs.declared.faults.Refusal.{Refusal}
use Rattle.cap_merge.specs.inner.First.{lane_at, lane_turns, AreSameBut}
use Rattle.cap_source.specs.Feed.{Feed, IsPacket}
use Rattle.std.specs.List.{refill}
use Rattle.std.proofs.lemmas.List.{take_at}
use Rattle.cap_merge.specs.declared.lanes.Lane.{Lane}
use Rattle.cap_merge.specs.Parts.{Part, part, parts, Matches, LanesAgree}
use Rattle.cap_merge.specs.inner.Merge.{LearnsBy, LaneStops, LearnsAll, StopsAt, IsPacketAt, PassesAt, PassesPart}

-- The first n feeds were asked, the others are as they were.
abbrev pub AskedUpTo : ℕ → List Part → List Part → Type 0
AskedUpTo i [] [] = ⊤
AskedUpTo i [] (q ∷ qs) = ⊥
AskedUpTo i (p ∷ ps) [] = ⊥
AskedUpTo zero (p ∷ ps) (q ∷ qs) = (q ≡ p) × (qs ≡ ps)
AskedUpTo (suc i) (p ∷ ps) (q ∷ qs) = LearnsBy p.lane.head p q × AskedUpTo i ps qs

none_asked : (ps qs : List Part) → qs ≡ ps → AskedUpTo 0 ps qs
none_asked ps qs e = subst (λ (w : List Part). AskedUpTo 0 ps w) (sym e) (itself ps)
  where
    itself : (ps : List Part) → AskedUpTo 0 ps ps
    itself [] = tt
    itself (p ∷ ps) = (refl, refl)

pub asked-init : (ps : List Part) → AskedUpTo 0 ps ps
asked-init ps = none_asked ps ps refl

pub asked-more : (i : ℕ) (ps qs : List Part) (d x : Part) → AskedUpTo i ps qs → i < length qs
    → (LearnsBy (get_or qs i d).lane.head (get_or qs i d) x) → AskedUpTo (suc i) ps (set qs i x)
asked-more zero (p ∷ ps) (q ∷ qs) d x a l h =
    (subst (λ (w : Part). LearnsBy w.lane.head w x) a.0 h, none_asked ps qs a.1)
asked-more (suc i) (p ∷ ps) (q ∷ qs) d x a l h = (a.0, asked-more i ps qs d x a.1 (omega arith) h)
asked-more i ps qs d x a l h = grind arith

pub asked-stops : (i : ℕ) (ps qs : List Part) (d x : Part) (fault : Fault) → AskedUpTo i ps qs → i < length qs
    → LaneStops (get_or qs i d) fault x → StopsAt fault ps (set qs i x)
asked-stops zero (p ∷ ps) (q ∷ qs) d x fault a l h = inl (subst (λ (w : Part). LaneStops w fault x) a.0 h, a.1)
asked-stops (suc i) (p ∷ ps) (q ∷ qs) d x fault a l h = inr (a.0, asked-stops i ps qs d x fault a.1 (omega arith) h)
asked-stops i ps qs d x fault a l h = grind arith

pub asked-all : (i : ℕ) (ps qs : List Part) → AskedUpTo i ps qs → length qs ≤ i → LearnsAll ps qs
asked-all i [] [] a l = tt
asked-all i [] (q ∷ qs) a l = absurd a
asked-all i (p ∷ ps) [] a l = absurd a
asked-all zero (p ∷ ps) (q ∷ qs) a l = absurd (omega arith)
asked-all (suc i) (p ∷ ps) (q ∷ qs) a l = (a.0, asked-all i ps qs a.1 (omega arith))

pub length-parts : {F : Type 0} (f : F → Feed) (ls : List Lane) (fs : List F) → length fs ≡ length ls
    → length (parts ls (map f fs)) ≡ length ls
length-parts f (l ∷ ls) (x ∷ xs) e = ap suc (length-parts f ls xs (omega arith))
length-parts f ls fs e = grind arith

pub parts-set : {F : Type 0} (f : F → Feed) (ls : List Lane) (fs : List F) (i : ℕ) (l : Lane) (x : F)
    → parts (set ls i l) (map f (set fs i x)) ≡ set (parts ls (map f fs)) i (part l (f x))
parts-set f (y ∷ ls) (z ∷ zs) (suc i) l x = ap (λ r. part y (f z) ∷ r) (parts-set f ls zs i l x)
parts-set f ls fs i l x = grind arith

pub parts-get : {F : Type 0} (f : F → Feed) (ls : List Lane) (fs : List F) (i : ℕ) (l : Lane) (x : F) → i < length ls
    → length fs ≡ length ls
    → get_or (parts ls (map f fs)) i (part l (f x)) ≡ part (get_or ls i l) (f (get_or fs i x))
parts-get f (y ∷ ls) (z ∷ zs) (suc i) l x h e = parts-get f ls zs i l x (omega arith) (omega arith)
parts-get f ls fs i l x h e = grind arith

pub lanes-more : {F : Type 0} (f : F → Feed) (ps : List Part) (ls : List Lane) (fs : List F) (i : ℕ)
    (l m : Lane) (x y : F)
    → AskedUpTo i ps (parts ls (map f fs)) → i < length ls → length fs ≡ length ls
    → LearnsBy (part (get_or ls i l) (f (get_or fs i x))).lane.head (part (get_or ls i l) (f (get_or fs i x)))
    (part m (f y))
    → AskedUpTo (suc i) ps (parts (set ls i m) (map f (set fs i y)))
lanes-more f ps ls fs i l m x y a h e learns =
    subst (λ (ws : List Part). AskedUpTo (suc i) ps ws) (sym (parts-set f ls fs i m y))
    (asked-more i ps (parts ls (map f fs)) (part l (f x)) (part m (f y)) a (omega (arith, length-parts f ls fs e))
    (subst (λ (w : Part). LearnsBy w.lane.head w (part m (f y))) (sym (parts-get f ls fs i l x h e)) learns))

pub lanes-stop : {F : Type 0} (f : F → Feed) (ps : List Part) (ls : List Lane) (fs : List F) (i : ℕ) (l m : Lane)
    (x y : F) (fault : Fault)
    → AskedUpTo i ps (parts ls (map f fs)) → i < length ls → length fs ≡ length ls
    → LaneStops (part (get_or ls i l) (f (get_or fs i x))) fault (part m (f y))
    → StopsAt fault ps (parts (set ls i m) (map f (set fs i y)))
lanes-stop f ps ls fs i l m x y fault a h e stops =
    subst (λ (ws : List Part). StopsAt fault ps ws) (sym (parts-set f ls fs i m y))
    (asked-stops i ps (parts ls (map f fs)) (part l (f x)) (part m (f y)) fault a
    (omega (arith, length-parts f ls fs e))
    (subst (λ (w : Part). LaneStops w fault (part m (f y))) (sym (parts-get f ls fs i l x h e)) stops))

-- what a lane says is what its feed knows, at each place
pub matches-there : {F : Type 0} (f : F → Feed) (ls : List Lane) (fs : List F) (i : ℕ) (l : Lane) (x : F)
    → i < length ls → length fs ≡ length ls
    → LanesAgree ls (map f fs) → Matches (get_or ls i l) (f (get_or fs i x))
matches-there f (k ∷ ls) (z ∷ zs) (suc i) l x h e a =
    grind (arith, matches-there f ls zs i l x (omega arith) (omega arith))
matches-there f ls fs i l x h e a = grind arith

-- and so it is if it is at a place that is written
pub agrees-set : {F : Type 0} (f : F → Feed) (ls : List Lane) (fs : List F) (i : ℕ) (m : Lane) (y : F)
    → LanesAgree ls (map f fs) → Matches m (f y)
    → LanesAgree (set ls i m) (map f (set fs i y))
agrees-set f (k ∷ ls) (z ∷ zs) (suc i) m y a h = grind (arith, agrees-set f ls zs i m y)
agrees-set f ls fs i m y a h = grind arith

-- what is written is there
next_set : (ls : List Lane) (i : ℕ) (m : Lane) {next : Option (Result Bool Refusal)} → i < length ls → m.next ≡ next
    → (lane_at (set ls i m) i).next ≡ next
next_set (l ∷ ls) (suc i) m h e = next_set ls i m (omega arith) e
next_set ls i m h e = grind arith

refilled : {A : Type 0} (xs ws : List A) (n : ℕ) → length ws ≡ n → take n (ws ++ drop (length ws) xs) ≡ ws
refilled xs ws n e = take_at ws (drop (length ws) xs) n e

written : {A : Type 0} (ls xs : List A) (i : ℕ) (m : A) → xs ≡ ls → refill (length ls) ls (set xs i m) ≡ set ls i m
written ls xs i m e = refilled ls (set xs i m) (length ls) (length-set xs i m ∙ ap length e) ∙ ap (λ ws. set ws i m) e

-- What is true of a lane and its feed, and of the lists in which they are written, is true of what slices lend of them.
pub at-place : {F : Type 0} (f : F → Feed) (Holds : Lane → Feed → List Lane → List Feed → Type 0) (ls xs : List Lane)
    (fs : List F) (i : ℕ) (l m : Lane) (y z : F) → xs ≡ ls → y ≡ get_or fs i y
    → Holds (get_or ls i l) (f (get_or fs i y)) (set ls i m) (map f (set fs i z))
    → Holds (get_or xs i l) (f y) (refill (length ls) ls (set xs i m)) (map f (set fs i z))
at-place f Holds ls xs fs i l m y z a b h =
    subst (λ (w : List Lane × Feed × List Lane). Holds (get_or w.0 i l) w.1 w.2 (map f (set fs i z)))
    (λ j. (sym a j, f (sym b j), sym (written ls xs i m a) j)) h

pub matches-at : {F : Type 0} (f : F → Feed) (ls xs : List Lane) (fs : List F) (i : ℕ) (l : Lane) (y : F) → xs ≡ ls
    → y ≡ get_or fs i y → i < length ls → length ls ≡ length fs → LanesAgree ls (map f fs)
    → Matches (get_or xs i l) (f y)
matches-at f ls xs fs i l y a b h e g =
    at-place f (λ k x ms gs. Matches k x) ls xs fs i l l y y a b (matches-there f ls fs i l y h (sym e) g)

pub agrees-at : {F : Type 0} (f : F → Feed) (ls xs : List Lane) (fs : List F) (i : ℕ) (m : Lane) (z : F) → xs ≡ ls
    → LanesAgree ls (map f fs) → Matches m (f z) → LanesAgree (refill (length ls) ls (set xs i m)) (map f (set fs i z))
agrees-at f ls xs fs i m z a g h =
    subst (λ (ms : List Lane). LanesAgree ms (map f (set fs i z))) (sym (written ls xs i m a))
    (agrees-set f ls fs i m z g h)

pub next-at : (ls xs : List Lane) (i : ℕ) (m : Lane) {next : Option (Result Bool Refusal)} → xs ≡ ls → i < length ls
    → m.next ≡ next → (lane_at (refill (length ls) ls (set xs i m)) i).next ≡ next
next-at ls xs i m a h e = ap (λ ms. (lane_at ms i).next) (written ls xs i m a) ∙ next_set ls i m h e

pub packet-there : {F : Type 0} (f : F → Feed) (ls : List Lane) (fs : List F) (i : ℕ) (x : F)
    → IsPacketAt (parts ls (map f fs)) i → IsPacket (f (get_or fs i x)).known
packet-there f (l ∷ ls) (y ∷ ys) (suc i) x h = packet-there f ls ys i x h
packet-there f ls fs i x h = grind arith

passes_there : {F : Type 0} (f : F → Feed) (ls : List Lane) (fs : List F) (i : ℕ) (l m : Lane) (x y : F)
    → i < length ls → length ls ≡ length fs
    → PassesPart (part (get_or ls i l) (f (get_or fs i x))) (part m (f y))
    → PassesAt (parts ls (map f fs)) i (parts (set ls i m) (map f (set fs i y)))
passes_there f (k ∷ ls) (z ∷ zs) (suc i) l m x y h e p =
    (refl, passes_there f ls zs i l m x y (omega arith) (omega arith) p)
passes_there f ls fs i l m x y h e p = grind arith

pub passes-at : {F : Type 0} (f : F → Feed) (ls xs : List Lane) (fs : List F) (i : ℕ) (l m : Lane) (y z : F) → xs ≡ ls
    → y ≡ get_or fs i y → i < length ls → length ls ≡ length fs → PassesPart (part (get_or xs i l) (f y)) (part m (f z))
    → PassesAt (parts ls (map f fs)) i (parts (refill (length ls) ls (set xs i m)) (map f (set fs i z)))
passes-at f ls xs fs i l m y z a b h e =
    at-place f (λ k x ms gs. PassesPart (part k x) (part m (f z)) → PassesAt (parts ls (map f fs)) i (parts ms gs))
    ls xs fs i l m y z a b (passes_there f ls fs i l m y z h e)

turns_set : (ls : List Lane) (i : ℕ) (m : Lane) → AreSameBut (lane_turns ls) (lane_turns (set ls i m)) i
turns_set [] i m k other = refl
turns_set (l ∷ ls) zero m zero other = absurd (other refl)
turns_set (l ∷ ls) zero m (suc k) other = refl
turns_set (l ∷ ls) (suc i) m zero other = refl
turns_set (l ∷ ls) (suc i) m (suc k) other = turns_set ls i m k (λ e. other (ap suc e))

-- the turns of the other lanes stay
pub turns-at : (ls xs : List Lane) (i : ℕ) (m : Lane) → xs ≡ ls
    → AreSameBut (lane_turns ls) (lane_turns (refill (length ls) ls (set xs i m))) i
turns-at ls xs i m a =
    subst (λ (ms : List Lane). AreSameBut (lane_turns ls) (lane_turns ms) i) (sym (written ls xs i m a))
    (turns_set ls i m)
