-- Asking the feed that was passed whether it has a packet at hand.
use Rattle.std.proofs.Common.{◌≡◌, ℕ, zero, suc, ◌<◌, Bool, true, false, List, ◌∷◌, length, get_or, refl, sym, ap, ◌∙◌}
use Rattle.std.proofs.Common.{subst, arith, inl, inr, Some, Result, Ok, Err}
use Rattle.std.specs.Prelude.{map, is_some, not, ◌&&◌, if◌then◌else◌}
use Rattle.std.specs.List.{AllByRecursion, list_all, refill}
use Rattle.std.specs.Ordering.{is_lt}
use Rattle.std.proofs.Math.ListN.{set}
use Rattle.std.proofs.lemmas.Bool.{true≢false, and_from}
use Rattle.cap_bytes.specs.declared.faults.Fault.{Fault}
use Rattle.cap_bytes.specs.declared.faults.Fault.TheVariants.{Refused, Read, Write, Memory}
use Rattle.cap_source.specs.declared.feeds.Head.TheVariants as heads
use Rattle.cap_source.specs.Feed.{Feed, IsFeed}
use Rattle.cap_merge.specs.declared.lanes.Lane.{Lane}
use Rattle.cap_time.specs.Clock.{clock_cmp}
use Rattle.cap_merge.specs.inner.First.{Turn, head_coming, has_next, first_place}
use Rattle.cap_merge.specs.inner.Lists.{and-both}
use Rattle.cap_merge.specs.Parts.{Part, LaneState, part, parts, known_but, known_time, is_bounded, known_of, HasReached}
use Rattle.cap_merge.specs.Parts.{AreBounded, IsFound, are_known, turn, turns, merged_feed}
use Rattle.cap_merge.specs.inner.Merge.{LearnsBy, LaneStops, LearnsAll, StopsAt, LooksAll, LaneShows, PeeksAt, ShowsAt}
use Rattle.cap_merge.specs.inner.Merge.{TellsNext}
use Rattle.cap_merge.specs.inner.Merge.{ShowsFirst}
use Rattle.cap_merge.specs.inner.Sound.{AreFrom}
use Rattle.cap_merge.proofs.Asking.{at-place}
use Rattle.cap_merge.proofs.Heads.{known_all, same_all, unknown_stops, never}
use Rattle.cap_merge.proofs.Looking.{Finds, finds-by, heads-known, heads-stopped, packet-comes, refusal-comes}
use Rattle.cap_merge.proofs.Looking.{end-comes}
use Rattle.cap_merge.proofs.Moving.{Each, each-itself, Kept, kept-itself}
use Rattle.cap_merge.proofs.Others.{asks-there}

peeks_there : {F : Type 0} (f : F → Feed) (ls : List Lane) (fs : List F) (i : ℕ) (l m : Lane) (x y : F) → i < length ls
    → length ls ≡ length fs
    → LaneShows (part (get_or ls i l) (f (get_or fs i x))) false (part m (f y))
    → PeeksAt (parts ls (map f fs)) i (parts (set ls i m) (map f (set fs i y)))
peeks_there f (k ∷ ls) (z ∷ zs) (suc i) l m x y h e p =
    (refl, peeks_there f ls zs i l m x y (omega arith) (omega arith) p)
peeks_there f ls fs i l m x y h e p = grind arith

-- one feed is asked, and the others are known
shows_there : {F : Type 0} (f : F → Feed) (ls : List Lane) (fs : List F) (i : ℕ) (l m : Lane) (x y : F) (b : Bool)
    → i < length ls → length ls ≡ length fs
    → known_but (parts ls (map f fs)) i ≡ true → LaneShows (part (get_or ls i l) (f (get_or fs i x))) b (part m (f y))
    → ShowsAt (parts ls (map f fs)) i b (parts (set ls i m) (map f (set fs i y)))
shows_there f ls fs i l m x y true h e k p =
    let r : Result Bool Fault = Ok true in
    asks-there f ls fs i l m x y r e k p
shows_there f ls fs i l m x y false h e k p = peeks_there f ls fs i l m x y h e p

pub shows-at : {F : Type 0} (f : F → Feed) (ls xs : List Lane) (fs : List F) (i : ℕ) (l m : Lane) (y z : F) (b : Bool)
    → xs ≡ ls → y ≡ get_or fs i y → i < length ls → length ls ≡ length fs
    → known_but (parts ls (map f fs)) i ≡ true → LaneShows (part (get_or xs i l) (f y)) b (part m (f z))
    → ShowsAt (parts ls (map f fs)) i b (parts (refill (length ls) ls (set xs i m)) (map f (set fs i z)))
shows-at f ls xs fs i l m y z b a d h e k =
    at-place f (λ w x ms gs. LaneShows (part w x) b (part m (f z)) → ShowsAt (parts ls (map f fs)) i b (parts ms gs))
    ls xs fs i l m y z a d (shows_there f ls fs i l m y z b h e k)

peeked_kept : (p q : Part) → LaneShows p false q → Kept p q
peeked_kept p q (inl e) = subst (Kept p) (sym e) (kept-itself p)
peeked_kept p q (inr h) = h.keeps

-- what every call keeps of each feed
pub peeked-kept : (place : ℕ) (ps qs : List Part) → PeeksAt ps place qs → Each Kept ps qs
peeked-kept zero (p ∷ ps) (q ∷ qs) h =
    (peeked_kept p q h.0, subst (λ (xs : List Part). Each Kept ps xs) (sym h.1) (each-itself Kept kept-itself ps))
peeked-kept (suc place) (p ∷ ps) (q ∷ qs) h =
    (subst (λ (w : Part). Kept p w) (sym h.0) (kept-itself p), peeked-kept place ps qs h.1)
peeked-kept place ps qs h = grind arith

peeked_lane : (p q : Part) → LaneShows p false q → q.lane ≡ p.lane
peeked_lane p q (inl e) = λ i. (e i).lane
peeked_lane p q (inr h) = h.lane

-- nothing is noted: what is true of all lanes stays so
lanes_kept : (test : LaneState → Bool) (place : ℕ) (ps qs : List Part) → PeeksAt ps place qs
    → list_all (λ q. test q.lane) qs ≡ list_all (λ p. test p.lane) ps
lanes_kept test zero (p ∷ ps) (q ∷ qs) h = λ i. test (peeked_lane p q h.0 i) && list_all (λ w. test w.lane) (h.1 i)
lanes_kept test (suc place) (p ∷ ps) (q ∷ qs) h = λ i. test ((h.0 i).lane) && lanes_kept test place ps qs h.1 i
lanes_kept test place ps qs h = grind arith

pub peeked-reached : (place : ℕ) (ps qs : List Part) → PeeksAt ps place qs → HasReached ps → HasReached qs
peeked-reached place ps qs h r =
    lanes_kept (λ lane. not (is_lt (clock_cmp lane.clock (known_time lane.head)))) place ps qs h ∙ r

pub peeked-bounded : (place : ℕ) (ps qs : List Part) → PeeksAt ps place qs → AreBounded ps → AreBounded qs
peeked-bounded place ps qs h b = lanes_kept (λ lane. is_bounded lane.clock) place ps qs h ∙ b

-- What is known of the other feeds stays so.
pub peeked-known : (place : ℕ) (ps qs : List Part) → PeeksAt ps place qs → known_but ps place ≡ true
    → known_but qs place ≡ true
peeked-known zero (p ∷ ps) (q ∷ qs) h k = ap are_known h.1 ∙ k
peeked-known (suc place) (p ∷ ps) (q ∷ qs) h k =
    let both = and-both (is_some p.lane.head) (known_but ps place) k in
    and_from (is_some q.lane.head) (known_but qs place) ((λ i. is_some ((h.0 i).lane.head)) ∙ both.0)
    (peeked-known place ps qs h.1 both.1)
peeked-known place ps qs h k = grind arith

abbrev turn_of : LaneState → Turn
turn_of lane = record { has_item = has_next lane.head; clock = lane.clock }

turns_kept : (place : ℕ) (ps qs : List Part) → PeeksAt ps place qs → turns qs ≡ turns ps
turns_kept zero (p ∷ ps) (q ∷ qs) h = λ i. turn_of (peeked_lane p q h.0 i) ∷ turns (h.1 i)
turns_kept (suc place) (p ∷ ps) (q ∷ qs) h = λ i. turn (h.0 i) ∷ turns_kept place ps qs h.1 i
turns_kept place ps qs h = grind arith

-- whose item came first still does, if it wasn't passed
pub peeked-found : (place : ℕ) (ps qs : List Part) → PeeksAt ps place qs → IsFound ps (Some place)
    → IsFound qs (Some place)
peeked-found place ps qs h f =
    (λ i. if lanes_kept (λ lane. is_some lane.head) place ps qs h i then first_place (turns_kept place ps qs h i)
    else Some place) ∙ f

-- What such a feed tells when it is asked what comes next, it would have told before.
learned_again : (p q x : Part) → LaneShows p false q → LearnsBy q.lane.head q x → LearnsBy p.lane.head p x
learned_again p q x (inl e) l = subst (λ (w : Part). LearnsBy w.lane.head w x) e l
learned_again p q x (inr h) l = grind arith

stopped_again : (p q x : Part) (fault : Fault) → LaneShows p false q → LaneStops q fault x → LaneStops p fault x
stopped_again p q x fault (inl e) s = subst (λ (w : Part). LaneStops w fault x) e s
stopped_again p q x fault (inr h) s = grind arith

peeked_learns : (place : ℕ) (ps qs rs : List Part) → PeeksAt ps place qs → LearnsAll qs rs → LearnsAll ps rs
peeked_learns zero (p ∷ ps) (q ∷ qs) (x ∷ rs) h l =
    (learned_again p q x h.0 l.0, subst (λ (xs : List Part). LearnsAll xs rs) h.1 l.1)
peeked_learns (suc place) (p ∷ ps) (q ∷ qs) (x ∷ rs) h l =
    (subst (λ (w : Part). LearnsBy w.lane.head w x) h.0 l.0, peeked_learns place ps qs rs h.1 l.1)
peeked_learns place ps qs rs h l = grind arith

never_stops : (p q : Part) (fault : Fault) → is_some p.lane.head ≡ true → LaneStops p fault q → ⊥
never_stops p q fault k s = grind arith

peeked_stops : (place : ℕ) (ps qs rs : List Part) (fault : Fault) → known_but ps place ≡ true → PeeksAt ps place qs
    → StopsAt fault qs rs → StopsAt fault ps rs
peeked_stops zero (p ∷ ps) (q ∷ qs) (x ∷ rs) fault k h (inl s) = inl (stopped_again p q x fault h.0 s.0, s.1 ∙ h.1)
peeked_stops zero (p ∷ ps) (q ∷ qs) (x ∷ rs) fault k h (inr s) =
    inr (learned_again p q x h.0 s.0, subst (λ (xs : List Part). StopsAt fault xs rs) h.1 s.1)
peeked_stops (suc place) (p ∷ ps) (q ∷ qs) (x ∷ rs) fault k h (inl s) =
    absurd (never_stops p x fault (and-both (is_some p.lane.head) (known_but ps place) k).0
    (subst (λ (w : Part). LaneStops w fault x) h.0 s.0))
peeked_stops (suc place) (p ∷ ps) (q ∷ qs) (x ∷ rs) fault k h (inr s) =
    inr (
      subst (λ (w : Part). LearnsBy w.lane.head w x) h.0 s.0,
      peeked_stops place ps qs rs fault (and-both (is_some p.lane.head) (known_but ps place) k).1 h.1 s.1,
    )
peeked_stops place ps qs rs fault k h s = grind arith

-- So it is with all feeds.
pub peeked-looks : (place : ℕ) (ps qs rs : List Part) (r : Result Bool Fault) → known_but ps place ≡ true
    → PeeksAt ps place qs → LooksAll qs r rs → LooksAll ps r rs
peeked-looks place ps qs rs (Ok b) k h l = peeked_learns place ps qs rs h l
peeked-looks place ps qs rs (Err (Refused refusal)) k h l = peeked_learns place ps qs rs h l
peeked-looks place ps qs rs (Err (Read file offset)) k h l = peeked_stops place ps qs rs (Read file offset) k h l
peeked-looks place ps qs rs (Err Write) k h l = l
peeked-looks place ps qs rs (Err Memory) k h l = peeked_stops place ps qs rs Memory k h l

-- once all have told what comes next, asking again changes nothing
learned_stops : (ps qs rs : List Part) (fault : Fault) → LearnsAll ps qs → StopsAt fault qs rs → ⊥
learned_stops ps qs rs fault l s = true≢false (sym (known_all ps qs l) ∙ (unknown_stops fault qs rs s).0)

learned_looks : (ps qs rs : List Part) (r : Result Bool Fault) → LearnsAll ps qs → LooksAll qs r rs → LooksAll ps r rs
learned_looks ps qs rs (Ok b) l h = subst (LearnsAll ps) (sym (same_all qs rs (known_all ps qs l) h)) l
learned_looks ps qs rs (Err (Refused refusal)) l h = subst (LearnsAll ps) (sym (same_all qs rs (known_all ps qs l) h)) l
learned_looks ps qs rs (Err (Read file offset)) l h = absurd (learned_stops ps qs rs (Read file offset) l h)
learned_looks ps qs rs (Err Write) l h = h
learned_looks ps qs rs (Err Memory) l h = absurd (learned_stops ps qs rs Memory l h)

-- whether what comes first of all is a packet that is at hand
pub shows-first : (ps qs : List Part) (b : Bool) → LearnsAll ps qs
    → (b ≡ true → head_coming (known_of qs) ≡ Some (Ok true)) → ShowsFirst ps b qs
unfolding merged_feed
shows-first ps qs true l f = (l, f refl)
shows-first ps qs false l f = λ r rs h. learned_looks ps qs rs r l h

-- a feed that can't tell
abbrev faulted : Fault → Result Bool Fault
faulted fault = Err fault

pub stopped-looks : (ps qs : List Part) (fault : Fault) → StopsAt fault ps qs → LooksAll ps (faulted fault) qs
    × TellsNext (merged_feed qs).known (faulted fault)
stopped-looks ps qs (Refused refusal) s = absurd (never ps qs (Refused refusal) (λ p q h. h.gives) s)
stopped-looks ps qs (Read file offset) s = (s, tt)
stopped-looks ps qs Write s = absurd (never ps qs Write (λ p q h. h.gives) s)
stopped-looks ps qs Memory s = (s, tt)

-- what `peek` answers, by what was asked and what comes next
pub finds-all : (ps qs : List Part) (r : Result Bool Fault) → AreFrom 1 ps → LooksAll ps r qs
    → TellsNext (merged_feed qs).known r → AllByRecursion (λ q. IsFeed q.feed) qs
    → Finds ps r qs
finds-all ps qs (Ok true) a l e f =
    let known = packet-comes (merged_feed qs).known e in
    finds-by ps qs (Ok (heads.Packet known.0)) (heads-known ps qs (heads.Packet known.0) l known.1 f)
finds-all ps qs (Ok false) a l e f = finds-by ps qs (Ok heads.End)
    (heads-known ps qs heads.End l (end-comes (merged_feed qs).known e) f)
finds-all ps qs (Err (Refused refusal)) a l e f =
    finds-by ps qs (Ok (heads.Refused refusal)) (heads-known ps qs (heads.Refused refusal) l
    (refusal-comes (merged_feed qs).known refusal e) f)
finds-all ps qs (Err (Read file offset)) a l e f =
    finds-by ps qs (Err (Read file offset)) (heads-stopped ps qs (Read file offset) a l f)
finds-all ps qs (Err Write) a l e f = absurd l
finds-all ps qs (Err Memory) a l e f = finds-by ps qs (Err Memory) (heads-stopped ps qs Memory a l f)
