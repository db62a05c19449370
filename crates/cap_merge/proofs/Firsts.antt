-- The calls that turn to the feed whose item comes first.
use Rattle.std.proofs.Common.{◌≡◌, ℕ, zero, suc, ◌+◌, ◌-◌, ◌<◌, ◌≤◌, Bool, true, false, cond, List, [], ◌∷◌, ◌++◌}
use Rattle.std.proofs.Common.{length, get_or, take, drop, refl, sym, ap, ◌∙◌, subst, arith, Option, Some, None}
use Rattle.std.specs.Prelude.{◌⊎◌, ◌||◌, ◌==◌, max, map, IsTrue, IfSome, is_some}
use Rattle.std.specs.List.{AllByRecursion, list_any, flat_map}
use Rattle.std.proofs.Math.Seq.{take-suc}
use Rattle.std.proofs.Math.Bool.{or-false}
use Rattle.std.proofs.lemmas.Bool.{true≢false}
use Rattle.std.proofs.lemmas.List.{map-append, take_all}
use Rattle.cap_time.specs.declared.stamps.Stamp.{Stamp}
use Rattle.cap_source.specs.declared.feeds.Head.{Head}
use Rattle.cap_source.specs.declared.feeds.Head.TheVariants as heads
use Rattle.cap_source.specs.declared.packets.Meta.{Meta}
use Rattle.cap_source.specs.declared.feeds.FileEnd.{FileEnd}
use Rattle.cap_source.specs.declared.feeds.FeedHeld.{FeedHeld}
use Rattle.cap_source.specs.Feed.{packet, refused, Feed, IsFeed, IsPacket, FeedKeeps, FeedPasses, HasFile}
use Rattle.cap_merge.specs.inner.Lists.{all-each}
use Rattle.cap_merge.specs.declared.lanes.Lane.{Lane}
use Rattle.cap_merge.specs.inner.First.{has_next, fresh_lane, lane_at, first_place}
use Rattle.cap_merge.specs.Parts.{Part, part, parts, turns, are_known, known_of, part_head, frame_by, clock_of}
use Rattle.cap_merge.specs.Parts.{first_part}
use Rattle.cap_merge.specs.Parts.{run_of, endings_of, feeds_held, both_held, has_file, merged_feed, ClocksFrom}
use Rattle.cap_merge.specs.Parts.{BeginsAt}
use Rattle.cap_merge.specs.Parts.{AreNumberedFeeds, HasReached, clock_by}
use Rattle.cap_merge.specs.inner.Merge.{IsPacketAt, PassesAt, PassesPart}
use Rattle.cap_merge.specs.inner.Clocks.{AtMost}
use Rattle.cap_merge.specs.inner.Leading.{Split, NoNext, IsFirstOf, first_is}
use Rattle.cap_merge.specs.inner.Sound.{IsSoundPart, AreFrom, sound-parts, lawful-each, numbered-from}
use Rattle.cap_merge.specs.inner.Coming.{IsReadyPart, leads_known, reached_known, run-first}
use Rattle.cap_merge.specs.inner.Lawful.{ready_all, at_first}
use Rattle.cap_merge.proofs.Calls.{told_all}
use Rattle.cap_merge.proofs.FromClock.{each-from, from-each}
use Rattle.cap_merge.proofs.Moving.{Each, each-itself, Kept, kept-itself}
use Rattle.cap_merge.proofs.Passing.{passes-first, passed-keeps, passed-sound, run-passed, clocks-first, clocks-passed}
use Rattle.cap_merge.proofs.Placing.{placed-split, none-placed}

known_parts : (ps : List Part) (b : Bool) → are_known ps ≡ b → (Holds : Option Head → Type 0) → (Holds None → ⊥)
    → Holds (cond b (part_head (first_part ps)) None)
    → (are_known ps ≡ true) × Holds (part_head (first_part ps))
known_parts ps b e Holds never h = grind arith

-- what is asked of what is known of all: then all are known, and it is what the first tells
pub known-holds : (ps : List Part) (Holds : Option Head → Type 0) → (Holds None → ⊥) → Holds (merged_feed ps).known
    → (are_known ps ≡ true) × Holds (part_head (first_part ps))
unfolding merged_feed known_of
known-holds ps Holds never h = known_parts ps (are_known ps) refl Holds never h

has_next-none : has_next None ≡ true → ⊥
has_next-none e = true≢false (sym e)

-- so all are known if a packet or an item comes next
pub known-packet : (ps : List Part) → IsPacket (merged_feed ps).known → are_known ps ≡ true
known-packet ps p = (known-holds ps IsPacket (λ never. never) p).0

pub known-next : (ps : List Part) → has_next (merged_feed ps).known ≡ true → are_known ps ≡ true
known-next ps h = (known-holds ps (λ w. has_next w ≡ true) has_next-none h).0

packet_head : (h : Option Head) → IsPacket h → (meta : Meta) × (h ≡ Some (heads.Packet meta))
packet_head None p = absurd p
packet_head (Some (heads.Packet meta)) p = (meta, refl)
packet_head (Some (heads.Refused refusal)) p = absurd p
packet_head (Some heads.End) p = absurd p

-- a packet is an item
pub packet-next : (h : Option Head) → IsPacket h → has_next h ≡ true
packet-next h p = grind arith

-- The packet that comes next of all is that of the first part.
pub packet-of-first : (ps : List Part) (first : Part) → Split ps first → IsPacket (merged_feed ps).known
    → (are_known ps ≡ true) × ((meta : Meta) × (first.lane.head ≡ Some (heads.Packet meta)))
packet-of-first ps first s p =
    let held = known-holds ps IsPacket (λ never. never) p in
    (held.0, packet_head first.lane.head (subst (λ (o : Option Part). IsPacket (part_head o)) s.is_first held.1))

pub no-packet : (ps : List Part) → first_part ps ≡ None → IsPacket (merged_feed ps).known → ⊥
no-packet ps n p = subst (λ (o : Option Part). IsPacket (part_head o)) n (known-holds ps IsPacket (λ never. never) p).1

frame_first : (ps : List Part) (first : Part) → Split ps first → (merged_feed ps).frame ≡ first.feed.frame
unfolding merged_feed
frame_first ps first s = ap frame_by s.is_first

pub split-of : {F : Type 0} (f : F → Feed) (ls : List Lane) (fs : List F) (place : ℕ) (x : F) → length ls ≡ length fs
    → first_place (turns (parts ls (map f fs))) ≡ Some place
    → Split (parts ls (map f fs)) (part (lane_at ls place) (f (get_or fs place x)))
split-of f ls fs place x e h = (placed-split f ls fs place fresh_lane x e h).0

head_known : (b : Bool) (k h : Option Head) → h ≡ cond b k None → IsPacket h → h ≡ k
head_known b k h e p = grind arith

known_first : (ps : List Part) (first : Part) → Split ps first → IsPacket (merged_feed ps).known
    → (merged_feed ps).known ≡ first.lane.head
unfolding merged_feed known_of
known_first ps first s p = rw (known-holds ps IsPacket (λ never. never) p).0 (ap part_head s.is_first)

-- The packet that comes next of all is that of the feed that comes first.
pub feed-known : {F : Type 0} (f : F → Feed) (ls : List Lane) (fs : List F) (place : ℕ) (x : F) → length ls ≡ length fs
    → first_place (turns (parts ls (map f fs))) ≡ Some place
    → IsPacket (merged_feed (parts ls (map f fs))).known
    → (merged_feed (parts ls (map f fs))).known ≡ (f (get_or fs place x)).known
feed-known f ls fs place x e s p =
    let first = part (lane_at ls place) (f (get_or fs place x)) in
    head_known (is_some (lane_at ls place).next) (f (get_or fs place x)).known (merged_feed (parts ls (map f fs))).known
    (known_first (parts ls (map f fs)) first (split-of f ls fs place x e s) p) p

pub frame-of : {F : Type 0} (f : F → Feed) (ls : List Lane) (fs : List F) (place : ℕ) (x : F) → length ls ≡ length fs
    → first_place (turns (parts ls (map f fs))) ≡ Some place
    → (f (get_or fs place x)).frame ≡ (merged_feed (parts ls (map f fs))).frame
frame-of f ls fs place x e s =
    sym (frame_first (parts ls (map f fs)) (part (lane_at ls place) (f (get_or fs place x)))
    (split-of f ls fs place x e s))

pub frame-none : {F : Type 0} (f : F → Feed) (ls : List Lane) (fs : List F)
    → first_place (turns (parts ls (map f fs))) ≡ None → [] ≡ (merged_feed (parts ls (map f fs))).frame
unfolding merged_feed
frame-none f ls fs h = sym (ap frame_by (none-placed (parts ls (map f fs)) h))

pub clocks-of-first : (ps : List Part) (first : Part) → Split ps first → has_next (merged_feed ps).known ≡ true
    → ClocksFrom first.lane.clock ps
clocks-of-first ps first s h = each-from first.lane.clock ps
    (clocks-first ps first s (known-holds ps (λ w. has_next w ≡ true) has_next-none h).0)

begins_by : (ps : List Part) (first : Part) (h : Option Head) → first.lane.head ≡ h → has_next h ≡ true
    → AllByRecursion IsReadyPart ps → Split ps first
    → BeginsAt first.lane.clock (run_of ps)
begins_by ps first None e n r s = absurd (true≢false (sym n))
begins_by ps first (Some (heads.Packet meta)) e n r s =
    let ready = at_first IsReadyPart ps first r s in
    let leads = leads_known first (heads.Packet meta) ready.sound ready.lawful e ready.told in
    subst (BeginsAt first.lane.clock)
    (sym (run-first ps first (packet meta first.feed.frame) r s leads
    (reached_known first (heads.Packet meta) ready.sound e))) refl
begins_by ps first (Some (heads.Refused refusal)) e n r s =
    let ready = at_first IsReadyPart ps first r s in
    let leads = leads_known first (heads.Refused refusal) ready.sound ready.lawful e ready.told in
    subst (BeginsAt first.lane.clock)
    (sym (run-first ps first (refused refusal) r s (leads ∙ sym (λ i. refused refusal ∷ drop 1 (leads i)))
    (reached_known first (heads.Refused refusal) ready.sound e))) refl
begins_by ps first (Some heads.End) e n r s = absurd (true≢false (sym n))

pub ready-parts : (ps : List Part) → AllByRecursion IsSoundPart ps → AllByRecursion (λ p. IsFeed p.feed) ps
    → are_known ps ≡ true → IsTrue (merged_feed ps).told → AllByRecursion IsReadyPart ps
ready-parts ps s f k t = ready_all ps s f (all-each (λ p. p.feed.told) ps (told_all ps t))
    (all-each (λ p. is_some p.lane.head) ps k)

pub begins-at : (ps : List Part) (first : Part) → Split ps first → has_next (merged_feed ps).known ≡ true
    → AllByRecursion IsSoundPart ps → AllByRecursion (λ p. IsFeed p.feed) ps
    → IsTrue (merged_feed ps).told → BeginsAt first.lane.clock (run_of ps)
begins-at ps first s h sound lawful t =
    begins_by ps first first.lane.head refl s.next
    (ready-parts ps sound lawful (known-holds ps (λ w. has_next w ≡ true) has_next-none h).0 t) s

pub no-next : {A : Type 0} (ps : List Part) → first_part ps ≡ None → has_next (merged_feed ps).known ≡ true → A
no-next ps n h = absurd
    (true≢false (sym (subst (λ (o : Option Part). has_next (part_head o) ≡ true) n
    (known-holds ps (λ w. has_next w ≡ true) has_next-none h).1)))

packet_at : (before after : List Part) (p : Part) → IsPacket p.feed.known
    → IsPacketAt (before ++ (p ∷ after)) (length before)
packet_at [] after p h = h
packet_at (b ∷ before) after p h = packet_at before after p h

pub packet-at : (ps : List Part) (first : Part) (place : ℕ) → (s : Split ps first) → length s.before ≡ place
    → IsPacket first.feed.known → IsPacketAt ps place
packet-at ps first place s e h =
    subst (λ (n : ℕ). IsPacketAt ps n) e (subst (λ (xs : List Part). IsPacketAt xs (length s.before)) (sym s.whole)
    (packet_at s.before s.after first h))

passed_at : (before after : List Part) (p : Part) (qs : List Part) → PassesAt (before ++ (p ∷ after)) (length before) qs
    → (q : Part) × PassesPart p q × (qs ≡ before ++ (q ∷ after))
passed_at [] after p [] h = absurd h
passed_at [] after p (q ∷ qs) h = (q, h.0, ap (λ xs. q ∷ xs) h.1)
passed_at (b ∷ before) after p [] h = absurd h
passed_at (b ∷ before) after p (q ∷ qs) h =
    let rest = passed_at before after p qs h.1 in
    (rest.0, rest.1, λ i. h.0 i ∷ rest.2 i)

-- what a pass does to the feeds as one
pub record Passed (ps qs : List Part) : Type 0 where
  pub passes : FeedPasses (merged_feed ps) (merged_feed qs)
  pub keeps : FeedKeeps (merged_feed ps) (merged_feed qs)
  pub run : IsTrue (merged_feed ps).told → run_of qs ≡ drop 1 (run_of ps)
  pub clocks : ClocksFrom (clock_of ps) qs
  pub sound : AllByRecursion IsSoundPart qs

clock_first : (ps : List Part) (first : Part) → Split ps first → clock_of ps ≡ first.lane.clock
unfolding clock_of
clock_first ps first s = ap clock_by s.is_first

pub clock-of-first : {F : Type 0} (f : F → Feed) (ls : List Lane) (fs : List F) (place : ℕ) → 1 ≤ length fs
    → length ls ≡ length fs → first_place (turns (parts ls (map f fs))) ≡ Some place
    → (lane_at ls place).clock ≡ clock_of (parts ls (map f fs))
clock-of-first f ls [] place n e s = absurd (omega arith)
clock-of-first f ls (x ∷ xs) place n e s = sym
    (clock_first (parts ls (map f (x ∷ xs))) (part (lane_at ls place) (f (get_or (x ∷ xs) place x)))
    (split-of f ls (x ∷ xs) place x e s))

passed_split : (before after : List Part) (p q : Part) (meta : Meta) → (s : Split (before ++ (p ∷ after)) p)
    → s.before ≡ before → s.after ≡ after
    → p.lane.head ≡ Some (heads.Packet meta) → are_known (before ++ (p ∷ after)) ≡ true → PassesPart p q
    → AllByRecursion IsSoundPart (before ++ (p ∷ after)) → AllByRecursion (λ x. IsFeed x.feed) (before ++ (p ∷ after))
    → AreFrom 1 (before ++ (p ∷ after))
    → Passed (before ++ (p ∷ after)) (before ++ (q ∷ after))
passed_split before after p q meta s b a e k h sound lawful from =
    record {
      passes = passes-first before after p q meta s b a e k h sound lawful from;
      keeps = passed-keeps before after p q h;
      run = λ t. sym (ap (drop 1) (run-passed (before ++ (p ∷ after)) before after p q meta
          (ready-parts (before ++ (p ∷ after)) sound lawful k t) s b a e h));
      clocks = subst (λ (w : Option Stamp). ClocksFrom w (before ++ (q ∷ after)))
          (sym (clock_first (before ++ (p ∷ after)) p s))
          (each-from p.lane.clock (before ++ (q ∷ after))
          (clocks-passed before after p q h (clocks-first (before ++ (p ∷ after)) p s k)));
      sound = passed-sound before after p q h sound;
    }

pub passed-first : (ps qs : List Part) (first : Part) (place : ℕ) → (s : Split ps first) → length s.before ≡ place
    → IsPacket (merged_feed ps).known → PassesAt ps place qs
    → AllByRecursion IsSoundPart ps → AllByRecursion (λ x. IsFeed x.feed) ps → AreFrom 1 ps → Passed ps qs
passed-first ps qs first place s e p h sound lawful from =
    let of = packet-of-first ps first s p in
    let there = subst (λ (xs : List Part). PassesAt xs (length s.before) qs) s.whole
    (subst (λ (n : ℕ). PassesAt ps n qs) (sym e) h) in
    let at = passed_at s.before s.after first qs there in
    subst (λ (xs : List Part). Passed xs qs) (sym s.whole)
    (subst (λ (ys : List Part). Passed (s.before ++ (first ∷ s.after)) ys) (sym at.2)
    (passed_split s.before s.after first at.0 of.1.0
    (record {
      before = s.before;
      after = s.after;
      whole = refl;
      place = subst (λ (xs : List Part). first_place (turns xs) ≡ Some (length s.before)) s.whole s.place;
      is_first = subst (λ (xs : List Part). first_part xs ≡ Some first) s.whole s.is_first;
      next = s.next;
      below = s.below;
      not_above = s.not_above;
    }) refl refl of.1.1
    (subst (λ (xs : List Part). are_known xs ≡ true) s.whole of.0) at.1
    (subst (λ (xs : List Part). AllByRecursion IsSoundPart xs) s.whole sound)
    (subst (λ (xs : List Part). AllByRecursion (λ x. IsFeed x.feed) xs) s.whole lawful)
    (subst (λ (xs : List Part). AreFrom 1 xs) s.whole from)))

-- if nothing comes next of all, each feed is at its end
ended : (ps : List Part) (o : Option Part) → IsFirstOf ps o → part_head o ≡ Some heads.End → NoNext ps
ended ps o s e = grind arith

end_known : (h k : Option Head) → is_some h ≡ true → has_next h ≡ false → IfSome h (λ head. k ≡ Some head)
    → k ≡ Some heads.End
end_known h k e n a = grind arith

ends_each : (ps : List Part) → AllByRecursion IsSoundPart ps → AllByRecursion (λ p. is_some p.lane.head ≡ true) ps
    → NoNext ps → AllByRecursion (λ p. p.feed.known ≡ Some heads.End) ps
ends_each [] s k n = tt
ends_each (p ∷ ps) s k n = grind (arith, end_known, ends_each ps s.1 k.1 n.1)

not_none : None ≡ Some heads.End → ⊥
not_none e = true≢false (sym (ap is_some e))

pub all-ended : (ps : List Part) → AllByRecursion IsSoundPart ps → (merged_feed ps).known ≡ Some heads.End
    → AllByRecursion (λ p. p.feed.known ≡ Some heads.End) ps
all-ended ps s e =
    let held = known-holds ps (λ w. w ≡ Some heads.End) not_none e in
    ends_each ps s (all-each (λ p. is_some p.lane.head) ps held.0) (ended ps (first_part ps) (first_is ps) held.1)

-- a file of one of the feeds is numbered by its place
pub record FileAt {F : Type 0} (f : F → Feed) (fs : List F) (n : ℕ) (file : ℕ) (endings : ℕ → FileEnd) : Type 0 where
  pub above : n ≤ file
  pub within : file < n + length fs
  pub known : (x : F) → (f (get_or fs (file - n) x)).known ≡ Some heads.End
  pub has : (x : F) → has_file (f (get_or fs (file - n) x)).files file ≡ true
  pub ends : (x : F) → endings file ≡ (f (get_or fs (file - n) x)).endings file

or_cases : (a b : Bool) → (a || b) ≡ true → (a ≡ false → b ≡ true)
or_cases a b e f = grind arith

any_parts : (test : ℕ → Bool) (xs ys : List ℕ) → list_any test (xs ++ ys) ≡ true → list_any test xs ≡ false
    → list_any test ys ≡ true
any_parts test [] ys e f = e
any_parts test (x ∷ xs) ys e f =
    let both = neither (test x) (list_any test xs) f in
    any_parts test xs ys (or_cases (test x) (list_any test (xs ++ ys)) e both.0) both.1
  where
    neither : (a b : Bool) → (a || b) ≡ false → (a ≡ false) × (b ≡ false)
    neither true b e = absurd (true≢false e)
    neither false b e = (refl, e)

file_by : {F : Type 0} (f : F → Feed) (n file : ℕ) (l : Lane) (ls : List Lane) (x : F) (xs : List F)
    → (f x).files ≡ n ∷ [] → (f x).known ≡ Some heads.End
    → (b : Bool) → has_file (f x).files file ≡ b → (b ≡ false
    → FileAt f xs (suc n) file (endings_of (parts ls (map f xs))))
    → FileAt f (x ∷ xs) n file (endings_of (parts (l ∷ ls) (map f (x ∷ xs))))
unfolding endings_of
file_by f n file l ls x xs e k true h rest = grind arith
file_by f n file l ls x xs e k false h rest =
    let there = rest refl in
    let above : suc n ≤ file = there.above in
    let next : file - n ≡ suc (file - suc n) = omega arith in
    record {
      above = omega arith;
      within = omega (arith, there.within);
      known = λ d. ap (λ i. (f (get_or (x ∷ xs) i d)).known) next ∙ there.known d;
      has = λ d. ap (λ i. has_file (f (get_or (x ∷ xs) i d)).files file) next ∙ there.has d;
      ends = λ d. ap (λ b. cond b ((f x).endings file) (endings_of (parts ls (map f xs)) file)) h ∙ there.ends d
          ∙ sym (ap (λ i. (f (get_or (x ∷ xs) i d)).endings file) next);
    }

pub file-at : {F : Type 0} (f : F → Feed) (n file : ℕ) (ls : List Lane) (fs : List F) → length ls ≡ length fs
    → AreFrom n (parts ls (map f fs))
    → AllByRecursion (λ p. p.feed.known ≡ Some heads.End) (parts ls (map f fs))
    → has_file (flat_map (λ p. p.feed.files) (parts ls (map f fs))) file ≡ true
    → FileAt f fs n file (endings_of (parts ls (map f fs)))
file-at f n file (y ∷ ls) (x ∷ xs) l a k h =
    file_by f n file y ls x xs a.0 k.0 (has_file (f x).files file) refl
    (λ other. file-at f (suc n) file ls xs (omega arith) a.1 k.1
    (any_parts (λ g. g == file) (f x).files (flat_map (λ p. p.feed.files) (parts ls (map f xs))) h other))
file-at f n file ls fs l a k h = grind (arith, true≢false)

files_of : (ps : List Part) (file : ℕ) → HasFile (merged_feed ps).files file
    → has_file (flat_map (λ p. p.feed.files) ps) file ≡ true
unfolding merged_feed
files_of ps file h = h

endings_are : (ps : List Part) (file : ℕ) → (merged_feed ps).endings file ≡ endings_of ps file
unfolding merged_feed
endings_are ps file = refl

-- A file of the feeds is that of the feed at its place, which is at its end.
pub ended-file : {F : Type 0} (f : F → Feed) (file : ℕ) (ls : List Lane) (fs : List F) → length ls ≡ length fs
    → AreFrom 1 (parts ls (map f fs))
    → HasReached (parts ls (map f fs)) → (merged_feed (parts ls (map f fs))).known ≡ Some heads.End
    → HasFile (merged_feed (parts ls (map f fs))).files file
    → FileAt f fs 1 file (λ n. (merged_feed (parts ls (map f fs))).endings n)
ended-file f file ls fs l a reached e h =
    subst (λ (r : ℕ → FileEnd). FileAt f fs 1 file r) (λ i n. sym (endings_are (parts ls (map f fs)) n) i)
    (file-at f 1 file ls fs l a (all-ended (parts ls (map f fs)) (sound-parts f ls fs reached) e)
    (files_of (parts ls (map f fs)) file h))

-- the greatest of what some feeds hold
abbrev pub held_all : List Feed → FeedHeld
held_all [] = record { window = 0; interfaces = 0; failed = false }
held_all (f ∷ fs) = both_held f.held (held_all fs)

pub held-parts : {F : Type 0} (f : F → Feed) (ls : List Lane) (fs : List F) → length ls ≡ length fs
    → feeds_held (parts ls (map f fs)) ≡ held_all (map f fs)
held-parts f [] [] l = refl
held-parts f [] (x ∷ xs) l = absurd (omega arith)
held-parts f (y ∷ ls) [] l = absurd (omega arith)
held-parts f (y ∷ ls) (x ∷ xs) l = ap (both_held (f x).held) (held-parts f ls xs (omega arith))

or-assoc : (a b c : Bool) → ((a || b) || c) ≡ (a || (b || c))
or-assoc a b c = grind arith

max-assoc : (a b c : ℕ) → max (max a b) c ≡ max a (max b c)
max-assoc a b c = omega arith

held-more : (fs : List Feed) (f : Feed) → held_all (fs ++ (f ∷ [])) ≡ both_held (held_all fs) f.held
held-more [] f =
    let window : max f.held.window 0 ≡ max 0 f.held.window = omega arith in
    let interfaces : max f.held.interfaces 0 ≡ max 0 f.held.interfaces = omega arith in
    λ i. record { window = window i; interfaces = interfaces i; failed = or-false f.held.failed i }
held-more (g ∷ fs) f =
    ap (both_held g.held) (held-more fs f)
    ∙ (λ i. record {
      window = sym (max-assoc g.held.window (held_all fs).window f.held.window) i;
      interfaces = sym (max-assoc g.held.interfaces (held_all fs).interfaces f.held.interfaces) i;
      failed = sym (or-assoc g.held.failed (held_all fs).failed f.held.failed) i;
    })

pub held-taken : {F : Type 0} (f : F → Feed) (fs : List F) (n : ℕ) (x : F) → n < length fs
    → held_all (map f (take (suc n) fs)) ≡ both_held (held_all (map f (take n fs))) (f (get_or fs n x)).held
held-taken f fs n x l =
    ap held_all (ap (map f) (take-suc fs n x l) ∙ map-append f (take n fs) (get_or fs n x ∷ []))
    ∙ held-more (map f (take n fs)) (f (get_or fs n x))

held_is : (ps : List Part) → (merged_feed ps).held ≡ feeds_held ps
unfolding merged_feed
held_is ps = refl

pub held-done : {F : Type 0} (f : F → Feed) (ls : List Lane) (fs : List F) (n : ℕ) (held : FeedHeld)
    → length ls ≡ length fs → length fs ≤ n
    → held ≡ held_all (map f (take n fs)) → held ≡ (merged_feed (parts ls (map f fs))).held
held-done f ls fs n held e l h =
    h ∙ ap (λ xs. held_all (map f xs)) (take_all n fs l) ∙ sym (held-parts f ls fs e)
    ∙ sym (held_is (parts ls (map f fs)))

pub clocks-of : {F : Type 0} (f : F → Feed) (ls : List Lane) (fs : List F) (place : ℕ) → 1 ≤ length fs
    → length ls ≡ length fs → first_place (turns (parts ls (map f fs))) ≡ Some place
    → has_next (merged_feed (parts ls (map f fs))).known ≡ true
    → ClocksFrom (lane_at ls place).clock (parts ls (map f fs))
clocks-of f ls [] place n e s h = absurd (omega arith)
clocks-of f ls (x ∷ xs) place n e s h =
    (clocks-of-first (parts ls (map f (x ∷ xs))) (part (lane_at ls place) (f (get_or (x ∷ xs) place x)))
    (split-of f ls (x ∷ xs) place x e s) h)

pub begins-of : {F : Type 0} (f : F → Feed) → ((x : F) → IsFeed (f x)) → (ls : List Lane) (fs : List F) (place : ℕ)
    → 1 ≤ length fs → length ls ≡ length fs → first_place (turns (parts ls (map f fs))) ≡ Some place
    → has_next (merged_feed (parts ls (map f fs))).known ≡ true → HasReached (parts ls (map f fs))
    → IsTrue (merged_feed (parts ls (map f fs))).told → BeginsAt (lane_at ls place).clock (run_of (parts ls (map f fs)))
begins-of f law ls [] place n e s h reached t = absurd (omega arith)
begins-of f law ls (x ∷ xs) place n e s h reached t =
    (begins-at (parts ls (map f (x ∷ xs))) (part (lane_at ls place) (f (get_or (x ∷ xs) place x)))
    (split-of f ls (x ∷ xs) place x e s) h
    (sound-parts f ls (x ∷ xs) reached) (lawful-each f law ls (x ∷ xs)) t)

pub packet-at-first : {F : Type 0} (f : F → Feed) (ls : List Lane) (fs : List F) (place : ℕ) → 1 ≤ length fs
    → length ls ≡ length fs → first_place (turns (parts ls (map f fs))) ≡ Some place
    → IsPacket (merged_feed (parts ls (map f fs))).known → IsPacketAt (parts ls (map f fs)) place
packet-at-first f ls [] place n e s p = absurd (omega arith)
packet-at-first f ls (x ∷ xs) place n e s p =
    let at = placed-split f ls (x ∷ xs) place fresh_lane x e s in
    packet-at (parts ls (map f (x ∷ xs))) (part (lane_at ls place) (f (get_or (x ∷ xs) place x))) place at.0 at.1
    (subst IsPacket (feed-known f ls (x ∷ xs) place x e s p) p)

pub passed-of : {F : Type 0} (f : F → Feed) → ((x : F) → IsFeed (f x))
    → (ls ms : List Lane) (fs ys : List F) (place : ℕ) → 1 ≤ length fs → length ls ≡ length fs
    → first_place (turns (parts ls (map f fs))) ≡ Some place
    → AreNumberedFeeds (map f fs) → HasReached (parts ls (map f fs))
    → IsPacket (merged_feed (parts ls (map f fs))).known
    → PassesAt (parts ls (map f fs)) place (parts ms (map f ys)) → Passed (parts ls (map f fs)) (parts ms (map f ys))
passed-of f law ls ms [] ys place n e s numbered reached p h = absurd (omega arith)
passed-of f law ls ms (x ∷ xs) ys place n e s numbered reached p h =
    let at = placed-split f ls (x ∷ xs) place fresh_lane x e s in
    passed-first (parts ls (map f (x ∷ xs))) (parts ms (map f ys))
    (part (lane_at ls place) (f (get_or (x ∷ xs) place x))) place at.0 at.1 p h
    (sound-parts f ls (x ∷ xs) reached) (lawful-each f law ls (x ∷ xs)) (numbered-from f ls (x ∷ xs) e numbered)

-- a pass keeps what each feed keeps
pub passes-each : (place : ℕ) (ps qs : List Part) → PassesAt ps place qs → Each Kept ps qs
passes-each zero (p ∷ ps) (q ∷ qs) h =
    (h.0.keeps, subst (λ (xs : List Part). Each Kept ps xs) (sym h.1) (each-itself Kept kept-itself ps))
passes-each (suc place) (p ∷ ps) (q ∷ qs) h =
    (subst (λ (w : Part). Kept p w) (sym h.0) (kept-itself p), passes-each place ps qs h.1)
passes-each place ps qs h = grind arith

pub known-there : {F : Type 0} (f : F → Feed) (ls : List Lane) (fs : List F) (place : ℕ) (x : F) → x ≡ get_or fs place x
    → length ls ≡ length fs
    → first_place (turns (parts ls (map f fs))) ≡ Some place → IsPacket (merged_feed (parts ls (map f fs))).known
    → (merged_feed (parts ls (map f fs))).known ≡ (f x).known
known-there f ls fs place x is e s p = feed-known f ls fs place x e s p ∙ sym (ap (λ w. (f w).known) is)

pub frame-here : {F : Type 0} (f : F → Feed) (ls : List Lane) (fs : List F) (place : ℕ) (x : F) → x ≡ get_or fs place x
    → length ls ≡ length fs → first_place (turns (parts ls (map f fs))) ≡ Some place
    → (f x).frame ≡ (merged_feed (parts ls (map f fs))).frame
frame-here f ls fs place x is e s = ap (λ w. (f w).frame) is ∙ frame-of f ls fs place x e s

pub known-here : {F : Type 0} (f : F → Feed) (fs : List F) (file : ℕ) (endings : ℕ → FileEnd) (x : F)
    → x ≡ get_or fs (file - 1) x
    → FileAt f fs 1 file endings → (f x).known ≡ Some heads.End
known-here f fs file endings x is at = ap (λ w. (f w).known) is ∙ at.known x

pub has-here : {F : Type 0} (f : F → Feed) (fs : List F) (file : ℕ) (endings : ℕ → FileEnd) (x : F)
    → x ≡ get_or fs (file - 1) x
    → FileAt f fs 1 file endings → HasFile (f x).files file
has-here f fs file endings x is at = ap (λ w. has_file (f w).files file) is ∙ at.has x

pub ends-here : {F : Type 0} (f : F → Feed) (fs : List F) (file : ℕ) (endings : ℕ → FileEnd) (x : F)
    → x ≡ get_or fs (file - 1) x
    → FileAt f fs 1 file endings → (f x).endings file ≡ endings file
ends-here f fs file endings x is at = ap (λ w. (f w).endings file) is ∙ sym (at.ends x)

pub held-here : {F : Type 0} (f : F → Feed) (fs : List F) (n : ℕ) (x : F) (held : FeedHeld) → x ≡ get_or fs n x
    → n < length fs
    → held ≡ held_all (map f (take n fs)) → both_held held (f x).held ≡ held_all (map f (take (suc n) fs))
held-here f fs n x held is l h = (λ i. both_held (h i) (f (is i)).held) ∙ sym (held-taken f fs n x l)

at_first_from : (clock : Option Stamp) (p : Part) → has_next p.lane.head ≡ true → (p.lane.head ≡ Some heads.End)
    ⊎ AtMost clock p.lane.clock → AtMost clock p.lane.clock
at_first_from clock p n h = grind arith

-- what isn't above the clocks of all items to come isn't above that of the first
pub not-below-first : {F : Type 0} (f : F → Feed) (ls : List Lane) (fs : List F) (place : ℕ) → 1 ≤ length fs
    → length ls ≡ length fs → first_place (turns (parts ls (map f fs))) ≡ Some place
    → (clock : Option Stamp) → ClocksFrom clock (parts ls (map f fs)) → AtMost clock (lane_at ls place).clock
not-below-first f ls [] place n e s clock h = absurd (omega arith)
not-below-first f ls (x ∷ xs) place n e s clock h =
    let split = split-of f ls (x ∷ xs) place x e s in
    let first = part (lane_at ls place) (f (get_or (x ∷ xs) place x)) in
    at_first_from clock first split.next
    (at_first (λ p. (p.lane.head ≡ Some heads.End) ⊎ AtMost clock p.lane.clock) (parts ls (map f (x ∷ xs))) first
    (from-each clock (parts ls (map f (x ∷ xs))) h) split)
