-- The packet that comes first of all is passed.
use Rattle.std.proofs.Common.{◌≡◌, ℕ, ◌<◌, Bool, true, false, cond, List, [], ◌∷◌, ◌++◌, drop, refl, sym, ap, ◌∙◌}
use Rattle.std.proofs.Common.{subst, arith, inr, Option, Some, None, Less}
use Rattle.std.specs.Prelude.{◌||◌, ◌⊎◌, map, max, IfSome, is_some}
use Rattle.std.specs.List.{AllByRecursion, list_all, list_any}
use Rattle.std.specs.Ordering.{is_lt, is_gt}
use Rattle.std.proofs.lemmas.List.{map-append}
use Rattle.cap_time.specs.declared.stamps.Stamp.{Stamp}
use Rattle.cap_source.specs.declared.feeds.Head.{Head}
use Rattle.cap_source.specs.declared.feeds.Head.TheVariants as heads
use Rattle.cap_source.specs.declared.packets.Meta.{Meta}
use Rattle.cap_source.specs.Feed.{packet, IsFeed, FeedKeeps, FeedPasses, IfPacket}
use Rattle.cap_merge.specs.inner.Lists.{All-both, all-back, all-each, and-none}
use Rattle.cap_time.specs.Clock.{clock_cmp}
use Rattle.cap_merge.specs.Run.{run}
use Rattle.cap_merge.specs.inner.First.{has_next}
use Rattle.cap_merge.specs.Parts.{Part, LaneState, item_time, is_refusal, has_file, are_known, known_of, part_head}
use Rattle.cap_merge.specs.Parts.{first_part, tracks, run_of, endings_of, places_of, left_of, most_of, feeds_held}
use Rattle.cap_merge.specs.Parts.{merged_feed}
use Rattle.cap_merge.specs.inner.Merge.{PassesPart}
use Rattle.cap_merge.specs.inner.Clocks.{AtMost, at_most-itself}
use Rattle.cap_merge.specs.inner.Leading.{Split}
use Rattle.cap_merge.specs.inner.Sound.{IsSoundPart, AreFrom}
use Rattle.cap_merge.specs.inner.Coming.{IsReadyPart, leads_known, reached_known, run-first, run_behind}
use Rattle.cap_merge.specs.inner.Lawful.{ready_all, at_first, places_at, packet_known}
use Rattle.cap_merge.proofs.Breaking.{passed-whole}
use Rattle.cap_merge.proofs.FromClock.{EachFrom}
use Rattle.cap_merge.proofs.Moving.{Each, each-itself, Kept, kept-itself, keeps-each, from-each, sound-all}

each_at : (R : Part → Part → Type 0) → ((p : Part) → R p p) → (before after : List Part) (p q : Part) → R p q
    → Each R (before ++ (p ∷ after)) (before ++ (q ∷ after))
each_at R f [] after p q h = (h, each-itself R f after)
each_at R f (x ∷ before) after p q h = (f x, each_at R f before after p q h)

pub passed-keeps : (before after : List Part) (p q : Part) → PassesPart p q
    → FeedKeeps (merged_feed (before ++ (p ∷ after))) (merged_feed (before ++ (q ∷ after)))
passed-keeps before after p q h = keeps-each (before ++ (p ∷ after)) (before ++ (q ∷ after))
    (each_at Kept kept-itself before after p q h.keeps)

no_time : (a : Option Stamp) → is_lt (clock_cmp a None) ≡ false
no_time a = grind arith

unknown_sound : (p q : Part) → PassesPart p q → IsSoundPart q
unknown_sound p q h =
    subst (λ (w : LaneState). IsSoundPart (record { lane = w; feed = q.feed })) (sym h.lane)
    (record { agrees = tt; reached = no_time p.lane.clock })

pub passed-sound : (before after : List Part) (p q : Part) → PassesPart p q
    → AllByRecursion IsSoundPart (before ++ (p ∷ after)) → AllByRecursion IsSoundPart (before ++ (q ∷ after))
passed-sound before after p q h s =
    sound-all (before ++ (p ∷ after)) (before ++ (q ∷ after))
    (each_at (λ x y. IsSoundPart x → IsSoundPart y) (λ x k. k) before after p q (λ _. unknown_sound p q h)) s

unknown_at : (before after : List Part) (q : Part) → is_some q.lane.head ≡ false
    → are_known (before ++ (q ∷ after)) ≡ false
unknown_at [] after q e = rw e refl
unknown_at (x ∷ before) after q e = and-none (is_some x.lane.head) (are_known (before ++ (q ∷ after)))
    (unknown_at before after q e)

most_same : (number : Part → ℕ) (before after : List Part) (p q : Part) → number q ≡ number p
    → most_of number (before ++ (q ∷ after)) ≡ most_of number (before ++ (p ∷ after))
most_same number [] after p q e = ap (λ n. max n (most_of number after)) e
most_same number (x ∷ before) after p q e = ap (max (number x)) (most_same number before after p q e)

any_same : (test : Part → Bool) (before after : List Part) (p q : Part) → test q ≡ test p
    → list_any test (before ++ (q ∷ after)) ≡ list_any test (before ++ (p ∷ after))
any_same test [] after p q e = ap (λ b. b || list_any test after) e
any_same test (x ∷ before) after p q e = ap (λ b. test x || b) (any_same test before after p q e)

held_same : (before after : List Part) (p q : Part) → q.feed.held ≡ p.feed.held
    → feeds_held (before ++ (q ∷ after)) ≡ feeds_held (before ++ (p ∷ after))
held_same before after p q e = λ i. record {
  window = most_same (λ x. x.feed.held.window) before after p q (ap (λ h. h.window) e) i;
  interfaces = most_same (λ x. x.feed.held.interfaces) before after p q (ap (λ h. h.interfaces) e) i;
  failed = any_same (λ x. x.feed.held.failed) before after p q (ap (λ h. h.failed) e) i;
}

left_less : (before after : List Part) (p q : Part) → q.feed.left < p.feed.left
    → left_of (before ++ (q ∷ after)) < left_of (before ++ (p ∷ after))
left_less [] after p q l = omega arith
left_less (x ∷ before) after p q l = omega (arith, left_less before after p q l)

told_at : (before after : List Part) (p : Part) → list_all (λ x. x.feed.told) (before ++ (p ∷ after)) ≡ true
    → p.feed.told ≡ true
told_at before after p t =
    (all-back (λ x. x.feed.told ≡ true) before (p ∷ after) (all-each (λ x. x.feed.told) (before ++ (p ∷ after)) t)).0

endings_same : (before after : List Part) (p q : Part) (file : ℕ) → q.feed.files ≡ p.feed.files
    → q.feed.endings file ≡ p.feed.endings file
    → endings_of (before ++ (q ∷ after)) file ≡ endings_of (before ++ (p ∷ after)) file
unfolding endings_of
endings_same [] after p q file f e = λ i. cond (has_file (f i) file) (e i) (endings_of after file)
endings_same (x ∷ before) after p q file f e =
    ap (λ r. cond (has_file x.feed.files file) (x.feed.endings file) r) (endings_same before after p q file f e)

-- the run goes on after its first item
run_on : (before after : List Part) (p q : Part) → q.lane.clock ≡ p.lane.clock → q.feed.items ≡ drop 1 p.feed.items
    → run_of (before ++ (q ∷ after)) ≡ run_behind before p after
unfolding run_of run_behind
run_on before after p q c e =
    ap (run item_time is_refusal) (map-append (λ x. record { clock = x.lane.clock; items = x.feed.items }) before
    (q ∷ after))
    ∙ (λ i. run item_time is_refusal (tracks before ++ (record { clock = c i; items = e i } ∷ tracks after)))

pub run-passed : (ps before after : List Part) (p q : Part) (meta : Meta) → AllByRecursion IsReadyPart ps
    → (s : Split ps p)
    → s.before ≡ before → s.after ≡ after
    → p.lane.head ≡ Some (heads.Packet meta) → PassesPart p q
    → run_of ps ≡ record { clock = p.lane.clock; item = packet meta p.feed.frame } ∷ run_of (before ++ (q ∷ after))
run-passed ps before after p q meta r s b a e h =
    let ready = at_first IsReadyPart ps p r s in
    let leads = leads_known p (heads.Packet meta) ready.sound ready.lawful e ready.told in
    run-first ps p (packet meta p.feed.frame) r s leads (reached_known p (heads.Packet meta) ready.sound e)
    ∙ ap (λ r. record { clock = p.lane.clock; item = packet meta p.feed.frame } ∷ r)
    ((λ i. run_behind (b i) p (a i))
    ∙ sym (run_on before after p q (ap (λ w. w.clock) h.lane) (h.passes.items ready.told)))

known_is : (ps : List Part) (p : Part) (b : Bool) → are_known ps ≡ b → first_part ps ≡ Some p → b ≡ true
    → known_of ps ≡ p.lane.head
unfolding known_of
known_is ps p b e f h = grind arith

place_passed : (before after : List Part) (p q : Part) (meta : Meta) → p.lane.head ≡ Some (heads.Packet meta)
    → IsSoundPart p → IsFeed p.feed → PassesPart p q
    → AreFrom 1 (before ++ (q ∷ after)) → meta.offset < places_of (before ++ (q ∷ after)) meta.file
place_passed before after p q meta e s f h a =
    let own = packet_known p meta s f e in
    let known : p.feed.known ≡ Some (heads.Packet meta) =
    subst (λ (w : Option Head). IfSome w (λ head. p.feed.known ≡ Some head)) e s.agrees in
    let behind : meta.offset < q.feed.places meta.file =
    subst (λ (w : Option Head). IfPacket w (λ m. m.offset < q.feed.places m.file)) known h.passes.place in
    let files : has_file q.feed.files meta.file ≡ true = ap (λ fs. has_file fs meta.file) h.keeps.files ∙ own.file in
    subst (λ (n : ℕ). meta.offset < n) (sym (places_at 1 before after q meta.file a files)) behind

items_passed : (before after : List Part) (p q : Part) (meta : Meta) → (s : Split (before ++ (p ∷ after)) p)
    → s.before ≡ before → s.after ≡ after
    → p.lane.head ≡ Some (heads.Packet meta) → PassesPart p q
    → AllByRecursion IsReadyPart (before ++ (p ∷ after))
    → map (λ y. y.item) (run_of (before ++ (q ∷ after))) ≡ drop 1 (map (λ y. y.item) (run_of (before ++ (p ∷ after))))
items_passed before after p q meta s b a e h r =
    sym (ap (λ ys. drop 1 (map (λ y. y.item) ys)) (run-passed
    (before ++ (p ∷ after)) before after p q meta r s b a e h))

-- what is passed of the feeds as one
pub passes-first : (before after : List Part) (p q : Part) (meta : Meta) → (s : Split (before ++ (p ∷ after)) p)
    → s.before ≡ before → s.after ≡ after
    → p.lane.head ≡ Some (heads.Packet meta) → are_known (before ++ (p ∷ after)) ≡ true → PassesPart p q
    → AllByRecursion IsSoundPart (before ++ (p ∷ after)) → AllByRecursion (λ x. IsFeed x.feed) (before ++ (p ∷ after))
    → AreFrom 1 (before ++ (p ∷ after))
    → FeedPasses (merged_feed (before ++ (p ∷ after))) (merged_feed (before ++ (q ∷ after)))
unfolding merged_feed known_of
passes-first before after p q meta s b a e k h sound lawful from =
    let own_sound = at_first IsSoundPart (before ++ (p ∷ after)) p sound s in
    let own_lawful = at_first (λ x. IsFeed x.feed) (before ++ (p ∷ after)) p lawful s in
    let kept = each_at Kept kept-itself before after p q h.keeps in
    record {
      known = ap (λ b. cond b (part_head (first_part (before ++ (q ∷ after)))) None)
          (unknown_at before after q (ap (λ w. is_some w.head) h.lane));
      broken = passed-whole before after p q k (ap (λ w. w.head) h.lane) h.passes.broken;
      held = held_same before after p q h.passes.held;
      left = left_less before after p q h.passes.left;
      place = subst (λ (w : Option Head). IfPacket w (λ m. m.offset < places_of (before ++ (q ∷ after)) m.file))
          (sym (known_is (before ++ (p ∷ after)) p (are_known (before ++ (p ∷ after))) refl s.is_first k ∙ e))
          (place_passed before after p q meta e own_sound own_lawful h
          (from-each 1 (before ++ (p ∷ after)) (before ++ (q ∷ after)) kept from));
      items = λ t. items_passed before after p q meta s b a e h
          (ready_all (before ++ (p ∷ after)) sound lawful (all-each (λ x. x.feed.told) (before ++ (p ∷ after)) t)
          (all-each (λ x. is_some x.lane.head) (before ++ (p ∷ after)) k));
      endings = λ t file. endings_same before after p q file h.keeps.files
          (h.passes.endings (told_at before after p t) file);
    }

clock_from : (clock : Option Stamp) (x : Part) (o : Option Head) → x.lane.head ≡ o → is_some o ≡ true
    → (has_next o ≡ true → AtMost clock x.lane.clock)
    → (x.lane.head ≡ Some heads.End) ⊎ AtMost clock x.lane.clock
clock_from clock x o e k f = grind arith

clocks_from : (clock : Option Stamp) (xs : List Part) → AllByRecursion (λ x. is_some x.lane.head ≡ true) xs
    → AllByRecursion (λ x. has_next x.lane.head ≡ true → AtMost clock x.lane.clock) xs → EachFrom clock xs
clocks_from clock [] k f = tt
clocks_from clock (x ∷ xs) k f = (clock_from clock x x.lane.head refl k.0 f.0, clocks_from clock xs k.1 f.1)

less_all : (clock : Option Stamp) (xs : List Part)
    → AllByRecursion (λ x. has_next x.lane.head ≡ true → clock_cmp clock x.lane.clock ≡ Less) xs
    → AllByRecursion (λ x. has_next x.lane.head ≡ true → AtMost clock x.lane.clock) xs
less_all clock [] f = tt
less_all clock (x ∷ xs) f = (λ yes. ap is_gt (f.0 yes), less_all clock xs f.1)

-- All that is to come isn't below the clock of the first.
pub clocks-first : (ps : List Part) (p : Part) → Split ps p → are_known ps ≡ true → EachFrom p.lane.clock ps
clocks-first ps p s k =
    let known = subst (λ (xs : List Part). AllByRecursion (λ x. is_some x.lane.head ≡ true) xs) s.whole
    (all-each (λ x. is_some x.lane.head) ps k) in
    subst (λ (xs : List Part). EachFrom p.lane.clock xs) (sym s.whole)
    (clocks_from p.lane.clock (s.before ++ (p ∷ s.after)) known
    (All-both (λ x. has_next x.lane.head ≡ true → AtMost p.lane.clock x.lane.clock) s.before (p ∷ s.after)
    (less_all p.lane.clock s.before s.below) (λ yes. at_most-itself p.lane.clock, s.not_above)))

pub clocks-passed : (before after : List Part) (p q : Part) → PassesPart p q
    → EachFrom p.lane.clock (before ++ (p ∷ after)) → EachFrom p.lane.clock (before ++ (q ∷ after))
clocks-passed [] after p q h f =
    (inr (subst (λ (w : LaneState). AtMost p.lane.clock w.clock) (sym h.lane) (at_most-itself p.lane.clock)), f.1)
clocks-passed (x ∷ before) after p q h f = (f.0, clocks-passed before after p q h f.1)
