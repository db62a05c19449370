-- Merging in rounds: files are merged in neighbouring groups, and then what came of the groups.
use Rattle.std.proofs.Common.{◌≡◌, ℕ, zero, suc, ◌≤◌, List, [], ◌∷◌, ◌++◌, refl, sym, ap, ◌∙◌, subst, arith, inl, inr}
use Rattle.std.proofs.Common.{append_assoc, append-nil, Less, Equal, Option, None}
use Rattle.std.specs.Prelude.{map, ◌⊎◌}
use Rattle.std.specs.List.{AllByRecursion}
use Rattle.std.specs.Ordering.{is_gt}
use Rattle.std.proofs.lemmas.List.{map-append}
use Rattle.cap_time.specs.declared.stamps.Stamp.{Stamp}
use Rattle.cap_merge.specs.inner.Lists.{All-both, all-back, all-front, map-twice}
use Rattle.cap_time.specs.Clock.{clock_cmp, later}
use Rattle.cap_merge.specs.Run.{Clocked, Track, opened_track, in_order, placed_cmp, Placed, clocked_of, placed_from}
use Rattle.cap_merge.specs.Run.{placed_all, merged, HeadClock, IsFirst}
use Rattle.cap_merge.specs.inner.Clocks.{clock_total, AtMost, at_most-both, at_most-trans, below-at_most}
use Rattle.cap_merge.specs.inner.Ordered.{order-mapped}
use Rattle.cap_merge.specs.inner.MergedList.{passed, merged-next, merged-none}
use Rattle.cap_merge.proofs.RunLaws.{Next, next-of, total, total_less, IsBetween, first_told, between_next}
use Rattle.cap_merge.proofs.RunLaws.{opened_between, heads-implied}

-- the items of a track, mapped
abbrev pub map_track : {A B : Type 0} → (A → B) → Track A → Track B
map_track f t = record { clock = t.clock; items = map f t.items }

abbrev pub map_clocked : {A B : Type 0} → (A → B) → Clocked A → Clocked B
map_clocked f x = record { clock = x.clock; item = f x.item }

map_placed : {A B : Type 0} → (A → B) → Placed A → Placed B
map_placed f x = record { clock = x.clock; file = x.file; place = x.place; item = f x.item }

placed_mapped : {A B : Type 0} (time : A → Option Stamp) (other : B → Option Stamp) (f : A → B)
    → ((x : A) → other (f x) ≡ time x) → (file place : ℕ) (clock : Option Stamp) (xs : List A)
    → placed_from other file place clock (map f xs) ≡ map (map_placed f) (placed_from time file place clock xs)
unfolding map_placed
placed_mapped time other f same file place clock [] = refl
placed_mapped time other f same file place clock (x ∷ xs) =
    grind (arith, placed_mapped time other f same file (suc place) (later clock (time x)) xs)

all_mapped : {A B : Type 0} (time : A → Option Stamp) (other : B → Option Stamp) (f : A → B)
    → ((x : A) → other (f x) ≡ time x) → (file : ℕ) (ts : List (Track A))
    → placed_all other file (map (map_track f) ts) ≡ map (map_placed f) (placed_all time file ts)
all_mapped time other f same file [] = refl
all_mapped time other f same file (t ∷ ts) = grind
    (arith, all_mapped time other f same (suc file) ts, placed_mapped, map-append, map_placed)

-- A map that keeps the times commutes with merging.
pub merged-mapped : {A B : Type 0} (time : A → Option Stamp) (other : B → Option Stamp) (f : A → B)
    → ((x : A) → other (f x) ≡ time x) → (ts : List (Track A))
    → merged other (map (map_track f) ts) ≡ map (map_clocked f) (merged time ts)
unfolding map_placed
merged-mapped time other f same ts =
    ap (λ all. map clocked_of (in_order placed_cmp all)) (all_mapped time other f same 1 ts)
    ∙ ap (map clocked_of) (order-mapped placed_cmp placed_cmp (map_placed f) (λ x y. refl) (placed_all time 1 ts))
    ∙ map-twice clocked_of (map_placed f) (in_order placed_cmp (placed_all time 1 ts))
    ∙ sym (map-twice (map_clocked f) clocked_of (in_order placed_cmp (placed_all time 1 ts)))

-- Files that are merged to one: the greatest time of what has come of them, and each of them at the moment.
pub record Group (A : Type 0) : Type 0 where
  pub now : Option Stamp
  pub tracks : List (Track A)

-- what comes of a group, as a file of its own
abbrev pub track_of : {A : Type 0} → (A → Option Stamp) → Group A → Track A
track_of time g = record { clock = g.now; items = map (λ x. x.item) (merged time g.tracks) }

-- the files of all groups
abbrev pub files_of : {A : Type 0} → List (Group A) → List (Track A)
files_of [] = []
files_of (g ∷ gs) = g.tracks ++ files_of gs

-- one file of one of the groups, with what stands before and after it
pub record Within {A : Type 0} (gs : List (Group A)) (before : List (Track A)) (t : Track A)
    (after : List (Track A)) : Type 0 where
  pub front : List (Group A)
  pub group : Group A
  pub back : List (Group A)
  pub left : List (Track A)
  pub right : List (Track A)
  pub groups : gs ≡ front ++ (group ∷ back)
  pub tracks : group.tracks ≡ left ++ (t ∷ right)
  pub before_is : before ≡ files_of front ++ left
  pub after_is : after ≡ right ++ files_of back

files-both : {A : Type 0} (gs hs : List (Group A)) → files_of (gs ++ hs) ≡ files_of gs ++ files_of hs
files-both [] hs = refl
files-both (g ∷ gs) hs = ap (λ ts. g.tracks ++ ts) (files-both gs hs)
    ∙ sym (append_assoc g.tracks (files_of gs) (files_of hs))

-- the files that a list begins with, and the rest
within_by : {A : Type 0} (now : Option Stamp) (done rest : List (Track A)) (gs : List (Group A))
    (before : List (Track A)) (t : Track A) (after : List (Track A))
    → ((b : List (Track A)) → files_of gs ≡ b ++ (t ∷ after) → Within gs b t after)
    → rest ++ files_of gs ≡ before ++ (t ∷ after)
    → Within (record { now = now; tracks = done ++ rest } ∷ gs) (done ++ before) t after
within_by now done [] gs before t after deeper e =
    let w = deeper before e in
    record {
      front = record { now = now; tracks = done ++ [] } ∷ w.front;
      group = w.group;
      back = w.back;
      left = w.left;
      right = w.right;
      groups = ap (λ hs. record { now = now; tracks = done ++ [] } ∷ hs) w.groups;
      tracks = w.tracks;
      before_is = ap (λ ts. done ++ ts) w.before_is ∙ sym (append_assoc done (files_of w.front) w.left)
          ∙ (λ i. (sym (append-nil done) i ++ files_of w.front) ++ w.left);
      after_is = w.after_is;
    }
within_by now done (s ∷ rest) gs [] t after deeper e =
    let same : s ≡ t = cc in
    let behind : rest ++ files_of gs ≡ after = cc in
    record {
      front = [];
      group = record { now = now; tracks = done ++ (s ∷ rest) };
      back = gs;
      left = done;
      right = rest;
      groups = refl;
      tracks = ap (λ w. done ++ (w ∷ rest)) same;
      before_is = append-nil done;
      after_is = sym behind;
    }
within_by now done (s ∷ rest) gs (b ∷ before) t after deeper e =
    grind (arith, within_by now (done ++ (s ∷ [])) rest gs before t after deeper, files_of, append_assoc)

within : {A : Type 0} (gs : List (Group A)) (before : List (Track A)) (t : Track A) (after : List (Track A))
    → files_of gs ≡ before ++ (t ∷ after) → Within gs before t after
within [] [] t after e = absurd (cc)
within [] (b ∷ before) t after e = absurd (cc)
within (g ∷ gs) before t after e = within_by g.now [] g.tracks gs before t after (λ b h. within gs b t after h) e

-- each group's own time stands between what its files have reached and what they go on with
abbrev pub AreBetween : {A : Type 0} → (A → Option Stamp) → List (Group A) → Type 0
AreBetween time gs = AllByRecursion (λ g. IsBetween time g.now g.tracks) gs

-- what is true of the clocks of the files' next items is true of that of the group's, if it is true of equal clocks
head_of_group : {A : Type 0} (time : A → Option Stamp) (P : Option Stamp → Type 0)
    → ((a b : Option Stamp) → clock_cmp a b ≡ Equal → P a → P b)
    → (now : Option Stamp) (ts : List (Track A)) → IsBetween time now ts
    → AllByRecursion (λ t. HeadClock time P t.clock t.items) ts
    → (AllByRecursion (λ t. t.items ≡ []) ts ⊎ Next time ts) → HeadClock time P now (map (λ x. x.item) (merged time ts))
head_of_group time P same now ts b h h' = grind (arith, merged-none, all-back, first_told, merged-next, at_most-both)

heads_of_groups : {A : Type 0} (time : A → Option Stamp) (P : Option Stamp → Type 0)
    → ((a b : Option Stamp) → clock_cmp a b ≡ Equal → P a → P b)
    → (gs : List (Group A)) → AreBetween time gs → AllByRecursion (λ t. HeadClock time P t.clock t.items) (files_of gs)
    → AllByRecursion (λ t. HeadClock time P t.clock t.items) (map (track_of time) gs)
heads_of_groups time P same [] b h = tt
heads_of_groups time P same (g ∷ gs) b h = search
    (heads_of_groups time P same gs b.1, head_of_group, all-front, files_of, next-of, all-back)

-- a clock that is equal to another is below, and not above, what the other is
below_as : (d e : Option Stamp) → clock_cmp e d ≡ Equal → (h : Option Stamp) → clock_cmp d h ≡ Less
    → clock_cmp e h ≡ Less
below_as d e ed h k = clock_total.congr e d h ed ∙ k

at_most_as : (d e : Option Stamp) → clock_cmp e d ≡ Equal → (h : Option Stamp) → AtMost d h → AtMost e h
at_most_as d e ed h k = ap is_gt (clock_total.congr e d h ed) ∙ k

below_change : (e a b : Option Stamp) → clock_cmp a b ≡ Equal → clock_cmp e a ≡ Less → clock_cmp e b ≡ Less
below_change e a b ab h = below-at_most e a b h (ap is_gt ab)

at_most_change : (e a b : Option Stamp) → clock_cmp a b ≡ Equal → AtMost e a → AtMost e b
at_most_change e a b ab h = at_most-trans e a b h (ap is_gt ab)

none_left : {A : Type 0} (time : A → Option Stamp) (gs : List (Group A))
    → AllByRecursion (λ t. t.items ≡ []) (files_of gs)
    → AllByRecursion (λ t. t.items ≡ []) (map (track_of time) gs)
none_left time [] h = tt
none_left time (g ∷ gs) h = search (none_left time gs, merged-none, all-front, files_of, all-back)

-- what comes of a group begins with the item that comes first of its files
group_next : {A : Type 0} (time : A → Option Stamp) (now clock : Option Stamp) (x : A) (xs : List A)
    (left right : List (Track A)) (ts : List (Track A))
    → ts ≡ left ++ (record { clock = clock; items = x ∷ xs } ∷ right) → IsFirst time left (later clock (time x)) right
    → map (λ y. y.item) (merged time ts) ≡ x ∷ map (λ y. y.item)
    (merged time (left ++ (passed time clock x xs ∷ right)))
group_next time now clock x xs left right ts e f =
    ap (map (λ y. y.item)) (ap (merged time) e ∙ merged-next time left right clock x xs f)

-- the groups' files, if one file of one group stands apart
files_apart : {A : Type 0} (front back : List (Group A)) (now : Option Stamp) (left right : List (Track A))
    (t : Track A)
    → files_of (front ++ (record { now = now; tracks = left ++ (t ∷ right) } ∷ back)) ≡ (files_of front ++ left)
    ++ (t ∷ (right ++ files_of back))
files_apart front back now left right t = search (files-both, files_of, append_assoc)

first_group : {A : Type 0} (time : A → Option Stamp) (front back : List (Group A)) (now clock : Option Stamp) (x : A)
    (left right : List (Track A))
    → AreBetween time front → AreBetween time back → clock_cmp (later now (time x)) (later clock (time x)) ≡ Equal
    → IsFirst time (files_of front ++ left) (later clock (time x)) (right ++ files_of back)
    → IsFirst time (map (track_of time) front) (later now (time x)) (map (track_of time) back)
first_group time front back now clock x left right b c e f =
    record {
      below = heads_of_groups time (λ h. clock_cmp (later now (time x)) h ≡ Less)
          (below_change (later now (time x))) front b
          (heads-implied time (λ h. clock_cmp (later clock (time x)) h ≡ Less)
          (λ h. clock_cmp (later now (time x)) h ≡ Less) (below_as (later clock (time x)) (later now (time x)) e)
          (files_of front)
          (all-front (λ t. HeadClock time (λ h. clock_cmp (later clock (time x)) h ≡ Less) t.clock t.items)
          (files_of front) left f.below));
      not_above = heads_of_groups time (AtMost (later now (time x))) (at_most_change (later now (time x))) back c
          (heads-implied time (AtMost (later clock (time x))) (AtMost (later now (time x)))
          (at_most_as (later clock (time x)) (later now (time x)) e) (files_of back)
          (all-back (λ t. HeadClock time (AtMost (later clock (time x))) t.clock t.items) right
          (files_of back) f.not_above));
    }

-- the first of a group's files, among those of the group alone
own_first : {A : Type 0} (time : A → Option Stamp) (front back left right : List (Track A)) (d : Option Stamp)
    → IsFirst time (front ++ left) d (right ++ back) → IsFirst time left d right
own_first time front back left right d f = search (all-back, all-front)

-- one step of the merge of the groups, and of that of all files
rounds_step : {A : Type 0} (time : A → Option Stamp) (front back : List (Group A)) (now clock : Option Stamp) (x : A)
    (xs : List A) (left right : List (Track A))
    → AreBetween time (front
    ++ (record { now = now; tracks = left ++ (record { clock = clock; items = x ∷ xs } ∷ right) } ∷ back))
    → IsFirst time (files_of front ++ left) (later clock (time x)) (right ++ files_of back)
    → (AreBetween time (front
    ++ (record { now = later now (time x); tracks = left ++ (passed time clock x xs ∷ right) } ∷ back))
    → map (λ y. y.item) (merged time (map (track_of time)
    (front ++ (record { now = later now (time x); tracks = left ++ (passed time clock x xs ∷ right) } ∷ back))))
    ≡ map (λ y. y.item) (merged time
    (files_of (front ++ (record {
      now = later now (time x);
      tracks = left ++ (passed time clock x xs ∷ right);
    } ∷ back)))))
    → map (λ y. y.item) (merged time (map (track_of time)
    (front ++ (record { now = now; tracks = left ++ (record { clock = clock; items = x ∷ xs } ∷ right) } ∷ back))))
    ≡ map (λ y. y.item) (merged time
    (files_of (front ++ (record {
      now = now;
      tracks = left ++ (record { clock = clock; items = x ∷ xs } ∷ right);
    } ∷ back))))
rounds_step {A} time front back now clock x xs left right b f deeper =
    let t : Track A = record { clock = clock; items = x ∷ xs } in
    let g : Group A = record { now = now; tracks = left ++ (t ∷ right) } in
    let h : Group A = record { now = later now (time x); tracks = left ++ (passed time clock x xs ∷ right) } in
    let behind = all-back (λ k. IsBetween time k.now k.tracks) front (g ∷ back) b in
    let before = all-front (λ k. IsBetween time k.now k.tracks) front (g ∷ back) b in
    let own = own_first time (files_of front) (files_of back) left right (later clock (time x)) f in
    let reached = (all-back (λ k. AtMost k.clock now) left (t ∷ right) behind.0.reached).0 in
    let ahead = (all-back (λ k. HeadClock time (AtMost now) k.clock k.items) left (t ∷ right) behind.0.ahead).0 in
    let told = first_told time now clock x reached ahead in
    let same = at_most-both (later now (time x)) (later clock (time x)) told.0 told.1 in
    let next : IsBetween time (later now (time x)) (left ++ (passed time clock x xs ∷ right)) =
    between_next time now left right clock x xs behind.0 own in
    let rest = deeper (All-both (λ k. IsBetween time k.now k.tracks) front (h ∷ back) before (next, behind.1)) in
    ap (λ ts. map (λ y. y.item) (merged time ts)) (map-append (track_of time) front (g ∷ back))
    ∙ ap (λ items. map (λ y. y.item)
    (merged time (map (track_of time) front ++ (record { clock = now; items = items } ∷ map (track_of time) back))))
    (group_next time now clock x xs left right (left ++ (t ∷ right)) refl own)
    ∙ ap (map (λ y. y.item))
    (merged-next time (map (track_of time) front) (map (track_of time) back) now x
    (map (λ y. y.item) (merged time (left ++ (passed time clock x xs ∷ right))))
    (first_group time front back now clock x left right before behind.1 same f))
    ∙ ap (λ ts. x ∷ map (λ y. y.item) (merged time ts)) (sym (map-append (track_of time) front (h ∷ back)))
    ∙ ap (λ ys. x ∷ ys) rest
    ∙ ap (λ ts. x ∷ map (λ y. y.item) (merged time ts))
    (files_apart front back (later now (time x)) left right (passed time clock x xs))
    ∙ sym (ap (map (λ y. y.item)) (merged-next time (files_of front ++ left) (right ++ files_of back) clock x xs f))
    ∙ sym (ap (λ ts. map (λ y. y.item) (merged time ts)) (files_apart front back now left right t))

fewer_left : {A : Type 0} (front back : List (Group A)) (now next clock : Option Stamp) (time : A → Option Stamp)
    (x : A) (xs : List A) (left right : List (Track A)) (n : ℕ)
    → total (files_of (front
    ++ (record { now = now; tracks = left ++ (record { clock = clock; items = x ∷ xs } ∷ right) } ∷ back))) ≤ suc n
    → total (files_of (front ++ (record { now = next; tracks = left ++ (passed time clock x xs ∷ right) } ∷ back))) ≤ n
fewer_left front back now next clock time x xs left right n l = grind (arith, files_apart, total_less, files_of)

rounds_by : {A : Type 0} (time : A → Option Stamp) (n : ℕ) (gs : List (Group A)) → total (files_of gs) ≤ n
    → AreBetween time gs
    → (AllByRecursion (λ t. t.items ≡ []) (files_of gs) ⊎ Next time (files_of gs))
    → map (λ x. x.item) (merged time (map (track_of time) gs)) ≡ map (λ x. x.item) (merged time (files_of gs))
rounds_by time n gs l b (inl e) = search (merged-none, none_left, files_of)
rounds_by time zero gs l b (inr m) =
    absurd (omega (arith, l, ap total m.whole, total_less m.before m.after m.clock m.clock m.item m.rest))
rounds_by {A} time (suc n) gs l b (inr m) =
    let t : Track A = record { clock = m.clock; items = m.item ∷ m.rest } in
    let w = within gs m.before t m.after m.whole in
    let apart : gs ≡ w.front ++ (record { now = w.group.now; tracks = w.left ++ (t ∷ w.right) } ∷ w.back) =
    w.groups ∙ ap (λ ts. w.front ++ (record { now = w.group.now; tracks = ts } ∷ w.back)) w.tracks in
    let first : IsFirst time (files_of w.front ++ w.left) (later m.clock (time m.item)) (w.right ++ files_of w.back) =
    subst (λ (ts : List (Track A)). IsFirst time (files_of w.front ++ w.left)
    (later m.clock (time m.item)) ts) w.after_is
    (subst (λ (ts : List (Track A)). IsFirst time ts (later m.clock (time m.item)) m.after) w.before_is m.first) in
    let behind = w.front ++
    (record {
      now = later w.group.now (time m.item);
      tracks = w.left ++ (passed time m.clock m.item m.rest ∷ w.right);
    } ∷ w.back) in
    let fewer = fewer_left w.front w.back w.group.now
    (later w.group.now (time m.item)) m.clock time m.item m.rest w.left w.right n
    (subst (λ (hs : List (Group A)). total (files_of hs) ≤ suc n) apart l) in
    subst (λ (hs : List (Group A)). map (λ x. x.item) (merged time (map (track_of time) hs))
    ≡ map (λ x. x.item) (merged time (files_of hs))) (sym apart)
    (rounds_step time w.front w.back w.group.now m.clock m.item m.rest w.left w.right
    (subst (AreBetween time) apart b) first
    (λ between. rounds_by time n behind fewer between (next-of time (files_of behind))))

-- The files of some groups, each as a file of its own.
abbrev pub files_in : {A : Type 0} → List (List (List A)) → List (List A)
files_in [] = []
files_in (g ∷ gs) = g ++ files_in gs

abbrev opened_group : {A : Type 0} → List (List A) → Group A
opened_group files = record { now = None; tracks = map opened_track files }

opened_groups : {A : Type 0} (time : A → Option Stamp) (gs : List (List (List A)))
    → AreBetween time (map opened_group gs)
opened_groups time [] = tt
opened_groups time (g ∷ gs) = (opened_between time g, opened_groups time gs)

opened_files : {A : Type 0} (gs : List (List (List A)))
    → files_of (map opened_group gs) ≡ map opened_track (files_in gs)
opened_files [] = refl
opened_files (g ∷ gs) = ap (λ ts. map opened_track g
    ++ ts) (opened_files gs) ∙ sym (map-append opened_track g (files_in gs))

opened_merged : {A : Type 0} (time : A → Option Stamp) (gs : List (List (List A)))
    → map (track_of time) (map opened_group gs) ≡ map opened_track
    (map (λ g. map (λ x. x.item) (merged time (map opened_track g))) gs)
opened_merged time [] = refl
opened_merged time (g ∷ gs) = ap (λ ts. opened_track (map (λ x. x.item) (merged time (map opened_track g))) ∷ ts)
    (opened_merged time gs)

-- The law of rounds: if files are merged in neighbouring groups, and then what came of the groups, the items come as if
-- all files were merged at once.
pub rounds-law : {A : Type 0} (time : A → Option Stamp) (groups : List (List (List A)))
    → map (λ x. x.item) (merged time
    (map opened_track (map (λ files. map (λ x. x.item) (merged time (map opened_track files))) groups)))
    ≡ map (λ x. x.item) (merged time (map opened_track (files_in groups)))
rounds-law time groups =
    ap (λ ts. map (λ x. x.item) (merged time ts)) (sym (opened_merged time groups))
    ∙ rounds_by time (total (files_of (map opened_group groups))) (map opened_group groups) (omega arith)
    (opened_groups time groups) (next-of time (files_of (map opened_group groups)))
    ∙ ap (λ ts. map (λ x. x.item) (merged time ts)) (opened_files groups)
