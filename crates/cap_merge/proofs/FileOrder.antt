-- The merged list has the files' items, by clock and then by file, each file in its own order.
use Rattle.std.proofs.Common.{◌≡◌, ℕ, suc, ◌+◌, ◌<◌, ◌≤◌, Bool, true, false, cond, List, [], ◌∷◌, ◌++◌, length}
use Rattle.std.proofs.Common.{refl, sym, ap, ◌∙◌, subst, arith, append-nil, Ordering, Less, Equal, Greater, true≢false}
use Rattle.std.proofs.Common.{is_gt, is_lt, Option, None, eqb-true}
use Rattle.std.specs.Prelude.{◌≢◌, ◌==◌, map, filter, IsPermutation}
use Rattle.std.specs.List.{AllByRecursion, flat_map}
use Rattle.std.specs.List.Sorted.{IsStrictlySortedBy}
use Rattle.std.specs.Ordering.{nat_cmp, ordering_then}
use Rattle.std.specs.Cmp.{nat_cmp_is}
use Rattle.std.proofs.lemmas.Bool.Decides.{nat_tests}
use Rattle.std.proofs.lemmas.Bool.{eq-eqb}
use Rattle.std.proofs.lemmas.List.{map-append, length-map}
use Rattle.std.proofs.lemmas.List.Elements.{filter-append}
use Rattle.std.proofs.lemmas.List.Sorted.{IsPermutation-map}
use Rattle.cap_time.specs.Clock.{clock_cmp, later}
use Rattle.cap_time.specs.declared.stamps.Stamp.{Stamp}
use Rattle.cap_merge.specs.Merging.{item_file, AreOfFiles, with_clocks, clock_file_cmp, NoneFalls, IsMergeOfFiles}
use Rattle.cap_merge.specs.Merging.{MergeOrder}
use Rattle.cap_merge.specs.Parts.{item_time}
use Rattle.cap_merge.specs.Run.{Placed, Track, clocked_of, in_order, merged, opened_track, placed_all}
use Rattle.cap_merge.specs.Run.{placed_cmp, placed_from}
use Rattle.cap_merge.specs.inner.Lists.{All-both, All-implied, map-twice}
use Rattle.cap_merge.specs.inner.MergedList.{StandsIn, before_places, placed_from-stands, placed_total}
use Rattle.cap_merge.specs.inner.Ordered.{filter-alike, filter-none, filter-mapped}
use Rattle.cap_merge.proofs.InOrder.{AllApart, all_permuted, in_order-law, in_order-keeps}

-- ---- no two placed items compare as equal

less_not_equal : Less ≡ Equal → ⊥
less_not_equal e = true≢false (ap is_lt e)

then_equal : (r s : Ordering) → ordering_then r s ≡ Equal → (r ≡ Equal) × (s ≡ Equal)
then_equal Less s e = absurd (less_not_equal e)
then_equal Equal s e = (refl, e)
then_equal Greater s e = absurd (true≢false (ap is_gt e))

apart_files : {A : Type 0} (x y : Placed A) → x.file < y.file → placed_cmp x y ≢ Equal
apart_files x y l e =
    let own : ordering_then (nat_cmp x.file y.file) (nat_cmp x.place y.place) ≡ Equal =
    (then_equal (clock_cmp x.clock y.clock) (ordering_then (nat_cmp x.file y.file) (nat_cmp x.place y.place)) e).1 in
    less_not_equal (nat_cmp_is x.file y.file Less l
    ∙ (then_equal (nat_cmp x.file y.file) (nat_cmp x.place y.place) own).0)

rises-apart : {A : Type 0} (cmp : A → A → Ordering) (xs : List A) → IsStrictlySortedBy cmp xs → AllApart cmp xs
unfolding IsStrictlySortedBy
rises-apart cmp [] h = tt
rises-apart cmp (x ∷ xs) h = (
  All-implied (λ y. cmp x y ≡ Less) (λ y. cmp x y ≢ Equal) xs (λ y l e. less_not_equal (sym l ∙ e)) h.0,
  rises-apart cmp xs h.1,
)

apart-both : {A : Type 0} (cmp : A → A → Ordering) (xs ys : List A) → AllApart cmp xs → AllApart cmp ys
    → AllByRecursion (λ x. AllByRecursion (λ y. cmp x y ≢ Equal) ys) xs
    → AllApart cmp (xs ++ ys)
apart-both cmp [] ys f g h = g
apart-both cmp (x ∷ xs) ys f g h =
    (All-both (λ y. cmp x y ≢ Equal) xs ys f.0 h.0, apart-both cmp xs ys f.1 g h.1)

placed_from-rises : {A : Type 0} (time : A → Option Stamp) (file place : ℕ) (clock : Option Stamp) (xs : List A)
    → IsStrictlySortedBy placed_cmp (placed_from time file place clock xs)
unfolding IsStrictlySortedBy
placed_from-rises time file place clock [] = tt
placed_from-rises time file place clock (x ∷ xs) =
    let m : Placed _ = record { clock = later clock (time x); file = file; place = place; item = x } in (
      All-implied (StandsIn file (suc place) (later clock (time x))) (λ y. placed_cmp m y ≡ Less)
          (placed_from time file (suc place) (later clock (time x)) xs)
          (λ y s. before_places m y s.clock_from (sym s.file_is) s.place_from)
          (placed_from-stands time file (suc place) (later clock (time x)) xs),
      placed_from-rises time file (suc place) (later clock (time x)) xs,
    )

placed_all-from : {A : Type 0} (time : A → Option Stamp) (file : ℕ) (ts : List (Track A))
    → AllByRecursion (λ y. file ≤ y.file) (placed_all time file ts)
placed_all-from time file [] = tt
placed_all-from time file (t ∷ ts) =
    All-both (λ y. file ≤ y.file) (placed_from time file 0 t.clock t.items) (placed_all time (suc file) ts)
    (All-implied (StandsIn file 0 t.clock) (λ y. file ≤ y.file) (placed_from time file 0 t.clock t.items)
    (λ y s. omega (arith, s.file_is)) (placed_from-stands time file 0 t.clock t.items))
    (All-implied (λ y. suc file ≤ y.file) (λ y. file ≤ y.file) (placed_all time (suc file) ts)
    (λ y l. omega (arith, l)) (placed_all-from time (suc file) ts))

pub placed_all-apart : {A : Type 0} (time : A → Option Stamp) (file : ℕ) (ts : List (Track A))
    → AllApart placed_cmp (placed_all time file ts)
placed_all-apart time file [] = tt
placed_all-apart time file (t ∷ ts) =
    let own = placed_from time file 0 t.clock t.items in
    let others = placed_all time (suc file) ts in
    apart-both placed_cmp own others (rises-apart placed_cmp own (placed_from-rises time file 0 t.clock t.items))
    (placed_all-apart time (suc file) ts)
    (All-implied (StandsIn file 0 t.clock) (λ x. AllByRecursion (λ y. placed_cmp x y ≢ Equal) others) own
    (λ x s. All-implied (λ y. suc file ≤ y.file) (λ y. placed_cmp x y ≢ Equal) others
    (λ y l. apart_files x y (omega (arith, l, s.file_is))) (placed_all-from time (suc file) ts))
    (placed_from-stands time file 0 t.clock t.items))

-- ---- one file's items among all

differs : (n m : ℕ) → n ≢ m → (n == m) ≡ false
differs n m h = grind (arith, nat_tests)

filter-own : {A : Type 0} (time : A → Option Stamp) (k file place : ℕ) (clock : Option Stamp) (xs : List A) (b : Bool)
    → (file == k) ≡ b
    → filter (λ y. y.file == k) (placed_from time file place clock xs)
    ≡ cond b (placed_from time file place clock xs) []
filter-own time k file place clock [] true e = refl
filter-own time k file place clock [] false e = refl
filter-own time k file place clock (x ∷ xs) true e =
    λ i. cond (e i) (record { clock = later clock (time x); file = file; place = place; item = x }
    ∷ filter-own time k file (suc place) (later clock (time x)) xs true e i)
    (filter-own time k file (suc place) (later clock (time x)) xs true e i)
filter-own time k file place clock (x ∷ xs) false e =
    λ i. cond (e i) (record { clock = later clock (time x); file = file; place = place; item = x }
    ∷ filter-own time k file (suc place) (later clock (time x)) xs false e i)
    (filter-own time k file (suc place) (later clock (time x)) xs false e i)

filter-later : {A : Type 0} (time : A → Option Stamp) (k file : ℕ) (ts : List (Track A)) → k < file
    → filter (λ y. y.file == k) (placed_all time file ts) ≡ []
filter-later time k file ts l =
    filter-none (λ y. y.file == k) (placed_all time file ts)
    (All-implied (λ y. file ≤ y.file) (λ y. (y.file == k) ≡ false) (placed_all time file ts)
    (λ y from. differs y.file k (omega (arith, l, from))) (placed_all-from time file ts))

-- the items of the file of a number, among those of all files
pub own-file : {A : Type 0} (time : A → Option Stamp) (k file : ℕ) (before after : List (Track A)) (t : Track A)
    → k ≡ file + length before
    → filter (λ y. y.file == k) (placed_all time file (before ++ (t ∷ after))) ≡ placed_from time k 0 t.clock t.items
own-file time k file [] after t e =
    let same : file ≡ k = omega (arith, e) in
    filter-append (λ y. y.file == k) (placed_from time file 0 t.clock t.items) (placed_all time (suc file) after)
    ∙ (λ i. filter-own time k file 0 t.clock t.items true (eq-eqb file k same) i
    ++ filter-later time k (suc file) after (omega (arith, e)) i)
    ∙ append-nil (placed_from time file 0 t.clock t.items)
    ∙ ap (λ n. placed_from time n 0 t.clock t.items) same
own-file time k file (u ∷ before) after t e =
    filter-append (λ y. y.file == k) (placed_from time file 0 u.clock u.items)
    (placed_all time (suc file) (before ++ (t ∷ after)))
    ∙ (λ i. filter-own time k file 0 u.clock u.items false (differs file k (omega (arith, e))) i
    ++ own-file time k (suc file) before after t (omega (arith, e)) i)

own_rises_by : {A : Type 0} (time : A → Option Stamp) (k file : ℕ) (t : Track A) (ts : List (Track A)) (b : Bool)
    → (file == k) ≡ b
    → IsStrictlySortedBy placed_cmp (filter (λ y. y.file == k) (placed_all time (suc file) ts))
    → IsStrictlySortedBy placed_cmp (filter (λ y. y.file == k) (placed_all time file (t ∷ ts)))
own_rises_by time k file t ts true e h =
    let same : file ≡ k = eqb-true file k e in
    subst (IsStrictlySortedBy placed_cmp)
    (sym (filter-append (λ y. y.file == k) (placed_from time file 0 t.clock t.items) (placed_all time (suc file) ts)
    ∙ (λ i. filter-own time k file 0 t.clock t.items true e i
    ++ filter-later time k (suc file) ts (omega (arith, same)) i)
    ∙ append-nil (placed_from time file 0 t.clock t.items)))
    (placed_from-rises time file 0 t.clock t.items)
own_rises_by time k file t ts false e h =
    subst (IsStrictlySortedBy placed_cmp)
    (sym (filter-append (λ y. y.file == k) (placed_from time file 0 t.clock t.items) (placed_all time (suc file) ts)
    ∙ ap (λ xs. xs ++ filter (λ y. y.file == k) (placed_all time (suc file) ts))
    (filter-own time k file 0 t.clock t.items false e)))
    h

pub own-rises : {A : Type 0} (time : A → Option Stamp) (k file : ℕ) (ts : List (Track A))
    → IsStrictlySortedBy placed_cmp (filter (λ y. y.file == k) (placed_all time file ts))
unfolding IsStrictlySortedBy
own-rises time k file [] = tt
own-rises time k file (t ∷ ts) = own_rises_by time k file t ts (file == k) refl (own-rises time k (suc file) ts)

-- Putting in order keeps the items of each file as they stand.
pub order-keeps : {A : Type 0} (time : A → Option Stamp) (k : ℕ) (ts : List (Track A))
    → filter (λ y. y.file == k) (in_order placed_cmp (placed_all time 1 ts))
    ≡ filter (λ y. y.file == k) (placed_all time 1 ts)
order-keeps time k ts = in_order-keeps placed_cmp placed_total (λ y. y.file == k) (placed_all time 1 ts)
    (placed_all-apart time 1 ts) (own-rises time k 1 ts)

-- ---- the merged list

items_from : {A : Type 0} (time : A → Option Stamp) (file place : ℕ) (clock : Option Stamp) (xs : List A)
    → map (λ y. y.item) (placed_from time file place clock xs) ≡ xs
items_from time file place clock [] = refl
items_from time file place clock (x ∷ xs) =
    ap (λ ys. x ∷ ys) (items_from time file (suc place) (later clock (time x)) xs)

items_all : {A : Type 0} (time : A → Option Stamp) (file : ℕ) (files : List (List A))
    → map (λ y. y.item) (placed_all time file (map opened_track files)) ≡ flat_map (λ items. items) files
items_all time file [] = refl
items_all time file (items ∷ files) =
    map-append (λ y. y.item) (placed_from time file 0 None items) (placed_all time (suc file) (map opened_track files))
    ∙ (λ i. items_from time file 0 None items i ++ items_all time (suc file) files i)

pub merged-same : {A : Type 0} (time : A → Option Stamp) (files : List (List A))
    → IsPermutation (flat_map (λ items. items) files) (map (λ x. x.item) (merged time (map opened_track files)))
merged-same time files =
    let all = placed_all time 1 (map opened_track files) in
    let order = in_order placed_cmp all in
    let o = in_order-law placed_cmp placed_total all (placed_all-apart time 1 (map opened_track files)) in
    subst (λ xs. IsPermutation xs (map (λ x. x.item) (merged time (map opened_track files)))) (items_all time 1 files)
    (subst (IsPermutation (map (λ y. y.item) all)) (sym (map-twice (λ x. x.item) clocked_of order))
    (IsPermutation-map (λ y. y.item) all order o.same))

-- the placed items say their files
abbrev SaysFile : {A : Type 0} → (A → ℕ) → Placed A → Type 0
SaysFile file_of y = file_of y.item ≡ y.file

says_from : {A : Type 0} (time : A → Option Stamp) (file_of : A → ℕ) (file place : ℕ) (clock : Option Stamp)
    (xs : List A) → AllByRecursion (λ x. file_of x ≡ file) xs
    → AllByRecursion (SaysFile file_of) (placed_from time file place clock xs)
says_from time file_of file place clock [] h = tt
says_from time file_of file place clock (x ∷ xs) h =
    (h.0, says_from time file_of file (suc place) (later clock (time x)) xs h.1)

says_all : {A : Type 0} (time : A → Option Stamp) (file_of : A → ℕ) (file : ℕ) (files : List (List A))
    → AreOfFiles file_of file files
    → AllByRecursion (SaysFile file_of) (placed_all time file (map opened_track files))
says_all time file_of file [] h = tt
says_all time file_of file (items ∷ files) h =
    All-both (SaysFile file_of) (placed_from time file 0 None items)
    (placed_all time (suc file) (map opened_track files)) (says_from time file_of file 0 None items h.0)
    (says_all time file_of (suc file) files h.1)

then_not_above : (r s t : Ordering) → ordering_then r (ordering_then s t) ≡ Less → is_gt (ordering_then r s) ≡ false
then_not_above r s t e = grind arith

not_above : {A : Type 0} (file_of : A → ℕ) (x y : Placed A) → SaysFile file_of x → SaysFile file_of y
    → placed_cmp x y ≡ Less
    → is_gt (clock_file_cmp file_of (clocked_of x) (clocked_of y)) ≡ false
not_above file_of x y f g e =
    (λ i. is_gt (ordering_then (clock_cmp x.clock y.clock) (nat_cmp (f i) (g i))))
    ∙ then_not_above (clock_cmp x.clock y.clock) (nat_cmp x.file y.file) (nat_cmp x.place y.place) e

none_above : {A : Type 0} (file_of : A → ℕ) (x : Placed A) (ys : List (Placed A)) → SaysFile file_of x
    → AllByRecursion (SaysFile file_of) ys → AllByRecursion (λ y. placed_cmp x y ≡ Less) ys
    → AllByRecursion (λ z. is_gt (clock_file_cmp file_of (clocked_of x) z) ≡ false) (map clocked_of ys)
none_above file_of x [] f g h = tt
none_above file_of x (y ∷ ys) f g h =
    (not_above file_of x y f g.0 h.0, none_above file_of x ys f g.1 h.1)

none_falls : {A : Type 0} (file_of : A → ℕ) (ys : List (Placed A)) → AllByRecursion (SaysFile file_of) ys
    → IsStrictlySortedBy placed_cmp ys → NoneFalls (clock_file_cmp file_of) (map clocked_of ys)
unfolding IsStrictlySortedBy
none_falls file_of [] g h = tt
none_falls file_of (y ∷ ys) g h = (none_above file_of y ys g.0 g.1 h.0, none_falls file_of ys g.1 h.1)

clocked_items : {A : Type 0} (time : A → Option Stamp) (file place : ℕ) (clock : Option Stamp) (xs : List A)
    → map clocked_of (placed_from time file place clock xs) ≡ with_clocks time clock xs
clocked_items time file place clock [] = refl
clocked_items time file place clock (x ∷ xs) =
    ap (λ ys. record { clock = later clock (time x); item = x } ∷ ys)
    (clocked_items time file (suc place) (later clock (time x)) xs)

one_file : {A : Type 0} (time : A → Option Stamp) (before after : List (List A)) (items : List A)
    → filter (λ y. y.file == 1 + length before) (placed_all time 1 (map opened_track (before ++ (items ∷ after))))
    ≡ placed_from time (1 + length before) 0 None items
one_file time before after items =
    ap (λ ts. filter (λ y. y.file == 1 + length before) (placed_all time 1 ts))
    (map-append opened_track before (items ∷ after))
    ∙ own-file time (1 + length before) 1 (map opened_track before) (map opened_track after) (opened_track items)
    (omega (arith, length-map before opened_track))

-- The merged list of files that number their items.
pub merged-order : {A : Type 0} (time : A → Option Stamp) (file_of : A → ℕ) (files : List (List A))
    → AreOfFiles file_of 1 files → IsMergeOfFiles time file_of files (merged time (map opened_track files))
merged-order time file_of files numbered =
    let ts = map opened_track files in
    let all = placed_all time 1 ts in
    let order = in_order placed_cmp all in
    let o = in_order-law placed_cmp placed_total all (placed_all-apart time 1 ts) in
    let says = all_permuted (SaysFile file_of) all order o.same (says_all time file_of 1 files numbered) in
    record {
      same = merged-same time files;
      sorted = none_falls file_of order says o.rises;
      each_file = λ before after items e.
          filter-mapped clocked_of (λ x. file_of x.item == 1 + length before) order
          ∙ ap (map clocked_of)
          (filter-alike (λ y. file_of y.item == 1 + length before) (λ y. y.file == 1 + length before) order
          (All-implied (SaysFile file_of) (λ y. (file_of y.item == 1 + length before) ≡ (y.file == 1 + length before))
          order (λ y s. ap (λ n. n == 1 + length before) s) says)
          ∙ order-keeps time (1 + length before) ts
          ∙ ap (λ fs. filter (λ y. y.file == 1 + length before) (placed_all time 1 (map opened_track fs))) e
          ∙ one_file time before after items)
          ∙ clocked_items time (1 + length before) 0 None items;
    }

pub merge_order-law : MergeOrder
merge_order-law files numbered = merged-order item_time item_file files numbered
