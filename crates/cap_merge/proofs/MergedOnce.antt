-- Only one list is by clock, and then by file, with each file in its own order.
use Rattle.std.proofs.Common.{◌≡◌, ℕ, suc, ◌+◌, ◌<◌, Bool, true, false, cond, List, [], ◌∷◌, ◌++◌, length, refl, sym}
use Rattle.std.proofs.Common.{ap, ◌∙◌, subst, arith, Ordering, Equal, true≢false, is_gt, inl, inr, eqb-true}
use Rattle.std.proofs.Common.{Option}
use Rattle.std.specs.Prelude.{◌⊎◌, ◌==◌, map, filter}
use Rattle.std.specs.List.{AllByRecursion, flat_map}
use Rattle.std.specs.Ordering.{nat_cmp, ordering_then, ordering_reverse, MatchOrdering}
use Rattle.std.specs.Cmp.{IsTotalOrder, then_total, on_total, nat_cmp_total, ranks}
use Rattle.std.proofs.lemmas.Bool.Decides.{nat_tests}
use Rattle.std.proofs.lemmas.Bool.{eq-eqb}
use Rattle.cap_time.specs.Clock.{clock_cmp}
use Rattle.cap_time.specs.declared.stamps.Stamp.{Stamp}
use Rattle.cap_merge.specs.Merging.{item_file, AreOfFiles, clock_file_cmp, NoneFalls, IsMergeOfFiles, MergedOnce}
use Rattle.cap_merge.specs.Parts.{item_time}
use Rattle.cap_merge.specs.Run.{Clocked}
use Rattle.cap_merge.specs.inner.Clocks.{clock_total}
use Rattle.cap_merge.specs.inner.Lists.{All-both, All-implied}
use Rattle.cap_merge.specs.inner.Ordered.{filter-none}
use Rattle.cap_merge.proofs.InOrder.{all_permuted, all_filtered}

abbrev head_or : {A : Type 0} → A → List A → A
head_or x [] = x
head_or x (y ∷ ys) = y

abbrev rest_of : {A : Type 0} → List A → List A
rest_of [] = []
rest_of (x ∷ xs) = xs

without_first : {A : Type 0} (b : Bool) (x : A) (us vs : List A) → cond b (x ∷ us) us ≡ cond b (x ∷ vs) vs → us ≡ vs
without_first true x us vs e = ap rest_of e
without_first false x us vs e = e

with_first : {A : Type 0} (b : Bool) (x : A) (us : List A) → b ≡ true → cond b (x ∷ us) us ≡ x ∷ us
with_first true x us e = refl
with_first false x us e = absurd (true≢false (sym e))

passed_over : {A : Type 0} (b : Bool) (x : A) (us : List A) → b ≡ false → cond b (x ∷ us) us ≡ us
passed_over true x us e = absurd (true≢false e)
passed_over false x us e = refl

then_equal : (r s : Ordering) → ordering_then r s ≡ Equal → s ≡ Equal
then_equal r s e = grind arith

both_not_gt : (r s : Ordering) → r ≡ ordering_reverse s → is_gt r ≡ false → is_gt s ≡ false → r ≡ Equal
both_not_gt r s e f g = grind arith

-- the file of a number, among files from a number on
record IsNth {A : Type 0} (k file : ℕ) (files : List (List A)) : Type 0 where
  before : List (List A)
  items : List A
  after : List (List A)
  whole : files ≡ before ++ (items ∷ after)
  place : k ≡ file + length before

module _ {A : Type 0} (file_of : A → ℕ) where
  by_total : IsTotalOrder (clock_file_cmp file_of)
  by_total = then_total (on_total (λ x. x.clock) clock_total) (on_total (λ x. file_of x.item) nat_cmp_total)

  abbrev of : ℕ → Clocked A → Bool
  of k x = file_of x.item == k

  -- items of which neither is above the other are of one file
  one_file : (x y : Clocked A) → is_gt (clock_file_cmp file_of x y) ≡ false → is_gt (clock_file_cmp file_of y x) ≡ false
      → file_of x.item ≡ file_of y.item
  one_file x y f g =
      let e : clock_file_cmp file_of x y ≡ Equal =
      both_not_gt (clock_file_cmp file_of x y) (clock_file_cmp file_of y x) (by_total.antisymm x y) f g in
      let s : nat_cmp (file_of x.item) (file_of y.item) ≡ Equal =
      then_equal (clock_cmp x.clock y.clock) (nat_cmp (file_of x.item) (file_of y.item)) e in
      subst (λ r. MatchOrdering r (file_of x.item < file_of y.item) (file_of x.item ≡ file_of y.item)
      (file_of y.item < file_of x.item)) s (ranks (file_of x.item) (file_of y.item))

  -- what begins another list's items of its file, and not this one's, is among this one's later items
  not_above : (x y : Clocked A) (xs ys : List (Clocked A))
      → AllByRecursion (λ z. is_gt (clock_file_cmp file_of x z) ≡ false) xs
      → (file_of x.item == file_of y.item) ≡ false
      → filter (of (file_of y.item)) (x ∷ xs) ≡ filter (of (file_of y.item)) (y ∷ ys)
      → is_gt (clock_file_cmp file_of x y) ≡ false
  not_above x y xs ys f e h =
      let k : ℕ = file_of y.item in
      let same : filter (of k) xs ≡ y ∷ filter (of k) ys =
      sym (passed_over (of k x) x (filter (of k) xs) e) ∙ h
      ∙ with_first (of k y) y (filter (of k) ys) (eq-eqb k k refl) in
      (subst (AllByRecursion (λ z. is_gt (clock_file_cmp file_of x z) ≡ false)) same
      (all_filtered (λ z. is_gt (clock_file_cmp file_of x z) ≡ false) (of k) xs f)).0

  same_first : (b : Bool) (x y : Clocked A) (xs ys : List (Clocked A)) → (file_of x.item == file_of y.item) ≡ b
      → ((k : ℕ) → filter (of k) (x ∷ xs) ≡ filter (of k) (y ∷ ys))
      → AllByRecursion (λ z. is_gt (clock_file_cmp file_of x z) ≡ false) xs
      → AllByRecursion (λ z. is_gt (clock_file_cmp file_of y z) ≡ false) ys
      → x ≡ y
  same_first true x y xs ys e h f g =
      let k : ℕ = file_of y.item in
      let both : x ∷ filter (of k) xs ≡ y ∷ filter (of k) ys =
      sym (with_first (of k x) x (filter (of k) xs) e) ∙ h k
      ∙ with_first (of k y) y (filter (of k) ys) (eq-eqb k k refl) in
      ap (head_or x) both
  same_first false x y xs ys e h f g =
      let turned : (file_of y.item == file_of x.item) ≡ false = grind (arith, nat_tests, e) in
      let one : file_of x.item ≡ file_of y.item = one_file x y (not_above x y xs ys f e (h (file_of y.item)))
      (not_above y x ys xs g turned (sym (h (file_of x.item)))) in
      absurd (true≢false (sym (eq-eqb (file_of x.item) (file_of y.item) one) ∙ e))

  same_rest : (k : ℕ) (x y : Clocked A) (us vs : List (Clocked A)) → x ≡ y
      → cond (of k x) (x ∷ us) us ≡ cond (of k y) (y ∷ vs) vs → us ≡ vs
  same_rest k x y us vs e h =
      without_first (of k x) x us vs (h ∙ sym (λ i. cond (of k (e i)) (e i ∷ vs) vs))

  -- lists by clock and file are one if they have the same items of each file, in the same order
  one_list : (xs ys : List (Clocked A)) → ((k : ℕ) → filter (of k) xs ≡ filter (of k) ys)
      → NoneFalls (clock_file_cmp file_of) xs → NoneFalls (clock_file_cmp file_of) ys → xs ≡ ys
  one_list [] [] h f g = refl
  one_list [] (y ∷ ys) h f g =
      let k : ℕ = file_of y.item in
      let e : [] ≡ y ∷ filter (of k) ys = h k ∙ with_first (of k y) y (filter (of k) ys) (eq-eqb k k refl) in
      absurd (omega (arith, ap length e))
  one_list (x ∷ xs) [] h f g =
      let k : ℕ = file_of x.item in
      let e : [] ≡ x ∷ filter (of k) xs = sym (h k) ∙ with_first (of k x) x (filter (of k) xs) (eq-eqb k k refl) in
      absurd (omega (arith, ap length e))
  one_list (x ∷ xs) (y ∷ ys) h f g =
      let e : x ≡ y = same_first (file_of x.item == file_of y.item) x y xs ys refl h f.0 g.0 in
      λ i. e i
      ∷ one_list xs ys (λ k. same_rest k x y (filter (of k) xs) (filter (of k) ys) e (h k)) f.1 g.1 i

  nth_by : (k file : ℕ) (items : List A) (files : List (List A)) (b : Bool) → (file == k) ≡ b
      → AllByRecursion (λ x. file_of x ≡ file) items
      → IsNth k (suc file) files ⊎ AllByRecursion (λ x. (file_of x == k) ≡ false) (flat_map (λ items. items) files)
      → IsNth k file (items ∷ files)
      ⊎ AllByRecursion (λ x. (file_of x == k) ≡ false) (flat_map (λ items. items) (items ∷ files))
  nth_by k file items files true e h r =
      let same : file ≡ k = eqb-true file k e in
      inl (record { before = []; items = items; after = files; whole = refl; place = omega (arith, same) })
  nth_by k file items files false e h (inl n) =
      inl (record {
        before = items ∷ n.before;
        items = n.items;
        after = n.after;
        whole = ap (λ fs. items ∷ fs) n.whole;
        place = omega (arith, n.place);
      })
  nth_by k file items files false e h (inr f) =
      inr (All-both (λ x. (file_of x == k) ≡ false) items (flat_map (λ items. items) files)
      (All-implied (λ x. file_of x ≡ file) (λ x. (file_of x == k) ≡ false) items (λ x s. ap (λ n. n == k) s ∙ e) h) f)

  -- a number is that of a file, or of no item
  nth_or : (k file : ℕ) (files : List (List A)) → AreOfFiles file_of file files
      → IsNth k file files ⊎ AllByRecursion (λ x. (file_of x == k) ≡ false) (flat_map (λ items. items) files)
  nth_or k file [] h = inr tt
  nth_or k file (items ∷ files) h =
      nth_by k file items files (file == k) refl h.0 (nth_or k (suc file) files h.1)

  unmapped : (k : ℕ) (xs : List (Clocked A)) → AllByRecursion (λ x. (file_of x == k) ≡ false) (map (λ x. x.item) xs)
      → AllByRecursion (λ x. of k x ≡ false) xs
  unmapped k [] h = tt
  unmapped k (x ∷ xs) h = (h.0, unmapped k xs h.1)

  none_of : (time : A → Option Stamp) (k : ℕ) (files : List (List A)) (merge : List (Clocked A))
      → AllByRecursion (λ x. (file_of x == k) ≡ false) (flat_map (λ items. items) files)
      → IsMergeOfFiles time file_of files merge → filter (of k) merge ≡ []
  none_of time k files merge f m =
      filter-none (of k) merge (unmapped k merge (all_permuted (λ x. (file_of x == k) ≡ false)
      (flat_map (λ items. items) files) (map (λ x. x.item) merge) m.same f))

  alike_by : (time : A → Option Stamp) (k : ℕ) (files : List (List A)) (merge other : List (Clocked A))
      → IsMergeOfFiles time file_of files merge → IsMergeOfFiles time file_of files other
      → IsNth k 1 files ⊎ AllByRecursion (λ x. (file_of x == k) ≡ false) (flat_map (λ items. items) files)
      → filter (of k) merge ≡ filter (of k) other
  alike_by time k files merge other m o (inl n) =
      subst (λ k. filter (of k) merge ≡ filter (of k) other) (sym n.place)
      (m.each_file n.before n.after n.items n.whole ∙ sym (o.each_file n.before n.after n.items n.whole))
  alike_by time k files merge other m o (inr f) =
      none_of time k files merge f m ∙ sym (none_of time k files other f o)

  pub merged-once : (time : A → Option Stamp) (files : List (List A)) (merge other : List (Clocked A))
      → AreOfFiles file_of 1 files
      → IsMergeOfFiles time file_of files merge → IsMergeOfFiles time file_of files other
      → merge ≡ other
  merged-once time files merge other h m o =
      one_list merge other (λ k. alike_by time k files merge other m o (nth_or k 1 files h)) m.sorted o.sorted

pub merged_once-law : MergedOnce
merged_once-law files numbered merge other m o =
    merged-once item_file item_time files merge other numbered m o
