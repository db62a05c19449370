-- Items by their places are the same items, they rise, and what rose among them stands as it stood.
use Rattle.std.proofs.Common.{◌≡◌, ℕ, zero, suc, ◌≤◌, Bool, true, false, cond, List, [], ◌∷◌, ◌++◌, length, refl, sym}
use Rattle.std.proofs.Common.{ap, ◌∙◌, subst, arith, Ordering, Less, Equal, Greater, true≢false, is_gt}
use Rattle.std.specs.Prelude.{◌≢◌, ⊤, filter, IsPermutation}
use Rattle.std.specs.List.{AllByRecursion}
use Rattle.std.specs.List.Sorted.{IsStrictlySortedBy}
use Rattle.std.specs.Ordering.{ordering_reverse}
use Rattle.std.specs.Cmp.{IsTotalOrder}
use Rattle.std.proofs.lemmas.List.Elements.{filter-append, All-from_recursion, recursion_from_All}
use Rattle.std.proofs.lemmas.List.Sorted.{All-permutation, IsPermutation-refl, IsPermutation-trans}
use Rattle.std.proofs.lemmas.List.Sorted.{IsPermutation-middle, IsPermutation-cons}
use Rattle.cap_merge.specs.inner.Lists.{All-both, All-implied, all-back, all-front}
use Rattle.cap_merge.specs.inner.Ordered.{least_first, length-around}
use Rattle.cap_merge.specs.Run.{in_order}

-- no two of the items compare as equal
abbrev pub AllApart : {A : Type 0} → (A → A → Ordering) → List A → Type 0
AllApart cmp [] = ⊤
AllApart cmp (x ∷ xs) = AllByRecursion (λ y. cmp x y ≢ Equal) xs × AllApart cmp xs

-- a list with an item that is smaller than all others
pub record HasLeast {A : Type 0} (cmp : A → A → Ordering) (all : List A) : Type 0 where
  pub before : List A
  pub least : A
  pub after : List A
  pub whole : all ≡ before ++ (least ∷ after)
  pub below_before : AllByRecursion (λ y. cmp least y ≡ Less) before
  pub below_after : AllByRecursion (λ y. cmp least y ≡ Less) after

-- a list has the items of another, and rises
pub record IsOrderOf {A : Type 0} (cmp : A → A → Ordering) (all order : List A) : Type 0 where
  pub same : IsPermutation all order
  pub rises : IsStrictlySortedBy cmp order

pub all_permuted : {A : Type 0} (P : A → Type 0) (xs ys : List A) → IsPermutation xs ys → AllByRecursion P xs
    → AllByRecursion P ys
all_permuted P xs ys s h =
    recursion_from_All P ys (All-permutation P xs ys s (All-from_recursion P xs h))

picked_all : {A : Type 0} (P : A → Type 0) (b : Bool) (x : A) (xs : List A) → P x → AllByRecursion P xs
    → AllByRecursion P (cond b (x ∷ xs) xs)
picked_all P true x xs p h = (p, h)
picked_all P false x xs p h = h

pub all_filtered : {A : Type 0} (P : A → Type 0) (p : A → Bool) (xs : List A) → AllByRecursion P xs
    → AllByRecursion P (filter p xs)
all_filtered P p [] h = tt
all_filtered P p (x ∷ xs) h = picked_all P (p x) x (filter p xs) h.0 (all_filtered P p xs h.1)

pub apart-without : {A : Type 0} (cmp : A → A → Ordering) (xs ys : List A) (m : A) → AllApart cmp (xs ++ (m ∷ ys))
    → AllApart cmp (xs ++ ys)
apart-without cmp [] ys m h = h.1
apart-without cmp (x ∷ xs) ys m h = (
  All-both (λ y. cmp x y ≢ Equal) xs ys (all-front (λ y. cmp x y ≢ Equal) xs (m ∷ ys) h.0)
      (all-back (λ y. cmp x y ≢ Equal) xs (m ∷ ys) h.0).1,
  apart-without cmp xs ys m h.1,
)

pub rises-without : {A : Type 0} (cmp : A → A → Ordering) (xs ys : List A) (m : A)
    → IsStrictlySortedBy cmp (xs ++ (m ∷ ys)) → IsStrictlySortedBy cmp (xs ++ ys)
unfolding IsStrictlySortedBy
rises-without cmp [] ys m h = h.1
rises-without cmp (x ∷ xs) ys m h = (
  All-both (λ y. cmp x y ≡ Less) xs ys (all-front (λ y. cmp x y ≡ Less) xs (m ∷ ys) h.0)
      (all-back (λ y. cmp x y ≡ Less) xs (m ∷ ys) h.0).1,
  rises-without cmp xs ys m h.1,
)

module _ {A : Type 0} (cmp : A → A → Ordering) (total : IsTotalOrder cmp) where
  with_least : (x : A) (xs : List A) (m : HasLeast cmp xs) (r : Ordering) → cmp x m.least ≡ r → r ≢ Equal
      → HasLeast cmp (x ∷ xs)
  with_least x xs m Less e n =
      let under : (y : A) → cmp m.least y ≡ Less → cmp x y ≡ Less = λ y h. total.trans x m.least y e h in
      record {
        before = [];
        least = x;
        after = xs;
        whole = refl;
        below_before = tt;
        below_after = subst (AllByRecursion (λ y. cmp x y ≡ Less)) (sym m.whole)
            (All-both (λ y. cmp x y ≡ Less) m.before (m.least ∷ m.after)
            (All-implied (λ y. cmp m.least y ≡ Less) (λ y. cmp x y ≡ Less) m.before under m.below_before)
            (e, All-implied (λ y. cmp m.least y ≡ Less) (λ y. cmp x y ≡ Less) m.after under m.below_after));
      }
  with_least x xs m Equal e n = absurd (n refl)
  with_least x xs m Greater e n =
      record {
        before = x ∷ m.before;
        least = m.least;
        after = m.after;
        whole = ap (λ ys. x ∷ ys) m.whole;
        below_before = (total.antisymm m.least x ∙ ap ordering_reverse e, m.below_before);
        below_after = m.below_after;
      }

  -- If no two items compare as equal, one is smaller than all others.
  least_of : (x : A) (xs : List A) → AllApart cmp (x ∷ xs) → HasLeast cmp (x ∷ xs)
  least_of x [] h =
      record { before = []; least = x; after = []; whole = refl; below_before = tt; below_after = tt }
  least_of x (y ∷ ys) h =
      let m = least_of y ys h.1 in
      let apart : AllByRecursion (λ z. cmp x z ≢ Equal) (m.before ++ (m.least ∷ m.after)) =
      subst (AllByRecursion (λ z. cmp x z ≢ Equal)) m.whole h.0 in
      with_least x (y ∷ ys) m (cmp x m.least) refl
      (all-back (λ z. cmp x z ≢ Equal) m.before (m.least ∷ m.after) apart).0

  order_step : (m : A) (before after : List A) → AllByRecursion (λ y. cmp m y ≡ Less) before
      → AllByRecursion (λ y. cmp m y ≡ Less) after
      → IsOrderOf cmp (before ++ after) (in_order cmp (before ++ after))
      → IsOrderOf cmp (before ++ (m ∷ after)) (in_order cmp (before ++ (m ∷ after)))
  unfolding IsStrictlySortedBy
  order_step m before after f g o =
      let e = least_first cmp total m before after f g in
      record {
        same = subst (IsPermutation (before ++ (m ∷ after))) (sym e)
            (IsPermutation-trans (before ++ (m ∷ after)) (m ∷ (before ++ after)) (m ∷ in_order cmp (before ++ after))
            (IsPermutation-middle before m after)
            (IsPermutation-cons m (before ++ after) (in_order cmp (before ++ after)) o.same));
        rises = subst (IsStrictlySortedBy cmp) (sym e) (
          all_permuted (λ y. cmp m y ≡ Less) (before ++ after) (in_order cmp (before ++ after)) o.same
              (All-both (λ y. cmp m y ≡ Less) before after f g),
          o.rises,
        );
      }

  ordered_by : (n : ℕ) (all : List A) → length all ≤ n → AllApart cmp all → IsOrderOf cmp all (in_order cmp all)
  unfolding in_order IsStrictlySortedBy
  ordered_by n [] l h = record { same = IsPermutation-refl []; rises = tt }
  ordered_by zero (x ∷ xs) l h = absurd (omega (arith, l))
  ordered_by (suc n) (x ∷ xs) l h =
      let m = least_of x xs h in
      let fewer : length (m.before ++ m.after) ≤ n =
      omega (arith, l, ap length m.whole, length-around m.least m.before m.after) in
      subst (λ all. IsOrderOf cmp all (in_order cmp all)) (sym m.whole)
      (order_step m.least m.before m.after m.below_before m.below_after
      (ordered_by n (m.before ++ m.after) fewer
      (apart-without cmp m.before m.after m.least (subst (AllApart cmp) m.whole h))))

  -- What is put in order has the same items, each as often, and each is below those after it.
  pub in_order-law : (all : List A) → AllApart cmp all → IsOrderOf cmp all (in_order cmp all)
  in_order-law all h = ordered_by (length all) all (omega arith) h

  less_once : (x y : A) → cmp x y ≡ Less → cmp y x ≡ Less → ⊥
  less_once x y e f = true≢false (sym (ap is_gt (sym e ∙ total.antisymm x y ∙ ap ordering_reverse f)))

  none_before : (m : A) (xs ys : List A) → AllByRecursion (λ y. cmp m y ≡ Less) xs
      → IsStrictlySortedBy cmp (xs ++ (m ∷ ys)) → xs ≡ []
  unfolding IsStrictlySortedBy
  none_before m [] ys f h = refl
  none_before m (x ∷ xs) ys f h =
      absurd (less_once m x f.0 (all-back (λ y. cmp x y ≡ Less) xs (m ∷ ys) h.0).0)

  left_rises : (b : Bool) (m : A) (xs ys : List A) → IsStrictlySortedBy cmp (xs ++ cond b (m ∷ ys) ys)
      → IsStrictlySortedBy cmp (xs ++ ys)
  left_rises true m xs ys h = rises-without cmp xs ys m h
  left_rises false m xs ys h = h

  put_first : (b : Bool) (m : A) (xs ys : List A) → AllByRecursion (λ y. cmp m y ≡ Less) xs
      → IsStrictlySortedBy cmp (xs ++ cond b (m ∷ ys) ys)
      → cond b (m ∷ (xs ++ ys)) (xs ++ ys) ≡ xs ++ cond b (m ∷ ys) ys
  put_first true m xs ys f h =
      let e : xs ≡ [] = none_before m xs ys f h in
      ap (λ zs. m ∷ (zs ++ ys)) e ∙ sym (ap (λ zs. zs ++ (m ∷ ys)) e)
  put_first false m xs ys f h = refl

  keep_step : (p : A → Bool) (m : A) (before after : List A) → AllByRecursion (λ y. cmp m y ≡ Less) before
      → AllByRecursion (λ y. cmp m y ≡ Less) after
      → IsStrictlySortedBy cmp (filter p before ++ cond (p m) (m ∷ filter p after) (filter p after))
      → filter p (in_order cmp (before ++ after)) ≡ filter p (before ++ after)
      → filter p (in_order cmp (before ++ (m ∷ after))) ≡ filter p (before ++ (m ∷ after))
  keep_step p m before after f g h e =
      ap (filter p) (least_first cmp total m before after f g)
      ∙ ap (λ zs. cond (p m) (m ∷ zs) zs) (e ∙ filter-append p before after)
      ∙ put_first (p m) m (filter p before) (filter p after) (all_filtered (λ y. cmp m y ≡ Less) p before f) h
      ∙ sym (filter-append p before (m ∷ after))

  kept_by : (n : ℕ) (p : A → Bool) (all : List A) → length all ≤ n → AllApart cmp all
      → IsStrictlySortedBy cmp (filter p all) → filter p (in_order cmp all) ≡ filter p all
  unfolding in_order
  kept_by n p [] l h k = refl
  kept_by zero p (x ∷ xs) l h k = absurd (omega (arith, l))
  kept_by (suc n) p (x ∷ xs) l h k =
      let m = least_of x xs h in
      let fewer : length (m.before ++ m.after) ≤ n =
      omega (arith, l, ap length m.whole, length-around m.least m.before m.after) in
      let split : IsStrictlySortedBy cmp
      (filter p m.before ++ cond (p m.least) (m.least ∷ filter p m.after) (filter p m.after)) =
      subst (IsStrictlySortedBy cmp) (ap (filter p) m.whole ∙ filter-append p m.before (m.least ∷ m.after)) k in
      subst (λ all. filter p (in_order cmp all) ≡ filter p all) (sym m.whole)
      (keep_step p m.least m.before m.after m.below_before m.below_after split
      (kept_by n p (m.before ++ m.after) fewer
      (apart-without cmp m.before m.after m.least (subst (AllApart cmp) m.whole h))
      (subst (IsStrictlySortedBy cmp) (sym (filter-append p m.before m.after))
      (left_rises (p m.least) m.least (filter p m.before) (filter p m.after) split))))

  -- Those of the items that rise as they stand, stand so in the order too.
  pub in_order-keeps : (p : A → Bool) (all : List A) → AllApart cmp all → IsStrictlySortedBy cmp (filter p all)
      → filter p (in_order cmp all) ≡ filter p all
  in_order-keeps p all h k = kept_by (length all) p all (omega arith) h k
