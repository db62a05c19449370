-- Items by their places: what is smaller than all others stands first, and a map that keeps the order commutes with it.
use Rattle.std.proofs.Common.{◌≡◌, ℕ, zero, suc, ◌+◌, Bool, true, false, cond, List, [], ◌∷◌, ◌++◌, length, refl, sym}
use Rattle.std.proofs.Common.{ap, ◌∙◌, arith, Ordering, Less}
use Rattle.std.specs.Prelude.{map, filter, count_by, ◌==◌}
use Rattle.std.specs.List.{flat_map, range_with_len, AllByRecursion}
use Rattle.std.specs.Ordering.{is_lt, ordering_reverse}
use Rattle.std.specs.Cmp.{IsTotalOrder, tied_itself}
use Rattle.std.proofs.lemmas.List.Sums.{sum_by-cons, sum_by-append}
use Rattle.std.proofs.lemmas.List.Elements.{filter-append}
use Rattle.std.proofs.lemmas.Bool.Decides.{nat_tests}
use Rattle.std.proofs.lemmas.List.{length-map, map-append}
use Rattle.cap_merge.specs.inner.Lists.{All-both, All-implied}
use Rattle.cap_merge.specs.Run.{merged_place, in_order}

pub filter-alike : {A : Type 0} (p q : A → Bool) (xs : List A) → AllByRecursion (λ x. p x ≡ q x) xs
    → filter p xs ≡ filter q xs
filter-alike p q [] f = refl
filter-alike p q (x ∷ xs) f = λ i. cond (f.0 i) (x ∷ filter-alike p q xs f.1 i) (filter-alike p q xs f.1 i)

pub filter-none : {A : Type 0} (p : A → Bool) (xs : List A) → AllByRecursion (λ x. p x ≡ false) xs → filter p xs ≡ []
filter-none p [] f = refl
filter-none p (x ∷ xs) f = rw f.0 (filter-none p xs f.1)

picked : {A B : Type 0} (f : A → B) (x : A) (b : Bool) (ys : List B) (zs : List A) → ys ≡ map f zs
    → cond b (f x ∷ ys) ys ≡ map f (cond b (x ∷ zs) zs)
picked f x true ys zs e = ap (λ ws. f x ∷ ws) e
picked f x false ys zs e = e

pub filter-mapped : {A B : Type 0} (f : A → B) (p : B → Bool) (xs : List A)
    → filter p (map f xs) ≡ map f (filter (λ x. p (f x)) xs)
filter-mapped f p [] = refl
filter-mapped f p (x ∷ xs) = picked f x (p (f x)) (filter p (map f xs)) (filter (λ y. p (f y)) xs)
    (filter-mapped f p xs)

pub map-flat : {A B C : Type 0} (f : B → C) (g : A → List B) (xs : List A)
    → map f (flat_map g xs) ≡ flat_map (λ x. map f (g x)) xs
map-flat f g [] = refl
map-flat f g (x ∷ xs) = map-append f (g x) (flat_map g xs) ∙ ap (λ ys. map f (g x) ++ ys) (map-flat f g xs)

count-cons : {A : Type 0} (p : A → Bool) (x : A) (xs : List A) → count_by p (x ∷ xs) ≡ cond (p x) 1 0 + count_by p xs
count-cons p x xs = sum_by-cons (λ x. cond (p x) 1 0) x xs

count-both : {A : Type 0} (p : A → Bool) (xs ys : List A) → count_by p (xs ++ ys) ≡ count_by p xs + count_by p ys
count-both p xs ys = sum_by-append (λ x. cond (p x) 1 0) xs ys

count-none : {A : Type 0} (p : A → Bool) (xs : List A) → AllByRecursion (λ x. p x ≡ false) xs → count_by p xs ≡ 0
count-none p [] f = refl
count-none p (x ∷ xs) f = count-cons p x xs ∙ rw f.0 (omega (arith, count-none p xs f.1))

count-mapped : {A B : Type 0} (f : A → B) (p : B → Bool) (xs : List A)
    → count_by p (map f xs) ≡ count_by (λ x. p (f x)) xs
count-mapped f p [] = refl
count-mapped f p (x ∷ xs) = count-cons p (f x) (map f xs) ∙ ap (λ n. cond (p (f x)) 1 0 + n) (count-mapped f p xs)
    ∙ sym (count-cons (λ x. p (f x)) x xs)

flat-later : {A : Type 0} (f g : ℕ → List A) (a b n : ℕ) → b ≡ suc a → ((k : ℕ) → f (suc k) ≡ g k)
    → flat_map f (range_with_len b n) ≡ flat_map g (range_with_len a n)
flat-later f g a b zero e same = refl
flat-later f g a b (suc n) e same =
    λ i. ((ap f e ∙ same a) i) ++ flat-later f g (a + 1) (b + 1) n (ap (λ k. k + 1) e ∙ omega arith) same i

flat-first : {A : Type 0} (f g : ℕ → List A) (x : A) (n : ℕ) → f 0 ≡ x ∷ [] → ((k : ℕ) → f (suc k) ≡ g k)
    → flat_map f (range_with_len 0 (suc n)) ≡ x ∷ flat_map g (range_with_len 0 n)
flat-first f g x n first same = λ i. first i ++ flat-later f g 0 (0 + 1) n (omega arith) same i

not-zero : (a b : ℕ) → a ≡ suc b → (a == 0) ≡ false
not-zero a b e = grind (arith, nat_tests)

is-zero : (a : ℕ) → a ≡ 0 → (a == 0) ≡ true
is-zero a e = grind (arith, nat_tests)

not-suc : (a k : ℕ) → a ≡ 0 → (a == suc k) ≡ false
not-suc a k e = grind (arith, nat_tests)

one-less : (a b k : ℕ) → a ≡ suc b → (a == suc k) ≡ (b == k)
one-less a b k e = grind (arith, nat_tests)

pub length-around : {A : Type 0} (m : A) (before after : List A)
    → length (before ++ (m ∷ after)) ≡ suc (length (before ++ after))
length-around m [] after = refl
length-around m (x ∷ before) after = ap suc (length-around m before after)

module _ {A : Type 0} (cmp : A → A → Ordering) (total : IsTotalOrder cmp) where
  turned : (x y : A) → cmp x y ≡ Less → is_lt (cmp y x) ≡ false
  turned x y e = ap is_lt (total.antisymm y x) ∙ ap (λ r. is_lt (ordering_reverse r)) e

  itself : (x : A) → is_lt (cmp x x) ≡ false
  itself x = ap is_lt (tied_itself total x)

  split_count : (p : A → Bool) (m : A) (before after : List A)
      → count_by p (before ++ (m ∷ after)) ≡ cond (p m) 1 0 + count_by p (before ++ after)
  split_count p m before after = count-both p before (m ∷ after)
      ∙ ap (λ n. count_by p before + n) (count-cons p m after) ∙ omega (arith, count-both p before after)

  least-placed : (m : A) (before after : List A) → AllByRecursion (λ y. cmp m y ≡ Less) before
      → AllByRecursion (λ y. cmp m y ≡ Less) after
      → merged_place cmp (before ++ (m ∷ after)) m ≡ 0
  least-placed m before after f g =
      split_count (λ y. is_lt (cmp y m)) m before after
      ∙ rw (itself m) (omega (
        arith,
        count-none (λ y. is_lt (cmp y m)) (before ++ after)
            (All-implied (λ y. cmp m y ≡ Less) (λ y. is_lt (cmp y m) ≡ false) (before ++ after) (λ y. turned m y)
            (All-both (λ y. cmp m y ≡ Less) before after f g)),
      ))

  other-placed : (m x : A) (before after : List A) → cmp m x ≡ Less
      → merged_place cmp (before ++ (m ∷ after)) x ≡ suc (merged_place cmp (before ++ after) x)
  other-placed m x before after e = split_count (λ y. is_lt (cmp y x)) m before after ∙ rw e (omega arith)

  -- at place 0 stands the least alone
  only-least : (m : A) (before after : List A) → AllByRecursion (λ y. cmp m y ≡ Less) before
      → AllByRecursion (λ y. cmp m y ≡ Less) after
      → filter (λ x. merged_place cmp (before ++ (m ∷ after)) x == 0) (before ++ (m ∷ after)) ≡ m ∷ []
  only-least m before after f g =
      let test : A → Bool = λ x. merged_place cmp (before ++ (m ∷ after)) x == 0 in
      let no : (xs : List A) → AllByRecursion (λ y. cmp m y ≡ Less) xs → filter test xs ≡ [] =
      λ xs h. filter-none test xs (All-implied (λ y. cmp m y ≡ Less) (λ x. test x ≡ false) xs
      (λ x e. not-zero (merged_place cmp (before ++ (m ∷ after)) x) (merged_place cmp (before ++ after) x)
      (other-placed m x before after e)) h) in
      let yes : test m ≡ true = is-zero (merged_place cmp (before ++ (m ∷ after)) m)
      (least-placed m before after f g) in
      filter-append test before (m ∷ after) ∙ (λ i. no before f i ++ cond (yes i) (m ∷ no after g i) (no after g i))

  -- at the next place stands what stands at the place among the others
  others-at : (m : A) (before after : List A) (k : ℕ) → AllByRecursion (λ y. cmp m y ≡ Less) before
      → AllByRecursion (λ y. cmp m y ≡ Less) after
      → filter (λ x. merged_place cmp (before ++ (m ∷ after)) x == suc k) (before ++ (m ∷ after))
      ≡ filter (λ x. merged_place cmp (before ++ after) x == k) (before ++ after)
  others-at m before after k f g =
      let test : A → Bool = λ x. merged_place cmp (before ++ (m ∷ after)) x == suc k in
      let other : A → Bool = λ x. merged_place cmp (before ++ after) x == k in
      let alike : (xs : List A) → AllByRecursion (λ y. cmp m y ≡ Less) xs → filter test xs ≡ filter other xs =
      λ xs h. filter-alike test other xs (All-implied (λ y. cmp m y ≡ Less) (λ x. test x ≡ other x) xs
      (λ x e. one-less (merged_place cmp (before ++ (m ∷ after)) x) (merged_place cmp (before ++ after) x) k
      (other-placed m x before after e)) h) in
      let none : test m ≡ false = not-suc (merged_place cmp (before ++ (m ∷ after)) m) k
      (least-placed m before after f g) in
      filter-append test before (m ∷ after)
      ∙ (λ i. alike before f i ++ cond (none i) (m ∷ filter test after) (alike after g i))
      ∙ sym (filter-append other before after)

  -- What is smaller than all others stands first, and the others are in order after it.
  pub least_first : (m : A) (before after : List A) → AllByRecursion (λ y. cmp m y ≡ Less) before
      → AllByRecursion (λ y. cmp m y ≡ Less) after
      → in_order cmp (before ++ (m ∷ after)) ≡ m ∷ in_order cmp (before ++ after)
  unfolding in_order
  least_first m before after f g =
      ap (λ n. flat_map (λ k. filter (λ x. merged_place cmp (before ++ (m ∷ after)) x == k) (before ++ (m ∷ after)))
      (range_with_len 0 n)) (length-around m before after)
      ∙ flat-first (λ k. filter (λ x. merged_place cmp (before ++ (m ∷ after)) x == k) (before ++ (m ∷ after)))
      (λ k. filter (λ x. merged_place cmp (before ++ after) x == k) (before ++ after)) m (length (before ++ after))
      (only-least m before after f g) (λ k. others-at m before after k f g)

module _ {A B : Type 0} (cmp : A → A → Ordering) (other : B → B → Ordering) (f : A → B) (same : (x y : A)
    → other (f x) (f y) ≡ cmp x y) where
  place-mapped : (all : List A) (x : A) → merged_place other (map f all) (f x) ≡ merged_place cmp all x
  place-mapped all x = count-mapped f (λ y. is_lt (other y (f x))) all ∙ (λ i. count_by (λ y. is_lt (same y x i)) all)

  -- A map that keeps "smaller" commutes with putting in order.
  pub order-mapped : (all : List A) → in_order other (map f all) ≡ map f (in_order cmp all)
  unfolding in_order
  order-mapped all =
      (λ i. flat_map (λ k. at-place k i) (range_with_len 0 (length-map all f i)))
      ∙ sym (map-flat f (λ k. filter (λ x. merged_place cmp all x == k) all) (range_with_len 0 (length all)))
    where
      at-place : (k : ℕ) → filter (λ y. merged_place other (map f all) y == k) (map f all)
          ≡ map f (filter (λ x. merged_place cmp all x == k) all)
      at-place k = filter-mapped f (λ y. merged_place other (map f all) y == k) all
          ∙ (λ i. map f (filter (λ x. place-mapped all x i == k) all))
