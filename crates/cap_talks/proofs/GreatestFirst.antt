-- Items by a number of each, the greatest first: what these are, and that a stable sort makes them.
use Rattle.std.proofs.Common.{◌≡◌, ℕ, ◌≤◌, ◌<◌, ◌==◌, Bool, true, false, cond, List, [], ◌∷◌, refl, sym, ap, arith}
use Rattle.std.proofs.Common.{zero, suc, take, drop, subst, ◌∙◌, length, get_or, ◌+◌}
use Rattle.std.proofs.lemmas.Bool.{ltb-true, ltb-false, lt-ltb, le-ltb}
use Rattle.std.proofs.lemmas.List.Sorted.{IsPermutation-refl, IsPermutation-cons, IsPermutation-trans}
use Rattle.std.proofs.lemmas.List.Sorted.{IsPermutation-middle, IsPermutation-sym, sorted_far}
use Rattle.std.proofs.lemmas.List.Sorted.{IsStrictWeakOrder-by_number, IsStrictWeakOrder-flip}
use Rattle.std.specs.Cmp.{IsStrictWeakOrder}
use Rattle.std.specs.List.{AllByRecursion}
use Rattle.std.specs.List.Sorted.{IsPermutation, IsSortedBy, IsStableBy, ties}
use Rattle.std.specs.Prelude.{filter, nat_lt, ⊤}
use Rattle.cap_talks.specs.table.Conversations.{Conversation}
use Rattle.cap_talks.specs.table.TopRows.{Falls, IsTop, greatest_first, put_by, talk_bytes}

module _ {X : Type 0} (number : X → ℕ) where
  -- the test by which such items are sorted
  abbrev pub before : X → X → Bool
  before x y = nat_lt (number y) (number x)

  pub before-order : IsStrictWeakOrder before
  before-order = IsStrictWeakOrder-flip (λ x y. nat_lt (number x) (number y)) (IsStrictWeakOrder-by_number number)

  all_put : (P : X → Type 0) (x : X) (xs : List X) → P x → AllByRecursion P xs
      → AllByRecursion P (put_by number x xs)
  all_put P x [] p h = (p, tt)
  all_put P x (y ∷ ys) p h = by (nat_lt (number x) (number y)) (all_put P x ys p h.1)
    where
      by : (b : Bool) → AllByRecursion P (put_by number x ys)
          → AllByRecursion P (cond b (y ∷ put_by number x ys) (x ∷ y ∷ ys))
      by true more = (h.0, more)
      by false more = (p, h)

  all_below : (n m : ℕ) (xs : List X) → n ≤ m → AllByRecursion (λ y. number y ≤ n) xs
      → AllByRecursion (λ y. number y ≤ m) xs
  all_below n m [] le h = tt
  all_below n m (x ∷ xs) le h = (omega (arith, le, h.0), all_below n m xs le h.1)

  falls_put : (x : X) (xs : List X) → Falls number xs → Falls number (put_by number x xs)
  falls_put x [] f = (tt, tt)
  falls_put x (y ∷ ys) f = by (nat_lt (number x) (number y)) refl (falls_put x ys f.1)
    where
      by : (b : Bool) → nat_lt (number x) (number y) ≡ b → Falls number (put_by number x ys)
          → Falls number (cond b (y ∷ put_by number x ys) (x ∷ y ∷ ys))
      by true e more =
          (all_put (λ z. number z ≤ number y) x ys (omega (arith, ltb-true (number x) (number y) e)) f.0, more)
      by false e more =
          let le = ltb-false (number x) (number y) e in ((le, all_below (number y) (number x) ys le f.0), f)

  pub greatest-falls : (xs : List X) → Falls number (greatest_first number xs)
  greatest-falls [] = tt
  greatest-falls (x ∷ xs) = falls_put x (greatest_first number xs) (greatest-falls xs)

  put_same : (x : X) (xs : List X) → IsPermutation (x ∷ xs) (put_by number x xs)
  put_same x [] = IsPermutation-refl (x ∷ [])
  put_same x (y ∷ ys) = by (nat_lt (number x) (number y)) (put_same x ys)
    where
      by : (b : Bool) → IsPermutation (x ∷ ys) (put_by number x ys)
          → IsPermutation (x ∷ y ∷ ys) (cond b (y ∷ put_by number x ys) (x ∷ y ∷ ys))
      by true more =
          IsPermutation-trans (x ∷ y ∷ ys) (y ∷ x ∷ ys) (y ∷ put_by number x ys)
          (IsPermutation-sym (y ∷ x ∷ ys) (x ∷ y ∷ ys) (IsPermutation-middle (y ∷ []) x ys))
          (IsPermutation-cons y (x ∷ ys) (put_by number x ys) more)
      by false more = IsPermutation-refl (x ∷ y ∷ ys)

  pub greatest-same : (xs : List X) → IsPermutation xs (greatest_first number xs)
  greatest-same [] = IsPermutation-refl []
  greatest-same (x ∷ xs) =
      IsPermutation-trans (x ∷ xs) (x ∷ greatest_first number xs) (put_by number x (greatest_first number xs))
      (IsPermutation-cons x xs (greatest_first number xs) (greatest-same xs)) (put_same x (greatest_first number xs))

  -- Items that no item of another number passes with keep their order.
  module _ (passes : X → Bool) (alike : (x y : X) → passes x ≡ true → passes y ≡ true → number x ≡ number y) where
    put_filtered : (x : X) (xs : List X)
        → filter passes (put_by number x xs) ≡ cond (passes x) (x ∷ filter passes xs) (filter passes xs)
    put_filtered x [] = refl
    put_filtered x (y ∷ ys) =
        by (nat_lt (number x) (number y)) refl (passes x) refl (passes y) refl (put_filtered x ys)
      where
        by : (b : Bool) → nat_lt (number x) (number y) ≡ b → (p : Bool) → passes x ≡ p → (q : Bool) → passes y ≡ q
            → filter passes (put_by number x ys) ≡ cond (passes x) (x ∷ filter passes ys) (filter passes ys)
            → filter passes (cond b (y ∷ put_by number x ys) (x ∷ y ∷ ys))
            ≡ cond (passes x) (x ∷ filter passes (y ∷ ys)) (filter passes (y ∷ ys))
        by false e p f q g more = refl
        by true e true f true g more =
            absurd (omega (arith, ltb-true (number x) (number y) e, alike x y f g))
        by true e true f false g more = rw (f, g) (rw f at more)
        by true e false f true g more = rw (f, g) (ap (λ l. y ∷ l) (rw f at more))
        by true e false f false g more = rw (f, g) (rw f at more)

    pub greatest-filtered : (xs : List X) → filter passes (greatest_first number xs) ≡ filter passes xs
    greatest-filtered [] = refl
    greatest-filtered (x ∷ xs) =
        put_filtered x (greatest_first number xs)
        ∙ ap (λ l. cond (passes x) (x ∷ l) l) (greatest-filtered xs)

  -- the items that tie with one
  ties-alike : (x y z : X) → ties before x y ≡ true → ties before x z ≡ true → number y ≡ number z
  ties-alike x y z e f = grind (arith, ltb-true, ltb-false)

  ties-same : (x y : X) → number x ≡ number y → ties before x y ≡ true
  ties-same x y e = grind (arith, ltb-true, ltb-false, le-ltb)

  ties-less : (x y : X) → number y < number x → ties before x y ≡ false
  ties-less x y e = grind (arith, ltb-true, ltb-false, lt-ltb)

  none_ties : (x : X) (ys : List X) (n : ℕ) → n < number x → AllByRecursion (λ y. number y ≤ n) ys
      → filter (ties before x) ys ≡ []
  none_ties x [] n l h = refl
  none_ties x (y ∷ ys) n l h =
      rw (ties-less x y (omega (arith, l, h.0))) (none_ties x ys n l h.1)

  first_ties : (x y : X) (xs ys : List X) → Falls number (y ∷ ys)
      → filter (ties before x) (x ∷ xs) ≡ filter (ties before x) (y ∷ ys) → number x ≤ number y
  first_ties x y xs ys f e = by (nat_lt (number y) (number x)) refl
    where
      some : x ∷ filter (ties before x) xs ≡ [] → ⊥
      some c = cc

      by : (b : Bool) → nat_lt (number y) (number x) ≡ b → number x ≤ number y
      by true l =
          let less = ltb-true (number y) (number x) l in
          absurd (some (rw (ties-same x x refl) at e
          ∙ none_ties x (y ∷ ys) (number y) less (omega arith, f.0)))
      by false l = ltb-false (number y) (number x) l

  cons-first : (x y : X) (xs ys : List X) → x ∷ xs ≡ y ∷ ys → x ≡ y
  cons-first x y xs ys e = cc

  cons-rest : (x y : X) (xs ys : List X) → x ∷ xs ≡ y ∷ ys → xs ≡ ys
  cons-rest x y xs ys e = cc

  rest_ties : (t : Bool) (x : X) (xs ys : List X) → cond t (x ∷ xs) xs ≡ cond t (x ∷ ys) ys → xs ≡ ys
  rest_ties true x xs ys e = cons-rest x x xs ys e
  rest_ties false x xs ys e = e

  -- lists that fall are the same if those of their items that tie with any one are
  pub falls-same : (xs ys : List X) → Falls number xs → Falls number ys
      → ((x : X) → filter (ties before x) xs ≡ filter (ties before x) ys) → xs ≡ ys
  falls-same [] [] f g h = refl
  falls-same [] (y ∷ ys) f g h = absurd (none (rw (ties-same y y refl) at (h y)))
    where
      none : [] ≡ y ∷ filter (ties before y) ys → ⊥
      none c = cc
  falls-same (x ∷ xs) [] f g h = absurd (none (rw (ties-same x x refl) at (h x)))
    where
      none : x ∷ filter (ties before x) xs ≡ [] → ⊥
      none c = cc
  falls-same (x ∷ xs) (y ∷ ys) f g h =
      let le = first_ties x y xs ys g (h x) in
      let ge = first_ties y x ys xs f (sym (h y)) in
      let same : x ≡ y =
      cons-first x y _ _ (rw (ties-same x x refl, ties-same x y (omega (arith, le, ge))) at (h x)) in
      let rest : (z : X) → filter (ties before z) xs ≡ filter (ties before z) ys =
      λ z. rest_ties (ties before z x) x _ _ (rw (← same) at (h z)) in
      (λ i. same i ∷ falls-same xs ys f.1 g.1 rest i)

  -- what a sort makes falls
  sorted-next : (x : X) (xs : List X) → IsSortedBy before (x ∷ xs) → IsSortedBy before xs
  sorted-next x xs s = λ k d low high.
      let next : suc k + 1 ≡ suc (k + 1) = omega arith in
      subst (λ (n : ℕ). before (get_or (x ∷ xs) n d) (get_or xs k d) ≡ false) next
      (s (suc k) d (omega arith) (omega (arith, high)))

  sorted-below : (x : X) (xs : List X) (n : ℕ) → ((k : ℕ) → k < length xs → number (get_or xs k x) ≤ n)
      → AllByRecursion (λ y. number y ≤ n) xs
  sorted-below x [] n h = tt
  sorted-below x (y ∷ xs) n h = (h zero (omega arith), sorted-below x xs n (λ k l. h (suc k) (omega (arith, l))))

  sorted-falls : (xs : List X) → IsSortedBy before xs → Falls number xs
  sorted-falls [] s = tt
  sorted-falls (x ∷ xs) s = (
    sorted-below x xs (number x)
        (λ k l. ltb-false (number x) (number (get_or xs k x))
        (sorted_far before before-order (x ∷ xs) s zero (suc k) x (omega arith) (omega (arith, l)))),
    sorted-falls xs (sorted-next x xs s),
  )

  -- a stable sort puts the greatest first
  pub sorted-greatest : (xs ys : List X) → IsSortedBy before ys → IsStableBy before xs ys
      → ys ≡ greatest_first number xs
  sorted-greatest xs ys s t =
      falls-same ys (greatest_first number xs) (sorted-falls ys s) (greatest-falls xs)
      (λ x. t x ∙ sym (greatest-filtered (ties before x) (ties-alike x) xs))

  all_true : (xs : List X) → AllByRecursion (λ y. ⊤) xs
  all_true [] = tt
  all_true (x ∷ xs) = (tt, all_true xs)

  rest_with : (x : X) (front rest : List X) (n : ℕ) → AllByRecursion (λ y. number y ≤ number x) (drop n rest)
      → AllByRecursion (λ y. AllByRecursion (λ z. number y ≤ number z) front) (drop n rest)
      → AllByRecursion (λ y. AllByRecursion (λ z. number y ≤ number z) (x ∷ front)) (drop n rest)
  rest_with x front rest n h k = by (drop n rest) h k
    where
      by : (rest : List X) → AllByRecursion (λ y. number y ≤ number x) rest
          → AllByRecursion (λ y. AllByRecursion (λ z. number y ≤ number z) front) rest
          → AllByRecursion (λ y. AllByRecursion (λ z. number y ≤ number z) (x ∷ front)) rest
      by [] h k = tt
      by (y ∷ ys) h k = ((h.0, k.0), by ys h.1 k.1)

  all_dropped : (P : X → Type 0) (n : ℕ) (xs : List X) → AllByRecursion P xs → AllByRecursion P (drop n xs)
  all_dropped P zero xs h = h
  all_dropped P (suc n) [] h = tt
  all_dropped P (suc n) (x ∷ xs) h = all_dropped P n xs h.1

  -- what falls has nothing behind its front with a greater number than one of the front
  pub falls-rest : (n : ℕ) (xs : List X) → Falls number xs
      → AllByRecursion (λ y. AllByRecursion (λ z. number y ≤ number z) (take n xs)) (drop n xs)
  falls-rest zero xs f = all_true xs
  falls-rest (suc n) [] f = tt
  falls-rest (suc n) (x ∷ xs) f =
      rest_with x (take n xs) xs n (all_dropped (λ y. number y ≤ number x) n xs f.0) (falls-rest n xs f.1)

same-number : (n : ℕ) (x y : Conversation) → (talk_bytes x == n) ≡ true → (talk_bytes y == n) ≡ true
    → talk_bytes x ≡ talk_bytes y
same-number n x y e f = grind arith

-- the conversations with the most bytes
pub top-law : (most : ℕ) (talks : List Conversation) → IsTop most talks
top-law most talks =
    let order = greatest_first talk_bytes talks in
    record {
      order = order;
      front = refl;
      same = greatest-same talk_bytes talks;
      falls = greatest-falls talk_bytes talks;
      stable = λ n. greatest-filtered talk_bytes (λ talk. talk_bytes talk == n) (same-number n) talks;
      rest = falls-rest talk_bytes most order (greatest-falls talk_bytes talks);
    }
