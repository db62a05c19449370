-- Lists of open groups: which are too old, which has a key, which is the oldest, and which were given up.
use Rattle.std.proofs.Common.{◌≡◌, ℕ, ◌+◌, ◌≤◌, ◌<◌, Bool, true, false, List, [], ◌∷◌, ◌++◌, length, refl, sym, ◌∙◌, ap}
use Rattle.std.proofs.Common.{arith, cond, ◌&&◌, not, true≢false, Option, Some, None, Ordering, Less, Equal, Greater}
use Rattle.std.specs.Prelude.{nat_lt, nat_le, ◌==◌, if◌then◌else◌, filter}
use Rattle.std.specs.List.{find, list_all}
use Rattle.std.specs.Option.{option_cmp}
use Rattle.std.specs.Ordering.{is_lt, ordering_reverse}
use Rattle.std.specs.Cmp.{IsTotalOrder}
use Rattle.std.specs.Cmp.Lexicographic.{options_total}
use Rattle.std.proofs.lemmas.Bool.Decides.{nat_tests}
use Rattle.cap_time.specs.declared.stamps.Stamp.{Stamp}
use Rattle.cap_time.specs.Stamp.{stamp_cmp, stamp_plus}
use Rattle.cap_time.specs.inner.StampLaws.{stamp_cmp_total}
use Rattle.cap_ip.specs.declared.headers.Key.{Key}
use Rattle.cap_join.specs.Fragments.{Piece}
use Rattle.cap_join.specs.Frames.{is_before, is_too_old, wait}
use Rattle.cap_join.specs.History.{OpenGroup, same_key, fragment_key, live_at, group_at, without, extended}
use Rattle.cap_join.specs.History.{without_oldest}
use Rattle.cap_join.specs.History.{trimmed}
use Rattle.cap_join.specs.Places.{place_in, lowest, one_if}
use Rattle.cap_join.proofs.Entries.{same_key-is}

-- ---- clocks

pub total : IsTotalOrder (option_cmp stamp_cmp)
total = options_total stamp_cmp_total

-- what is before a clock is before a later one
pub before_later : (a b c : Option Stamp) → is_before a b ≡ true → is_before c b ≡ false → is_before a c ≡ true
before_later a b c h k = by (option_cmp stamp_cmp a b) (option_cmp stamp_cmp b c) refl refl h
    (sym (ap is_lt (total.antisymm c b)) ∙ k)
  where
    by : (r q : Ordering) → option_cmp stamp_cmp a b ≡ r → option_cmp stamp_cmp b c ≡ q → is_lt r ≡ true
        → is_lt (ordering_reverse q) ≡ false → is_before a c ≡ true
    by Less Less e f h k = ap is_lt (total.trans a b c e f)
    by Less Equal e f h k = grind (arith, total)
    by Less Greater e f h k = absurd (true≢false k)
    by Equal q e f h k = absurd (true≢false (sym h))
    by Greater q e f h k = absurd (true≢false (sym h))

pub older : (k : Option Stamp) (b c : Option Stamp) → is_too_old k b ≡ true → is_before c b ≡ false
    → is_too_old k c ≡ true
older None b c h p = absurd (true≢false (sym h))
older (Some k) b c h p = before_later (Some (stamp_plus k wait)) b c h p

-- ---- keys

pub same_key-sym : (a b : Key) → same_key a b ≡ same_key b a
same_key-sym a b = grind arith

-- ---- filters

pub filter-push : {X : Type 0} (t : X → Bool) (xs ys : List X) → filter t (xs ++ ys) ≡ filter t xs ++ filter t ys
filter-push t [] ys = refl
filter-push t (x ∷ xs) ys = grind (arith, filter-push t xs ys)

pub filter-true : {X : Type 0} (t : X → Bool) (x : X) (xs : List X) → t x ≡ true → filter t (x ∷ xs) ≡ x ∷ filter t xs
filter-true t x xs h = ap (λ (b : Bool). cond b (x ∷ filter t xs) (filter t xs)) h

pub filter-false : {X : Type 0} (t : X → Bool) (x : X) (xs : List X) → t x ≡ false → filter t (x ∷ xs) ≡ filter t xs
filter-false t x xs h = ap (λ (b : Bool). cond b (x ∷ filter t xs) (filter t xs)) h

pub filter-commute : {X : Type 0} (s t : X → Bool) (xs : List X) → filter s (filter t xs) ≡ filter t (filter s xs)
filter-commute s t [] = refl
filter-commute {X} s t (x ∷ xs) = grind (arith, filter-commute s t xs)

-- what isn't too old at a clock, of what isn't at an earlier one
pub live_at-later : (b c : Option Stamp) → is_before c b ≡ false → (os : List OpenGroup)
    → live_at c (live_at b os) ≡ live_at c os
live_at-later b c h [] = refl
live_at-later b c h (o ∷ os) = by (is_too_old o.clock b) refl (live_at-later b c h os)
  where
    by : (t : Bool) → is_too_old o.clock b ≡ t → live_at c (live_at b os) ≡ live_at c os
        → live_at c (live_at b (o ∷ os)) ≡ live_at c (o ∷ os)
    by true t e = ap (live_at c) (filter-false (λ o. not (is_too_old o.clock b)) o os (ap not t)) ∙ e
        ∙ sym (filter-false (λ o. not (is_too_old o.clock c)) o os (ap not (older o.clock b c t h)))
    by false t e = cc

-- ---- finding a key's group

pub group_at-filter-none : (key : Key) (t : OpenGroup → Bool) (os : List OpenGroup) → group_at key os ≡ None
    → group_at key (filter t os) ≡ None
group_at-filter-none key t [] h = h
group_at-filter-none key t (o ∷ os) h = grind (arith, group_at-filter-none key t os)

-- a test that the key's groups pass doesn't matter
pub group_at-filter-kept : (key : Key) (t : OpenGroup → Bool) (os : List OpenGroup)
    → ((o : OpenGroup) → same_key key o.key ≡ true → t o ≡ true) → group_at key (filter t os) ≡ group_at key os
group_at-filter-kept key t [] h = refl
group_at-filter-kept key t (o ∷ os) h = grind (arith, group_at-filter-kept key t os h)

pub group_at-without-same : (key k : Key) (os : List OpenGroup) → same_key key k ≡ true
    → group_at key (without k os) ≡ None
group_at-without-same key k [] h = refl
group_at-without-same key k (o ∷ os) h = grind (arith, group_at-without-same key k os h)

pub apart_keys : (key k : Key) (o : OpenGroup) → same_key key k ≡ false → same_key key o.key ≡ true
    → same_key k o.key ≡ false
apart_keys key k o h e = grind arith

pub group_at-without-other : (key k : Key) (os : List OpenGroup) → same_key key k ≡ false
    → group_at key (without k os) ≡ group_at key os
group_at-without-other key k os h = group_at-filter-kept key (λ o. not (same_key k o.key)) os
    (λ o e. ap not (apart_keys key k o h e))

pub group_at-extended-other : (key : Key) (p : Piece) (os : List OpenGroup) → same_key key (fragment_key p) ≡ false
    → group_at key (extended p os) ≡ group_at key os
group_at-extended-other key p [] h = refl
group_at-extended-other key p (o ∷ os) h = grind (arith, group_at-extended-other key p os h)

pub group_at-extended-none : (key : Key) (p : Piece) (os : List OpenGroup) → group_at key os ≡ None
    → group_at key (extended p os) ≡ None
group_at-extended-none key p [] h = h
group_at-extended-none key p (o ∷ os) h = grind (arith, group_at-extended-none key p os)

pub group_at-push-none : (key : Key) (o : OpenGroup) (os : List OpenGroup) → group_at key os ≡ None
    → group_at key (os ++ o ∷ []) ≡ group_at key (o ∷ [])
group_at-push-none key o [] h = refl
group_at-push-none key o (q ∷ os) h = grind (arith, group_at-push-none key o os)

pub group_at-push-other : (key : Key) (o : OpenGroup) (os : List OpenGroup) → same_key key o.key ≡ false
    → group_at key (os ++ o ∷ []) ≡ group_at key os
group_at-push-other key o [] h = grind (arith, cond)
group_at-push-other key o (q ∷ os) h = ap (λ (l : Option OpenGroup). cond (same_key key q.key) (Some q) l)
    (group_at-push-other key o os h)

-- ---- groups of different keys, with rising places

abbrev pub IsApart : List OpenGroup → Type 0
IsApart [] = Unit {0}
IsApart (o ∷ os) = (group_at o.key os ≡ None) × IsApart os

abbrev pub Up : ℕ → ℕ → List OpenGroup → Type 0
Up low high [] = Unit {0}
Up low high (o ∷ os) = (low ≤ o.place) × (o.place < high) × Up (o.place + 1) high os

pub apart-filter : (t : OpenGroup → Bool) (os : List OpenGroup) → IsApart os → IsApart (filter t os)
apart-filter t [] h = h
apart-filter t (o ∷ os) h = grind (arith, apart-filter t os h.1, group_at-filter-none)

pub Up-wider : (low high lower higher : ℕ) (os : List OpenGroup) → lower ≤ low → high ≤ higher → Up low high os
    → Up lower higher os
Up-wider low high lower higher [] p q h = tt
Up-wider low high lower higher (o ∷ os) p q h =
    grind (arith, Up-wider (o.place + 1) high (o.place + 1) higher os (omega arith) q h.2)

pub up-filter : (t : OpenGroup → Bool) (low high : ℕ) (os : List OpenGroup) → Up low high os → Up low high (filter t os)
up-filter t low high [] h = h
up-filter t low high (o ∷ os) h = grind (arith, up-filter t (o.place + 1) high os h.2, Up-wider)

pub apart-extended : (p : Piece) (os : List OpenGroup) → IsApart os → IsApart (extended p os)
apart-extended p [] h = h
apart-extended p (o ∷ os) h = grind (arith, apart-extended p os h.1, group_at-extended-none)

pub up-extended : (p : Piece) (low high : ℕ) (os : List OpenGroup) → Up low high os → Up low high (extended p os)
up-extended p low high [] h = h
up-extended p low high (o ∷ os) h = grind (arith, up-extended p (o.place + 1) high os h.2)

pub apart-push : (o : OpenGroup) (os : List OpenGroup) → group_at o.key os ≡ None → IsApart os → IsApart (os ++ o ∷ [])
apart-push o [] none h = (refl, tt)
apart-push o (q ∷ os) none h = grind (arith, apart-push o os, group_at-push-other)

pub up-push : (low high : ℕ) (o : OpenGroup) (os : List OpenGroup) → low ≤ high → high ≤ o.place → Up low high os
    → Up low (o.place + 1) (os ++ o ∷ [])
up-push low high o [] le at h = (omega arith, omega arith, tt)
up-push low high o (q ∷ os) le at h = let b : q.place < high = h.1 in
    (h.0, omega arith, up-push (q.place + 1) high o os (omega arith) at h.2)

pub up-found : (key : Key) (low high : ℕ) (o : OpenGroup) (os : List OpenGroup) → Up low high os
    → group_at key os ≡ Some o → (low ≤ o.place) × (o.place < high)
up-found key low high o [] u h = cc
up-found key low high o (q ∷ os) u h = by (same_key key q.key) h (up-found key (q.place + 1) high o os u.2)
  where
    by : (b : Bool) → cond b (Some q) (group_at key os) ≡ Some o
        → (group_at key os ≡ Some o → (q.place + 1 ≤ o.place) × (o.place < high)) → (low ≤ o.place) × (o.place < high)
    by b n rest = grind arith

pub group_at-live-old : (key : Key) (now : Option Stamp) (o : OpenGroup) (os : List OpenGroup) → IsApart os
    → group_at key os ≡ Some o → is_too_old o.clock now ≡ true → group_at key (live_at now os) ≡ None
group_at-live-old key now o [] a h old = cc
group_at-live-old key now o (q ∷ os) a h old =
    grind (arith, group_at-live-old key now o os a.1, same_key-is, filter-false, group_at-filter-none)

-- ---- the oldest group

pub above_all : (place low high : ℕ) (os : List OpenGroup) → place ≤ low → Up low high os
    → list_all (λ q. nat_le place q.place) os ≡ true
above_all place low high [] le u = refl
above_all place low high (o ∷ os) le u = grind (arith, above_all place (o.place + 1) high os (omega arith) u.2)

pub first_lowest : (low high : ℕ) (o : OpenGroup) (os : List OpenGroup) → Up low high (o ∷ os)
    → list_all (λ q. nat_le o.place q.place) (o ∷ os) ≡ true
first_lowest low high o os u =
    grind (arith, nat_tests, above_all o.place (o.place + 1) high os (omega arith) u.2, above_all)

pub rest_higher : (first : OpenGroup) (all : List OpenGroup) (low high : ℕ) (os : List OpenGroup) → first.place < low
    → Up low high os
    → filter (λ o. not (nat_le o.place first.place && list_all (λ q. nat_le o.place q.place) all)) os ≡ os
rest_higher first all low high [] lt u = refl
rest_higher first all low high (o ∷ os) lt u =
    grind (arith, rest_higher first all (o.place + 1) high os (omega arith) u.2)

pub without_oldest-first : (low high : ℕ) (o : OpenGroup) (os : List OpenGroup) → Up low high (o ∷ os)
    → without_oldest (o ∷ os) ≡ os
without_oldest-first low high o os u =
    filter-false (λ g. not (list_all (λ q. nat_le g.place q.place) (o ∷ os))) o os
    (ap not (first_lowest low high o os u))
    ∙ rest_higher o os (o.place + 1) high os (omega arith) u.2

pub lowest-first : (low high : ℕ) (o : OpenGroup) (os : List OpenGroup) → Up low high (o ∷ os)
    → lowest (o ∷ os) ≡ Some o.place
lowest-first low high o os u =
    ap (λ (b : Bool). place_in (cond b (Some o) (find (λ g. list_all (λ q. nat_le g.place q.place) (o ∷ os)) os)))
    (first_lowest low high o os u)

-- whether the group of a place was given up
abbrev pub gone : Option ℕ → ℕ → Bool
gone None place = false
gone (Some q) place = place == q

abbrev pub but_gone : Option ℕ → List OpenGroup → List OpenGroup
but_gone gave os = filter (λ o. not (gone gave o.place)) os

pub but_none : (os : List OpenGroup) → but_gone None os ≡ os
but_none [] = refl
but_none (o ∷ os) = ap (λ (l : List OpenGroup). o ∷ l) (but_none os)

pub but_lower : (place low high : ℕ) (os : List OpenGroup) → place < low → Up low high os
    → but_gone (Some place) os ≡ os
but_lower place low high [] lt u = refl
but_lower place low high (o ∷ os) lt u = grind (arith, but_lower place (o.place + 1) high os (omega arith) u.2)

pub but_first : (low high : ℕ) (o : OpenGroup) (os : List OpenGroup) → Up low high (o ∷ os)
    → but_gone (Some o.place) (o ∷ os) ≡ os
but_first low high o os u = grind (arith, but_lower)

-- the groups that stay if one may be given up
pub trimmed-but : (limit low high : ℕ) (os : List OpenGroup) → 0 < limit → Up low high os
    → trimmed limit os ≡ but_gone (if not (nat_lt (length os) limit) then lowest os else None) os
trimmed-but limit low high os some u = by (nat_lt (length os) limit) refl os u
  where
    by : (b : Bool) → nat_lt (length os) limit ≡ b → (os : List OpenGroup) → Up low high os
        → (if b then os else without_oldest os) ≡ but_gone (if not b then lowest os else None) os
    by true e os u = sym (but_none os)
    by false e [] u = refl
    by false e (o ∷ os) u = without_oldest-first low high o os u
        ∙ sym (ap (λ (g : Option ℕ). but_gone g (o ∷ os)) (lowest-first low high o os u) ∙ but_first low high o os u)

pub given_some : (limit low high : ℕ) (os : List OpenGroup) → 0 < limit → Up low high os
    → (if not (nat_lt (length os) limit) then 1 else 0)
    ≡ one_if (if not (nat_lt (length os) limit) then lowest os else None)
given_some limit low high os some u = by (nat_lt (length os) limit) refl os refl u
  where
    by : (b : Bool) → nat_lt (length os) limit ≡ b → (xs : List OpenGroup) → length xs ≡ length os → Up low high xs
        → (if not b then 1 else 0) ≡ one_if (if not b then lowest xs else None)
    by true e xs s u = refl
    by false e [] s u = grind arith
    by false e (o ∷ xs) s u = sym (ap one_if (lowest-first low high o xs u))
