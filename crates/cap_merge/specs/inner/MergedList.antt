-- How the merged list begins, and how it goes on.
use Rattle.std.proofs.Common.{◌≡◌, ℕ, suc, ◌+◌, ◌<◌, ◌≤◌, Bool, false, cond, List, [], ◌∷◌, ◌++◌, length, refl}
use Rattle.std.proofs.Common.{sym, ap, ◌∙◌, subst, arith, append_assoc, Ordering, Less, Equal, Greater, Option}
use Rattle.std.specs.Prelude.{◌≢◌, map, ◌==◌}
use Rattle.std.specs.List.{AllByRecursion}
use Rattle.std.specs.Ordering.{nat_cmp, ordering_then, is_gt, MatchOrdering}
use Rattle.std.specs.Cmp.{IsTotalOrder, then_total, on_total, nat_cmp_total, nat_cmp_is, ranks}
use Rattle.std.proofs.lemmas.Bool.Decides.{nat_tests}
use Rattle.std.proofs.lemmas.Bool.{eq-eqb}
use Rattle.std.proofs.lemmas.List.{map-append}
use Rattle.cap_time.specs.declared.stamps.Stamp.{Stamp}
use Rattle.cap_merge.specs.inner.Lists.{All-both, All-implied, map-twice}
use Rattle.cap_time.specs.Clock.{clock_cmp, later}
use Rattle.cap_merge.specs.Run.{in_order, Placed, placed_cmp, clocked_of, Track, placed_from, placed_all, merged}
use Rattle.cap_merge.specs.Run.{HeadClock, IsFirst}
use Rattle.cap_merge.specs.inner.Clocks.{clock_total, AtMost, at_most-trans, below-at_most, later-first}
use Rattle.cap_merge.specs.inner.Ordered.{least_first, order-mapped}

pub placed_total : {A : Type 0} → IsTotalOrder (placed_cmp {A = A})
placed_total = then_total (on_total (λ x. x.clock) clock_total)
    (then_total (on_total (λ x. x.file) nat_cmp_total) (on_total (λ x. x.place) nat_cmp_total))

-- An item of that file stands there or after, and its clock isn't below that.
pub record StandsIn {A : Type 0} (file place : ℕ) (clock : Option Stamp) (y : Placed A) : Type 0 where
  pub file_is : y.file ≡ file
  pub place_from : place ≤ y.place
  pub clock_from : AtMost clock y.clock

further : {A : Type 0} (file place : ℕ) (clock next : Option Stamp) (y : Placed A) → AtMost clock next
    → StandsIn file (suc place) next y → StandsIn file place clock y
further file place clock next y h s = record {
  file_is = s.file_is;
  place_from =
      omega (arith, s.place_from);
  clock_from = at_most-trans clock next y.clock h s.clock_from;
}

pub placed_from-stands : {A : Type 0} (time : A → Option Stamp) (file place : ℕ) (clock : Option Stamp) (xs : List A)
    → AllByRecursion (StandsIn file place clock) (placed_from time file place clock xs)
placed_from-stands time file place clock [] = tt
placed_from-stands time file place clock (x ∷ xs) = (
  record { file_is = refl; place_from = omega arith; clock_from = later-first clock (time x) },
  All-implied (StandsIn file (suc place) (later clock (time x))) (StandsIn file place clock)
      (placed_from time file (suc place) (later clock (time x)) xs)
      (λ y. further file place clock (later clock (time x)) y (later-first clock (time x)))
      (placed_from-stands time file (suc place) (later clock (time x)) xs),
)

then_less : (r s : Ordering) → is_gt r ≡ false → s ≡ Less → ordering_then r s ≡ Less
then_less r s h e = grind arith

before_later : {A : Type 0} (m y : Placed A) → clock_cmp m.clock y.clock ≡ Less → placed_cmp m y ≡ Less
before_later m y e = ap (λ r. ordering_then r (ordering_then (nat_cmp m.file y.file) (nat_cmp m.place y.place))) e

before_files : {A : Type 0} (m y : Placed A) → AtMost m.clock y.clock → m.file < y.file → placed_cmp m y ≡ Less
before_files m y h f = then_less (clock_cmp m.clock y.clock)
    (ordering_then (nat_cmp m.file y.file) (nat_cmp m.place y.place)) h
    (ap (λ r. ordering_then r (nat_cmp m.place y.place)) (sym (nat_cmp_is m.file y.file Less f)))

pub before_places : {A : Type 0} (m y : Placed A) → AtMost m.clock y.clock → m.file ≡ y.file → m.place < y.place
    → placed_cmp m y ≡ Less
before_places m y h f p = then_less (clock_cmp m.clock y.clock)
    (ordering_then (nat_cmp m.file y.file) (nat_cmp m.place y.place)) h
    (ap (λ r. ordering_then r (nat_cmp m.place y.place)) (sym (nat_cmp_is m.file y.file Equal f))
    ∙ sym (nat_cmp_is m.place y.place Less p))

-- from what its next item's clock is above, all of a file's items are
above_all : {A : Type 0} (time : A → Option Stamp) (file place : ℕ) (d clock : Option Stamp) (xs : List A)
    → HeadClock time (λ h. clock_cmp d h ≡ Less) clock xs
    → AllByRecursion (λ y. clock_cmp d y.clock ≡ Less) (placed_from time file place clock xs)
above_all time file place d clock [] h = tt
above_all time file place d clock (x ∷ xs) h = (
  h,
  All-implied (StandsIn file (suc place) (later clock (time x))) (λ y. clock_cmp d y.clock ≡ Less)
      (placed_from time file (suc place) (later clock (time x)) xs)
      (λ y s. below-at_most d (later clock (time x)) y.clock h s.clock_from)
      (placed_from-stands time file (suc place) (later clock (time x)) xs),
)

not_below_all : {A : Type 0} (time : A → Option Stamp) (file place : ℕ) (d clock : Option Stamp) (xs : List A)
    → HeadClock time (λ h. AtMost d h) clock xs
    → AllByRecursion (λ y. (y.file ≡ file) × AtMost d y.clock) (placed_from time file place clock xs)
not_below_all time file place d clock [] h = tt
not_below_all time file place d clock (x ∷ xs) h = (
  (refl, h),
  All-implied (StandsIn file (suc place) (later clock (time x))) (λ y. (y.file ≡ file) × AtMost d y.clock)
      (placed_from time file (suc place) (later clock (time x)) xs)
      (λ y s. (s.file_is, at_most-trans d (later clock (time x)) y.clock h s.clock_from))
      (placed_from-stands time file (suc place) (later clock (time x)) xs),
)

above_before : {A : Type 0} (time : A → Option Stamp) (m : Placed A) (file : ℕ) (ts : List (Track A))
    → AllByRecursion (λ t. HeadClock time (λ h. clock_cmp m.clock h ≡ Less) t.clock t.items) ts
    → AllByRecursion (λ y. placed_cmp m y ≡ Less) (placed_all time file ts)
above_before time m file [] f = tt
above_before time m file (t ∷ ts) f =
    All-both (λ y. placed_cmp m y ≡ Less) (placed_from time file 0 t.clock t.items) (placed_all time (suc file) ts)
    (All-implied (λ y. clock_cmp m.clock y.clock ≡ Less) (λ y. placed_cmp m y ≡ Less)
    (placed_from time file 0 t.clock t.items) (before_later m) (above_all time file 0 m.clock t.clock t.items f.0))
    (above_before time m (suc file) ts f.1)

above_after : {A : Type 0} (time : A → Option Stamp) (m : Placed A) (file : ℕ) (ts : List (Track A)) → m.file < file
    → AllByRecursion (λ t. HeadClock time (λ h. AtMost m.clock h) t.clock t.items) ts
    → AllByRecursion (λ y. placed_cmp m y ≡ Less) (placed_all time file ts)
above_after time m file [] l f = tt
above_after time m file (t ∷ ts) l f =
    All-both (λ y. placed_cmp m y ≡ Less) (placed_from time file 0 t.clock t.items) (placed_all time (suc file) ts)
    (All-implied (λ y. (y.file ≡ file) × AtMost m.clock y.clock) (λ y. placed_cmp m y ≡ Less)
    (placed_from time file 0 t.clock t.items)
    (λ y s. before_files m y s.1 (omega (arith, s.0))) (not_below_all time file 0 m.clock t.clock t.items f.0))
    (above_after time m (suc file) ts (omega arith) f.1)

placed_all-both : {A : Type 0} (time : A → Option Stamp) (file : ℕ) (ts us : List (Track A))
    → placed_all time file (ts ++ us) ≡ placed_all time file ts ++ placed_all time (file + length ts) us
placed_all-both time file [] us =
    let e : file ≡ file + 0 = omega arith in
    ap (λ n. placed_all time n us) e
placed_all-both time file (t ∷ ts) us =
    let e : suc file + length ts ≡ file + suc (length ts) = omega arith in
    ap (λ r. placed_from time file 0 t.clock t.items ++ r)
    (placed_all-both time (suc file) ts us ∙ ap (λ n. placed_all time (suc file) ts ++ placed_all time n us) e)
    ∙ sym (append_assoc (placed_from time file 0 t.clock t.items) (placed_all time (suc file) ts)
    (placed_all time (file + suc (length ts)) us))

abbrev moved : {A : Type 0} → ℕ → Placed A → Placed A
moved file y = record {
  clock = y.clock;
  file = y.file;
  place =
      cond (y.file == file) (suc y.place) y.place;
  item = y.item;
}

nat_cmp-suc : (a b : ℕ) → nat_cmp (suc a) (suc b) ≡ nat_cmp a b
nat_cmp-suc a b = grind (arith, nat_tests)

both_moved : (p q : ℕ) (b : Bool) → nat_cmp (cond b (suc p) p) (cond b (suc q) q) ≡ nat_cmp p q
both_moved p q b = grind (arith, nat_cmp-suc)

same_turn : (f g file p q : ℕ) (r : Ordering) → MatchOrdering r (f < g) (f ≡ g) (g < f)
    → ordering_then r (nat_cmp (cond (f == file) (suc p) p) (cond (g == file) (suc q) q))
    ≡ ordering_then r (nat_cmp p q)
same_turn f g file p q Less h = refl
same_turn f g file p q Equal h =
    subst (λ (w : ℕ). nat_cmp (cond (f == file) (suc p) p) (cond (w == file) (suc q) q) ≡ nat_cmp p q) h
    (both_moved p q (f == file))
same_turn f g file p q Greater h = refl

moved-cmp : {A : Type 0} (file : ℕ) (x y : Placed A) → placed_cmp (moved file x) (moved file y) ≡ placed_cmp x y
moved-cmp file x y = ap (λ r. ordering_then (clock_cmp x.clock y.clock) r)
    (same_turn x.file y.file file x.place y.place (nat_cmp x.file y.file) (ranks x.file y.file))

other : (n m : ℕ) → n ≢ m → (n == m) ≡ false
other n m h = grind (arith, nat_tests)

moved-own : {A : Type 0} (time : A → Option Stamp) (file place : ℕ) (clock : Option Stamp) (xs : List A)
    → map (moved file) (placed_from time file place clock xs) ≡ placed_from time file (suc place) clock xs
moved-own time file place clock [] = refl
moved-own time file place clock (x ∷ xs) =
    λ i. record {
      clock = later clock (time x);
      file = file;
      place = cond (eq-eqb file file refl i) (suc place) place;
      item = x;
    }
    ∷ moved-own time file (suc place) (later clock (time x)) xs i

moved-other : {A : Type 0} (time : A → Option Stamp) (moving file place : ℕ) (clock : Option Stamp) (xs : List A)
    → (file == moving) ≡ false
    → map (moved moving) (placed_from time file place clock xs) ≡ placed_from time file place clock xs
moved-other time moving file place clock [] e = refl
moved-other time moving file place clock (x ∷ xs) e =
    λ i. record { clock = later clock (time x); file = file; place = cond (e i) (suc place) place; item = x }
    ∷ moved-other time moving file (suc place) (later clock (time x)) xs e i

moved-below : {A : Type 0} (time : A → Option Stamp) (moving file : ℕ) (ts : List (Track A)) → file + length ts ≤ moving
    → map (moved moving) (placed_all time file ts) ≡ placed_all time file ts
moved-below time moving file [] l = refl
moved-below time moving file (t ∷ ts) l =
    let own : file ≢ moving = omega arith in
    let others : suc file + length ts ≤ moving = omega arith in
    map-append (moved moving) (placed_from time file 0 t.clock t.items) (placed_all time (suc file) ts)
    ∙ (λ i. moved-other time moving file 0 t.clock t.items (other file moving own) i
    ++ moved-below time moving (suc file) ts others i)

moved-above : {A : Type 0} (time : A → Option Stamp) (moving file : ℕ) (ts : List (Track A)) → moving < file
    → map (moved moving) (placed_all time file ts) ≡ placed_all time file ts
moved-above time moving file [] l = refl
moved-above time moving file (t ∷ ts) l =
    let own : file ≢ moving = omega arith in
    let others : moving < suc file = omega arith in
    map-append (moved moving) (placed_from time file 0 t.clock t.items) (placed_all time (suc file) ts)
    ∙ (λ i. moved-other time moving file 0 t.clock t.items (other file moving own) i
    ++ moved-above time moving (suc file) ts others i)

-- a file of which one item more was passed
abbrev pub passed : {A : Type 0} → (A → Option Stamp) → Option Stamp → A → List A → Track A
passed time clock x xs = record { clock = later clock (time x); items = xs }

abbrev first_placed : {A : Type 0} → (A → Option Stamp) → ℕ → Option Stamp → A → Placed A
first_placed time file clock x = record { clock = later clock (time x); file = file; place = 0; item = x }

own_after : {A : Type 0} (time : A → Option Stamp) (file : ℕ) (clock : Option Stamp) (x : A) (xs : List A)
    → AllByRecursion (λ y. placed_cmp (first_placed time file clock x) y ≡ Less)
    (placed_from time file 1 (later clock (time x)) xs)
own_after time file clock x xs =
    All-implied (StandsIn file 1 (later clock (time x))) (λ y. placed_cmp (first_placed time file clock x) y ≡ Less)
    (placed_from time file 1 (later clock (time x)) xs)
    (λ y s. before_places (first_placed time file clock x) y s.clock_from (sym s.file_is) s.place_from)
    (placed_from-stands time file 1 (later clock (time x)) xs)

-- the items that are left, numbered anew, are those of the files after the pass
left-moved : {A : Type 0} (time : A → Option Stamp) (before after : List (Track A)) (clock : Option Stamp) (xs : List A)
    → map (moved (1 + length before)) (placed_all time 1 (before ++ (record { clock = clock; items = xs } ∷ after)))
    ≡ placed_all time 1 before ++ (placed_from time (1 + length before) 1 clock xs
    ++ placed_all time (suc (1 + length before)) after)
left-moved time before after clock xs =
    ap (map (moved (1 + length before))) (placed_all-both time 1 before (record { clock = clock; items = xs } ∷ after))
    ∙ map-append (moved (1 + length before)) (placed_all time 1 before)
    (placed_all time (1 + length before) (record { clock = clock; items = xs } ∷ after))
    ∙ (λ i. moved-below time (1 + length before) 1 before (omega arith) i
    ++ map-append (moved (1 + length before)) (placed_from time (1 + length before) 0 clock xs)
    (placed_all time (suc (1 + length before)) after) i)
    ∙ (λ i. placed_all time 1 before
    ++ (moved-own time (1 + length before) 0 clock xs i
    ++ moved-above time (1 + length before) (suc (1 + length before)) after (omega arith) i))

-- If the next item of a file is below those of the files before it and not above those of the files after it, the
-- merged list begins with it, and goes on as that of what is left.
pub merged-next : {A : Type 0} (time : A → Option Stamp) (before after : List (Track A)) (clock : Option Stamp) (x : A)
    (xs : List A)
    → IsFirst time before (later clock (time x)) after
    → merged time (before ++ (record { clock = clock; items = x ∷ xs } ∷ after))
    ≡ record { clock = later clock (time x); item = x } ∷ merged time (before ++ (passed time clock x xs ∷ after))
merged-next time before after clock x xs h =
    let file : ℕ = 1 + length before in
    let m = first_placed time file clock x in
    let own = placed_from time file 1 (later clock (time x)) xs in
    let front = placed_all time 1 before in
    let back = placed_all time (suc file) after in
    ap (λ all. map clocked_of (in_order placed_cmp all))
    (placed_all-both time 1 before (record { clock = clock; items = x ∷ xs } ∷ after))
    ∙ ap (map clocked_of)
    (least_first placed_cmp placed_total m front (own ++ back) (above_before time m 1 before h.below)
    (All-both (λ y. placed_cmp m y ≡ Less) own back (own_after time file clock x xs)
    (above_after time m (suc file) after (omega arith) h.not_above)))
    ∙ ap (λ r. record { clock = later clock (time x); item = x } ∷ map clocked_of r)
    (ap (in_order placed_cmp) (sym (left-moved time before after (later clock (time x)) xs))
    ∙ order-mapped placed_cmp placed_cmp (moved file) (moved-cmp file)
    (placed_all time 1 (before ++ (passed time clock x xs ∷ after))))
    ∙ ap (λ r. record { clock = later clock (time x); item = x } ∷ r)
    (map-twice clocked_of (moved file) (in_order placed_cmp
    (placed_all time 1 (before ++ (passed time clock x xs ∷ after)))))

-- if no file has items to come, the merged list is empty
placed_all-none : {A : Type 0} (time : A → Option Stamp) (file : ℕ) (ts : List (Track A))
    → AllByRecursion (λ t. t.items ≡ []) ts → placed_all time file ts ≡ []
placed_all-none time file [] f = refl
placed_all-none time file (t ∷ ts) f = λ i. placed_from time file 0 t.clock (f.0 i)
    ++ placed_all-none time (suc file) ts f.1 i

pub merged-none : {A : Type 0} (time : A → Option Stamp) (ts : List (Track A)) → AllByRecursion (λ t. t.items ≡ []) ts
    → merged time ts ≡ []
unfolding in_order
merged-none time ts f = ap (λ all. map clocked_of (in_order placed_cmp all)) (placed_all-none time 1 ts f)
