-- The run of several files: their items by clock, then by file, then by place in the file, up to the first refusal.
use Rattle.std.specs.Prelude.{◌≡◌, ⊤, ℕ, suc, Bool, false, List, [], ◌∷◌, ◌++◌, length, map, filter, count_by, ◌==◌}
use Rattle.std.specs.Prelude.{Option, None, if◌then◌else◌}
use Rattle.std.specs.List.{flat_map, range_with_len, AllByRecursion}
use Rattle.std.specs.Ordering.{nat_cmp, ordering_then, is_lt, is_gt}
use Rattle.std.specs.declared.cmp.Ordering.{Ordering}
use Rattle.std.specs.declared.cmp.Ordering.TheVariants.{Less}
use Rattle.cap_time.specs.declared.stamps.Stamp.{Stamp}
use Rattle.cap_time.specs.Clock.{clock_cmp, later}

-- how many of some items are smaller than one: its place among them
abbrev pub merged_place : {A : Type 0} → (A → A → Ordering) → List A → A → ℕ
merged_place cmp all x = count_by (λ y. is_lt (cmp y x)) all

-- for each place, the items that have it
unfoldable pub in_order : {A : Type 0} → (A → A → Ordering) → List A → List A
in_order cmp all = flat_map (λ k. filter (λ x. merged_place cmp all x == k) all) (range_with_len 0 (length all))

-- an item with its clock
pub record Clocked (A : Type 0) : Type 0 where
  pub clock : Option Stamp
  pub item : A

-- an item where it stands: in which file, and after how many of its items
pub record Placed (A : Type 0) : Type 0 where
  pub clock : Option Stamp
  pub file : ℕ
  pub place : ℕ
  pub item : A

-- items compare by clock, then by file, then by place in the file
abbrev pub placed_cmp : {A : Type 0} → Placed A → Placed A → Ordering
placed_cmp x y = ordering_then (clock_cmp x.clock y.clock)
    (ordering_then (nat_cmp x.file y.file) (nat_cmp x.place y.place))

abbrev pub clocked_of : {A : Type 0} → Placed A → Clocked A
clocked_of x = record { clock = x.clock; item = x.item }

-- A file at one moment: the clock that it has reached, and its items to come.
pub record Track (A : Type 0) : Type 0 where
  pub clock : Option Stamp
  pub items : List A

-- a file of which nothing was passed
abbrev pub opened_track : {A : Type 0} → List A → Track A
opened_track items = record { clock = None; items = items }

-- the items of a file from a place on, after which the file has reached a clock: each takes the clock on to its own
-- time, if it has one
abbrev pub placed_from : {A : Type 0} → (A → Option Stamp) → ℕ → ℕ → Option Stamp → List A → List (Placed A)
placed_from time file place clock [] = []
placed_from time file place clock (x ∷ xs) =
    record { clock = later clock (time x); file = file; place = place; item = x }
    ∷ placed_from time file (suc place) (later clock (time x)) xs

-- the items of the files from that number on
abbrev pub placed_all : {A : Type 0} → (A → Option Stamp) → ℕ → List (Track A) → List (Placed A)
placed_all time file [] = []
placed_all time file (t ∷ ts) = placed_from time file 0 t.clock t.items ++ placed_all time (suc file) ts

-- the items of all files by their merged places, each with its clock
abbrev pub merged : {A : Type 0} → (A → Option Stamp) → List (Track A) → List (Clocked A)
merged time tracks = map clocked_of (in_order placed_cmp (placed_all time 1 tracks))

-- some items up to and with the first that ends them
abbrev pub through_first : {A : Type 0} → (A → Bool) → List A → List A
through_first ends [] = []
through_first ends (x ∷ xs) = x ∷ (if ends x then [] else through_first ends xs)

-- the run: the merged items up to and with the first refusal
abbrev pub run : {A : Type 0} → (A → Option Stamp) → (A → Bool) → List (Track A) → List (Clocked A)
run time is_refusal tracks = through_first (λ x. is_refusal x.item) (merged time tracks)

-- The next item of a file, if it has one, has a clock of which that is true.
abbrev pub HeadClock : {A : Type 0} → (A → Option Stamp) → (Option Stamp → Type 0) → Option Stamp → List A → Type 0
HeadClock time Holds clock [] = ⊤
HeadClock time Holds clock (x ∷ xs) = Holds (later clock (time x))

-- A clock is below those of the next items of the files before one, and not above those of the files after it.
pub record IsFirst {A : Type 0} (time : A → Option Stamp) (before : List (Track A)) (clock : Option Stamp)
    (after : List (Track A)) : Type 0 where
  pub below : AllByRecursion (λ t. HeadClock time (λ h. clock_cmp clock h ≡ Less) t.clock t.items) before
  pub not_above : AllByRecursion (λ t. HeadClock time (λ h. is_gt (clock_cmp clock h) ≡ false) t.clock t.items) after
