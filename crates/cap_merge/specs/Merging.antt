-- What merging does to files: their items, sorted by clock and then by file, each file in its own order.
use Rattle.std.specs.Prelude.{◌≡◌, ⊤, ℕ, suc, ◌+◌, ◌==◌, false, List, [], ◌∷◌, ◌++◌, length, map, filter, Option, None}
use Rattle.std.specs.Prelude.{IsPermutation}
use Rattle.std.specs.List.{AllByRecursion, flat_map}
use Rattle.std.specs.Ordering.{nat_cmp, ordering_then, is_gt}
use Rattle.std.specs.declared.cmp.Ordering.{Ordering}
use Rattle.cap_source.specs.Feed.{Item, packet, refused}
use Rattle.cap_time.specs.Clock.{clock_cmp, later}
use Rattle.cap_time.specs.declared.stamps.Stamp.{Stamp}
use Rattle.cap_merge.specs.Parts.{item_time}
use Rattle.cap_merge.specs.Run.{Clocked, merged, opened_track}

-- the number of the file that has an item
abbrev pub item_file : Item → ℕ
item_file (packet meta frame) = meta.file
item_file (refused refusal) = refusal.file

-- Each item has the number of its file; the files are numbered by their places, from `file` on.
abbrev pub AreOfFiles : {A : Type 0} → (A → ℕ) → ℕ → List (List A) → Type 0
AreOfFiles file_of file [] = ⊤
AreOfFiles file_of file (items ∷ files) = AllByRecursion (λ x. file_of x ≡ file) items
    × AreOfFiles file_of (suc file) files

-- the items of a file, each with its clock: the greatest of `clock` and the times of the items up to and including it
abbrev pub with_clocks : {A : Type 0} → (A → Option Stamp) → Option Stamp → List A → List (Clocked A)
with_clocks time clock [] = []
with_clocks time clock (x ∷ xs) =
    record { clock = later clock (time x); item = x } ∷ with_clocks time (later clock (time x)) xs

-- Items compare by clock, and if their clocks are equal, by the number of the file.
abbrev pub clock_file_cmp : {A : Type 0} → (A → ℕ) → Clocked A → Clocked A → Ordering
clock_file_cmp file_of x y = ordering_then (clock_cmp x.clock y.clock) (nat_cmp (file_of x.item) (file_of y.item))

-- No item compares as greater than an item after it.
abbrev pub NoneFalls : {A : Type 0} → (A → A → Ordering) → List A → Type 0
NoneFalls cmp [] = ⊤
NoneFalls cmp (x ∷ xs) = AllByRecursion (λ y. is_gt (cmp x y) ≡ false) xs × NoneFalls cmp xs

-- `merge` is a permutation of the items of all files. It is sorted by clock, and items with equal clocks are sorted by
-- file. The items of each file keep their order, and an item's clock is the greatest time in its file up to and
-- including that item. The first file has the number 1.
pub record IsMergeOfFiles {A : Type 0} (time : A → Option Stamp) (file_of : A → ℕ) (files : List (List A))
    (merge : List (Clocked A)) : Type 0 where
  pub same : IsPermutation (flat_map (λ items. items) files) (map (λ x. x.item) merge)
  pub sorted : NoneFalls (clock_file_cmp file_of) merge
  pub each_file : (before after : List (List A)) (items : List A) → files ≡ before ++ (items ∷ after)
      → filter (λ x. file_of x.item == 1 + length before) merge ≡ with_clocks time None items

-- If items have the numbers of their files, the merged list of the files is such a merge.
abbrev pub MergeOrder : Type 0
MergeOrder =
    (files : List (List Item)) → AreOfFiles item_file 1 files
    → IsMergeOfFiles item_time item_file files (merged item_time (map opened_track files))

-- No two lists are such merges of the same files.
abbrev pub MergedOnce : Type 0
MergedOnce =
    (files : List (List Item)) → AreOfFiles item_file 1 files
    → (merge other : List (Clocked Item)) → IsMergeOfFiles item_time item_file files merge
    → IsMergeOfFiles item_time item_file files other
    → merge ≡ other
