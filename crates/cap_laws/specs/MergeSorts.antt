-- What a merge has and writes: the packets of its files, sorted by clock and then by file, each file in its own order.
use Rattle.std.specs.Prelude.{◌≡◌, ℕ, ◌≤◌, ◌^◌, List, length, map, None, IsPermutation}
use Rattle.std.specs.List.{AllByRecursion, flat_map}
use Rattle.cap_blocks.specs.Split.{AreBytes}
use Rattle.cap_bytes.specs.declared.faults.Tail.{Tail}
use Rattle.cap_bytes.specs.declared.numbers.Order.{Order}
use Rattle.cap_merge.specs.Files.{clocked_run, items_of_files, run_of_files}
use Rattle.cap_merge.specs.Merging.{item_file, IsMergeOfFiles}
use Rattle.cap_merge.specs.Parts.{item_time, is_refusal}
use Rattle.cap_merge.specs.Run.{Clocked, through_first}
use Rattle.cap_source.specs.Feed.{Item}
use Rattle.cap_source.specs.Items.{file_items}
use Rattle.cap_write.specs.Texts.{merged_bytes, merged_refusal}
use Rattle.cap_laws.specs.again.Laws.{kept_packets}

-- `merge` has the packets and the refusals of the files with those bytes: it is sorted by clock, and by file if clocks
-- are equal, and those of each file keep their order.
abbrev pub IsSortedMerge : Tail → List (List ℕ) → List (Clocked Item) → Type 0
IsSortedMerge tail files merge = IsMergeOfFiles item_time item_file (items_of_files tail 1 files) merge

-- The run of files, whatever bytes they hold, is such a merge of them, up to and including the first refusal.
abbrev pub RunSorts : Type 0
RunSorts =
    (tail : Tail) (files : List (List ℕ))
    → (merge : List (Clocked Item)) × IsSortedMerge tail files merge
    × (clocked_run tail files ≡ through_first (λ x. is_refusal x.item) merge)

-- Files have only one such merge.
abbrev pub SortsOnce : Type 0
SortsOnce =
    (tail : Tail) (files : List (List ℕ)) (merge other : List (Clocked Item)) → IsSortedMerge tail files merge
    → IsSortedMerge tail files other
    → merge ≡ other

-- The packets that are read again from a written file are a permutation of the packets of all files, in the order of
-- such a merge: each has the same interface, time, lengths and bytes.
pub record HoldsMerge (tail : Tail) (files : List (List ℕ)) (again : List Item) : Type 0 where
  pub same : IsPermutation (flat_map kept_packets (items_of_files tail 1 files)) (kept_packets again)
  pub merge : List (Clocked Item)
  pub sorted : IsSortedMerge tail files merge
  pub in_order : kept_packets again ≡ kept_packets (map (λ x. x.item) merge)

-- What a merge of files writes, whatever bytes the files hold, holds such a merge, if nothing is refused and at most
-- 2^40 bytes are written.
abbrev pub MergeSorts : Type 0
MergeSorts =
    (order : Order) (tail tail_again : Tail) (file_again : ℕ) (files : List (List ℕ)) → AllByRecursion AreBytes files
    → (let items = run_of_files tail files in
    let text = merged_bytes order items in
    merged_refusal items ≡ None → length text ≤ 2 ^ 40
    → HoldsMerge tail files (file_items tail_again file_again text))
