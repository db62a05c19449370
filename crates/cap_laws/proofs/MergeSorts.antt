-- What a merge of files has and writes is sorted: the files' items say their numbers.
use Rattle.std.proofs.Common.{arith, ◌≡◌, ℕ, ◌+◌, false, List, [], ◌∷◌, ◌++◌, refl, sym, ap, ◌∙◌, subst, add-one}
use Rattle.std.proofs.Common.{Option, None}
use Rattle.std.specs.Prelude.{map, IsPermutation}
use Rattle.std.specs.List.{AllByRecursion, AllZip, flat_map}
use Rattle.std.proofs.lemmas.List.{map-append}
use Rattle.std.proofs.lemmas.List.Sorted.{IsPermutation-map, IsPermutation-sym}
use Rattle.cap_bytes.specs.declared.faults.Tail.{Tail}
use Rattle.cap_pcap.specs.Split as records
use Rattle.cap_merge.proofs.FileOrder.{merge_order-law}
use Rattle.cap_merge.proofs.InOrder.{all_permuted}
use Rattle.cap_merge.proofs.MergedOnce.{merged_once-law}
use Rattle.cap_merge.specs.Files.{items_of_files, run_of_files}
use Rattle.cap_merge.specs.Merging.{item_file, AreOfFiles}
use Rattle.cap_merge.specs.Parts.{item_time, is_refusal}
use Rattle.cap_merge.specs.Run.{Clocked, merged, opened_track, through_first}
use Rattle.cap_merge.specs.inner.Lists.{all-front, all-back}
use Rattle.cap_source.specs.Feed.{Item, packet, refused, refusal_of}
use Rattle.cap_source.specs.Items.{file_items, interface_of}
use Rattle.cap_time.specs.declared.stamps.Stamp.{Stamp}
use Rattle.cap_write.specs.Numbering.{own}
use Rattle.cap_write.specs.Texts.{merged_bytes}
use Rattle.cap_laws.proofs.FileNumbers.{file-numbered}
use Rattle.cap_laws.proofs.Twins.{TwinItems, twins, unrefused}
use Rattle.cap_laws.specs.MergeSorts.{IsSortedMerge, RunSorts, SortsOnce, HoldsMerge, MergeSorts}
use Rattle.cap_laws.specs.again.Laws.{Kept, kept_of, kept_packets}
use Rattle.cap_laws.specs.again.Rounds.{in_file, MergeLaw}

-- ---- the files' items have their numbers

says_file : (file : ℕ) (xs : List Item) → AllByRecursion (λ x. item_file x ≡ file) (map (in_file file) xs)
says_file file [] = tt
says_file file (packet meta frame ∷ xs) = (refl, says_file file xs)
says_file file (refused refusal ∷ xs) = (refl, says_file file xs)

files-say : (tail : Tail) (file : ℕ) (files : List (List ℕ))
    → AreOfFiles item_file file (items_of_files tail file files)
files-say tail file [] = tt
files-say tail file (bytes ∷ files) = (
  subst (AllByRecursion (λ x. item_file x ≡ file)) (sym (file-numbered tail file 0 bytes))
      (says_file file (file_items tail 0 bytes)),
  subst (λ n. AreOfFiles item_file n (items_of_files tail (file + 1) files)) (add-one file)
      (files-say tail (file + 1) files),
)

-- the merge of some files
merge_in : Tail → List (List ℕ) → List (Clocked Item)
merge_in tail files = merged item_time (map opened_track (items_of_files tail 1 files))

sorted-merge : (tail : Tail) (files : List (List ℕ)) → IsSortedMerge tail files (merge_in tail files)
unfolding merge_in
sorted-merge tail files = merge_order-law (items_of_files tail 1 files) (files-say tail 1 files)

pub run-sorts : RunSorts
unfolding merge_in
run-sorts tail files = (merge_in tail files, sorted-merge tail files, refl)

pub sorts-once : SortsOnce
sorts-once tail files merge other m o =
    merged_once-law (items_of_files tail 1 files) (files-say tail 1 files) merge other m o

-- ---- a merge without a refusal

abbrev pub NotRefused : Item → Type 0
NotRefused x = is_refusal x ≡ false

-- the run of some items
through : List (Clocked Item) → List (Clocked Item)
through xs = through_first (λ x. is_refusal x.item) xs

-- none of the items of a run is a refusal, so that it is the whole list
record IsWhole (xs : List (Clocked Item)) : Type 0 where
  whole : through xs ≡ xs
  accepted : AllByRecursion NotRefused (map (λ x. x.item) xs)

whole-more : (clock : Option Stamp) (i : Item) (xs : List (Clocked Item))
    → (refusal_of (map (λ x. x.item) (through xs)) ≡ None → IsWhole xs)
    → refusal_of (map (λ x. x.item) (through (record { clock = clock; item = i } ∷ xs))) ≡ None
    → IsWhole (record { clock = clock; item = i } ∷ xs)
unfolding refusal_of through
whole-more clock (packet meta frame) xs rest e =
    let r = rest e in
    record {
      whole = ap (λ ys. record { clock = clock; item = packet meta frame } ∷ ys) r.whole;
      accepted = (refl, r.accepted);
    }
whole-more clock (refused refusal) xs rest e = grind arith

all-through : (xs : List (Clocked Item)) → refusal_of (map (λ x. x.item) (through xs)) ≡ None → IsWhole xs
unfolding through
all-through [] e = record { whole = refl; accepted = tt }
all-through (x ∷ xs) e = whole-more x.clock x.item xs (all-through xs) e

-- ---- what a written file keeps

-- of a refusal, which no list below has, that packet
kept_item : Item → Kept
kept_item (packet meta frame) = kept_of meta frame
kept_item (refused refusal) =
    record { interface = interface_of (records.header_at []); units = None; captured = 0; original = 0; frame = [] }

kept-mapped : (xs : List Item) → AllByRecursion NotRefused xs → map kept_item xs ≡ kept_packets xs
unfolding kept_item kept_packets
kept-mapped [] h = refl
kept-mapped (packet meta frame ∷ xs) h = ap (λ ks. kept_of meta frame ∷ ks) (kept-mapped xs h.1)
kept-mapped (refused refusal ∷ xs) h = grind arith

kept-files : (files : List (List Item)) → AllByRecursion NotRefused (flat_map (λ items. items) files)
    → map kept_item (flat_map (λ items. items) files) ≡ flat_map kept_packets files
kept-files [] h = refl
kept-files (items ∷ files) h =
    map-append kept_item items (flat_map (λ items. items) files)
    ∙ (λ i. kept-mapped items (all-front NotRefused items (flat_map (λ items. items) files) h) i
    ++ kept-files files (all-back NotRefused items (flat_map (λ items. items) files) h) i)

kept-permuted : (files : List (List Item)) (items : List Item) → AllByRecursion NotRefused items
    → IsPermutation (flat_map (λ items. items) files) items
    → IsPermutation (flat_map kept_packets files) (kept_packets items)
kept-permuted files items h s =
    let all = flat_map (λ items. items) files in
    subst (λ ks. IsPermutation ks (kept_packets items))
    (kept-files files (all_permuted NotRefused items all (IsPermutation-sym all items s) h))
    (subst (IsPermutation (map kept_item all)) (kept-mapped items h) (IsPermutation-map kept_item all items s))

kept-twins : (xs ys : List Item) → AllZip TwinItems xs ys → kept_packets xs ≡ kept_packets ys
unfolding kept_packets
kept-twins (packet m f ∷ xs) (packet n g ∷ ys) h = grind (arith, kept-twins xs ys h.1)
kept-twins xs ys h = grind arith

-- ---- what is written of a merge

-- A run without a refusal has all packets of its files.
pub record IsWholeRun (tail : Tail) (files : List (List ℕ)) : Type 0 where
  pub same : IsPermutation (flat_map (λ items. items) (items_of_files tail 1 files)) (run_of_files tail files)
  pub accepted : AllByRecursion NotRefused (flat_map (λ items. items) (items_of_files tail 1 files))

pub whole-run : (tail : Tail) (files : List (List ℕ)) → refusal_of (run_of_files tail files) ≡ None
    → IsWholeRun tail files
unfolding run_of_files merge_in through
whole-run tail files none =
    let merge = merge_in tail files in
    let run = all-through merge none in
    let sorted = sorted-merge tail files in
    let all = flat_map (λ items. items) (items_of_files tail 1 files) in
    let items = map (λ x. x.item) merge in
    record {
      same = subst (λ xs. IsPermutation all (map (λ x. x.item) xs)) (sym run.whole) sorted.same;
      accepted = all_permuted NotRefused items all (IsPermutation-sym all items sorted.same) run.accepted;
    }

merge-written : (tail : Tail) (files : List (List ℕ)) (again : List Item) → refusal_of (run_of_files tail files) ≡ None
    → kept_packets again ≡ kept_packets (run_of_files tail files) → HoldsMerge tail files again
unfolding run_of_files merge_in through
merge-written tail files again none e =
    let merge = merge_in tail files in
    let sorted = sorted-merge tail files in
    let run = all-through merge none in
    let kept : kept_packets again ≡ kept_packets (map (λ x. x.item) merge) =
    e ∙ ap (λ xs. kept_packets (map (λ x. x.item) xs)) run.whole in
    record {
      same = subst (IsPermutation (flat_map kept_packets (items_of_files tail 1 files))) (sym kept)
          (kept-permuted (items_of_files tail 1 files) (map (λ x. x.item) merge) run.accepted sorted.same);
      merge = merge;
      sorted = sorted;
      in_order = kept;
    }

pub merge-sorts : MergeLaw → MergeSorts
merge-sorts law order tail tail_again file_again files are none short =
    let items = run_of_files tail files in
    let text = merged_bytes order items in
    let read = law order tail tail_again file_again files are short in
    merge-written tail files (file_items tail_again file_again text) (unrefused (own []) items none)
    (kept-twins (file_items tail_again file_again text) items
    (twins (own []) (own []) (file_items tail_again file_again text) items read.1 none read.0))
