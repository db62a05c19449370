-- The report and the run of the file that a merge writes, and of a file that is written as pcapng.
use Rattle.std.proofs.Common.{arith, ◌≡◌, ℕ, ◌≤◌, ◌^◌, List, [], ◌∷◌, length, None}
use Rattle.std.specs.List.{AllByRecursion}
use Rattle.cap_blocks.specs.Split.{AreBytes}
use Rattle.cap_bytes.specs.declared.faults.Tail.{Tail}
use Rattle.cap_bytes.specs.declared.numbers.Order.{Order}
use Rattle.cap_merge.specs.Files.{clocked_run, items_of_files, run_of_files}
use Rattle.cap_merge.specs.Run.{Clocked}
use Rattle.cap_source.specs.Feed.{Item}
use Rattle.cap_source.specs.Items.{file_first, file_items}
use Rattle.cap_write.specs.Numbering.{Origins, own}
use Rattle.cap_write.specs.Texts.{first_origins, merged_refusal, merged_bytes, pcapng_refusal, pcapng_bytes}
use Rattle.cap_laws.specs.again.Laws.{PcapngAgain}
use Rattle.cap_laws.specs.again.Rounds.{MergeLaw}
use Rattle.cap_laws.proofs.OneFile.{run-one}
use Rattle.cap_laws.proofs.Alike.{RunsAlike}
use Rattle.cap_laws.proofs.SameRun.{IsRewritten, rewritten-alike, same-run}
use Rattle.cap_laws.proofs.Twins.{unrefused}
use Rattle.cap_laws.specs.Reports.{MergedReport, PcapngReport}
use Rattle.cap_laws.specs.Runs.{MergedRun, PcapngRun, SameRun}

-- ---- a merge

-- what is written of a merge, as the items of a file
merged_items : (order : Order) (tail tail_again : Tail) (files : List (List ℕ)) → List Item
merged_items order tail tail_again files = file_items tail_again 1 (merged_bytes order (run_of_files tail files))

merged-rewritten : MergeLaw → (order : Order) (tail tail_again : Tail) (files : List (List ℕ))
    → AllByRecursion AreBytes files
    → merged_refusal (run_of_files tail files) ≡ None → length (merged_bytes order (run_of_files tail files)) ≤ 2 ^ 40
    → IsRewritten (own []) (own []) (items_of_files tail 1 files) (merged_items order tail tail_again files ∷ [])
unfolding run_of_files merged_items
merged-rewritten merge-law order tail tail_again files bytes none short = grind (arith, run-one)

pub merged-report : MergeLaw → MergedReport
unfolding merged_items
merged-report merge-law order tail tail_again files bytes none short =
    search (
      same-run,
      merged_items,
      merged-rewritten,
      merged-rewritten merge-law order tail tail_again files bytes none short,
    )

-- ---- a file as pcapng

pcapng_items : (order : Order) (tail tail_again : Tail) (bytes : List ℕ) → List Item
pcapng_items order tail tail_again bytes = file_items tail_again 1
    (pcapng_bytes order 1 (file_first tail 1 bytes) (file_items tail 1 bytes))

pcapng-rewritten : PcapngAgain → (order : Order) (tail tail_again : Tail) (bytes : List ℕ) → AreBytes bytes
    → pcapng_refusal 1 (file_first tail 1 bytes) (file_items tail 1 bytes) ≡ None
    → length (pcapng_bytes order 1 (file_first tail 1 bytes) (file_items tail 1 bytes)) ≤ 2 ^ 40
    → IsRewritten (first_origins 1 (file_first tail 1 bytes)) (first_origins 1 (file_first tail 1 bytes))
    (file_items tail 1 bytes ∷ [])
    (pcapng_items order tail tail_again bytes ∷ [])
unfolding pcapng_items
pcapng-rewritten again-law order tail tail_again bytes are none short = grind (arith, run-one, unrefused)

pub pcapng-report : PcapngAgain → PcapngReport
unfolding pcapng_items
pcapng-report again-law order tail tail_again bytes are none short =
    search (
      same-run,
      pcapng_items,
      pcapng-rewritten,
      pcapng-rewritten again-law order tail tail_again bytes are none short,
    )

-- ---- runs

same-runs : (xs ys : List (Clocked Item)) → RunsAlike xs ys → SameRun xs ys
same-runs (x ∷ xs) (y ∷ ys) h = grind (arith, same-runs xs ys h.1)
same-runs xs ys h = grind arith

-- the run of files of some bytes, and that of a file of which the same packets are written
run-again : (tail tail_again : Tail) (origins others : Origins) (files : List (List ℕ)) (text : List ℕ)
    → IsRewritten origins others (items_of_files tail 1 files) (file_items tail_again 1 text ∷ [])
    → SameRun (clocked_run tail files) (clocked_run tail_again (text ∷ []))
run-again tail tail_again origins others files text is = search (same-runs, rewritten-alike)

pub merged-run : MergeLaw → MergedRun
unfolding merged_items
merged-run merge-law order tail tail_again files bytes none short =
    grind (arith, run-again, merged-rewritten, merged-rewritten merge-law order tail tail_again files bytes none short)

pub pcapng-run : PcapngAgain → PcapngRun
unfolding pcapng_items
pcapng-run again-law order tail tail_again bytes are none short =
    search (run-again, pcapng-rewritten, pcapng-rewritten again-law order tail tail_again bytes are none short)
