-- The totals of the report over several files are the sums of those of the reports over each file.
use Rattle.std.specs.Prelude.{◌≡◌, ℕ, List, [], ◌∷◌, length, map, None}
use Rattle.std.specs.List.{sum_by}
use Rattle.cap_bytes.specs.declared.faults.Tail.{Tail}
use Rattle.cap_class.specs.Taken.{Taken}
use Rattle.cap_merge.specs.Files.{clocked_run, run_of_files}
use Rattle.cap_source.specs.Feed.{refusal_of}
use Rattle.cap_talks.specs.table.TakenText.{taken_bytes, truncated_of}
use Rattle.cap_class.specs.Runs.{taken_after}

-- The numbers of the line `total` over all packets, of packets, of bytes and of packets that were captured in part, are
-- the sums of those over each list of packets.
pub record TotalsAddUp (all : List Taken) (each : List (List Taken)) : Type 0 where
  pub packets : length all ≡ sum_by length each
  pub bytes : taken_bytes all ≡ sum_by taken_bytes each
  pub truncated : truncated_of all ≡ sum_by truncated_of each

-- If none of some files is refused, the totals of the report over all of them are the sums of the totals of the reports
-- over each file alone.
abbrev pub ReportTotals : Type 0
ReportTotals =
    (tail : Tail) (files : List (List ℕ)) → refusal_of (run_of_files tail files) ≡ None
    → TotalsAddUp (taken_after [] (clocked_run tail files))
    (map (λ bytes. taken_after [] (clocked_run tail (bytes ∷ []))) files)
