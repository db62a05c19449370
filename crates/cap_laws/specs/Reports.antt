-- What stays of the report when the packets of files are written as one file.
use Rattle.std.specs.Prelude.{◌≡◌, ℕ, ◌≤◌, ◌^◌, Bool, List, [], ◌∷◌, length, Option, Some, None, option_map}
use Rattle.std.specs.List.{AllByRecursion}
use Rattle.cap_blocks.specs.Split.{AreBytes}
use Rattle.cap_bytes.specs.declared.faults.Refusal.{Refusal}
use Rattle.cap_bytes.specs.declared.faults.Rule.{Rule}
use Rattle.cap_bytes.specs.declared.faults.Tail.{Tail}
use Rattle.cap_bytes.specs.declared.numbers.Order.{Order}
use Rattle.cap_merge.specs.Files.{clocked_run, run_of_files}
use Rattle.cap_merge.specs.Run.{Clocked}
use Rattle.cap_source.specs.Feed.{Item}
use Rattle.cap_source.specs.Items.{file_first, file_items}
use Rattle.cap_class.specs.Runs.{taken_after, with_item}
use Rattle.cap_print.specs.declared.forms.Form.TheVariants.{Text}
use Rattle.cap_print.specs.declared.forms.TimeForm.TheVariants.{Exact}
use Rattle.cap_talks.specs.talks.ReportText.{refusal_here_for, report_refusal_for}
use Rattle.cap_talks.specs.table.TakenText.{body_for}
use Rattle.cap_class.specs.Taken.{Taken}
use Rattle.cap_write.specs.Texts.{merged_bytes, merged_refusal, pcapng_bytes, pcapng_refusal}

-- Where a run is refused: after how many taken packets, and by which rule.
pub record Place : Type 0 where
  pub taken : ℕ
  pub rule : Rule

-- that of a refusal after that many packets, or else one further on
abbrev pub refusal_place_or : ℕ → Option Refusal → Option Place → Option Place
refusal_place_or taken None later = later
refusal_place_or taken (Some refusal) later = Some (record { taken = taken; rule = refusal.rule })

-- where a run is refused first, after the packets that were taken, by a report that reads IPv6 packets or not
unfoldable pub refused_after : Bool → List Taken → List (Clocked Item) → Option Place
refused_after reads xs [] = None
refused_after reads xs (x ∷ run) = refusal_place_or (length xs) (refusal_here_for reads xs x.clock x.item)
    (refused_after reads (with_item x.clock x.item xs) run)

abbrev pub refused_at : Bool → List (Clocked Item) → Option Place
refused_at reads run = refused_after reads [] run

-- The rule of that place is the rule of the refusal that is returned instead of a report.
abbrev pub RuleLaw : Type 0
RuleLaw =
    (reads : Bool) (run : List (Clocked Item))
    → option_map (λ place. place.rule) (refused_at reads run)
    ≡ option_map (λ refusal. refusal.rule) (report_refusal_for reads run)

-- The reports of two runs have the same lines, but for those of the files, or are refused at the same place by the same
-- rule, whether they read IPv6 packets or not.
pub record SameReport (run again : List (Clocked Item)) : Type 0 where
  pub lines : (reads : Bool)
      → body_for reads (Text Exact) (taken_after [] again) ≡ body_for reads (Text Exact) (taken_after [] run)
  pub refused : (reads : Bool) → refused_at reads again ≡ refused_at reads run

-- The file that a merge of some files writes, if nothing is refused and it is at most 2^40 bytes long, has the report
-- of the files.
abbrev pub MergedReport : Type 0
MergedReport =
    (order : Order) (tail tail_again : Tail) (files : List (List ℕ)) → AllByRecursion AreBytes files
    → (let items = run_of_files tail files in
    let text = merged_bytes order items in
    merged_refusal items ≡ None → length text ≤ 2 ^ 40
    → SameReport (clocked_run tail files) (clocked_run tail_again (text ∷ [])))

-- So has the pcapng file that is written of one file.
abbrev pub PcapngReport : Type 0
PcapngReport =
    (order : Order) (tail tail_again : Tail) (bytes : List ℕ) → AreBytes bytes
    → (let items = file_items tail 1 bytes in
    let first = file_first tail 1 bytes in
    let text = pcapng_bytes order 1 first items in
    pcapng_refusal 1 first items ≡ None → length text ≤ 2 ^ 40
    → SameReport (clocked_run tail (bytes ∷ [])) (clocked_run tail_again (text ∷ [])))
