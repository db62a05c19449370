-- What the calls do to a table that a caller holds.
use Rattle.std.specs.Prelude.{◌≡◌, ℕ, List, [], Bool, true, false, Option, Some, None, Result, length, map}
use Rattle.cap_bytes.specs.Printing.{Prints}
use Rattle.cap_bytes.specs.declared.faults.Fault.{Fault}
use Rattle.cap_bytes.specs.declared.faults.Tail.{Tail}
use Rattle.cap_merge.specs.inner.Readers.{IsUnreadRun, ReaderFacts}
use Rattle.cap_talks.specs.inner.table.Stepping.{TableSteps, StepKeeps, TableState, TableStands, endings_so_far}
use Rattle.cap_talks.specs.inner.table.TableView.{table_of}
use Rattle.cap_class.specs.Taken.{Taken}
use Rattle.cap_print.specs.declared.forms.Form.TheVariants as forms
use Rattle.cap_print.specs.declared.forms.TimeForm.TheVariants.{Exact}
use Rattle.cap_talks.specs.table.TakenText.{text_for}
use Rattle.cap_talks.specs.declared.table.tables.Step.{Step}
use Rattle.cap_talks.specs.declared.table.tables.Step.TheVariants.{Took, Done}
use Rattle.capt_c.specs.Answers.{status_of_result, place_of_result}
use Rattle.capt_c.specs.Texts.{JobEnds, ShowsNothing, file_bytes}
use Rattle.capt_c.specs.declared.answers.CPlace.{CPlace}
use Rattle.capt_c.specs.declared.handles.HandleValue.{HandleValue}
use Rattle.capt_c.specs.declared.handles.HandleValue.TheVariants as helds
use Rattle.capt_c.specs.Reading.{Misused}
use Rattle.capt_c.specs.declared.texts.Bytes.{Bytes}
use Rattle.capt_c.specs.declared.texts.Text.{Text}

-- the reader of a file in memory
abbrev pub reader_of_file : Bytes → ReaderFacts
reader_of_file file = record { told = true; can_fail = false; bytes = file_bytes file }

-- A table of those files is open: it has taken no packet, and reads IPv6 packets if `reads` is true. Or no memory was
-- found.
abbrev pub OpensTable : Tail → Bool → List Bytes → ℕ → Option HandleValue → Type 0
OpensTable tail reads files status None = status ≡ 5
OpensTable tail reads files status (Some (helds.Capture c)) = ⊥
OpensTable tail reads files status (Some (helds.Fed f)) = ⊥
OpensTable tail reads files status (Some (helds.Text text)) = ⊥
OpensTable tail reads files status (Some (helds.Job job)) = ⊥
OpensTable tail reads files status (Some (helds.Writer w)) = ⊥
OpensTable tail reads files status (Some (helds.Table t)) =
    (status ≡ 0) × IsUnreadRun tail (map reader_of_file files) (table_of t.value).parts
    × TableStands (table_of t.value) [] × ((table_of t.value).done ≡ false)
    × ((table_of t.value).tally.reads ≡ reads)

-- That is true of the table that is held.
abbrev pub LeavesTable : Option HandleValue → (TableState → Type 0) → Type 0
LeavesTable None Holds = ⊥
LeavesTable (Some (helds.Capture c)) Holds = ⊥
LeavesTable (Some (helds.Fed f)) Holds = ⊥
LeavesTable (Some (helds.Text text)) Holds = ⊥
LeavesTable (Some (helds.Job job)) Holds = ⊥
LeavesTable (Some (helds.Writer w)) Holds = ⊥
LeavesTable (Some (helds.Table t)) Holds = Holds (table_of t.value)

-- the status of a step
abbrev pub status_of_step : Step → ℕ
status_of_step Took = 1
status_of_step Done = 0

-- What a call that takes the next packet returns and leaves; `from` is the caller's place before it.
abbrev pub StepsTable : Option HandleValue → CPlace → ℕ → CPlace → Option HandleValue → Type 0
StepsTable None from status place new = Misused status None new from place
StepsTable (Some (helds.Capture c)) from status place new = Misused status (Some (helds.Capture c)) new from place
StepsTable (Some (helds.Fed f)) from status place new = Misused status (Some (helds.Fed f)) new from place
StepsTable (Some (helds.Text text)) from status place new = Misused status (Some (helds.Text text)) new from place
StepsTable (Some (helds.Job job)) from status place new = Misused status (Some (helds.Job job)) new from place
StepsTable (Some (helds.Writer w)) from status place new = Misused status (Some (helds.Writer w)) new from place
StepsTable (Some (helds.Table t)) from status place new =
    (answer : Result Step Fault) × (status ≡ status_of_result status_of_step answer)
    × (place ≡ place_of_result answer)
    × LeavesTable new (λ later. TableSteps (table_of t.value) answer later × StepKeeps (table_of t.value) later)

-- What a call returns that shows the report over the packets that were taken; `was` and `from` are the caller's text
-- and place before it.
abbrev pub WritesTable : Option HandleValue → Text → CPlace → ℕ → Text → CPlace → Type 0
WritesTable None was from status text place = ShowsNothing status was from text place
WritesTable (Some (helds.Capture c)) was from status text place = ShowsNothing status was from text place
WritesTable (Some (helds.Fed f)) was from status text place = ShowsNothing status was from text place
WritesTable (Some (helds.Text t)) was from status text place = ShowsNothing status was from text place
WritesTable (Some (helds.Job job)) was from status text place = ShowsNothing status was from text place
WritesTable (Some (helds.Writer w)) was from status text place = ShowsNothing status was from text place
WritesTable (Some (helds.Table t)) was from status text place =
    (xs : List Taken) → TableStands (table_of t.value) xs
    → JobEnds (Prints (text_for (table_of t.value).tally.reads (forms.Text Exact)
    (length (table_of t.value).totals.files)
    (endings_so_far (table_of t.value)) xs) None) status place text
