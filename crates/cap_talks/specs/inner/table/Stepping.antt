-- What one step of a table returns, and what it leaves.
use Rattle.std.specs.Prelude.{◌≡◌, ℕ, List, [], ◌∷◌, ◌+◌, ◌<◌, ◌≤◌, Bool, true, false, IsTrue, Option, Some, None}
use Rattle.std.specs.Prelude.{IfSome, ◌⊎◌, Result, Ok, Err, drop, length, ⊤, if◌then◌else◌}
use Rattle.cap_bytes.specs.declared.faults.Fault.{Fault}
use Rattle.cap_bytes.specs.declared.faults.Fault.TheVariants.{Refused, Read, Write, Memory}
use Rattle.cap_bytes.specs.declared.faults.Refusal.{Refusal}
use Rattle.cap_merge.specs.Parts.{Part, merged_feed, run_of, clock_of}
use Rattle.cap_merge.specs.Run.{Clocked}
use Rattle.cap_source.specs.Feed.{Item, packet, refused, FeedKeeps, FeedBreaks, FeedWaits, FeedGoes}
use Rattle.cap_source.specs.declared.feeds.FileEnd.{FileEnd}
use Rattle.cap_source.specs.declared.feeds.Head.{Head}
use Rattle.cap_source.specs.declared.feeds.Head.TheVariants as heads
use Rattle.cap_time.specs.declared.stamps.Stamp.{Stamp}
use Rattle.cap_talks.specs.table.CountedUnits.{is_limit_for}
use Rattle.cap_talks.specs.table.CountedUnits.{limit_refusal}
use Rattle.cap_talks.specs.inner.table.Looking.{is_plain_for}
use Rattle.cap_class.specs.Taken.{Taken}
use Rattle.cap_talks.specs.inner.table.Tallies.{TallyState, TallyStands}
use Rattle.cap_talks.specs.inner.table.Totals.{TotalsState, TotalsStand}
use Rattle.cap_talks.specs.declared.table.tables.Step.{Step}
use Rattle.cap_talks.specs.declared.table.tables.Step.TheVariants as steps

-- the packet that is known to come next, with its clock
abbrev pub next_by : Option Head → Option Stamp → List ℕ → Option Taken
next_by None clock frame = None
next_by (Some (heads.Packet meta)) clock frame = Some (record { clock = clock; meta = meta; frame = frame })
next_by (Some (heads.Refused refusal)) clock frame = None
next_by (Some heads.End) clock frame = None

abbrev pub next_taken : List Part → Option Taken
next_taken ps = next_by (merged_feed ps).known (clock_of ps) (merged_feed ps).frame

abbrev pub clocked : Taken → Clocked Item
clocked x = record { clock = x.clock; item = packet x.meta x.frame }

-- A table at one moment: its feeds, what is counted of files and in all, what is counted of datagrams, and whether the
-- feeds are at their end.
pub record TableState : Type 0 where
  pub parts : List Part
  pub totals : TotalsState
  pub tally : TallyState
  pub done : Bool

-- A table stands for some packets that were taken, the latest first.
pub record TableStands (t : TableState) (xs : List Taken) : Type 0 where
  pub totals : TotalsStand t.totals xs
  pub tally : TallyStands t.tally xs (next_taken t.parts)

-- how the files end, once they have
abbrev pub endings_so_far : TableState → Option (ℕ → FileEnd)
endings_so_far t = if t.done then Some (merged_feed t.parts).endings else None

-- what every answer keeps
pub record StepKeeps (old new : TableState) : Type 0 where
  pub keeps : FeedKeeps (merged_feed old.parts) (merged_feed new.parts)
  pub places : new.tally.place + (merged_feed new.parts).left ≤ old.tally.place + (merged_feed old.parts).left
  pub files : length new.totals.files ≡ length old.totals.files
  pub reads : new.tally.reads ≡ old.tally.reads

-- The packets to come, and how the files end, are the same.
pub record KeepsTableRun (old new : TableState) : Type 0 where
  pub run : run_of new.parts ≡ run_of old.parts
  pub endings : (file : ℕ) → (merged_feed new.parts).endings file ≡ (merged_feed old.parts).endings file

-- Nothing was taken: the table stands for what it stood for.
pub record TableStays (old new : TableState) : Type 0 where
  pub stands : (xs : List Taken) → TableStands old xs → TableStands new xs
  pub going : new.done ≡ old.done

-- The packet that comes first was taken, the one that was known to come if one was: the table stands for it too, and
-- the feed has dropped it.
pub record TableTakes (old new : TableState) : Type 0 where
  pub item : Taken
  pub first : IfSome (next_taken old.parts) (λ x. x ≡ item)
  pub left : (merged_feed new.parts).left < (merged_feed old.parts).left
  pub run : IsTrue (merged_feed old.parts).told → run_of old.parts ≡ clocked item ∷ run_of new.parts
  pub endings : IsTrue (merged_feed old.parts).told → (file : ℕ)
      → (merged_feed new.parts).endings file ≡ (merged_feed old.parts).endings file
  pub goes : FeedGoes (merged_feed old.parts) (merged_feed new.parts)
  pub stands : (xs : List Taken) → TableStands old xs
      → (is_limit_for old.tally.reads xs item ≡ false) × TableStands new (item ∷ xs)
  pub going : new.done ≡ old.done

-- The feed is at its end.
pub record TableEnds (old new : TableState) : Type 0 where
  pub known : (merged_feed new.parts).known ≡ Some heads.End
  pub run : IsTrue (merged_feed old.parts).told → run_of old.parts ≡ []
  pub same : IsTrue (merged_feed old.parts).told → KeepsTableRun old new
  pub goes : FeedGoes (merged_feed old.parts) (merged_feed new.parts)
  pub stands : (xs : List Taken) → TableStands old xs → TableStands new xs
  pub done : new.done ≡ true

-- The run begins with a refusal, which comes again.
pub record RefusedNext (refusal : Refusal) (old new : TableState) : Type 0 where
  pub known : (merged_feed new.parts).known ≡ Some (heads.Refused refusal)
  pub run : IsTrue (merged_feed old.parts).told → (clock : Option Stamp)
      × (run_of old.parts ≡ record { clock = clock; item = refused refusal } ∷ [])
  pub same : IsTrue (merged_feed old.parts).told → KeepsTableRun old new
  pub goes : FeedGoes (merged_feed old.parts) (merged_feed new.parts)
  pub stays : TableStays old new

-- The packet that comes first, the one that was known to come if one was, would open a conversation too many, as it
-- will again.
pub record RefusedHere (refusal : Refusal) (old new : TableState) : Type 0 where
  pub item : Taken
  pub is : refusal ≡ limit_refusal item.meta
  pub first : IfSome (next_taken old.parts) (λ x. x ≡ item)
  pub next : next_taken new.parts ≡ Some item
  pub run : IsTrue (merged_feed old.parts).told → run_of old.parts ≡ clocked item ∷ drop 1 (run_of old.parts)
  pub same : IsTrue (merged_feed old.parts).told → KeepsTableRun old new
  pub goes : FeedGoes (merged_feed old.parts) (merged_feed new.parts)
  pub limit : (xs : List Taken) → TableStands old xs → is_limit_for old.tally.reads xs item ≡ true
  pub stays : TableStays old new

-- A read failed in this call, or in an earlier one.
pub record TableFails (file offset : ℕ) (old new : TableState) : Type 0 where
  pub breaks : FeedBreaks (merged_feed old.parts) file offset (merged_feed new.parts)
  pub stays : TableStays old new

-- The packet that is known to come first is one of which something is kept: a datagram or a fragment.
pub record KeepsNext (old new : TableState) : Type 0 where
  pub item : Taken
  pub next : next_taken new.parts ≡ Some item
  pub kept : (xs : List Taken) → TableStands old xs → is_plain_for old.tally.reads (length xs) item ≡ false

-- A growth was refused, of the feed or of what is kept of the packet that comes first: the packets to come are the
-- same.
pub record WaitsAgain (old new : TableState) : Type 0 where
  pub cause : FeedWaits (merged_feed old.parts) (merged_feed new.parts) ⊎ KeepsNext old new
  pub same : IsTrue (merged_feed old.parts).told → KeepsTableRun old new
  pub goes : FeedGoes (merged_feed old.parts) (merged_feed new.parts)
  pub stays : TableStays old new

abbrev pub TableSteps : TableState → Result Step Fault → TableState → Type 0
TableSteps old (Ok steps.Took) new = TableTakes old new
TableSteps old (Ok steps.Done) new = TableEnds old new
TableSteps old (Err (Refused refusal)) new = RefusedNext refusal old new ⊎ RefusedHere refusal old new
TableSteps old (Err (Read file offset)) new = TableFails file offset old new
TableSteps old (Err Write) new = ⊥
TableSteps old (Err Memory) new = WaitsAgain old new

-- At the end, and at a refusal, the same is returned from then on.
abbrev pub AnswersAgain : Option Head → Result Step Fault → Type 0
AnswersAgain None result = ⊤
AnswersAgain (Some (heads.Packet meta)) result = ⊤
AnswersAgain (Some (heads.Refused refusal)) result = result ≡ Err (Refused refusal)
AnswersAgain (Some heads.End) result = result ≡ Ok steps.Done
