-- Taking all packets of a run, one by one.
use Rattle.std.proofs.Common.{◌≡◌, ℕ, Bool, true, false, List, [], ◌∷◌, length, refl, sym, ◌∙◌, ap, arith}
use Rattle.std.proofs.Common.{Option, Some, None, Result, Ok, Err, IsTrue, inl, inr, ◌⊎◌}
use Rattle.std.specs.Prelude.{IsOkUnless, if◌then◌else◌}
use Rattle.cap_bytes.specs.declared.faults.Fault.{Fault}
use Rattle.cap_bytes.specs.declared.faults.Fault.TheVariants.{Refused, Read, Write, Memory}
use Rattle.cap_bytes.specs.declared.faults.Refusal.{Refusal}
use Rattle.cap_source.proofs.Growing.{at-unknown}
use Rattle.cap_source.proofs.Onward.{Went, Went-none, Keeps-trans, Lasts-trans, Lasts-goes}
use Rattle.cap_merge.specs.Parts.{clock_of, merged_feed, run_of}
use Rattle.cap_merge.specs.Run.{Clocked}
use Rattle.cap_source.specs.Feed.{Item, FeedWaits, refused}
use Rattle.cap_source.specs.inner.Growing.{IfMemory, IsAtPacket, OfMemory}
use Rattle.cap_source.specs.declared.feeds.Head.{Head}
use Rattle.cap_source.specs.declared.feeds.Head.TheVariants as heads
use Rattle.cap_time.specs.declared.stamps.Stamp.{Stamp}
use Rattle.cap_talks.specs.table.CountedUnits.{limit_refusal}
use Rattle.cap_class.specs.Runs.{taken_after}
use Rattle.cap_talks.specs.talks.ReportText.{refusal_for}
use Rattle.cap_talks.specs.inner.talks.Reporting.{TookAll, TakesAll}
use Rattle.cap_talks.specs.inner.table.Stepping.{clocked, next_by, KeepsNext, TableState, TableStands, StepKeeps}
use Rattle.cap_talks.specs.inner.table.Stepping.{TableTakes}
use Rattle.cap_talks.specs.inner.table.Stepping.{TableSteps}
use Rattle.cap_class.specs.Taken.{Taken}
use Rattle.cap_talks.specs.table.CountedUnits.{is_limit_for}
use Rattle.cap_talks.specs.declared.table.tables.Step.{Step}
use Rattle.cap_talks.specs.declared.table.tables.Step.TheVariants as steps

-- Some packets were taken, and others are to come.
pub record Reporting (old new : TableState) : Type 0 where
  pub taken : List Taken
  pub went : Went (merged_feed old.parts) (merged_feed new.parts)
  pub files : length new.totals.files ≡ length old.totals.files
  pub reads : new.tally.reads ≡ old.tally.reads
  pub stands : TableStands old [] → TableStands new taken
  pub text : IsTrue (merged_feed old.parts).told
      → taken_after [] (run_of old.parts) ≡ taken_after taken (run_of new.parts)
  pub refusal : IsTrue (merged_feed old.parts).told → TableStands old []
      → refusal_for old.tally.reads [] (run_of old.parts) ≡ refusal_for old.tally.reads taken (run_of new.parts)
  pub endings : IsTrue (merged_feed old.parts).told → (file : ℕ)
      → (merged_feed new.parts).endings file ≡ (merged_feed old.parts).endings file

pub Reporting-begin : (t : TableState) → Reporting t t
Reporting-begin t = grind (arith, Went-none)

-- the refusal of a run that begins with a packet
pub refusal-packet : (reads : Bool) (xs : List Taken) (x : Taken) (run : List (Clocked Item)) (b : Bool)
    → is_limit_for reads xs x ≡ b
    → refusal_for reads xs (clocked x ∷ run)
    ≡ (if b then Some (limit_refusal x.meta) else refusal_for reads (x ∷ xs) run)
unfolding refusal_for
refusal-packet reads xs x run b is = grind arith

-- the limit of a report that reads what an earlier one does
pub limit-same : (reads other : Bool) (xs : List Taken) (x : Taken) (b : Bool) → reads ≡ other
    → is_limit_for reads xs x ≡ b → is_limit_for other xs x ≡ b
limit-same reads other xs x b same is = ap (λ (r : Bool). is_limit_for r xs x) (sym same) ∙ is

pub taken-packet : (xs : List Taken) (x : Taken) (run : List (Clocked Item))
    → taken_after xs (clocked x ∷ run) ≡ taken_after (x ∷ xs) run
unfolding taken_after
taken-packet xs x run = refl

pub taken-none : (xs : List Taken) → taken_after xs [] ≡ xs
unfolding taken_after
taken-none xs = refl

refusal-none : (reads : Bool) (xs : List Taken) → refusal_for reads xs [] ≡ None
unfolding refusal_for
refusal-none reads xs = refl

refusal-refused : (reads : Bool) (xs : List Taken) (clock : Option Stamp) (r : Refusal)
    → refusal_for reads xs (record { clock = clock; item = refused r } ∷ []) ≡ Some r
unfolding refusal_for
refusal-refused reads xs clock r = refl

unfoldable pub more : (old mid new : TableState) → Reporting old mid → StepKeeps mid new → TableTakes mid new
    → Reporting old new
more old mid new p k t = record {
  taken = t.item ∷ p.taken;
  went = record {
    keeps = Keeps-trans (merged_feed old.parts) (merged_feed mid.parts) (merged_feed new.parts) p.went.keeps k.keeps;
    lasts = Lasts-trans (merged_feed old.parts) (merged_feed mid.parts) (merged_feed new.parts) p.went.lasts
        (Lasts-goes (merged_feed mid.parts) (merged_feed new.parts) t.goes);
  };
  files = k.files ∙ p.files;
  reads = k.reads ∙ p.reads;
  stands = λ s. (t.stands p.taken (p.stands s)).1;
  text = λ h. p.text h ∙ ap (taken_after p.taken) (t.run (p.went.keeps.told h))
      ∙ taken-packet p.taken t.item (run_of new.parts);
  refusal = λ h s.
      p.refusal h s ∙ ap (refusal_for old.tally.reads p.taken) (t.run (p.went.keeps.told h))
      ∙ refusal-packet old.tally.reads p.taken t.item (run_of new.parts) false
      (limit-same mid.tally.reads old.tally.reads p.taken t.item false p.reads (t.stands p.taken (p.stands s)).0);
  endings = λ h file. t.endings (p.went.keeps.told h) file ∙ p.endings h file;
}

pub Reporting-more : (old mid new : TableState) (step : Step) → Reporting old mid → StepKeeps mid new
    → TableSteps mid (Ok step) new → step ≡ steps.Took → Reporting old new
Reporting-more old mid new steps.Took p k t is = more old mid new p k t
Reporting-more old mid new steps.Done p k t is = cc

pub TakesAll-end : (old mid new : TableState) (step : Step) → Reporting old mid → StepKeeps mid new
    → TableSteps mid (Ok step) new → step ≡ steps.Done → TookAll old new
TakesAll-end old mid new steps.Took p k t is = cc
TakesAll-end old mid new steps.Done p k t is = grind (arith, refusal-none, taken-none)

-- a growth was refused: it isn't known what comes next, or a packet does
at-cause : (old new : TableState) → FeedWaits (merged_feed old.parts) (merged_feed new.parts) ⊎ KeepsNext old new
    → IsAtPacket (merged_feed new.parts).known
at-cause old new (inl w) = at-unknown (merged_feed new.parts).known w.after
at-cause old new (inr k) = by (merged_feed new.parts).known k.next
  where
    by : (known : Option Head) → next_by known (clock_of new.parts) (merged_feed new.parts).frame ≡ Some k.item
        → IsAtPacket known
    by None is = tt
    by (Some (heads.Packet meta)) is = tt
    by (Some (heads.Refused refusal)) is = absurd (clash is)
      where
        clash : None ≡ Some k.item → ⊥
        clash e = cc
    by (Some heads.End) is = absurd (clash is)
      where
        clash : None ≡ Some k.item → ⊥
        clash e = cc

-- the same of what taking all answers
pub taken-memory : (A : Type 0) (old new : TableState) (fault : Fault) → TakesAll {A = A} old (Err fault) new
    → OfMemory fault (IsAtPacket (merged_feed new.parts).known)
taken-memory A old new (Refused refusal) t = tt
taken-memory A old new (Read file offset) t = tt
taken-memory A old new Write t = tt
taken-memory A old new Memory t = t

pub TakesAll-fault : (A : Type 0) (old mid new : TableState) (fault : Fault) → Reporting old mid
    → TableSteps mid (Err fault) new → TakesAll {A = A} old (Err fault) new
TakesAll-fault A old mid new (Refused r) p (inl t) = grind (arith, refusal-refused)
TakesAll-fault A old mid new (Refused r) p (inr t) = λ h s.
    p.refusal h s ∙ ap (refusal_for old.tally.reads p.taken) (t.run (p.went.keeps.told h))
    ∙ refusal-packet old.tally.reads p.taken t.item _ true
    (limit-same mid.tally.reads old.tally.reads p.taken t.item true p.reads (t.limit p.taken (p.stands s)))
    ∙ ap Some (sym t.is)
TakesAll-fault A old mid new (Read file offset) p t = tt
TakesAll-fault A old mid new Write p t = absurd t
TakesAll-fault A old mid new Memory p t = at-cause mid new t.cause

-- what only writes answers no refused growth
pub memory-unless : {A : Type 0} (result : Result A Fault) (P : Type 0) → IsOkUnless result Write → IfMemory result P
memory-unless result P h = grind arith
