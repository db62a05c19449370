-- Taking all packets of a run, one by one, and counting those of networks other than IPv4.
use Rattle.std.proofs.Common.{◌≡◌, ◌+◌, ◌<◌, ◌≤◌, ◌^◌, ◌⊎◌, [], inl, inr, refl, sym, ap, ◌∙◌, arith, IsTrue}
use Rattle.std.proofs.Common.{Option, Some, None, Ok, Err}
use Rattle.std.specs.Prelude.{IfSome}
use Rattle.cap_bytes.specs.declared.faults.Fault.{Fault}
use Rattle.cap_bytes.specs.declared.faults.Fault.TheVariants.{Refused, Read, Write, Memory}
use Rattle.cap_link.specs.declared.networks.OtherNetwork.{OtherNetwork}
use Rattle.cap_source.proofs.Onward.{Went-none, Keeps-trans, Lasts-trans, Lasts-goes}
use Rattle.cap_source.specs.declared.feeds.Head.{Head}
use Rattle.cap_source.specs.declared.feeds.Head.TheVariants as heads
use Rattle.cap_merge.specs.Parts.{merged_feed, run_of}
use Rattle.cap_class.specs.Taken.{Taken}
use Rattle.cap_talks.specs.inner.table.Others.{ComesOf, LooksAhead, with_network}
use Rattle.cap_talks.specs.inner.table.Stepping.{AnswersAgain, StepKeeps, TableStands, TableState}
use Rattle.cap_talks.specs.inner.table.Stepping.{TableSteps, next_taken}
use Rattle.cap_talks.specs.inner.talks.Reporting.{TakesAll}
use Rattle.cap_talks.specs.table.OtherNetworks.{other_counts, other_network_at, sum_of_networks}
use Rattle.cap_class.specs.Runs.{taken_after}
use Rattle.cap_talks.specs.talks.ReportText.{refusal_for}
use Rattle.cap_talks.specs.declared.table.others.OtherCounts.{OtherCounts}
use Rattle.cap_talks.specs.declared.table.tables.Step.{Step}
use Rattle.cap_talks.specs.declared.table.tables.Step.TheVariants as steps
use Rattle.cap_talks.proofs.OtherNetworks.{networks-few, networks-more}
use Rattle.cap_talks.proofs.Reporting.{Reporting, more, taken-none}

-- Some packets were taken, of which those of networks other than IPv4 are counted, and others are to come.
pub record CountsSoFar (old new : TableState) (counts : OtherCounts) : Type 0 where
  pub so_far : Reporting old new
  pub counted : counts ≡ other_counts so_far.taken

begins : (t : TableState) → Reporting t t
begins t = record {
  taken = [];
  went = Went-none (merged_feed t.parts);
  files = refl;
  reads = refl;
  stands = λ s. s;
  text = λ h. refl;
  refusal = λ h s. refl;
  endings = λ h file. refl;
}

pub CountsSoFar-begin : (t : TableState) → CountsSoFar t t (record { ipv6 = 0; arp = 0; other = 0 })
unfolding begins
CountsSoFar-begin t = record { so_far = begins t; counted = refl }

-- what comes next was looked for
looked : (network : Option OtherNetwork) (old mid new : TableState) → Reporting old mid → StepKeeps mid new
    → LooksAhead network mid new → Reporting old new
looked network old mid new p k l = record {
  taken = p.taken;
  went = record {
    keeps = Keeps-trans (merged_feed old.parts) (merged_feed mid.parts) (merged_feed new.parts) p.went.keeps k.keeps;
    lasts = Lasts-trans (merged_feed old.parts) (merged_feed mid.parts) (merged_feed new.parts) p.went.lasts
        (Lasts-goes (merged_feed mid.parts) (merged_feed new.parts) l.goes);
  };
  files = k.files ∙ p.files;
  reads = k.reads ∙ p.reads;
  stands = λ s. l.stays.stands p.taken (p.stands s);
  text = λ h. p.text h ∙ ap (taken_after p.taken) (sym (l.same (p.went.keeps.told h)).run);
  refusal = λ h s. p.refusal h s ∙ ap (refusal_for old.tally.reads p.taken) (sym (l.same (p.went.keeps.told h)).run);
  endings = λ h file. (l.same (p.went.keeps.told h)).endings file ∙ p.endings h file;
}

pub CountsSoFar-looked : (network : Option OtherNetwork) (old mid new : TableState) (counts : OtherCounts)
    → CountsSoFar old mid counts → StepKeeps mid new → LooksAhead network mid new → CountsSoFar old new counts
unfolding looked
CountsSoFar-looked network old mid new counts p k l =
    record { so_far = looked network old mid new p.so_far k l; counted = p.counted }

-- the packet that was looked at is taken
same-item : (next : Option Taken) (x item : Taken) → next ≡ Some x → IfSome next (λ y. y ≡ item) → x ≡ item
same-item None x item is first = absurd (clash is)
  where
    clash : None ≡ Some x → ⊥
    clash e = cc
same-item (Some y) x item is first = grind arith

not-ended : (known : Option Head) → known ≡ Some heads.End → AnswersAgain known (Ok steps.Took) → ⊥
not-ended None is again = cc
not-ended (Some (heads.Packet meta)) is again = cc
not-ended (Some (heads.Refused refusal)) is again = cc
not-ended (Some heads.End) is again = cc

pub CountsSoFar-more : (network : Option OtherNetwork) (old mid new : TableState) (counts : OtherCounts) (step : Step)
    → CountsSoFar old mid counts
    → ComesOf network mid ⊎ ((merged_feed mid.parts).known ≡ Some heads.End) → StepKeeps mid new
    → AnswersAgain (merged_feed mid.parts).known (Ok step) → TableSteps mid (Ok step) new → step ≡ steps.Took
    → CountsSoFar old new (with_network network counts)
unfolding more
CountsSoFar-more network old mid new counts steps.Took p (inl comes) k again t is = record {
  so_far = more old mid new p.so_far k t;
  counted =
      ap (with_network network) p.counted
      ∙ networks-more t.item p.so_far.taken network
      (comes.is ∙ ap other_network_at (same-item (next_taken mid.parts) comes.item t.item comes.next t.first));
}
CountsSoFar-more network old mid new counts steps.Took p (inr ended) k again t is =
    absurd (not-ended (merged_feed mid.parts).known ended again)
CountsSoFar-more network old mid new counts steps.Done p known k again t is = absurd (clash is)
  where
    clash : steps.Done ≡ steps.Took → ⊥
    clash e = cc

-- all are taken
pub CountsSoFar-end : (old mid new : TableState) (counts : OtherCounts) (step : Step) → CountsSoFar old mid counts
    → TableSteps mid (Ok step) new → step ≡ steps.Done → IsTrue (merged_feed old.parts).told
    → counts ≡ other_counts (taken_after [] (run_of old.parts))
CountsSoFar-end old mid new counts steps.Took p t is told = absurd (clash is)
  where
    clash : steps.Took ≡ steps.Done → ⊥
    clash e = cc
CountsSoFar-end old mid new counts steps.Done p t is told =
    p.counted
    ∙ ap other_counts (sym (p.so_far.text told
    ∙ (ap (taken_after p.so_far.taken) (t.run (p.so_far.went.keeps.told told)) ∙ taken-none p.so_far.taken)))

-- one packet more can be counted
pub counts-few : (old mid : TableState) (counts : OtherCounts) → CountsSoFar old mid counts → TableStands old []
    → mid.tally.place + (merged_feed mid.parts).left ≤ 2 ^ 45 → sum_of_networks counts + 1 < 2 ^ 64
counts-few old mid counts p stands most =
    let s = p.so_far.stands stands in
    omega (arith, ap sum_of_networks p.counted, networks-few p.so_far.taken, s.tally.place, most)

-- a fault of a call is also that of one that answers something else
pub takes-fault : (A B : Type 0) (old new : TableState) (fault : Fault) → TakesAll {A = A} old (Err fault) new
    → TakesAll {A = B} old (Err fault) new
takes-fault A B old new (Refused r) t = t
takes-fault A B old new (Read file offset) t = t
takes-fault A B old new Write t = t
takes-fault A B old new Memory t = t
