-- One step of a table.
use Rattle.std.proofs.Common.{◌≡◌, ℕ, ◌+◌, ◌<◌, ◌≤◌, arith, Bool, Result, true, false, List, [], ◌∷◌, drop, map, refl}
use Rattle.std.proofs.Common.{sym, ◌∙◌, ap, subst, ◌&&◌, true≢false, Option, Some, None, Ok, Err, IsTrue, inl}
use Rattle.std.specs.Prelude.{is_some, if◌then◌else◌, IfSome}
use Rattle.std.specs.List.{range_with_len}
use Rattle.cap_bytes.specs.declared.faults.Fault.{Fault}
use Rattle.cap_bytes.specs.declared.faults.Fault.TheVariants.{Refused, Read, Write, Memory}
use Rattle.cap_bytes.specs.declared.faults.Refusal.{Refusal}
use Rattle.cap_join.specs.declared.datagrams.Datagram.{Datagram}
use Rattle.cap_join.specs.Joiners.{JoinerState}
use Rattle.cap_merge.proofs.RunItems.{items-of-run, first-of-run}
use Rattle.cap_merge.specs.inner.Merge.{LearnsBy, LearnsAll, LooksAll}
use Rattle.cap_merge.specs.Parts.{Part, merged_feed, run_of, clock_of, known_of, are_known, part_head, first_part}
use Rattle.cap_merge.specs.Parts.{BeginsAt}
use Rattle.cap_merge.specs.Parts.{ShowsRun}
use Rattle.cap_merge.specs.Run.{Clocked}
use Rattle.cap_source.specs.Feed.{Feed, Item, packet, refused, Leads, IsFeed, GivesHead, FindsPacket, FindsItem}
use Rattle.cap_source.specs.Feed.{FeedKeeps}
use Rattle.cap_source.specs.Feed.{Knows, IsPacket, IsPacketOf, IfPacket, HasFile}
use Rattle.cap_source.specs.declared.feeds.Head.{Head}
use Rattle.cap_source.specs.declared.feeds.Head.TheVariants as heads
use Rattle.cap_source.specs.declared.packets.Meta.{Meta}
use Rattle.cap_time.specs.declared.stamps.Stamp.{Stamp}
use Rattle.cap_talks.specs.inner.table.Stepping.{AnswersAgain, next_by, next_taken, TableStands, TableSteps}
use Rattle.cap_class.specs.Taken.{Taken}
use Rattle.cap_talks.specs.declared.table.tables.Step.{Step}
use Rattle.cap_talks.specs.declared.table.tables.Step.TheVariants as steps
use Rattle.cap_talks.specs.inner.table.Totals.{TotalsState}
use Rattle.cap_talks.specs.inner.table.Tallies.{TallyState, Joins, TallyStands}

-- ---- what was known stays

all_known : (ps qs : List Part) → LearnsAll ps qs → are_known ps ≡ true → qs ≡ ps
all_known [] [] h k = refl
all_known (p ∷ ps) (q ∷ qs) h k = by p.lane.head h.0 k (all_known ps qs h.1)
  where
    by : (o : Option Head) → LearnsBy o p q → (is_some o && are_known ps) ≡ true → (are_known ps ≡ true → qs ≡ ps)
        → q ∷ qs ≡ p ∷ ps
    by None l k rest = absurd (true≢false (sym k))
    by (Some head) l k rest = λ i. l i ∷ rest k i
all_known ps qs h k = absurd h

known-some : (ps : List Part) (head : Head) → (merged_feed ps).known ≡ Some head → are_known ps ≡ true
unfolding merged_feed known_of
known-some ps head h = by (are_known ps) h
  where
    by : (b : Bool) → (if b then part_head (first_part ps) else None) ≡ Some head → b ≡ true
    by true e = refl
    by false e = absurd (clash e)
      where
        clash : None ≡ Some head → ⊥
        clash e = cc

-- nothing waits if nothing is known to come next
no-wait : (w : Option Datagram) (j : JoinerState) (xs : List Taken) (next : Option Taken) → Joins w j xs None
    → Joins w j xs next
no-wait None j xs next h = h
no-wait (Some d) j xs next h = absurd (clash h.is_next)
  where
    clash : None ≡ Some h.packet → ⊥
    clash e = cc

pub stands-unknown : (t : TallyState) (ps : List Part) (xs : List Taken) (next : Option Taken)
    → (merged_feed ps).known ≡ None → TallyStands t xs (next_taken ps) → TallyStands t xs next
stands-unknown t ps xs next unknown h = record {
  place = h.place;
  classes = h.classes;
  joined = h.joined;
  talks = h.talks;
  joins = no-wait t.waiting t.joiner xs next (subst
      (λ (k : Option Head). Joins t.waiting t.joiner xs (next_by k (clock_of ps) (merged_feed ps).frame)) unknown
      h.joins);
}

pub stands-asked : (t : TallyState) (ps qs : List Part) (xs : List Taken) → LearnsAll ps qs
    → TallyStands t xs (next_taken ps) → TallyStands t xs (next_taken qs)
stands-asked t ps qs xs asks h = by (merged_feed ps).known refl
  where
    by : (known : Option Head) → (merged_feed ps).known ≡ known → TallyStands t xs (next_taken qs)
    by None is = stands-unknown t ps xs (next_taken qs) is h
    by (Some head) is = subst (λ (rs : List Part). TallyStands t xs (next_taken rs))
        (sym (all_known ps qs asks (known-some ps head is))) h

pub next-is : (qs : List Part) (meta : Meta) (clock : Option Stamp) (frame : List ℕ)
    → (merged_feed qs).known ≡ Some (heads.Packet meta) → clock ≡ clock_of qs → frame ≡ (merged_feed qs).frame
    → next_taken qs ≡ Some (record { clock = clock; meta = meta; frame = frame })
next-is qs meta clock frame known c f = λ i. next_by (known i) (sym c i) (sym f i)

-- ---- the run

leads_by : (feed : Feed) (head : Head) → IsFeed feed → IsTrue feed.told → feed.known ≡ Some head
    → Leads (Some head) feed.frame feed.items
leads_by feed head law t known = subst (λ (k : Option Head). Leads k feed.frame feed.items) known (law.leads t)

-- the run begins with the packet that is known to come next
pub run-packet : (ps qs : List Part) (meta : Meta) (clock : Option Stamp) (frame : List ℕ) → IsFeed (merged_feed qs)
    → IsTrue (merged_feed qs).told
    → (merged_feed qs).known ≡ Some (heads.Packet meta) → frame ≡ (merged_feed qs).frame → BeginsAt clock (run_of qs)
    → run_of qs ≡ run_of ps
    → run_of ps ≡ record { clock = clock; item = packet meta frame } ∷ drop 1 (run_of ps)
run-packet ps qs meta clock frame law t known f begins same =
    let leads : (merged_feed qs).items ≡ packet meta (merged_feed qs).frame ∷ drop 1 (merged_feed qs).items =
    leads_by (merged_feed qs) (heads.Packet meta) law t known in
    sym same
    ∙ (first-of-run (run_of qs) clock (packet meta frame) (drop 1 (merged_feed qs).items) begins
    (sym (items-of-run qs) ∙ leads ∙ ap (λ (g : List ℕ). packet meta g ∷ drop 1 (merged_feed qs).items) (sym f))
    ∙ ap (λ l. record { clock = clock; item = packet meta frame } ∷ drop 1 l) same)

none-left : (xs : List (Clocked Item)) → map (λ x. x.item) xs ≡ [] → xs ≡ []
none-left [] e = refl
none-left (x ∷ xs) e = absurd (clash e)
  where
    clash : x.item ∷ map (λ x. x.item) xs ≡ [] → ⊥
    clash e = cc

pub run-end : (qs : List Part) → IsFeed (merged_feed qs) → IsTrue (merged_feed qs).told
    → (merged_feed qs).known ≡ Some heads.End
    → run_of qs ≡ []
run-end qs law t known = none-left (run_of qs) (sym (items-of-run qs) ∙ leads_by (merged_feed qs) heads.End law t known)

one-left : (xs : List (Clocked Item)) (i : Item) → map (λ x. x.item) xs ≡ i ∷ [] → (clock : Option Stamp)
    × (xs ≡ record { clock = clock; item = i } ∷ [])
one-left [] i e = absurd (clash e)
  where
    clash : [] ≡ i ∷ [] → ⊥
    clash e = cc
one-left (x ∷ []) i e =
    let same : x.item ≡ i = cc in
    (x.clock, λ j. record { clock = x.clock; item = same j } ∷ [])
one-left (x ∷ y ∷ xs) i e = absurd (clash e)
  where
    clash : x.item ∷ y.item ∷ map (λ x. x.item) xs ≡ i ∷ [] → ⊥
    clash e = cc

pub run-refused : (qs : List Part) (r : Refusal) → IsFeed (merged_feed qs) → IsTrue (merged_feed qs).told
    → (merged_feed qs).known ≡ Some (heads.Refused r)
    → (clock : Option Stamp) × (run_of qs ≡ record { clock = clock; item = refused r } ∷ [])
run-refused qs r law t known = one-left (run_of qs) (refused r) (sym (items-of-run qs)
    ∙ leads_by (merged_feed qs) (heads.Refused r) law t known)

-- ---- the first packet

-- what is known to come next is what comes next
pub first-asked : (ps qs : List Part) (x : Taken) → LearnsAll ps qs → next_taken qs ≡ Some x
    → IfSome (next_taken ps) (λ y. y ≡ x)
first-asked ps qs x asks is = by (merged_feed ps).known refl
  where
    out : (o : Option Taken) → o ≡ Some x → IfSome o (λ y. y ≡ x)
    out None e = absurd (clash e)
      where
        clash : None ≡ Some x → ⊥
        clash e = cc
    out (Some y) e = cc

    by : (known : Option Head) → (merged_feed ps).known ≡ known → IfSome (next_taken ps) (λ y. y ≡ x)
    by None e = subst (λ (k : Option Head). IfSome (next_by k (clock_of ps) (merged_feed ps).frame) (λ y. y ≡ x))
        (sym e) tt
    by (Some head) e = out (next_taken ps) (ap next_taken (sym (all_known ps qs asks (known-some ps head e))) ∙ is)

-- ---- what the table stands for

-- nothing changed but what is known of the feeds
pub asked : (totals : TotalsState) (tally : TallyState) (done : Bool) (ps qs : List Part) (xs : List Taken)
    → LearnsAll ps qs
    → TableStands (record { parts = ps; totals = totals; tally = tally; done = done }) xs
    → TableStands (record { parts = qs; totals = totals; tally = tally; done = done }) xs
asked totals tally done ps qs xs asks h = record { totals = h.totals; tally = stands-asked tally ps qs xs asks h.tally }

pub failed : (totals : TotalsState) (tally : TallyState) (done : Bool) (ps qs : List Part) (fault : Fault)
    (xs : List Taken) → GivesHead (merged_feed ps) (Err fault) (merged_feed qs)
    → TableStands (record { parts = ps; totals = totals; tally = tally; done = done }) xs
    → TableStands (record { parts = qs; totals = totals; tally = tally; done = done }) xs
failed totals tally done ps qs fault xs gives h =
    record {
      totals = h.totals;
      tally = stands-unknown tally ps xs (next_taken qs)
          (before (merged_feed ps) (merged_feed qs) fault gives) h.tally;
    }
  where
    before : (old new : Feed) (fault : Fault) → GivesHead old (Err fault) new → old.known ≡ None
    before old new (Read file offset) h = h.before
    before old new Memory h = h.before
    before old new fault h = absurd h

-- a step that a fault of the feeds ends
pub faulted : (totals : TotalsState) (tally : TallyState) (done : Bool) (ps qs : List Part) (fault : Fault)
    → IsFeed (merged_feed qs) → FeedKeeps (merged_feed ps) (merged_feed qs)
    → FindsPacket (merged_feed ps) (Err fault) (merged_feed qs)
    → (IsTrue (merged_feed ps).told → FindsItem (merged_feed ps) (Err fault) (merged_feed qs))
    → LooksAll {T = Bool} ps (Err fault) qs
    → (IsTrue (merged_feed ps).told → ShowsRun {A = Bool} ps (Err fault) qs)
    → TableSteps (record { parts = ps; totals = totals; tally = tally; done = done }) (Err fault)
    (record { parts = qs; totals = totals; tally = tally; done = done })
faulted totals tally done ps qs (Refused refusal) law keeps answer items asks run =
    inl (record {
      known = answer.known;
      run = λ t.
          let one = run-refused qs refusal law (keeps.told t) answer.known in
          (one.0, sym (run t) ∙ one.1);
      same = λ t. record { run = run t; endings = (items t).endings };
      goes = answer.goes;
      stays = record { stands = λ xs h. asked totals tally done ps qs xs asks h; going = refl };
    })
faulted totals tally done ps qs (Read file offset) law keeps answer items asks run =
    record {
      breaks = answer;
      stays = record {
        stands = λ xs h. failed totals tally done ps qs (Read file offset) xs answer h;
        going = refl;
      };
    }
faulted totals tally done ps qs Write law keeps answer items asks run = absurd answer
faulted totals tally done ps qs Memory law keeps answer items asks run =
    record {
      cause = inl answer;
      same = λ t. record { run = run t; endings = (items t).endings };
      goes = answer.goes;
      stays = record { stands = λ xs h. failed totals tally done ps qs Memory xs answer h; going = refl };
    }

-- ---- what is true of a packet that comes next

packet-law : (feed : Feed) (meta : Meta) → IsFeed feed → feed.known ≡ Some (heads.Packet meta) → IsPacketOf feed meta
packet-law feed meta law known = subst (λ (k : Option Head). IfPacket k (λ m. IsPacketOf feed m)) known law.packet

pub of-file : (feed : Feed) (meta : Meta) (count : ℕ) → IsFeed feed → feed.known ≡ Some (heads.Packet meta)
    → feed.files ≡ range_with_len 1 count
    → HasFile (range_with_len 1 count) meta.file
of-file feed meta count law known files = subst (λ l. HasFile l meta.file) files (packet-law feed meta law known).file

pub is-left : (feed : Feed) (meta : Meta) → IsFeed feed → feed.known ≡ Some (heads.Packet meta) → 1 ≤ feed.left
is-left feed meta law known = (packet-law feed meta law known).left

-- the packet that is lent is the one that was answered
pub known-packet : (old new : Feed) (found : Bool) (meta : Meta) → found ≡ true → FindsPacket old (Ok found) new
    → new.known ≡ Some (heads.Packet meta)
    → Knows old (heads.Packet meta) new
known-packet old new true meta e h is =
    let same : heads.Packet meta ≡ heads.Packet h.0 = cc (is, h.1.known) in
    subst (λ (w : Head). Knows old w new) (sym same) h.1
known-packet old new false meta e h is = absurd (true≢false (sym e))

pub known-end : (old new : Feed) (found : Bool) → found ≡ false → FindsPacket old (Ok found) new
    → Knows old heads.End new
known-end old new true e h = absurd (true≢false e)
known-end old new false e h = h

pub found-packet : (old new : Feed) (found : Bool) → found ≡ true → FindsPacket old (Ok found) new → IsPacket new.known
found-packet old new true e h = subst IsPacket (sym h.1.known) tt
found-packet old new false e h = absurd (true≢false (sym e))

-- ---- what is answered again

-- what was known of what comes next is a packet, if it was known
pub again-packet : (old new : Feed) (found : Bool) (result : Result Step Fault) → found ≡ true
    → FindsPacket old (Ok found) new → AnswersAgain old.known result
again-packet old new true result e h = by old.known h.1.again
  where
    by : (known : Option Head) → IfSome known (λ first. (heads.Packet h.0 ≡ first) × (new ≡ old))
        → AnswersAgain known result
    by None again = tt
    by (Some first) again = subst (λ (w : Head). AnswersAgain (Some w) result) again.0 tt
again-packet old new false result e h = absurd (true≢false (sym e))

again-head : (old new : Feed) (head : Head) (result : Result Step Fault) → Knows old head new
    → AnswersAgain (Some head) result → AnswersAgain old.known result
again-head old new head result knows h = by old.known knows.again
  where
    by : (known : Option Head) → IfSome known (λ first. (head ≡ first) × (new ≡ old)) → AnswersAgain known result
    by None again = tt
    by (Some first) again = subst (λ (w : Head). AnswersAgain (Some w) result) again.0 h

pub again-end : (old new : Feed) → Knows old heads.End new → AnswersAgain old.known (Ok steps.Done)
again-end old new knows = again-head old new heads.End (Ok steps.Done) knows refl

unknown-again : (known : Option Head) (result : Result Step Fault) → known ≡ None → AnswersAgain known result
unknown-again known result e = subst (λ (k : Option Head). AnswersAgain k result) (sym e) tt

pub again-fault : (old new : Feed) (fault : Fault) → FindsPacket old (Err fault) new
    → AnswersAgain old.known (Err fault)
again-fault old new (Refused refusal) h = again-head old new (heads.Refused refusal) (Err (Refused refusal)) h refl
again-fault old new (Read file offset) h = unknown-again old.known (Err (Read file offset)) h.before
again-fault old new Write h = absurd h
again-fault old new Memory h = unknown-again old.known (Err Memory) h.before

-- ---- the packets that were taken, and those to come

pub stayed : (place now left to_come : ℕ) → now ≡ place → to_come ≤ left → now + to_come ≤ place + left
stayed place now left to_come e h = omega arith

pub went : (place now left mid to_come : ℕ) → now ≡ place + 1 → mid ≤ left → to_come < mid
    → now + to_come ≤ place + left
went place now left mid to_come e h l = omega arith
