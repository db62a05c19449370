-- What a call answers that asks all feeds what comes next.
use Rattle.std.proofs.Common.{◌≡◌, true, false, List, arith, IsTrue, Option, Some, None, Result, Ok, Err, Bool, refl}
use Rattle.std.specs.List.{AllByRecursion}
use Rattle.cap_bytes.specs.declared.faults.Fault.{Fault}
use Rattle.cap_bytes.specs.declared.faults.Fault.TheVariants.{Refused}
use Rattle.cap_bytes.specs.declared.faults.Refusal.{Refusal}
use Rattle.cap_source.specs.declared.feeds.Head.{Head}
use Rattle.cap_source.specs.declared.feeds.Head.TheVariants as heads
use Rattle.cap_source.specs.declared.packets.Meta.{Meta}
use Rattle.cap_source.specs.Feed.{Feed, IsFeed, IsPacket, GivesHead, FeedKeeps, KeepsItems, FindsPacket, FindsItem}
use Rattle.cap_merge.specs.inner.First.{head_coming}
use Rattle.cap_merge.specs.inner.Merge.{LearnsAll, StopsAt, AsksAll, LooksAll}
use Rattle.cap_merge.specs.Parts.{Part, known_of, merged_feed, KeepsRun, ShowsRun, MovesClocks}
use Rattle.cap_merge.specs.inner.Sound.{AreFrom}
use Rattle.cap_merge.proofs.Calls.{asked-keeps-all, run-asked, run-stopped}
use Rattle.cap_merge.proofs.Heads.{asked-keeps, knows-asked, items-asked, gives-stopped, items-stopped, clocks-asked}
use Rattle.cap_merge.proofs.Moving.{from-each}

-- what `head` answers
pub record Heads (ps : List Part) (r : Result Head Fault) (qs : List Part) : Type 0 where
  pub answer : GivesHead (merged_feed ps) r (merged_feed qs)
  pub keeps : FeedKeeps (merged_feed ps) (merged_feed qs)
  pub items : IsTrue (merged_feed ps).told → KeepsItems (merged_feed ps) r (merged_feed qs)
  pub asks : AsksAll ps r qs
  pub run : IsTrue (merged_feed ps).told → KeepsRun ps r qs
  pub clocks : MovesClocks ps qs

-- what `peek` answers
pub record Finds (ps : List Part) (r : Result Bool Fault) (qs : List Part) : Type 0 where
  pub answer : FindsPacket (merged_feed ps) r (merged_feed qs)
  pub keeps : FeedKeeps (merged_feed ps) (merged_feed qs)
  pub items : IsTrue (merged_feed ps).told → FindsItem (merged_feed ps) r (merged_feed qs)
  pub asks : LooksAll ps r qs
  pub run : IsTrue (merged_feed ps).told → ShowsRun ps r qs
  pub clocks : MovesClocks ps qs

known_is : (ps : List Part) (head : Head) → (merged_feed ps).known ≡ Some head → known_of ps ≡ Some head
unfolding merged_feed
known_is ps head e = e

-- all feeds have told what comes next
pub heads-known : (ps qs : List Part) (head : Head) → LearnsAll ps qs → (merged_feed qs).known ≡ Some head
    → AllByRecursion (λ q. IsFeed q.feed) qs → Heads ps (Ok head) qs
heads-known ps qs head l e f = record {
  answer = knows-asked ps qs head l (known_is qs head e) f;
  keeps = asked-keeps-all ps qs (Ok head) l f;
  items = items-asked ps qs l f;
  asks = l;
  run = run-asked ps qs l f;
  clocks = clocks-asked ps qs (Ok head) l f;
}

-- one can't tell
pub heads-stopped : (ps qs : List Part) (fault : Fault) → AreFrom 1 ps → StopsAt fault ps qs
    → AllByRecursion (λ q. IsFeed q.feed) qs → Heads ps (Err fault) qs
heads-stopped ps qs fault a s f =
    let r : Result Head Fault = Err fault in
    record {
      answer = gives-stopped ps qs fault (from-each 1 ps qs (asked-keeps ps qs r s f) a) s f;
      keeps = asked-keeps-all ps qs r s f;
      items = items-stopped ps qs fault s f;
      asks = s;
      run = run-stopped ps qs fault s f;
      clocks = clocks-asked ps qs r s f;
    }

-- what `peek` answers in place of `head`
abbrev pub found_of : Result Head Fault → Result Bool Fault
found_of (Ok (heads.Packet meta)) = Ok true
found_of (Ok (heads.Refused refusal)) = Err (Refused refusal)
found_of (Ok heads.End) = Ok false
found_of (Err fault) = Err fault

answers_by : (old new : Feed) (r : Result Head Fault) → GivesHead old r new → FindsPacket old (found_of r) new
answers_by old new (Ok (heads.Packet meta)) h = (meta, h)
answers_by old new (Ok (heads.Refused refusal)) h = h
answers_by old new (Ok heads.End) h = h
answers_by old new (Err fault) h = grind arith

items_by : (old new : Feed) (r : Result Head Fault) → KeepsItems old r new → FindsItem old (found_of r) new
items_by old new r h = grind arith

asks_by : (ps qs : List Part) (r : Result Head Fault) → GivesHead (merged_feed ps) r (merged_feed qs) → AsksAll ps r qs
    → LooksAll ps (found_of r) qs
asks_by ps qs r h a = grind arith

run_by : (ps qs : List Part) (r : Result Head Fault) → KeepsRun ps r qs → ShowsRun ps (found_of r) qs
run_by ps qs r h = grind arith

pub finds-by : (ps qs : List Part) (r : Result Head Fault) → Heads ps r qs → Finds ps (found_of r) qs
finds-by ps qs r h = record {
  answer = answers_by (merged_feed ps) (merged_feed qs) r h.answer;
  keeps = h.keeps;
  items = λ t. items_by (merged_feed ps) (merged_feed qs) r (h.items t);
  asks = asks_by ps qs r h.answer h.asks;
  run = λ t. run_by ps qs r (h.run t);
  clocks = h.clocks;
}

-- what comes next, by what a lane says
pub packet-comes : (h : Option Head) → head_coming h ≡ Some (Ok true) → (meta : Meta)
    × (h ≡ Some (heads.Packet meta))
packet-comes None e = absurd (cc)
packet-comes (Some (heads.Packet meta)) e = (meta, refl)
packet-comes (Some (heads.Refused refusal)) e = absurd (cc)
packet-comes (Some heads.End) e = absurd (cc)

pub is-packet : (h : Option Head) → head_coming h ≡ Some (Ok true) → IsPacket h
is-packet h e = grind arith

pub refusal-comes : (h : Option Head) (refusal : Refusal) → head_coming h ≡ Some (Err refusal)
    → h ≡ Some (heads.Refused refusal)
refusal-comes h refusal e = grind arith

pub end-comes : (h : Option Head) → head_coming h ≡ Some (Ok false) → h ≡ Some heads.End
end-comes h e = grind arith
