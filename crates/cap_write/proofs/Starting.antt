-- What holds before anything of a feed is written, and what a writer keeps on the way.
use Rattle.std.proofs.Common.{◌≡◌, ◌∷◌, [], ℕ, ◌≤◌, List, length, Bool, false, IsTrue, IfSome, true≢false, Option, Some}
use Rattle.std.proofs.Common.{None, Result, Ok, Err, OnOk, refl, sym, subst, ap, ◌∙◌, append-nil, arith}
use Rattle.std.proofs.Math.Bool.{or-false}
use Rattle.cap_bytes.specs.Device.{Writer, WriterKeeps}
use Rattle.cap_bytes.specs.Printing.{Prints, is_write}
use Rattle.cap_bytes.specs.declared.faults.Fault.{Fault}
use Rattle.cap_bytes.specs.declared.faults.Fault.TheVariants.{Refused, Read, Write, Memory}
use Rattle.cap_bytes.specs.declared.faults.Refusal.{Refusal}
use Rattle.cap_source.proofs.Growing.{memory-more}
use Rattle.cap_source.proofs.Onward.{Goes-behind, Lasts-goes, Lasts-trans}
use Rattle.cap_source.proofs.Walking.{Plan, Walking}
use Rattle.cap_source.specs.ReadFaults.{FailsOf}
use Rattle.std.proofs.lemmas.Bool.Decides.{nat_tests}
use Rattle.cap_source.specs.Feed.{Feed, HasFile, FeedKeeps, Knows, GivesHead, IsFeed, IfPacket, IsPacket, IsPacketOf}
use Rattle.cap_source.specs.Feed.{SameItems}
use Rattle.cap_source.specs.inner.Growing.{OfMemory, IfMemory}
use Rattle.cap_source.specs.inner.Walk.{GivesPacket, SameEndings, Walks}
use Rattle.cap_source.specs.declared.feeds.Head.{Head}
use Rattle.cap_source.specs.declared.feeds.Head.TheVariants as heads
use Rattle.cap_source.specs.declared.packets.Meta.{Meta}

pub Walking-none : (plan : Plan) (feed : Feed) (failed : Bool) (w : Writer)
    → Walking plan plan feed feed failed failed w w
Walking-none plan feed failed w = record {
  failed = refl;
  told = λ t. t;
  can_fail = λ file c. c;
  left = omega arith;
  writer_told = λ t. t;
  writer_cannot = λ c. c;
  text = λ t. record {
    at = 0;
    within = omega arith;
    left = refl;
    written = λ w. sym (append-nil _);
    told = λ w. w;
    cannot = λ c. c;
  };
  refusal_same = λ t. refl;
}

-- what a call keeps that doesn't fail to write
pub Walking-writer : (first plan : Plan) (old new : Feed) (from to : Writer) (fails : Bool) → fails ≡ false
    → Walking first plan old new from.failed to.failed from to → WriterKeeps from fails to
Walking-writer first plan old new from to fails is w = record {
  told = w.writer_told;
  failed = w.failed ∙ rw is (sym (or-false from.failed));
  can = λ t. absurd (true≢false (sym t ∙ is));
  cannot = w.writer_cannot;
}

-- the call for the next packet doesn't write
pub unwritten : (old new : Feed) (fault : Fault) → GivesPacket old (Err fault) new
    → is_write {A = Unit {0}} (Err fault) ≡ false
unwritten old new (Refused refusal) h = refl
unwritten old new (Read file offset) h = refl
unwritten old new Write h = absurd h
unwritten old new Memory h = refl

-- a packet's bytes are few
pub captured-few : (feed : Feed) (meta : Meta) (lent : List ℕ) → IsFeed feed → feed.known ≡ Some (heads.Packet meta)
    → lent ≡ feed.frame → length lent ≤ 262144
captured-few feed meta lent law known is =
    let of : IsPacketOf feed meta = subst (λ (k : Option Head). IfPacket k (λ m. IsPacketOf feed m)) known law.packet in
    omega (arith, ap length is, of.captured, of.limit)

pub known-packet : (feed : Feed) (meta : Meta) → feed.known ≡ Some (heads.Packet meta) → IsPacket feed.known
known-packet feed meta is = subst IsPacket (sym is) tt

-- the beginning of a file can't be read: nothing is written

pub Prints-unread : (old new : Feed) (fault : Fault) (result : Result (Unit {0}) Fault) (text : List ℕ)
    (refusal : Option Refusal) (held : List ℕ)
    → GivesHead old (Err fault) new → result ≡ Err fault → Prints text refusal held result held
Prints-unread old new (Refused r) result text refusal held h is = absurd h
Prints-unread old new (Read file offset) result text refusal held h is = rw is ((0, sym (append-nil held)))
Prints-unread old new Write result text refusal held h is = absurd h
Prints-unread old new Memory result text refusal held h is = rw is ((0, sym (append-nil held)))

pub Writer-unread : (old new : Feed) (fault : Fault) (w : Writer) → GivesHead old (Err fault) new
    → WriterKeeps w (is_write {A = Unit {0}} (Err fault)) w
Writer-unread old new fault w h =
    let is = none fault h in
    record {
      told = λ t. t;
      failed = rw is (sym (or-false w.failed));
      can = λ t. absurd (true≢false (sym t ∙ is));
      cannot = λ c. c;
    }
  where
    none : (fault : Fault) → GivesHead old (Err fault) new → is_write {A = Unit {0}} (Err fault) ≡ false
    none (Refused r) h = absurd h
    none (Read file offset) h = refl
    none Write h = absurd h
    none Memory h = refl

pub Walks-unread : (old new : Feed) (fault : Fault) → GivesHead old (Err fault) new
    → Walks {A = Unit {0}} old (Err fault) new
Walks-unread old new (Refused r) h = absurd h
Walks-unread old new (Read file offset) h = record {
  of = h.of;
  again = h.again;
  after = h.after;
  broken =
      h.broken;
  place = h.place;
  failed = h.failed;
  can_fail = h.can_fail;
}
Walks-unread old new Write h = absurd h
Walks-unread old new Memory h = record { broken = h.goes.after ∙ sym h.goes.before; failed = h.goes.failed }

pub memory-unread : (old new : Feed) (fault : Fault) → GivesHead old (Err fault) new → OfMemory fault (new.known ≡ None)
memory-unread old new (Refused r) h = tt
memory-unread old new (Read file offset) h = tt
memory-unread old new Write h = tt
memory-unread old new Memory h = h.after

-- the same of an answer, from more
pub memory-wider : {A : Type 0} (result : Result A Fault) (P Q : Type 0) → (P → Q) → IfMemory result P
    → IfMemory result Q
memory-wider (Ok x) P Q f h = tt
memory-wider (Err fault) P Q f h = memory-more fault P Q f h

-- a walk after what comes first was asked for
pub Walks-first : {A : Type 0} (old mid new : Feed) (head : Head) (result : Result A Fault) → Knows old head mid
    → FeedKeeps old mid → Walks mid result new
    → Walks old result new
Walks-first old mid new head (Ok x) k keeps w = (w.0, Goes-behind old mid new (Lasts-goes old mid k.goes) w.1)
Walks-first old mid new head (Err (Refused refusal)) k keeps w = Goes-behind old mid new (Lasts-goes old mid k.goes) w
Walks-first old mid new head (Err (Read file offset)) k keeps w = record {
  of = subst (λ fs. HasFile fs file) keeps.files w.of;
  again = subst (λ (b : Option Fault). IfSome b (λ first. Read file offset ≡ first)) (sym k.goes.before) tt;
  after = w.after;
  broken = w.broken;
  place = w.place;
  failed = w.failed;
  can_fail = keeps.can_fail file w.can_fail;
}
Walks-first old mid new head (Err Write) k keeps w = Lasts-trans old mid new (Lasts-goes old mid k.goes) w
Walks-first old mid new head (Err Memory) k keeps w = Lasts-trans old mid new (Lasts-goes old mid k.goes) w

-- how the files end stays told, after what comes first was asked for
pub Ends-first : {A : Type 0} (old mid new : Feed) (result : Result A Fault) → FeedKeeps old mid
    → (IsTrue old.told → SameItems old mid)
    → OnOk result (IsTrue mid.told → SameEndings mid new) → OnOk result (IsTrue old.told → SameEndings old new)
Ends-first old mid new (Ok x) keeps same ends = λ t file. ends (keeps.told t) file ∙ (same t).endings file
Ends-first old mid new (Err fault) keeps same ends = tt

-- A failed read is of the only file.
pub FailsOf-one : {A : Type 0} (old new : Feed) (can_fail : Bool) (result : Result A Fault) → Walks old result new
    → old.files ≡ 1 ∷ [] → old.can_fail 1 ≡ can_fail → FailsOf (can_fail ∷ []) result
FailsOf-one old new can_fail (Ok u) w files can = tt
FailsOf-one old new can_fail (Err (Refused r)) w files can = tt
FailsOf-one old new can_fail (Err (Read file offset)) w files can =
    let only : file ≡ 1 = the-file (subst (λ fs. HasFile fs file) files w.of) in (
      omega arith,
      rw only (subst IsTrue (ap old.can_fail only ∙ can) w.can_fail),
    )
  where
    the-file : HasFile (1 ∷ []) file → file ≡ 1
    the-file has = grind (arith, nat_tests)
FailsOf-one old new can_fail (Err Write) w files can = tt
FailsOf-one old new can_fail (Err Memory) w files can = tt
