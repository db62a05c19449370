-- One look after another at what comes next of a file.
use Rattle.std.proofs.Common.{ℕ, ◌≡◌, ◌≤◌, ◌+◌, true, false, Option, Some, None, IsTrue, is_some, Result, Ok, Err}
use Rattle.std.proofs.Common.{Bool, IfOk, refl, sym, subst, ◌∙◌, arith}
use Rattle.std.specs.Bool.{⊤}
use Rattle.cap_bytes.specs.declared.faults.Fault.{Fault}
use Rattle.cap_bytes.specs.inner.Reach.{ReachesTo}
use Rattle.cap_bytes.proofs.Reach.{ReachesTo-here, ReachesTo-later}
use Rattle.cap_source.specs.inner.FileState.{FileState, IfTaken, ReadsTo, FileTakes, FileKeeps, FileWaits, FileLearns}
use Rattle.cap_source.specs.inner.FileState.{StepsTo}
use Rattle.cap_source.specs.inner.FileState.{FileAnswers}
use Rattle.cap_source.specs.inner.FileState.{TakesShown, LearnsNext, IsSoundFile}
use Rattle.cap_source.specs.Items.{SectionProgress}
use Rattle.cap_source.specs.inner.Readers.{reader_file_state, is_stopped}
use Rattle.cap_source.specs.declared.readers.Peeked.{Peeked}
use Rattle.cap_source.specs.declared.readers.Peeked.TheVariants as peeks
use Rattle.cap_source.specs.declared.readers.Reader.{Reader}
use Rattle.cap_source.specs.declared.readers.Reader.TheVariants as readers

pub FileKeeps-trans : (a b c : FileState) → FileKeeps a b → FileKeeps b c → FileKeeps a c
FileKeeps-trans a b c k l = grind arith

pub Answers-behind : {A : Type 0} (a b c : FileState) (result : Result A Fault) (after : Option Peeked) → FileWaits a b
    → FileKeeps a b → FileAnswers b result after c → FileAnswers a result after c
Answers-behind a b c result after w k h = grind arith

-- a look at one more block learned what comes next
pub Learns-behind : (a b c : FileState) (after : Option Peeked) → FileWaits a b → FileKeeps a b → StepsTo b after c
    → IsTrue (is_some after)
    → (next : Peeked) × (after ≡ Some next) × FileLearns a next c
Learns-behind a b c None w k h is = grind arith
Learns-behind a b c (Some next) w k h is = (next, refl, grind arith)

-- what comes next wasn't known, and is shown
pub LearnsNext-shown : (old new : FileState) (known after : Option Peeked) → is_some known ≡ false
    → TakesShown old true after new
    → LearnsNext {A = ⊤} old known (Ok tt) new after
LearnsNext-shown old new known after not h = grind arith

pub IsSound-shown : (old new : FileState) (known after : Option Peeked) → IsSoundFile old known → FileKeeps old new
    → TakesShown old true after new
    → IsSoundFile new after
IsSound-shown old new known after i k h = grind arith

-- whether it is shown or not
pub IsSound-taken : (old new : FileState) (known after : Option Peeked) (shown : Bool) → IsSoundFile old known
    → known ≡ None → FileKeeps old new → TakesShown old shown after new
    → (shown ≡ false → (new ≡ old) × (after ≡ None)) → IsSoundFile new after
IsSound-taken old new known after true i not k h same = IsSound-shown old new known after i k h
IsSound-taken old new known after false i not k h same =
    subst (λ (w : FileState × Option Peeked). IsSoundFile w.0 w.1)
    (λ j. (sym (same refl).0 j, (not ∙ sym (same refl).1) j)) i

-- a reader of which nothing is known has not come to an end
pub free_of : {R : Type 0} (reader : Reader R) (p : SectionProgress) (known : Option Peeked) → is_some known ≡ false
    → IsSoundFile (reader_file_state reader p) known → is_stopped reader ≡ false
free_of reader p (Some next) not i = grind arith
free_of (readers.Unread window tail) p None not i = refl
free_of (readers.Pcap reader) p None not i = grind arith
free_of (readers.Pcapng reader) p None not i = grind arith
free_of readers.Moved p None not i = refl

-- what comes next wasn't known, and was asked for
pub LearnsNext-asked : {A : Type 0} (old new : FileState) (known after : Option Peeked) (result : Result A Fault)
    → is_some known ≡ false
    → FileAnswers old result after new → LearnsNext old known result new after
LearnsNext-asked old new known after result not h = grind arith

pub IsSound-asked : {A : Type 0} (old new : FileState) (known after : Option Peeked) (result : Result A Fault)
    → is_some known ≡ false
    → IsSoundFile old known → FileKeeps old new → FileAnswers old result after new → IsSoundFile new after
IsSound-asked old new known after result not i k h = grind arith

-- it was known
pub LearnsNext-known : (s : FileState) (known : Option Peeked) → IsTrue (is_some known)
    → LearnsNext {A = ⊤} s known (Ok tt) s known
LearnsNext-known s None is = grind arith
LearnsNext-known s (Some next) is = (next, refl, (refl, refl))

pub Waits-refl : (s : FileState) → s.stops ≡ false → FileWaits s s
Waits-refl s free = grind arith

pub FileKeeps-refl : (s : FileState) → FileKeeps s s
FileKeeps-refl s = grind arith

pub none_of : {A : Type 0} (option : Option A) → is_some option ≡ false → option ≡ None
none_of None not = refl
none_of (Some a) not = grind arith

-- a block after which the file goes on
pub Waits-further : (a b c : FileState) (after : Option Peeked) → FileWaits a b → FileKeeps a b → StepsTo b after c
    → is_some after ≡ false → FileWaits a c
Waits-further a b c after w k h not = grind arith

-- How far a file is read, in one look and in another after it.
pub ReadsTo-here : (s : FileState) → ReadsTo s s
ReadsTo-here s = ReachesTo-here s.most s.offset s.read

Takes-later : (a b c : FileState) (end : ℕ) → FileKeeps a b → end ≤ c.offset → ReachesTo a.most end a.read b.read
    → FileTakes b c → FileTakes a c
Takes-later a b c end k few h t =
    (omega (arith, k.offset, t.0), ReachesTo-later a.most end c.offset a.read b.read c.read few h (rw k.most at t.1))

pub Takes-behind : (a b c : FileState) → FileKeeps a b → ReadsTo a b → FileTakes b c → FileTakes a c
Takes-behind a b c k h t = Takes-later a b c b.offset k (omega (arith, t.0)) h t

Takes-opened : (a b c : FileState) → FileKeeps a b → ReachesTo a.most (a.offset + 4) a.read b.read
    → FileTakes b c → FileTakes a c
Takes-opened a b c k h t = Takes-later a b c (a.offset + 4) k (omega (arith, k.offset, t.0)) h t

-- what holds if a record or block is taken, and what follows from that
pub IfTaken-so : (known : Option Peeked) (P : Type 0) → P → IfTaken known P
IfTaken-so None P h = h
IfTaken-so (Some (peeks.Packet meta place)) P h = h
IfTaken-so known P h = grind arith

IfTaken-map : (known : Option Peeked) (P Q : Type 0) → (P → Q) → IfTaken known P → IfTaken known Q
IfTaken-map None P Q f h = f h
IfTaken-map (Some (peeks.Packet meta place)) P Q f h = f h
IfTaken-map known P Q f h = grind arith

pub taken_map : {A : Type 0} (result : Result A Fault) (known : Option Peeked) (P Q : Type 0) → (P → Q)
    → IfOk result (λ x. IfTaken known P) → IfOk result (λ x. IfTaken known Q)
taken_map (Ok x) known P Q f h = IfTaken-map known P Q f h
taken_map (Err fault) known P Q f h = tt

pub taken_behind : {A : Type 0} (a b c : FileState) (result : Result A Fault) (known : Option Peeked) → FileKeeps a b
    → ReadsTo a b
    → IfOk result (λ x. IfTaken known (FileTakes b c)) → IfOk result (λ x. IfTaken known (FileTakes a c))
taken_behind a b c result known k h t = taken_map result known (FileTakes b c) (FileTakes a c)
    (Takes-behind a b c k h) t

pub taken_opened : {A : Type 0} (a b c : FileState) (result : Result A Fault) (known : Option Peeked) → FileKeeps a b
    → ReachesTo a.most (a.offset + 4) a.read b.read
    → IfOk result (λ x. IfTaken known (FileTakes b c)) → IfOk result (λ x. IfTaken known (FileTakes a c))
taken_opened a b c result known k h t = taken_map result known (FileTakes b c) (FileTakes a c)
    (Takes-opened a b c k h) t

-- a block after which what comes next is known, or isn't: then the file goes on
pub taken_last : (a b c : FileState) (known : Option Peeked) → FileKeeps a b → ReadsTo a b
    → IfTaken known (FileTakes b c)
    → IfTaken known (FileTakes a c)
taken_last a b c known k h t = IfTaken-map known (FileTakes b c) (FileTakes a c) (Takes-behind a b c k h) t

taken_none : (known : Option Peeked) (P : Type 0) → known ≡ None → IfTaken known P → P
taken_none known P is h = grind arith

pub ReadsTo-further : (a b c : FileState) (known : Option Peeked) → known ≡ None → FileKeeps a b → ReadsTo a b
    → IfTaken known (FileTakes b c) → ReadsTo a c
ReadsTo-further a b c known none k h t = (Takes-behind a b c k h (taken_none known (FileTakes b c) none t)).1
