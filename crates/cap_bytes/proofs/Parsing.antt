-- What a window shows of a piece, in one look and in another after it.
use Rattle.std.proofs.Common.{◌≡◌, ℕ, ◌≤◌, ◌<◌, ◌==◌, ◌&&◌, [], ◌++◌, length, drop, Option, Some, None, IfSome, IfNone}
use Rattle.std.proofs.Common.{Bool, true, false, IsTrue, Err, sym, ◌∙◌, ap, arith, append-nil, length-append, take-take}
use Rattle.std.proofs.Common.{length-take}
use Rattle.std.proofs.lemmas.List.{drop-append-le}
use Rattle.cap_bytes.specs.Items.{stop_by}
use Rattle.cap_bytes.specs.inner.Parsing.{FailsBy, SeesStop}
use Rattle.cap_bytes.specs.inner.Window.{WindowState, WindowGoes, WindowShows, Needs, WindowPasses, coming}
use Rattle.cap_bytes.specs.declared.faults.Fault.{Fault}
use Rattle.cap_bytes.specs.declared.faults.Rule.{Rule}
use Rattle.cap_bytes.specs.declared.faults.Rule.TheVariants.{Cut}
use Rattle.cap_bytes.specs.declared.faults.Tail.{Tail}
use Rattle.cap_bytes.specs.declared.stops.Stop.TheVariants as stops
use Rattle.cap_bytes.proofs.Items.{stop_where-end, stop_where-fault, stop_by-sized, IsStopAt-stop_by}

-- an option that is no `Some`
pub none_from : {A : Type 0} (o : Option A) → ((x : A) → o ≡ Some x → ⊥) → o ≡ None
none_from o not = grind arith

pub from_none : {A : Type 0} (o : Option A) (P : Type 0) → o ≡ None → IfNone o P → P
from_none o P e g = grind arith

pub from_some : {A : Type 0} (o : Option A) (x : A) (P : A → Type 0) → o ≡ Some x → IfSome o P → P x
from_some o x P e g = grind arith

-- if the input ends, what is shown is all that comes
pub all_shown : (old new : WindowState) → WindowShows old new → (IsTrue old.told → new.unread ≡ []) → IsTrue old.told
    → coming old ≡ new.shown
all_shown old new s none t = sym (s.coming_same t) ∙ (ap (λ l. new.shown ++ l) (none t) ∙ append-nil new.shown)

-- what a look shows is at least what was shown
pub longer_shown : (a b : WindowState) → WindowShows a b → length a.shown ≤ length b.shown
longer_shown a b p = omega (arith, length-take (length a.shown) b.shown, ap length p.front)

-- two looks, one after the other
pub Goes-trans : (a b c : WindowState) → WindowGoes a b → WindowGoes b c → WindowGoes a c
Goes-trans a b c p q = record { before = p.before; after = q.after; failed = q.failed ∙ p.failed }

pub Shows-trans : (a b c : WindowState) → (IsTrue a.told → IsTrue b.told) → WindowShows a b → WindowShows b c
    → WindowShows a c
Shows-trans a b c told p q = grind (arith, take-take, longer_shown)

-- the bytes to come after those that are passed
pub coming-passed : (n : ℕ) (v u : WindowState) → n ≤ length v.shown → WindowPasses n v u → coming u ≡ drop n (coming v)
coming-passed n v u few p = grind (arith, drop-append-le)

-- the fault of a first look
pub FailsBy-need : (n size : ℕ) (Lacks : Type 0) (old new : WindowState) (f : Fault) → n ≤ size → (old.room < n → Lacks)
    → Needs n old (Err f) new
    → FailsBy size Lacks old f new
FailsBy-need n size Lacks old new f few lacks k = grind arith

-- and that of a second one
pub FailsBy-later : (size : ℕ) (First Second : Type 0) (a b c : WindowState) (f : Fault) → WindowShows a b
    → b.file ≡ a.file
    → (IsTrue a.told → IsTrue b.told) → (IsTrue b.can_fail → IsTrue a.can_fail) → a.room ≤ b.room
    → (IsTrue a.told → Second → First)
    → FailsBy size Second b f c → FailsBy size First a f c
FailsBy-later size First Second a b c f p named told cannot room lacks was = grind (arith, Shows-trans)

-- some bytes are to come if some are shown
pub some_left : (inside : Bool) (old new : WindowState) → WindowShows old new → 0 < length new.shown → IsTrue old.told
    → (inside && (length (coming old) == 0)) ≡ false
some_left inside old new s some t = grind (arith, length-append)

-- no piece is there, since a rule is broken
pub SeesStop-fault : (inside : Bool) (fault : Option Rule) (tail : Tail) (size : ℕ) (rule : Rule)
    (old new : WindowState)
    → WindowGoes old new
    → (IsTrue old.told → (inside && (length (coming old) == 0)) ≡ false) → (IsTrue old.told → fault ≡ Some rule)
    → (IsTrue old.told → rule ≡ Cut → length (coming old) ≡ size)
    → SeesStop inside fault tail (stop_by inside tail old.file old.offset size rule) old new
SeesStop-fault inside fault tail size rule old new goes some is sized = record {
  goes = goes;
  is_stop = IsStopAt-stop_by inside tail old.file old.offset size rule;
  told_stop = λ t. stop_where-fault inside tail old.file old.offset (coming old) fault rule (some t) (is t)
      ∙ ap Some (stop_by-sized inside tail old.file old.offset (length (coming old)) size rule (sized t));
}

-- none is there, since no bytes are left
pub SeesStop-end : (inside : Bool) (fault : Option Rule) (tail : Tail) (old new : WindowState) → WindowGoes old new
    → inside ≡ true
    → (IsTrue old.told → coming old ≡ []) → SeesStop inside fault tail stops.End old new
SeesStop-end inside fault tail old new goes within none = grind (arith, stop_where-end)
