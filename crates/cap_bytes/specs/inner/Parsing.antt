-- What is seen of a piece at the front of the bytes that a window shows.
use Rattle.std.specs.Prelude.{◌≡◌, ◌<◌, ℕ, Bool, IsTrue, Option, Some, IfSome, IfNone, Result, Ok, Err}
use Rattle.cap_bytes.specs.inner.Window.{WindowState, WindowGoes, WindowShows, coming}
use Rattle.cap_bytes.specs.Items.{stop_where, IsStopAt}
use Rattle.cap_bytes.specs.declared.faults.Fault.{Fault}
use Rattle.cap_bytes.specs.declared.faults.Fault.TheVariants.{Refused, Read, Write, Memory}
use Rattle.cap_bytes.specs.declared.faults.Rule.{Rule}
use Rattle.cap_bytes.specs.declared.faults.Tail.{Tail}
use Rattle.cap_bytes.specs.declared.stops.Stop.{Stop}

-- A read fails while a piece is looked for, or failed before: it is reported with the piece's own offset.
pub record ParsingFails (old : WindowState) (file offset : ℕ) (new : WindowState) : Type 0 where
  pub file_is : file ≡ old.file
  pub again : IfSome old.broken (λ first. offset ≡ first)
  pub first : IfNone old.broken (offset ≡ old.offset)
  pub after : new.broken ≡ Some offset
  pub failed : IsTrue new.failed
  pub can_fail : IsTrue old.can_fail

-- No piece is there: the bytes to come meet that condition, if one.
pub record SeesStop (inside : Bool) (fault : Option Rule) (tail : Tail) (stop : Stop) (old new : WindowState) : Type 0
  where
    pub goes : WindowGoes old new
    pub is_stop : IsStopAt inside tail old.file old.offset stop
    pub told_stop : IsTrue old.told → stop_where inside tail old.file old.offset (coming old) fault ≡ Some stop

-- The fault of a look: that of a growth to `size` bytes at most comes only if there is less room than that.
abbrev pub FailsBy : ℕ → Type 0 → WindowState → Fault → WindowState → Type 0
FailsBy size Lacks old (Read file offset) new = ParsingFails old file offset new
FailsBy size Lacks old Memory new = WindowShows old new × (old.room < size) × (IsTrue old.told → Lacks)
FailsBy size Lacks old Write new = ⊥
FailsBy size Lacks old (Refused refusal) new = ⊥

-- what a look for a piece returns that is seen in this way
abbrev pub LooksFor : {P : Type 0} → (P → Type 0) → Bool → Option Rule → ℕ → Type 0 → Tail → WindowState
    → Result (Result P Stop) Fault → WindowState → Type 0
LooksFor Sees inside fault size Lacks tail old (Ok (Ok piece)) new = Sees piece
LooksFor Sees inside fault size Lacks tail old (Ok (Err stop)) new = SeesStop inside fault tail stop old new
LooksFor Sees inside fault size Lacks tail old (Err f) new = FailsBy size Lacks old f new
