-- What a window over a reader is at one moment, and what its calls do.
use Rattle.std.specs.Prelude.{◌≡◌, ◌+◌, ◌^◌, ◌≤◌, ◌<◌, ℕ, List, [], ◌++◌, length, take, drop, Bool, true, false, IsTrue}
use Rattle.std.specs.Prelude.{Option, Some, None, IfSome, IfNone, IsSome, Result, Ok, Err}
use Rattle.cap_bytes.specs.inner.Reach.{Position}
use Rattle.cap_bytes.specs.inner.SourceState.{SourceState}
use Rattle.cap_bytes.specs.declared.faults.Fault.{Fault}
use Rattle.cap_bytes.specs.declared.faults.Fault.TheVariants.{Refused, Read, Write, Memory}

-- A window shows the bytes `shown` of the input, which begin at `offset`. After them come those that the reader still
-- gives, `unread`, if it tells them, at most `most` at a time, if it tells that. `broken` is the offset at which a read
-- failed, once one has. `held` bytes are kept in its buffer, which has room for `room`.
pub record WindowState : Type 0 where
  pub file : ℕ
  pub offset : ℕ
  pub shown : List ℕ
  pub told : Bool
  pub unread : List ℕ
  pub most : Option ℕ
  pub broken : Option ℕ
  pub failed : Bool
  pub can_fail : Bool
  pub held : ℕ
  pub room : ℕ

-- the bytes to come
abbrev pub coming : WindowState → List ℕ
coming window = window.shown ++ window.unread

-- up to where the input was read
abbrev pub read_to : WindowState → ℕ
read_to window = window.offset + length window.shown

-- how far it was read for the piece that begins with the bytes to come
abbrev pub position : WindowState → Position
position window =
    record {
      offset = window.offset;
      read = read_to window;
      most = window.most;
      told = window.told;
      broken = window.broken;
    }

-- a new window, of which nothing has been read
abbrev pub opened_window : ℕ → SourceState → WindowState
opened_window file source =
    record {
      file = file;
      offset = 0;
      shown = [];
      told = source.told;
      unread = source.coming;
      most = source.most;
      broken = None;
      failed = source.failed;
      can_fail = source.can_fail;
      held = 0;
      room = 0;
    }

-- what every answer of every call keeps
pub record WindowKeeps (old new : WindowState) : Type 0 where
  pub file : new.file ≡ old.file
  pub offset : old.offset ≤ new.offset
  pub told : IsTrue old.told → IsTrue new.told
  pub most : new.most ≡ old.most
  pub can_fail : IsTrue new.can_fail → IsTrue old.can_fail
  pub room : old.room ≤ new.room
  pub held : new.held ≤ 524288
  pub shown_held : length new.shown ≤ new.held
  pub held_room : new.held ≤ new.room

-- No read has failed, and none does.
pub record WindowGoes (old new : WindowState) : Type 0 where
  pub before : old.broken ≡ None
  pub after : new.broken ≡ None
  pub failed : new.failed ≡ old.failed

-- The bytes to come are the same, and those that were shown still are.
pub record WindowShows (old new : WindowState) : Type 0 where
  pub goes : WindowGoes old new
  pub offset : new.offset ≡ old.offset
  pub front : take (length old.shown) new.shown ≡ old.shown
  pub coming_same : IsTrue old.told → coming new ≡ coming old

-- A read fails in this call, or failed in an earlier one: then the file and the offset are the same.
pub record WindowBreaks (old : WindowState) (file offset : ℕ) (new : WindowState) : Type 0 where
  pub file_is : file ≡ old.file
  pub again : IfSome old.broken (λ first. offset ≡ first)
  pub first : IfNone old.broken ((offset ≡ new.offset) × (IsTrue new.failed))
  pub after : new.broken ≡ Some offset
  pub failed : IsTrue new.failed
  pub can_fail : IsTrue old.can_fail

-- The next n bytes are there, or the input ends before them. A read fails only if fewer are shown.
abbrev pub Needs : ℕ → WindowState → Result Bool Fault → WindowState → Type 0
Needs n old (Ok true) new = WindowShows old new × (n ≤ length new.shown)
Needs n old (Ok false) new = WindowShows old new × (length new.shown < n) × (IsTrue old.told → new.unread ≡ [])
Needs n old (Err (Read file offset)) new =
    WindowBreaks old file offset new × (new.offset ≡ old.offset) × IfNone old.broken (length new.shown < n)
Needs n old (Err Memory) new = WindowShows old new × (old.room < n)
Needs n old (Err Write) new = ⊥
Needs n old (Err (Refused refusal)) new = ⊥

-- The first n bytes that are shown are dropped.
pub record WindowPasses (n : ℕ) (old new : WindowState) : Type 0 where
  pub file : new.file ≡ old.file
  pub offset : new.offset ≡ old.offset + n
  pub shown : new.shown ≡ drop n old.shown
  pub told : new.told ≡ old.told
  pub unread : new.unread ≡ old.unread
  pub most : new.most ≡ old.most
  pub broken : new.broken ≡ old.broken
  pub failed : new.failed ≡ old.failed
  pub can_fail : new.can_fail ≡ old.can_fail
  pub room : new.room ≡ old.room

-- The next n bytes are dropped.
pub record WindowDrops (n : ℕ) (old new : WindowState) : Type 0 where
  pub goes : WindowGoes old new
  pub offset : new.offset ≡ old.offset + n
  pub room : 12 ≤ new.room
  pub shown : n ≤ length old.shown → new.shown ≡ drop n old.shown
  pub enough : IsTrue old.told → n ≤ length (coming old)
  pub coming_dropped : IsTrue old.told → coming new ≡ drop n (coming old)

-- All bytes to come are dropped, which are fewer than n.
pub record DropsAll (n : ℕ) (old new : WindowState) : Type 0 where
  pub goes : WindowGoes old new
  pub fewer : new.offset < old.offset + n
  pub room : 12 ≤ new.room
  pub shown : new.shown ≡ []
  pub least : old.offset + length old.shown ≤ new.offset
  pub offset : IsTrue old.told → new.offset ≡ old.offset + length (coming old)
  pub unread : IsTrue old.told → new.unread ≡ []

-- The next n bytes are dropped, or all that come, or nothing. A read fails only before the last of the n came.
abbrev pub Skips : ℕ → WindowState → Result Bool Fault → WindowState → Type 0
Skips n old (Ok true) new = WindowDrops n old new
Skips n old (Ok false) new = DropsAll n old new
Skips n old (Err (Read file offset)) new = WindowBreaks old file offset new × (new.offset ≤ old.offset + n)
    × IfNone old.broken (read_to new < old.offset + n)
Skips n old (Err Memory) new = WindowShows old new × (old.room < 12)
Skips n old (Err Write) new = ⊥
Skips n old (Err (Refused refusal)) new = ⊥

-- A read that failed is reported with that offset.
pub record FailsAt (offset : ℕ) (old new : WindowState) : Type 0 where
  pub file : new.file ≡ old.file
  pub offset_same : new.offset ≡ old.offset
  pub shown : new.shown ≡ old.shown
  pub told : new.told ≡ old.told
  pub most : new.most ≡ old.most
  pub broken : new.broken ≡ Some offset
  pub failed : new.failed ≡ old.failed
  pub can_fail : IsTrue new.can_fail → IsTrue old.can_fail
  pub held : new.held ≡ old.held
  pub room : new.room ≡ old.room

-- what a window's fields always meet
pub record IsSoundWindow (start end length offset : ℕ) (broken : Option ℕ) (failed : Bool) : Type 0 where
  pub order : start ≤ end
  pub within : end ≤ length
  pub bounded : length ≤ 524288
  pub limit : offset ≤ 2 ^ 40
  pub failed_first : IsSome broken → IsTrue failed
