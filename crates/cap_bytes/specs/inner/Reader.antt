-- What a reader that gives a file piece by piece is at one moment, and what its calls do.
use Rattle.std.specs.Prelude.{◌≡◌, ◌+◌, ◌^◌, ◌≤◌, ◌<◌, ℕ, List, drop, Bool, IsTrue, Option, Some, None, IfSome, IfNone}
use Rattle.std.specs.Prelude.{IsSome, Result, Ok, Err}
use Rattle.cap_bytes.specs.inner.Reach.{Position}
use Rattle.cap_bytes.specs.inner.Window.{WindowState}
use Rattle.cap_bytes.specs.inner.Window as windows
use Rattle.cap_bytes.specs.Items.{stop_where, IsStopAt, IsEnd}
use Rattle.cap_bytes.specs.declared.faults.Fault.{Fault}
use Rattle.cap_bytes.specs.declared.faults.Fault.TheVariants.{Refused, Read, Write, Memory}
use Rattle.cap_bytes.specs.declared.faults.Rule.{Rule}
use Rattle.cap_bytes.specs.declared.faults.Tail.{Tail}
use Rattle.cap_bytes.specs.declared.stops.Stop.{Stop}
use Rattle.cap_bytes.specs.declared.stops.Stop.TheVariants as stops

-- A reader of the file of that number, which gives its pieces: records, or blocks. `known` is what is known of the
-- file, once that was read: a pcap file's header, or the order of a pcapng file's section. The bytes to come, if
-- the device tells them, begin at `offset`: after the pieces that were given. The file was read up to `read`, and the
-- device gives `most` bytes at a time at most, if it tells that. `lent` is what is shown of the piece
-- that was given last, until the next is asked for. `stop` is what ended the pieces, once something has. `broken` is
-- where the piece began at which a read failed, once one has. `held` bytes are kept in the window, which has room
-- for `room`.
pub record ReaderState (K : Type 0) : Type 0 where
  pub file : ℕ
  pub tail : Tail
  pub known : Option K
  pub offset : ℕ
  pub read : ℕ
  pub most : Option ℕ
  pub told : Bool
  pub coming : List ℕ
  pub lent : Option (List ℕ)
  pub stop : Option Stop
  pub broken : Option ℕ
  pub failed : Bool
  pub can_fail : Bool
  pub held : ℕ
  pub room : ℕ

-- a new reader
abbrev pub opened_reader : {K : Type 0} → WindowState → Tail → ReaderState K
opened_reader window tail =
    record {
      file = window.file;
      tail = tail;
      known = None;
      offset = window.offset;
      read = windows.read_to window;
      most = window.most;
      told = window.told;
      coming = windows.coming window;
      lent = None;
      stop = None;
      broken = window.broken;
      failed = window.failed;
      can_fail = window.can_fail;
      held = window.held;
      room = window.room;
    }

-- how far the file was read for the next piece
abbrev pub position : {K : Type 0} → ReaderState K → Position
position reader =
    record {
      offset = reader.offset;
      read = reader.read;
      most = reader.most;
      told = reader.told;
      broken = reader.broken;
    }

-- what every answer of every call keeps
pub record ReaderKeeps {K : Type 0} (old new : ReaderState K) : Type 0 where
  pub file : new.file ≡ old.file
  pub tail : new.tail ≡ old.tail
  pub known : IsSome old.known → IsSome new.known
  pub stop : IfSome old.stop (λ stop. new.stop ≡ Some stop)
  pub offset : old.offset ≤ new.offset
  pub limit : new.offset ≤ 2 ^ 40
  pub most : new.most ≡ old.most
  pub told : IsTrue old.told → IsTrue new.told
  pub can_fail : IsTrue new.can_fail → IsTrue old.can_fail
  pub room : old.room ≤ new.room
  pub held : new.held ≤ 524288

-- Nothing had ended the pieces, and no read has failed nor does.
pub record ReaderGoes {K : Type 0} (old new : ReaderState K) : Type 0 where
  pub stop : old.stop ≡ None
  pub before : old.broken ≡ None
  pub after : new.broken ≡ None
  pub failed : new.failed ≡ old.failed

-- A read fails in this call, or failed in an earlier one: then the file and the offset are the same. The
-- offset is where the piece begins that was being read, also if it is one that is skipped.
pub record ReaderBreaks {K : Type 0} (old : ReaderState K) (file offset : ℕ) (new : ReaderState K) : Type 0 where
  pub file_is : file ≡ old.file
  pub again : IfSome old.broken (λ first. offset ≡ first)
  pub first : IfNone old.broken (offset ≡ old.offset)
  pub after : new.broken ≡ Some offset
  pub failed : IsTrue new.failed
  pub can_fail : IsTrue old.can_fail
  pub known_same : new.known ≡ old.known
  pub stop_before : old.stop ≡ None
  pub stop_after : new.stop ≡ None

-- Nothing was given, since a growth to that many bytes at most was refused. What is to come is the same.
pub record ReaderWaits {K : Type 0} (size : ℕ) (old new : ReaderState K) : Type 0 where
  pub goes : ReaderGoes old new
  pub stop : new.stop ≡ None
  pub known_same : new.known ≡ old.known
  pub offset_same : new.offset ≡ old.offset
  pub coming_same : IsTrue old.told → new.coming ≡ old.coming
  pub grown : old.room < size

-- That many bytes are read, which stand at the front of the bytes to come.
pub record Gives {K : Type 0} (known : Option K) (size : ℕ) (old new : ReaderState K) : Type 0 where
  pub goes : ReaderGoes old new
  pub stop : new.stop ≡ None
  pub known_is : new.known ≡ known
  pub next : new.offset ≡ old.offset + size
  pub coming_next : IsTrue old.told → new.coming ≡ drop size old.coming

-- The pieces end, as the bytes to come tell, which meet that condition, if one.
pub record ReaderStops {K : Type 0} (inside : Bool) (fault : Option Rule) (stop : Stop) (old new : ReaderState K) :
    Type 0 where
  pub goes : ReaderGoes old new
  pub known_same : new.known ≡ old.known
  pub is_stop : IsStopAt inside old.tail old.file old.offset stop
  pub told_stop : IsTrue old.told → stop_where inside old.tail old.file old.offset old.coming fault ≡ Some stop

-- What ended the pieces comes: now, or again.
pub record GivesStop {K : Type 0} (inside : Bool) (fault : Option Rule) (stop : Stop) (old new : ReaderState K) : Type
    0 where
  pub stop_is : new.stop ≡ Some stop
  pub again : IfSome old.stop (λ first. (stop ≡ first) × (new ≡ old))
  pub first : IfNone old.stop (ReaderStops inside fault stop old new)

-- What a call for a piece returns: a piece that comes in this way, what ended the pieces, or a fault, that of a growth
-- to `size` bytes only if there is less room than that.
abbrev pub GivesNextPiece : {K P : Type 0} → (P → Type 0) → Bool → Option Rule → ℕ → Type 0 → ReaderState K
    → Result (Option P) Fault → ReaderState K → Type 0
GivesNextPiece Comes inside fault size Lacks old (Ok (Some piece)) new = Comes piece
GivesNextPiece Comes inside fault size Lacks old (Ok None) new = (stop : Stop) × IsEnd stop
    × GivesStop inside fault stop old new
GivesNextPiece Comes inside fault size Lacks old (Err (Refused refusal)) new =
    GivesStop inside fault (stops.Refused refusal) old new
GivesNextPiece Comes inside fault size Lacks old (Err (Read file offset)) new = ReaderBreaks old file offset new
GivesNextPiece Comes inside fault size Lacks old (Err Memory) new = ReaderWaits size old new × (IsTrue old.told → Lacks)
GivesNextPiece Comes inside fault size Lacks old (Err Write) new = ⊥

-- The window of a reader, which still has what is shown of the piece that was given last.
pub record HasWindow {K : Type 0} (reader : ReaderState K) (window : WindowState) : Type 0 where
  pub file : window.file ≡ reader.file
  pub offset : window.offset ≤ reader.offset
  pub read : windows.read_to window ≡ reader.read
  pub most : window.most ≡ reader.most
  pub told : window.told ≡ reader.told
  pub broken : window.broken ≡ reader.broken
  pub failed : window.failed ≡ reader.failed
  pub can_fail : window.can_fail ≡ reader.can_fail
  pub held : window.held ≡ reader.held
  pub room : window.room ≡ reader.room

-- A reader by the window over its file, its tail, what is known, how many bytes the window still shows of the piece
-- that was given last, what is lent of it, and what ended the pieces.
abbrev pub reader_state : {K : Type 0} → WindowState → Tail → Option K → ℕ → Option (List ℕ) → Option Stop
    → ReaderState K
reader_state window tail known size lent stop =
    record {
      file = window.file;
      tail = tail;
      known = known;
      offset = window.offset + size;
      read = windows.read_to window;
      most = window.most;
      told = window.told;
      coming = drop size (windows.coming window);
      lent = lent;
      stop = stop;
      broken = window.broken;
      failed = window.failed;
      can_fail = window.can_fail;
      held = window.held;
      room = window.room;
    }
