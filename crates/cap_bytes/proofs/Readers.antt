-- What a look at the window makes of a reader, and what that does to the items to come.
use Rattle.std.proofs.Common.{◌≡◌, ℕ, ◌+◌, ◌≤◌, List, [], ◌∷◌, length, drop, Option, Some, None, option_map, Bool}
use Rattle.std.proofs.Common.{IsTrue, Result, Err, length-drop, arith}
use Rattle.cap_bytes.specs.Items.{stop_where, stop_answer, PieceItem, stopped, items_by_stop, TakesPiece}
use Rattle.cap_bytes.specs.inner.Reach.{Position, ReachesTo, Reaches}
use Rattle.cap_bytes.specs.inner.Reader.{ReaderState, ReaderKeeps, ReaderWaits, Gives, GivesStop, GivesNextPiece}
use Rattle.cap_bytes.specs.inner.Reader.{reader_state, position}
use Rattle.cap_bytes.specs.inner.Parsing.{FailsBy, SeesStop}
use Rattle.cap_bytes.specs.inner.Window.{WindowState, WindowPasses, coming, read_to}
use Rattle.cap_bytes.specs.inner.Window as windows
use Rattle.cap_bytes.specs.declared.faults.Fault.{Fault}
use Rattle.cap_bytes.specs.declared.faults.Rule.{Rule}
use Rattle.cap_bytes.specs.declared.faults.Tail.{Tail}
use Rattle.cap_bytes.specs.declared.stops.Stop.{Stop}
use Rattle.cap_bytes.proofs.Parsing.{coming-passed}
use Rattle.cap_bytes.proofs.Reach.{ReachesTo-here}

-- A window stands where a reader does, of which nothing has ended the pieces.
pub record Stands {K : Type 0} (old : ReaderState K) (u : WindowState) : Type 0 where
  pub free : old.stop ≡ None
  pub file : u.file ≡ old.file
  pub offset : u.offset ≡ old.offset
  pub read : read_to u ≡ old.read
  pub most : u.most ≡ old.most
  pub told : IsTrue old.told → IsTrue u.told
  pub coming_same : coming u ≡ old.coming
  pub broken : u.broken ≡ old.broken
  pub failed : u.failed ≡ old.failed
  pub can_fail : u.can_fail ≡ old.can_fail
  pub room : u.room ≡ old.room

-- it does once it has passed what it shows of the piece that was given last
pub Stands-passed : {K : Type 0} (w u : WindowState) (tail : Tail) (known : Option K) (size : ℕ)
    (lent : Option (List ℕ)) (stop : Option Stop)
    → stop ≡ None → size ≤ length w.shown → WindowPasses size w u → Stands (reader_state w tail known size lent stop) u
Stands-passed w u tail known size lent stop free within p = grind (arith, coming-passed, length-drop)

pub Stands-here : {K : Type 0} (w : WindowState) (tail : Tail) (known : Option K)
    → Stands (reader_state w tail known 0 None None) w
Stands-here w tail known = grind arith

module _ {K : Type 0} (old : ReaderState K) (u v : WindowState) (at : Stands old u) where
  -- that many bytes are read, of which the window still shows `left`
  pub Gives-seen : (known : Option K) (size left : ℕ) (lent : Option (List ℕ)) → windows.WindowGoes u v
      → v.offset + left ≡ u.offset + size
      → (IsTrue u.told → drop left (coming v) ≡ drop size (coming u))
      → Gives known size old (reader_state v old.tail known left lent old.stop)
  Gives-seen known size left lent g next rest = grind arith

  -- how far that was read for a piece that is given
  pub Reaches-given : (n : ℕ) → ReachesTo u.most (u.offset + n) (read_to u) (read_to v)
      → ReachesTo old.most (old.offset + n) old.read (read_to v)
  Reaches-given n h = grind arith

  pub Reaches-here : (n : ℕ) → ReachesTo old.most (old.offset + n) old.read (read_to u)
  Reaches-here n = rw at.read (ReachesTo-here old.most (old.offset + n) old.read)

  -- and before a read failed
  pub Reaches-failed : {A B : Type 0} (size : A → Option ℕ) (found : B → Option ℕ) (wanted : ℕ → List ℕ → ℕ) (f : Fault)
      → Reaches found (wanted u.offset (coming u)) (windows.position u) (Err f) (read_to v)
      → Reaches size (wanted old.offset old.coming) (position old) (Err f) (read_to v)
  Reaches-failed size found wanted f h = grind arith

  module _ {P : Type 0} (Comes : P → Type 0) (inside : Bool) (fault : ℕ → List ℕ → Option Rule) (size : ℕ) (lacks : ℕ
      → List ℕ → ℕ → Type 0) where
    -- the same by what is answered
    pub GivesNext-stopped : (end : Stop) → SeesStop inside (fault u.offset (coming u)) old.tail end u v
        → GivesNextPiece Comes inside (fault old.offset old.coming) size (lacks old.offset old.coming old.room) old
        (stop_answer end)
        (reader_state v old.tail old.known 0 None (Some end))
    GivesNext-stopped end s = grind arith

    -- a fault of the look
    pub GivesNext-failed : (f : Fault) → FailsBy size (lacks u.offset (coming u) u.room) u f v
        → GivesNextPiece Comes inside (fault old.offset old.coming) size (lacks old.offset old.coming old.room) old
        (Err f)
        (reader_state v old.tail old.known 0 None old.stop)
    GivesNext-failed f h = grind arith

-- What ended the pieces is answered with no more read.
pub Reaches-stopped : {P : Type 0} (size : P → ℕ) (wanted read : ℕ) (at : Position) (end : Stop)
    → Reaches (option_map size) wanted at (stop_answer end) read
Reaches-stopped size wanted read at end = grind arith

-- What ended the pieces is the one item to come, now and again.
module _ {K P : Type 0} (items : Option K → Tail → ℕ → ℕ → List ℕ → List (PieceItem P)) where
  -- the items to come of a reader
  abbrev pub to_come : ReaderState K → List (PieceItem P)
  to_come reader = items_by_stop reader.stop (items reader.known reader.tail reader.file reader.offset reader.coming)

  pub waits_kept : (size : ℕ) (old new : ReaderState K) → ReaderWaits size old new → ReaderKeeps old new
      → IsTrue old.told
      → to_come new ≡ to_come old
  waits_kept size old new w k t = grind arith

  module _ (inside : Bool) (fault : Option Rule) (old new : ReaderState K)
      (ends : old.stop ≡ None → (stop : Stop)
      → stop_where inside old.tail old.file old.offset old.coming fault ≡ Some stop
      → items old.known old.tail old.file old.offset old.coming ≡ stopped stop ∷ []) where
    pub stop_kept : (stop : Stop) (was : Option Stop) → old.stop ≡ was → GivesStop inside fault stop old new
        → IsTrue old.told → (to_come old ≡ stopped stop ∷ []) × (to_come new ≡ to_come old)
    stop_kept stop was is g t = grind arith

    -- What a call for a piece answers tells what it does to the items to come.
    pub TakesItem-next : (Comes Takes : P → Type 0) (size : ℕ) (Lacks : Type 0) (result : Result (Option P) Fault)
        → ((piece : P) → Comes piece → Takes piece) → GivesNextPiece Comes inside fault size Lacks old result new
        → ReaderKeeps old new → IsTrue old.told
        → TakesPiece Takes (to_come old) result (to_come new)
    TakesItem-next Comes Takes size Lacks result takes g k t = grind arith
