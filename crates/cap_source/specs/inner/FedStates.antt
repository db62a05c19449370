-- What the calls of a capture that is fed return and leave.
use Rattle.std.specs.Prelude.{◌≡◌, ◌≤◌, ◌<◌, ◌+◌, ◌*◌, ◌^◌, ℕ, true, false, List, [], ◌∷◌, ◌++◌, length, Result}
use Rattle.std.specs.Prelude.{Ok, Err}
use Rattle.cap_bytes.specs.declared.faults.Fault.{Fault}
use Rattle.cap_bytes.specs.declared.faults.Fault.TheVariants.{Refused, Read, Write, Memory}
use Rattle.cap_source.specs.Fed.{PushView, FedState, MayBeFed, fed_items, fed_rest, is_over_at, packet_then}
use Rattle.cap_source.specs.Feed.{Item, refused}
use Rattle.cap_source.specs.inner.FedSteps.{AreShort, PushKeeps, IsAtBlock, IsSoundPush}
use Rattle.cap_source.specs.declared.fed.Stage.{Stage}
use Rattle.cap_source.specs.declared.fed.Stage.TheVariants.{Start, Records, Blocks, Skipping, Stopped}
use Rattle.cap_source.specs.declared.fed_captures.Fed.{Fed}
use Rattle.cap_source.specs.declared.fed_captures.Fed.TheVariants as feds

-- what is always true of it inside
pub record IsSoundFed (state : PushView) (start end passed len : ℕ) : Type 0 where
  pub sound : IsSoundPush state
  pub order : start ≤ end
  pub frame : end ≤ passed
  pub within : passed ≤ len

-- Nothing is kept of what was fed, and no memory held for it.
pub record KeepsNothing (s : FedState) : Type 0 where
  pub rest : s.rest ≡ []
  pub frame : s.frame ≡ []
  pub kept : s.kept ≡ 0
  pub room : s.room ≡ 0

-- After some bytes were fed these are to come, and at most twice those that were to come before are kept, and those
-- that were fed; the packet that came last is let go.
pub record FedOn (old : FedState) (fed : List ℕ) (new : FedState) : Type 0 where
  pub state : new.state ≡ old.state
  pub rest : new.rest ≡ old.rest ++ fed
  pub frame : new.frame ≡ []
  pub kept : new.kept ≤ 2 * length old.rest + length fed

-- The next bytes were fed, or no room was found for them.
abbrev pub FeedsOn : FedState → List ℕ → Result Unit Fault → FedState → Type 0
FeedsOn old bytes (Ok u) new = FedOn old bytes new
FeedsOn old bytes (Err fault) new = (fault ≡ Memory) × (0 < length bytes) × FedOn old [] new

-- The same of a capture that goes on; of one of which nothing comes any more nothing is kept.
abbrev pub FeedsStage : Stage → FedState → List ℕ → Result Unit Fault → FedState → Type 0
FeedsStage Start old bytes result new = FeedsOn old bytes result new
FeedsStage (Records header) old bytes result new = FeedsOn old bytes result new
FeedsStage (Blocks section) old bytes result new = FeedsOn old bytes result new
FeedsStage (Skipping block left) old bytes result new = FeedsOn old bytes result new
FeedsStage (Stopped format stop) old bytes result new = (result ≡ Ok tt) × (new.state ≡ old.state) × KeepsNothing new

abbrev pub FeedsBytes : FedState → List ℕ → Result Unit Fault → FedState → Type 0
FeedsBytes old bytes result new = FeedsStage old.state.stage old bytes result new

-- Nothing comes any more but these items, whatever bytes are fed later, and it ends as it would have before.
pub record ComesToStop (old : FedState) (left : List Item) (new : FedState) : Type 0 where
  pub ends : (later : List ℕ) → MayBeFed old.state later → fed_rest old later ≡ fed_rest new []
  pub items : fed_items new [] ≡ left
  pub still : (later : List ℕ) → fed_rest new later ≡ fed_rest new []

-- What is found next of a capture that is fed, whatever bytes are fed later, which are none if all were.
abbrev pub FindsFed : FedState → Result Fed Fault → FedState → Type 0
FindsFed old (Ok (feds.Packet meta)) new =
    (later : List ℕ) → MayBeFed old.state later
    → fed_rest old later ≡ packet_then meta new.frame (fed_rest new later)
FindsFed old (Ok feds.More) new =
    (old.state.ended ≡ false) × AreShort (fed_items old [])
    × ((later : List ℕ) → fed_rest old later ≡ fed_rest new later)
FindsFed old (Ok feds.End) new = ComesToStop old [] new × (is_over_at new.state.stage ≡ true)
FindsFed old (Err (Refused refusal)) new =
    ComesToStop old (refused refusal ∷ []) new × (is_over_at new.state.stage ≡ false)
FindsFed old (Err (Read file offset)) new = ⊥
FindsFed old (Err Write) new = ⊥
FindsFed old (Err Memory) new =
    IsAtBlock new.state.stage
    × ((later : List ℕ) → MayBeFed old.state later → fed_rest old later ≡ fed_rest new later)

-- the most bytes for which memory is held if fewer are kept
abbrev pub spare_room : ℕ
spare_room = 2 ^ 20

-- What is kept then of the bytes that were fed: after a packet and a refused growth what was kept; if more are wanted,
-- at most 1 MiB, of which fewer than 512 KiB are to come, and memory for at most 1 MiB if none are to come; nothing if
-- nothing comes any more.
abbrev pub LeavesFed : FedState → Result Fed Fault → FedState → Type 0
LeavesFed old (Ok (feds.Packet meta)) new = (new.kept ≡ old.kept) × (new.room ≡ old.room)
LeavesFed old (Ok feds.More) new =
    (new.frame ≡ []) × (length new.rest < 2 ^ 19) × (new.kept ≤ spare_room) × (new.rest ≡ [] → new.room ≤ spare_room)
LeavesFed old (Ok feds.End) new = KeepsNothing new
LeavesFed old (Err (Refused refusal)) new = KeepsNothing new
LeavesFed old (Err (Read file offset)) new = ⊥
LeavesFed old (Err Write) new = ⊥
LeavesFed old (Err Memory) new = (new.frame ≡ old.frame) × (new.kept ≡ old.kept) × (new.room ≡ old.room)

-- the same, and what a call for it keeps
pub record GivesFed (old : FedState) (result : Result Fed Fault) (new : FedState) : Type 0 where
  pub finds : FindsFed old result new
  pub leaves : LeavesFed old result new
  pub keeps : PushKeeps old.state new.state
