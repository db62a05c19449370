-- What the calls do to a capture whose bytes the caller feeds.
use Rattle.std.specs.Prelude.{◌≡◌, ℕ, Bool, true, false, List, [], Option, Some, None, Result, Ok, Err}
use Rattle.cap_bytes.specs.declared.faults.Fault.{Fault}
use Rattle.cap_bytes.specs.declared.faults.Tail.{Tail}
use Rattle.cap_source.specs.Fed.{FedState, fed_rest, file_rest}
use Rattle.cap_source.specs.declared.fed_captures.Fed.{Fed}
use Rattle.cap_source.specs.declared.fed_captures.Fed.TheVariants as feds
use Rattle.cap_source.specs.inner.FedStates.{FeedsBytes, GivesFed}
use Rattle.capt_c.specs.Answers.{status_of_result, place_of_result, status_of_unit}
use Rattle.capt_c.specs.Packets.{ShowsFields}
use Rattle.capt_c.specs.declared.answers.CPlace.{CPlace}
use Rattle.capt_c.specs.declared.handles.HandleValue.{HandleValue}
use Rattle.capt_c.specs.declared.handles.HandleValue.TheVariants as helds
use Rattle.capt_c.specs.declared.packets.CPacket.{CPacket}

-- A capture is open of which nothing was fed; or no memory was found.
abbrev pub OpensFed : Tail → ℕ → Option HandleValue → Type 0
OpensFed tail status None = status ≡ 5
OpensFed tail status (Some (helds.Text text)) = ⊥
OpensFed tail status (Some (helds.Job job)) = ⊥
OpensFed tail status (Some (helds.Writer w)) = ⊥
OpensFed tail status (Some (helds.Table t)) = ⊥
OpensFed tail status (Some (helds.Capture c)) = ⊥
OpensFed tail status (Some (helds.Fed f)) =
    (status ≡ 0) × ((bytes : List ℕ) → fed_rest f bytes ≡ file_rest tail 1 bytes) × (f.state.ended ≡ false)
    × (f.frame ≡ [])

-- The next bytes were fed, or no memory was found for them; either lets go the packet that came last. None are taken
-- once all were fed.
abbrev pub FeedsIf : Bool → FedState → List ℕ → ℕ → Option HandleValue → Type 0
FeedsIf true f bytes status new = (status ≡ 6) × (new ≡ Some (helds.Fed f))
FeedsIf false f bytes status new =
    (answer : Result Unit Fault) × (later : FedState) × (status ≡ status_of_result status_of_unit answer)
    × (new ≡ Some (helds.Fed later)) × FeedsBytes f bytes answer later

abbrev pub FeedsHeld : Option HandleValue → List ℕ → ℕ → Option HandleValue → Type 0
FeedsHeld None bytes status new = (status ≡ 6) × (new ≡ None)
FeedsHeld (Some (helds.Text text)) bytes status new = (status ≡ 6) × (new ≡ Some (helds.Text text))
FeedsHeld (Some (helds.Job job)) bytes status new = (status ≡ 6) × (new ≡ Some (helds.Job job))
FeedsHeld (Some (helds.Writer w)) bytes status new = (status ≡ 6) × (new ≡ Some (helds.Writer w))
FeedsHeld (Some (helds.Table t)) bytes status new = (status ≡ 6) × (new ≡ Some (helds.Table t))
FeedsHeld (Some (helds.Capture c)) bytes status new = (status ≡ 6) × (new ≡ Some (helds.Capture c))
FeedsHeld (Some (helds.Fed f)) bytes status new = FeedsIf f.state.ended f bytes status new

-- It is known that no more bytes come.
abbrev pub EndsHeld : Option HandleValue → ℕ → Option HandleValue → Type 0
EndsHeld None status new = (status ≡ 6) × (new ≡ None)
EndsHeld (Some (helds.Text text)) status new = (status ≡ 6) × (new ≡ Some (helds.Text text))
EndsHeld (Some (helds.Job job)) status new = (status ≡ 6) × (new ≡ Some (helds.Job job))
EndsHeld (Some (helds.Writer w)) status new = (status ≡ 6) × (new ≡ Some (helds.Writer w))
EndsHeld (Some (helds.Table t)) status new = (status ≡ 6) × (new ≡ Some (helds.Table t))
EndsHeld (Some (helds.Capture c)) status new = (status ≡ 6) × (new ≡ Some (helds.Capture c))
EndsHeld (Some (helds.Fed f)) status new =
    (status ≡ 0) × (new ≡ Some (helds.Fed (record f { state = record f.state { ended = true } })))

-- the status of what comes next
abbrev pub status_of_fed : Fed → ℕ
status_of_fed (feds.Packet meta) = 1
status_of_fed feds.More = 7
status_of_fed feds.End = 0

-- a caller's packet is written only if one comes
abbrev pub WritesFed : CPacket → Result Fed Fault → CPacket → Type 0
WritesFed was (Ok (feds.Packet meta)) p = ShowsFields meta p
WritesFed was (Ok feds.More) p = p ≡ was
WritesFed was (Ok feds.End) p = p ≡ was
WritesFed was (Err fault) p = p ≡ was

-- What a call for the next packet of a capture that is fed returns and leaves.
abbrev pub StepsFedCapture : FedState → CPacket → ℕ → CPacket → CPlace → FedState → Type 0
StepsFedCapture old was status p place new =
    (answer : Result Fed Fault) × (status ≡ status_of_result status_of_fed answer) × (place ≡ place_of_result answer)
    × GivesFed old answer new × WritesFed was answer p
