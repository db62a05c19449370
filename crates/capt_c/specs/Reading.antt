-- What the calls do to a reader that a caller holds. `feed` gives the packets to come of a capture.
use Rattle.std.specs.Prelude.{◌≡◌, ℕ, List, [], ◌∷◌, Bool, true, false, Option, Some, None, is_some, Result, Ok}
use Rattle.std.specs.Prelude.{Err}
use Rattle.cap_bytes.specs.declared.faults.Fault.{Fault}
use Rattle.cap_bytes.specs.declared.faults.Tail.{Tail}
use Rattle.cap_source.specs.Feed.{Feed, GivesHead, FeedKeeps}
use Rattle.cap_source.specs.Items.{file_items}
use Rattle.cap_source.specs.declared.captures.Capture.{Capture}
use Rattle.capt_c.specs.Answers.{status_of_result, place_of_result}
use Rattle.capt_c.specs.contracts.sources.CaptureInputDevice.TheImpl as device
use Rattle.capt_c.specs.contracts.sources.CaptureInputSource.TheImpl as source
use Rattle.cap_source.specs.Fed.{EndingAt, FedState}
use Rattle.cap_source.specs.declared.feeds.FileEnd.{FileEnd}
use Rattle.capt_c.specs.Feeding.{StepsFedCapture}
use Rattle.capt_c.specs.Packets.{StepsPacket, StepsMany}
use Rattle.capt_c.specs.declared.answers.CPlace.{CPlace}
use Rattle.cap_source.specs.declared.feeds.Ending.{Ending}
use Rattle.cap_source.specs.declared.feeds.Head.{Head}
use Rattle.cap_source.specs.declared.feeds.Head.TheVariants as heads
use Rattle.cap_bytes.specs.declared.formats.Format.{Format}
use Rattle.cap_bytes.specs.declared.formats.Format.TheVariants.{Pcap, Pcapng}
use Rattle.capt_c.specs.declared.flags.Flags.{Flags}
use Rattle.capt_c.specs.declared.handles.Handle.{Handle}
use Rattle.capt_c.specs.declared.handles.HandleValue.{HandleValue}
use Rattle.capt_c.specs.declared.handles.HandleValue.TheVariants as helds
use Rattle.capt_c.specs.declared.packets.CPacket.{CPacket}
use Rattle.capt_c.specs.declared.reading.End.{End}
use Rattle.capt_c.specs.declared.sources.CaptureInput.{CaptureInput}

-- a capture that is read
abbrev pub CaptureReader : Type 0
CaptureReader = Capture CaptureInput source.ghosts device.ghosts

-- the status of whether a packet came
abbrev pub status_of_found : Bool → ℕ
status_of_found true = 1
status_of_found false = 0

-- A capture is open of which no packet was returned; or no memory was found. `told` says whether its bytes are known,
-- which are `bytes` then, and `can_fail` whether its reads can fail.
abbrev pub OpensCapture : (CaptureReader → Feed) → Tail → Bool → List ℕ → Bool → ℕ → Option HandleValue → Type 0
OpensCapture feed tail told bytes can_fail status None = status ≡ 5
OpensCapture feed tail told bytes can_fail status (Some (helds.Text text)) = ⊥
OpensCapture feed tail told bytes can_fail status (Some (helds.Job job)) = ⊥
OpensCapture feed tail told bytes can_fail status (Some (helds.Writer w)) = ⊥
OpensCapture feed tail told bytes can_fail status (Some (helds.Table t)) = ⊥
OpensCapture feed tail told bytes can_fail status (Some (helds.Fed f)) = ⊥
OpensCapture feed tail told bytes can_fail status (Some (helds.Capture c)) =
    (status ≡ 0) × ((feed c).known ≡ None) × ((feed c).files ≡ 1 ∷ []) × ((feed c).told ≡ told)
    × ((feed c).items ≡ file_items tail 1 bytes) × ((feed c).can_fail 1 ≡ can_fail)

-- A call that opens a handle does so with the flags that it is passed, if it takes them. Else it is misused: it returns
-- 6, and leaves the handle as it was.
abbrev pub OpensWith : Option Flags → (Flags → Type 0) → ℕ → Handle → Handle → Type 0
OpensWith None Opens status was new = (status ≡ 6) × (new ≡ was)
OpensWith (Some flags) Opens status was new = Opens flags

-- A call that is misused returns 6, and leaves the handle and the caller's object as they were.
abbrev pub Misused : {X : Type 0} → ℕ → Option HandleValue → Option HandleValue → X → X → Type 0
Misused status held new was object = (status ≡ 6) × (new ≡ held) × (object ≡ was)

-- What a call for the next packet returns and leaves: of a handle that is no open capture, nothing but that. `was` and
-- `from` are the caller's packet and place before it.
abbrev pub Nexts : (CaptureReader → Feed) → Option HandleValue → CPacket → CPlace → ℕ → CPacket → CPlace
    → Option HandleValue → Type 0
Nexts feed None was from status p place new = Misused {X = CPacket × CPlace} status None new (was, from) (p, place)
Nexts feed (Some (helds.Text text)) was from status p place new =
    Misused {X = CPacket × CPlace} status (Some (helds.Text text)) new (was, from) (p, place)
Nexts feed (Some (helds.Job job)) was from status p place new =
    Misused {X = CPacket × CPlace} status (Some (helds.Job job)) new (was, from) (p, place)
Nexts feed (Some (helds.Table t)) was from status p place new =
    Misused {X = CPacket × CPlace} status (Some (helds.Table t)) new (was, from) (p, place)
Nexts feed (Some (helds.Writer w)) was from status p place new =
    Misused {X = CPacket × CPlace} status (Some (helds.Writer w)) new (was, from) (p, place)
Nexts feed (Some (helds.Fed f)) was from status p place new =
    (later : FedState) × (new ≡ Some (helds.Fed later)) × StepsFedCapture f was status p place later
Nexts feed (Some (helds.Capture c)) was from status p place new =
    (answer : Result Bool Fault) × (later : CaptureReader) × (status ≡ status_of_result status_of_found answer)
    × (place ≡ place_of_result answer)
    × (new ≡ Some (helds.Capture later)) × StepsPacket (feed c) was answer p (feed later)
    × FeedKeeps (feed c) (feed later)

-- A caller's objects for the next packets: a number, packets and a place.
pub record Batch : Type 0 where
  pub count : ℕ
  pub packets : List CPacket
  pub place : CPlace

-- What a call for the next packets returns and leaves, if there is room for one.
abbrev pub NextsMany : (CaptureReader → Feed) → Option HandleValue → Batch → ℕ → Batch → Option HandleValue → Type 0
NextsMany feed None was status now new = Misused status None new was now
NextsMany feed (Some (helds.Text text)) was status now new = Misused status (Some (helds.Text text)) new was now
NextsMany feed (Some (helds.Job job)) was status now new = Misused status (Some (helds.Job job)) new was now
NextsMany feed (Some (helds.Table t)) was status now new = Misused status (Some (helds.Table t)) new was now
NextsMany feed (Some (helds.Fed f)) was status now new = Misused status (Some (helds.Fed f)) new was now
NextsMany feed (Some (helds.Writer w)) was status now new = Misused status (Some (helds.Writer w)) new was now
NextsMany feed (Some (helds.Capture c)) was status now new =
    (answer : Result Bool Fault) × (later : CaptureReader) × (status ≡ status_of_result status_of_found answer)
    × (now.place ≡ place_of_result answer)
    × (new ≡ Some (helds.Capture later)) × StepsMany (feed c) was.packets answer now.count now.packets (feed later)
    × FeedKeeps (feed c) (feed later)

-- whether a file is a pcapng file
abbrev pub is_pcapng_format : Format → Bool
is_pcapng_format Pcap = false
is_pcapng_format Pcapng = true

-- how a file ended, in numbers
pub record ShowsEnding (ending : Ending) (end : End) : Type 0 where
  pub skipped : end.skipped ≡ ending.skipped
  pub format : end.is_pcapng ≡ is_pcapng_format ending.format
  pub was_cut : end.was_cut ≡ is_some ending.cut

-- What is known of a feed of one file if that is returned for what comes next: how the file ended, if that is the end.
abbrev pub EndTold : Feed → End → Result Head Fault → ℕ → End → Type 0
EndTold feed was (Ok (heads.Packet meta)) status end = (status ≡ 6) × (end ≡ was)
EndTold feed was (Ok (heads.Refused refusal)) status end = (status ≡ 6) × (end ≡ was)
EndTold feed was (Ok heads.End) status end =
    (status ≡ 0) × ((file : ℕ) → feed.files ≡ file ∷ [] → ShowsEnding (feed.endings file).ending end)
EndTold feed was (Err fault) status end = (status ≡ 6) × (end ≡ was)

-- What is known of a capture that is fed, if that is returned for how it ended: it has, or it hasn't, or was refused.
abbrev pub FedEndBy : Option FileEnd → End → ℕ → End → Type 0
FedEndBy None was status end = (status ≡ 6) × (end ≡ was)
FedEndBy (Some told) was status end = (status ≡ 0) × ShowsEnding told.ending end

abbrev pub FedEndTold : FedState → End → ℕ → End → Type 0
FedEndTold f was status end = (told : Option FileEnd) × EndingAt f.state told × FedEndBy told was status end

-- What a call returns and leaves that tells how a capture ended.
abbrev pub TellsEnd : (CaptureReader → Feed) → Option HandleValue → End → ℕ → End → Option HandleValue → Type 0
TellsEnd feed None was status end new = Misused status None new was end
TellsEnd feed (Some (helds.Text text)) was status end new = Misused status (Some (helds.Text text)) new was end
TellsEnd feed (Some (helds.Job job)) was status end new = Misused status (Some (helds.Job job)) new was end
TellsEnd feed (Some (helds.Table t)) was status end new = Misused status (Some (helds.Table t)) new was end
TellsEnd feed (Some (helds.Fed f)) was status end new = (new ≡ Some (helds.Fed f)) × FedEndTold f was status end
TellsEnd feed (Some (helds.Writer w)) was status end new = Misused status (Some (helds.Writer w)) new was end
TellsEnd feed (Some (helds.Capture c)) was status end new =
    (answer : Result Head Fault) × (later : CaptureReader) × (new ≡ Some (helds.Capture later))
    × GivesHead (feed c) answer (feed later) × EndTold (feed later) was answer status end
    × FeedKeeps (feed c) (feed later)
