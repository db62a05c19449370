-- What a look at the next bytes of a capture that is fed returns, and leaves.
use Rattle.std.specs.Prelude.{◌≡◌, ◌+◌, ◌≤◌, ◌<◌, ◌^◌, ℕ, Bool, true, false, List, [], ◌∷◌, ◌++◌, length, take, drop}
use Rattle.std.specs.Prelude.{Result, Ok, Err, ⊤, Some, None, not, ◌&&◌}
use Rattle.cap_blocks.specs.Split.{body_in}
use Rattle.cap_blocks.specs.declared.blocks.Block.{Block}
use Rattle.cap_bytes.specs.Items.{stop_where}
use Rattle.cap_bytes.specs.declared.faults.Fault.{Fault}
use Rattle.cap_bytes.specs.declared.faults.Fault.TheVariants.{Refused, Read, Write, Memory}
use Rattle.cap_bytes.specs.declared.faults.Rule.{Rule}
use Rattle.cap_bytes.specs.declared.faults.Rule.TheVariants as rules
use Rattle.cap_bytes.specs.declared.formats.Format.{Format}
use Rattle.cap_bytes.specs.declared.formats.Format.TheVariants.{Pcap, Pcapng}
use Rattle.cap_bytes.specs.declared.stops.Stop.{Stop}
use Rattle.cap_bytes.specs.declared.stops.Stop.TheVariants as stops
use Rattle.cap_source.specs.Fed.{PushView, MayBeFed, is_over_at, packet_then, rest_after}
use Rattle.cap_source.specs.Feed.{Item, packet, refused}
use Rattle.cap_source.specs.Contents.{content_in}
use Rattle.cap_source.specs.Items.{SectionProgress, after, meta_in}
use Rattle.cap_source.specs.declared.contents.BlockContent.{BlockContent}
use Rattle.cap_source.specs.declared.contents.BlockContent.TheVariants as contents
use Rattle.cap_source.specs.declared.contents.BlockPacket.{BlockPacket}
use Rattle.cap_source.specs.declared.fed.PushState.{PushState}
use Rattle.cap_source.specs.declared.fed.PushEvent.{PushEvent}
use Rattle.cap_source.specs.declared.fed.Stage.{Stage}
use Rattle.cap_source.specs.declared.fed.Stage.TheVariants.{Start, Records, Blocks, Skipping, Stopped}
use Rattle.cap_source.specs.declared.fed.PushEvent.TheVariants as steps
use Rattle.cap_source.specs.inner.SectionState.{counted_blocks, progress_of}

abbrev pub push_view : PushState → PushView
push_view c =
    record {
      file = c.file;
      tail = c.tail;
      ended = c.ended;
      offset = c.offset;
      stage = c.stage;
      progress = progress_of c.reached;
    }

-- a block that is being skipped begins there and ends by byte 2^40
abbrev pub IsSoundStage : Stage → ℕ → Type 0
IsSoundStage Start offset = ⊤
IsSoundStage (Records header) offset = ⊤
IsSoundStage (Blocks section) offset = ⊤
IsSoundStage (Skipping block left) offset =
    (block.offset ≡ offset) × (offset + block.total ≤ 2 ^ 40) × (12 ≤ block.total) × (left + 4 ≤ block.total)
IsSoundStage (Stopped format stop) offset = ⊤

-- what is always true of it; comments aren't counted
pub record IsSoundPush (c : PushView) : Type 0 where
  pub limit : c.offset ≤ 2 ^ 40
  pub uncounted : c.progress.comments ≡ None
  pub counted : counted_blocks c.progress ≤ c.offset
  pub stage : IsSoundStage c.stage c.offset

-- what is returned of what ended a capture
abbrev pub IsToldStop : Stop → Result PushEvent Fault → Type 0
IsToldStop stops.End result = result ≡ Ok steps.Ends
IsToldStop (stops.Cut rest) result = result ≡ Ok steps.Ends
IsToldStop (stops.Refused refusal) result = result ≡ Err (Refused refusal)

-- the format of the file, which is pcap unless a block stands at its first byte
abbrev pub format_at : Stage → Format
format_at Start = Pcap
format_at (Records header) = Pcap
format_at (Blocks section) = Pcapng
format_at (Skipping block left) = Pcapng
format_at (Stopped format stop) = format

-- It stops there for good.
abbrev pub StopsFed : PushView → Stop → Result PushEvent Fault → PushView → Type 0
StopsFed old stop result new =
    (new ≡ record old { stage = Stopped (format_at old.stage) stop }) × IsToldStop stop result

-- whether too few bytes are the reason
abbrev pub is_cut_rule : Rule → Bool
is_cut_rule rules.Cut = true
is_cut_rule rule = false

-- More are wanted, or it stops, if the next bytes break a rule.
abbrev pub BreaksIf : Bool → PushView → Stop → Result PushEvent Fault → PushView → Type 0
BreaksIf true old stop result new = (result ≡ Ok steps.Short) × (new ≡ old)
BreaksIf false old stop result new = StopsFed old stop result new

abbrev pub BreaksBy : PushView → Rule → Stop → Result PushEvent Fault → PushView → Type 0
BreaksBy old rule stop result new = BreaksIf (not old.ended && is_cut_rule rule) old stop result new

abbrev pub BreaksOff : PushView → Bool → List ℕ → Rule → Result PushEvent Fault → PushView → Type 0
BreaksOff old inside bytes rule result new =
    (stop : Stop) × (stop_where inside old.tail old.file old.offset bytes (Some rule) ≡ Some stop)
    × BreaksBy old rule stop result new

-- it goes on after a block of that order
abbrev pub behind_block : PushView → Block → SectionProgress → PushView
behind_block c block progress =
    record {
      file = c.file;
      tail = c.tail;
      ended = c.ended;
      offset = block.offset + block.total;
      stage = Blocks (Some block.order);
      progress = progress;
    }

-- a block says that, and no packet
abbrev pub IsNoPacket : BlockContent → Type 0
IsNoPacket contents.Section = ⊤
IsNoPacket (contents.Interface described) = ⊤
IsNoPacket (contents.Packet p) = ⊥
IsNoPacket (contents.Other kind) = ⊤

-- a packet's bytes lie within its block
abbrev pub SaysWithin : Block → Result BlockContent Rule → Type 0
SaysWithin block (Ok contents.Section) = ⊤
SaysWithin block (Ok (contents.Interface described)) = ⊤
SaysWithin block (Ok (contents.Packet p)) = 12 + p.place + p.captured ≤ block.total
SaysWithin block (Ok (contents.Other kind)) = ⊤
SaysWithin block (Err rule) = ⊤

-- What taking a block of a known kind returns and leaves, by what the block says.
abbrev pub TakesFed : PushView → Block → Result BlockContent Rule → Result PushEvent Fault → PushView → Type 0
TakesFed old block said (Ok (steps.Packet meta place size)) new =
    (p : BlockPacket) × (said ≡ Ok (contents.Packet p)) × (meta ≡ meta_in old.file old.progress block p)
    × (place ≡ 8 + p.place) × (size ≡ block.total) × (12 + p.place + p.captured ≤ block.total)
    × (new ≡ behind_block old block old.progress)
TakesFed old block said (Ok (steps.Passed n)) new =
    (content : BlockContent) × (said ≡ Ok content) × IsNoPacket content × (n ≡ block.total)
    × (new ≡ behind_block old block (after old.progress content))
TakesFed old block said (Ok steps.Short) new = ⊥
TakesFed old block said (Ok steps.Ends) new = ⊥
TakesFed old block said (Err (Refused refusal)) new =
    (rule : Rule) × (said ≡ Err rule)
    × (refusal ≡ record { file = old.file; offset = block.offset; rule = rule })
    × (new ≡ record old { stage = Stopped (format_at old.stage) (stops.Refused refusal) })
TakesFed old block said (Err (Read file offset)) new = ⊥
TakesFed old block said (Err Write) new = ⊥
TakesFed old block said (Err Memory) new = new ≡ old

abbrev pub TakesBlockFed : PushView → Block → List ℕ → Result PushEvent Fault → PushView → Type 0
TakesBlockFed old block bytes result new =
    TakesFed old block (content_in old.progress.interfaces block.kind block.order
    (body_in block.total bytes)) result new

-- No packet comes of these bytes if they are all: none, or a refusal by rule 3.
abbrev pub AreShort : List Item → Type 0
AreShort [] = ⊤
AreShort (packet meta frame ∷ items) = ⊥
AreShort (refused refusal ∷ items) = refusal.rule ≡ rules.Cut

-- A block comes next: room for an interface may be wanted.
abbrev pub IsAtBlock : Stage → Type 0
IsAtBlock Start = ⊥
IsAtBlock (Records header) = ⊥
IsAtBlock (Blocks section) = ⊤
IsAtBlock (Skipping block left) = ⊥
IsAtBlock (Stopped format stop) = ⊥

-- what every look keeps
pub record PushKeeps (old new : PushView) : Type 0 where
  pub file : new.file ≡ old.file
  pub tail : new.tail ≡ old.tail
  pub ended : new.ended ≡ old.ended

-- Nothing comes any more but these items, whatever bytes come next.
pub record StandsStill (new : PushView) (left : List Item) : Type 0 where
  pub items : (rest_after new []).items ≡ left
  pub still : (rest : List ℕ) → rest_after new rest ≡ rest_after new []

-- What a look at the next bytes returns and leaves.
abbrev pub StepsFed : PushView → List ℕ → Result PushEvent Fault → PushView → Type 0
StepsFed old bytes (Ok (steps.Passed n)) new =
    (0 < n) × (n ≤ length bytes)
    × ((later : List ℕ) → MayBeFed old later
    → rest_after old (bytes ++ later) ≡ rest_after new (drop n bytes ++ later))
StepsFed old bytes (Ok (steps.Packet meta place size)) new =
    (0 < size) × (size ≤ length bytes) × (place + meta.captured ≤ size)
    × ((later : List ℕ) → MayBeFed old later
    → rest_after old (bytes ++ later)
    ≡ packet_then meta (take meta.captured (drop place bytes)) (rest_after new (drop size bytes ++ later)))
StepsFed old bytes (Ok steps.Short) new =
    (old.ended ≡ false) × AreShort (rest_after old bytes).items
    × ((later : List ℕ) → rest_after old (bytes ++ later) ≡ rest_after new (bytes ++ later))
    × (length bytes < 2 ^ 19)
StepsFed old bytes (Ok steps.Ends) new =
    ((later : List ℕ) → MayBeFed old later → rest_after old (bytes ++ later) ≡ rest_after new [])
    × StandsStill new [] × (is_over_at new.stage ≡ true)
StepsFed old bytes (Err (Refused refusal)) new =
    ((later : List ℕ) → MayBeFed old later → rest_after old (bytes ++ later) ≡ rest_after new [])
    × StandsStill new (refused refusal ∷ []) × (is_over_at new.stage ≡ false)
StepsFed old bytes (Err (Read file offset)) new = ⊥
StepsFed old bytes (Err Write) new = ⊥
StepsFed old bytes (Err Memory) new =
    IsAtBlock new.stage × ((later : List ℕ) → rest_after old (bytes ++ later) ≡ rest_after new (bytes ++ later))

-- The same still comes after the next bytes, whatever is fed later, as comes from another point on of these.
abbrev pub FollowsFed : PushView → List ℕ → PushView → List ℕ → Type 0
FollowsFed old bytes new rest =
    (later : List ℕ) → MayBeFed old later → rest_after old (bytes ++ later) ≡ rest_after new (rest ++ later)

-- bytes were passed, and nothing else was found
abbrev pub is_passed : Result PushEvent Fault → Bool
is_passed (Ok (steps.Passed n)) = true
is_passed (Ok (steps.Packet meta place size)) = false
is_passed (Ok steps.Short) = false
is_passed (Ok steps.Ends) = false
is_passed (Err fault) = false

-- What looking on at the next bytes returns and leaves: at the point that is reached, `rest` are still to come.
pub record LooksFed (old : PushView) (bytes : List ℕ) (result : Result PushEvent Fault) (new : PushView)
    (rest : List ℕ)
    : Type 0 where
  pub reached : PushView
  pub keeps : PushKeeps old reached
  pub follows : FollowsFed old bytes reached rest
  pub steps : StepsFed reached rest result new
  pub ends : is_passed result ≡ false
