-- The packets of one capture file, as contracts see them.
use Rattle.std.specs.Prelude.{ℕ, Bool, true, false, Option, None, Result, Ok, Err, ⊤}
use Rattle.cap_bytes.specs.declared.devices.Device as Device
use Rattle.cap_bytes.specs.declared.devices.Source as Source
use Rattle.cap_time.specs.declared.resolutions.Interface.{Interface}
use Rattle.cap_bytes.specs.inner.Reach.{Position, ReachesTo}
use Rattle.cap_bytes.specs.inner.SourceState.{SourceState}
use Rattle.cap_bytes.specs.declared.faults.Fault.{Fault}
use Rattle.cap_source.specs.Feed.{Feed}
use Rattle.cap_source.specs.declared.feeds.Head.{Head}
use Rattle.cap_source.specs.declared.feeds.Head.TheVariants as heads
use Rattle.cap_source.specs.inner.FileState.{FileState, file_feed, first_by}
use Rattle.cap_source.specs.inner.Fronts.{Fronts, reader_fronts}
use Rattle.cap_source.specs.inner.SectionState.{progress_of}
use Rattle.cap_source.specs.inner.Readers.{reader_file_state}
use Rattle.cap_source.specs.declared.captures.Capture.{Capture}

-- the file, as its reader still gives it
abbrev pub capture_file : {R : Type 0} {source : Source.Ghosts R} {device : Device.Ghosts R} → Capture R source device
    → FileState
capture_file capture = reader_file_state capture.reader (progress_of capture.reached)

-- the file as a feed
abbrev pub capture_feed : {R : Type 0} {source : Source.Ghosts R} {device : Device.Ghosts R} → Capture R source device
    → Feed
capture_feed capture = file_feed (capture_file capture) capture.next.next

-- the file as it would be if it ended further on, behind a packet that comes next
abbrev pub capture_fronts : {R : Type 0} {source : Source.Ghosts R} {device : Device.Ghosts R} → Capture R source device
    → Fronts
capture_fronts capture = reader_fronts capture.reader (progress_of capture.reached)

-- its first interface, if it stands before what comes next or the end: of instance 0
abbrev pub capture_first : {R : Type 0} {source : Source.Ghosts R} {device : Device.Ghosts R} → Capture R source device
    → Option Interface
capture_first capture = first_by capture.next.next (capture_file capture)

-- its number, which is the one of the feed's files
abbrev pub capture_number : {R : Type 0} {source : Source.Ghosts R} {device : Device.Ghosts R}
    → Capture R source device → ℕ
capture_number capture = (capture_file capture).file

-- how far it was read
abbrev pub position_of : {R : Type 0} {source : Source.Ghosts R} {device : Device.Ghosts R}
    → Capture R source device → Position
position_of capture =
    record {
      offset = (capture_file capture).offset;
      read = (capture_file capture).read;
      most = (capture_file capture).most;
      told = (capture_file capture).told;
      broken = (capture_file capture).broken;
    }

-- of which nothing was read
abbrev pub unread_position : SourceState → Position
unread_position source =
    record {
      offset = 0;
      read = 0;
      most = source.most;
      told = source.told;
      broken = None;
    }

-- How far is read for what comes next: if a packet does, no read began once all of its record or block had come.
abbrev pub ReadsToPacket : Position → Position → Type 0
ReadsToPacket old new = ReachesTo old.most new.offset old.read new.read

abbrev pub ReadsForHead : Position → Result Head Fault → Position → Type 0
ReadsForHead old (Ok (heads.Packet meta)) new = ReadsToPacket old new
ReadsForHead old (Ok (heads.Refused refusal)) new = ⊤
ReadsForHead old (Ok heads.End) new = ⊤
ReadsForHead old (Err fault) new = ⊤

abbrev pub ReadsForPacket : Position → Result Bool Fault → Position → Type 0
ReadsForPacket old (Ok true) new = ReadsToPacket old new
ReadsForPacket old (Ok false) new = ⊤
ReadsForPacket old (Err fault) new = ⊤
