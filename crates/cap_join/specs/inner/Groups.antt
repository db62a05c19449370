-- A group of fragments as it is kept: one buffer, and a fixed number of numbers.
use Rattle.std.specs.Prelude.{◌≡◌, ℕ, List, Option, ◌*◌, ◌≤◌, ◌^◌, length, pos, ◌<ℤ◌, Some, IfSome}
use Rattle.cap_time.specs.declared.stamps.Stamp.{Stamp}
use Rattle.cap_time.specs.Stamp.{seconds_of}
use Rattle.cap_ip.specs.Header.{HeaderFields}
use Rattle.cap_join.specs.declared.datagrams.Stamped.{Stamped}
use Rattle.cap_join.specs.declared.datagrams.Datagram.{Datagram}
use Rattle.cap_join.specs.Fragments.{Piece}
use Rattle.cap_join.specs.ByteMap.{total_of, joined_header, joined_data}
use Rattle.cap_join.specs.inner.Buffers.{Maps}
use Rattle.cap_join.specs.Frames.{pieces_original, first_frame, last_frame}

-- The part of the buffer that is held, with its holes; the whole buffer's length, where the first hole begins, the
-- datagram's length if it is known, its header, the number of fragments and of their frames' bytes, the first and the
-- last frame, and the clock and the place of the first fragment.
pub record GroupState : Type 0 where
  pub buffer : List ℕ
  pub room : ℕ
  pub hole : ℕ
  pub total : Option ℕ
  pub header : HeaderFields
  pub frames : ℕ
  pub bytes : ℕ
  pub first : Option Stamped
  pub last : Option Stamped
  pub clock : Option Stamp
  pub place : ℕ

-- What is kept is what the byte map of some fragments gives, which are listed with the latest first.
pub record IsGroupOf (s : GroupState) (ps : List Piece) : Type 0 where
  pub maps : Maps s.buffer s.hole ps
  pub total : s.total ≡ total_of ps
  pub header : IfSome (joined_header ps) (λ h. s.header ≡ h)
  pub frames : s.frames ≡ length ps
  pub bytes : s.bytes ≡ pieces_original ps
  pub first : s.first ≡ first_frame ps
  pub last : s.last ≡ last_frame ps

-- Each group is one of some fragments, and its numbers fit.
pub record IsSoundGroupState (s : GroupState) : Type 0 where
  pub pieces : List Piece
  pub group : IsGroupOf s pieces
  pub few : s.frames ≤ 2 ^ 63
  pub bounded : s.bytes ≤ s.frames * 4294967296
  pub clock : IfSome s.clock (λ c. seconds_of c <ℤ pos (2 ^ 65))

-- A datagram that some fragments complete.
pub record IsDatagramOf (d : Datagram) (ps : List Piece) : Type 0 where
  pub header : joined_header ps ≡ Some d.header
  pub payload : d.payload.items ≡ joined_data ps
  pub frames : d.frames ≡ length ps
  pub bytes : d.bytes ≡ pieces_original ps
  pub first : d.first ≡ first_frame ps
  pub last : d.last ≡ last_frame ps
