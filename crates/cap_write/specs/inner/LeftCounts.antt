-- What is counted of the packets that are left out, with one packet more.
use Rattle.std.specs.Prelude.{◌≡◌, ℕ, List, ◌+◌, ◌≤◌, ◌<◌, ◌^◌, ◌==◌, ◌&&◌, not, length, IfSome, Option, if◌then◌else◌}
use Rattle.cap_class.specs.Taken.{Taken, events_of}
use Rattle.cap_class.specs.declared.classes.Class.{Class}
use Rattle.cap_class.specs.declared.classes.Class.TheVariants as class
use Rattle.cap_ip.specs.Header.{HeaderFields}
use Rattle.cap_ip.specs.Transport.{transport_of}
use Rattle.cap_join.specs.Joiners.{JoinerState, JoinerStandsFor}
use Rattle.cap_join.specs.declared.datagrams.Datagram.{Datagram}
use Rattle.cap_class.specs.Classes.{datagram_class}
use Rattle.cap_class.specs.Counting.{with_frames, with_group}
use Rattle.cap_class.specs.Counting.{is_class, sum_of}
use Rattle.cap_class.specs.Classes.{class_of}
use Rattle.cap_write.specs.LeftOut.{CountsLeftOut}
use Rattle.cap_write.specs.declared.left_out.LeftOut.{LeftOut}

-- one packet more can be counted
abbrev pub HasRoom : Option LeftOut → Type 0
HasRoom left = IfSome left (λ l. (sum_of l.classes + 1 < 2 ^ 64) × (l.truncated + 1 < 2 ^ 64))

-- a datagram's fragments were unjoined, but the one that completed it
abbrev pub MovesFew : Datagram → Option LeftOut → Type 0
MovesFew d left = IfSome left (λ l. d.frames ≤ l.classes.unjoined + 1)

-- one packet more of a class
abbrev pub with_class : Class → LeftOut → LeftOut
with_class c left = record left { classes = with_frames c 1 left.classes }

-- one, if a datagram of a class counts and not all of its data was captured
abbrev pub truncated_one : Class → ℕ → ℕ → ℕ
truncated_one c captured length = if is_class class.Counted c && not (captured == length) then 1 else 0

-- one whole datagram more
abbrev pub with_datagram : HeaderFields → List ℕ → LeftOut → LeftOut
with_datagram header captured left =
    record {
      classes =
          with_frames (class_of (transport_of header.key.protocol captured header.data_length)) 1 left.classes;
      truncated =
          left.truncated
          + truncated_one (class_of (transport_of header.key.protocol captured header.data_length)) (length captured)
          header.data_length;
    }

-- a fragment more, which completes a datagram
abbrev pub with_joined : Datagram → LeftOut → LeftOut
with_joined d left = record left { classes = with_group (datagram_class d) d.frames left.classes }

-- What a joiner at a place in a run stands for, and what was counted: those packets were taken.
pub record StandsForTaken (xs : List Taken) (place : ℕ) (joiner : JoinerState) (left : Option LeftOut) : Type 0 where
  pub here : place ≡ length xs
  pub joins : JoinerStandsFor joiner (events_of xs)
  pub counts : CountsLeftOut left xs
