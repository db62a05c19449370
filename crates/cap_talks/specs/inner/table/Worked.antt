-- The definitions on a few units, by computation.
use Rattle.std.specs.Prelude.{◌≡◌, ℕ, List, [], ◌∷◌, ◌++◌, true, false, None, Some, Option, codes, pos, refl}
use Rattle.cap_print.specs.declared.forms.Form.TheVariants.{Json}
use Rattle.cap_print.specs.declared.forms.TimeForm.TheVariants.{Exact}
use Rattle.cap_talks.specs.declared.table.units.TimedFrame.{TimedFrame}
use Rattle.cap_time.specs.declared.stamps.Stamp.{Stamp}
use Rattle.cap_talks.specs.table.Rows.{is_refused}
use Rattle.cap_talks.specs.table.TalkLines.{talk_texts, talk_texts_in}
use Rattle.cap_talks.specs.table.Conversations.{talk_key, rows_of}
use Rattle.cap_talks.specs.table.Units.{end_at}
use Rattle.cap_talks.specs.declared.table.units.Address.TheVariants.{Ipv4}
use Rattle.cap_talks.specs.declared.table.units.CountedUnit.{CountedUnit}
use Rattle.cap_talks.specs.declared.table.units.Endpoint.{Endpoint}

-- a time of that many seconds in millionths, and half a second in 1,024ths and in tenths
abbrev pub at_second : ℕ → Stamp
at_second n = record { units = 0; code = 6; low = n; high = pos 0; allowed = refl }

abbrev pub half_binary : Stamp
half_binary = record { units = 512; code = 138; low = 0; high = pos 0; allowed = refl }

abbrev pub half_tenths : Stamp
half_tenths = record { units = 5; code = 1; low = 0; high = pos 0; allowed = refl }

abbrev pub worked_frame_at : ℕ → Stamp → Option TimedFrame
worked_frame_at place time = Some (record { time = time; place = place })

-- 10.0.0.1 and 10.0.0.2, with a port
abbrev pub one : ℕ → Endpoint
one port = end_at (Ipv4 167772161) (Some port)

abbrev pub two : ℕ → Endpoint
two port = end_at (Ipv4 167772162) (Some port)

-- a UDP datagram of that many frames and bytes
abbrev pub unit_of : Endpoint → Endpoint → ℕ → ℕ → Option TimedFrame → Option TimedFrame → CountedUnit
unit_of source destination frames bytes first last =
    record {
      protocol = 17;
      source = source;
      destination = destination;
      frames = frames;
      bytes = bytes;
      first = first;
      last = last;
    }

-- a datagram and its answer, at 1 and 2 seconds
abbrev pub worked_answer : List CountedUnit
worked_answer =
    unit_of (one 1000) (two 2000) 1 60 (worked_frame_at 0 (at_second 1)) (worked_frame_at 0 (at_second 1))
    ∷ unit_of (two 2000) (one 1000) 1 60 (worked_frame_at 1 (at_second 2)) (worked_frame_at 1 (at_second 2)) ∷ []

-- a datagram that was joined from four frames at 1 to 4 seconds
abbrev pub joined : List CountedUnit
joined = unit_of (one 1001) (two 2001) 4 112 (worked_frame_at 0 (at_second 1)) (worked_frame_at 3 (at_second 4)) ∷ []

-- a datagram in tenths of a second, and one that was joined after it, but began before it
abbrev pub begun_before : List CountedUnit
begun_before =
    unit_of (one 1) (two 2) 1 60 (worked_frame_at 1 half_tenths) (worked_frame_at 1 half_tenths)
    ∷ unit_of (one 1) (two 2) 2 120 (worked_frame_at 0 half_binary) (worked_frame_at 0 half_binary) ∷ []

-- The lines of those units, in text and one of them in JSON.
pub record TalkLines : Type 0 where
  pub answered_line : talk_texts (rows_of worked_answer)
      ≡ codes "talk udp 10.0.0.1:1000 10.0.0.2:2000 forward 1 60 backward 1 60 first 1+0/1000000 last 2+0/1000000\n"
  pub joined_line : talk_texts (rows_of joined)
      ≡ codes "talk udp 10.0.0.1:1001 10.0.0.2:2001 forward 4 112 backward 0 0 first 1+0/1000000 last 4+0/1000000\n"
  pub begun_line : talk_texts (rows_of begun_before)
      ≡ codes "talk udp 10.0.0.1:1 10.0.0.2:2 forward 3 180 backward 0 0 first 0+512/1024 last 0+512/1024\n"
  pub answered_object : talk_texts_in (Json Exact) (rows_of worked_answer)
      ≡ codes "{\"type\":\"talk\",\"protocol\":17,\"a\":{\"address\":\"10.0.0.1\",\"port\":1000},"
      ++ codes "\"b\":{\"address\":\"10.0.0.2\",\"port\":2000},\"forward\":{\"packets\":1,\"bytes\":60},"
      ++ codes "\"backward\":{\"packets\":1,\"bytes\":60},\"first\":[1,0,1000000],\"last\":[2,0,1000000]}\n"

-- If one conversation may stand a second is refused, and what belongs to the first one isn't.
pub record TalkLimit : Type 0 where
  pub second : is_refused 1 (rows_of worked_answer) (talk_key (unit_of (one 1) (two 2) 1 60 None None)) ≡ true
  pub first : is_refused 1 (rows_of worked_answer) (talk_key (unit_of (two 2000) (one 1000) 1 60 None None)) ≡ false
  pub below : is_refused 2 (rows_of worked_answer) (talk_key (unit_of (one 1) (two 2) 1 60 None None)) ≡ false
