-- The report on a few frames, by computation.
use Rattle.std.specs.Prelude.{◌≡◌, ℕ, ◌*◌, List, [], ◌∷◌, ◌++◌, codes, Some, None, pos, length}
use Rattle.cap_source.specs.TimeBases.{microseconds}
use Rattle.cap_source.specs.Items.{no_kinds}
use Rattle.cap_source.specs.declared.feeds.FileEnd.{FileEnd}
use Rattle.cap_bytes.specs.declared.formats.Format.TheVariants.{Pcap}
use Rattle.cap_source.specs.declared.packets.Meta.{Meta}
use Rattle.cap_time.specs.Stamp.{stamp_in}
use Rattle.cap_time.specs.declared.resolutions.Interface.{Interface}
use Rattle.cap_class.specs.Classes.{classes}
use Rattle.cap_talks.specs.table.TakenText.{text_of}
use Rattle.cap_class.specs.Taken.{Taken}
use Rattle.cap_class.specs.declared.classes.Class.TheVariants.{Bad, Unjoined, Counted}

-- an interface of a link type (LINKTYPE registry): 1 is Ethernet, 101 IP alone
abbrev pub worked_interface : ℕ → Interface
worked_interface link = record { link = link; snaplen = 262144; resolution = microseconds; offset = pos 0 }

abbrev pub worked_meta : ℕ → ℕ → ℕ → Meta
worked_meta link seconds original =
    record {
      file = 1;
      offset = 24;
      format = Pcap;
      skipped = 0;
      instance = 0;
      interface = worked_interface link;
      units = Some (seconds * 1000000);
      captured = original;
      original = original;
    }

-- a packet that was captured whole, at a second
abbrev pub taken_at : ℕ → ℕ → List ℕ → Taken
taken_at link seconds frame =
    record {
      clock = Some (stamp_in (seconds * 1000000) (worked_interface link));
      meta = worked_meta link seconds (length frame);
      frame = frame;
    }

-- a fragment from 10.0.0.1 to 10.0.0.2 with identification 7, by its two bytes of flags and offset, and its data
abbrev pub fragment_at : ℕ → ℕ → List ℕ → List ℕ
fragment_at high low bytes =
    69 ∷ 0 ∷ 0 ∷ 28 ∷ 0 ∷ 7 ∷ high ∷ low ∷ 64 ∷ 17 ∷ 0 ∷ 0 ∷ 10 ∷ 0 ∷ 0 ∷ 1 ∷ 10 ∷ 0 ∷ 0 ∷ 2 ∷ bytes

abbrev pub first_two : List Taken
first_two =
    taken_at 101 2 (fragment_at 32 0 (3 ∷ 232 ∷ 7 ∷ 208 ∷ 0 ∷ 24 ∷ 0 ∷ 0 ∷ []))
    ∷ taken_at 101 1 (fragment_at 0 2 (176 ∷ 177 ∷ 178 ∷ 179 ∷ 180 ∷ 181 ∷ 182 ∷ 183 ∷ []))
    ∷ []

abbrev pub all_four : List Taken
all_four =
    taken_at 101 4 (fragment_at 32 1 (160 ∷ 161 ∷ 162 ∷ 163 ∷ 164 ∷ 165 ∷ 166 ∷ 167 ∷ []))
    ∷ taken_at 101 3 (fragment_at 32 0 (3 ∷ 233 ∷ 7 ∷ 209 ∷ 0 ∷ 24 ∷ 0 ∷ 0 ∷ []))
    ∷ first_two

abbrev pub pcap_end : ℕ → FileEnd
pcap_end file =
    record {
      ending = record { format = Pcap; skipped = 0; cut = None };
      interfaces = 1;
      named = 0;
      kinds = no_kinds;
      comments = None;
    }

-- Overlapped fragments, two of four taken, and all of them.
pub record Overlapped : Type 0 where
  pub before : classes first_two ≡ Unjoined ∷ Unjoined ∷ []
  pub after : classes all_four ≡ Counted ∷ Counted ∷ Counted ∷ Counted ∷ []
  pub so_far : text_of 1 None first_two
      ≡ codes "files 1\nfile 1 pcap packets 2 bytes 56 truncated 0 skipped 0 first 1+0/1000000 last 2+0/1000000\n"
      ++ codes "total packets 2 bytes 56 truncated 0\n"
      ++ codes "frames other-link 0 not-ipv4 0 short 0 cut 0 bad 0 unjoined 2 counted 0\njoined 0 given-up 0\ntalks 0\n"
  pub done : text_of 1 (Some pcap_end) all_four
      ≡ codes "files 1\nfile 1 pcap packets 4 bytes 112 truncated 0 skipped 0 first 1+0/1000000 last 4+0/1000000\n"
      ++ codes "total packets 4 bytes 112 truncated 0\n"
      ++ codes "frames other-link 0 not-ipv4 0 short 0 cut 0 bad 0 unjoined 0 counted 4\njoined 1 given-up 0\ntalks 1\n"
      ++ codes "talk udp 10.0.0.1:1001 10.0.0.2:2001 forward 4 112 backward 0 0 first 1+0/1000000 last 4+0/1000000\n"

-- an Ethernet frame with two tags (IEEE 802.1Q, 9.3) and 8 bytes of padding, between 10.0.0.1 and 10.0.0.2: of UDP, by
-- the last bytes of its addresses, its identification, its ports and its UDP length
abbrev pub tagged_at : ℕ → ℕ → ℕ → List ℕ → ℕ → List ℕ
tagged_at from to identification ports length =
    2 ∷ 0 ∷ 0 ∷ 0 ∷ 0 ∷ to ∷ 2 ∷ 0 ∷ 0 ∷ 0 ∷ 0 ∷ from ∷ 136 ∷ 168 ∷ 0 ∷ 100 ∷ 129 ∷ 0 ∷ 0 ∷ 10 ∷ 8 ∷ 0 ∷ 69 ∷ 0 ∷ 0 ∷ 30
    ∷ 0 ∷ identification
    ∷ 0 ∷ 0 ∷ 64 ∷ 17 ∷ 0 ∷ 0 ∷ 10 ∷ 0 ∷ 0 ∷ from ∷ 10 ∷ 0 ∷ 0 ∷ to
    ∷ (ports ++ (0 ∷ length ∷ 0 ∷ 0 ∷ 104 ∷ 105 ∷ 0 ∷ 0 ∷ 0 ∷ 0 ∷ 0 ∷ 0 ∷ 0 ∷ 0 ∷ []))

-- there, back, and one whose UDP length reaches into the padding
abbrev pub tagged_frames : List Taken
tagged_frames =
    taken_at 1 3 (tagged_at 1 2 3 (3 ∷ 232 ∷ 7 ∷ 208 ∷ []) 12)
    ∷ taken_at 1 2 (tagged_at 2 1 2 (7 ∷ 208 ∷ 3 ∷ 232 ∷ []) 10)
    ∷ taken_at 1 1 (tagged_at 1 2 1 (3 ∷ 232 ∷ 7 ∷ 208 ∷ []) 10)
    ∷ []

-- Tagged frames: padding isn't data.
pub record Tagged : Type 0 where
  pub classes_are : classes tagged_frames ≡ Bad ∷ Counted ∷ Counted ∷ []
  pub done : text_of 1 (Some pcap_end) tagged_frames
      ≡ codes "files 1\nfile 1 pcap packets 3 bytes 180 truncated 0 skipped 0 first 1+0/1000000 last 3+0/1000000\n"
      ++ codes "total packets 3 bytes 180 truncated 0\n"
      ++ codes "frames other-link 0 not-ipv4 0 short 0 cut 0 bad 1 unjoined 0 counted 2\njoined 0 given-up 0\ntalks 1\n"
      ++ codes "talk udp 10.0.0.1:1000 10.0.0.2:2000 forward 1 60 backward 1 60 first 1+0/1000000 last 2+0/1000000\n"
