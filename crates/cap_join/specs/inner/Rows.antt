-- The definitions on small groups of fragments, by computation.
use Rattle.std.specs.Prelude.{◌≡◌, ℕ, List, [], ◌∷◌, Bool, true, false, None, Some, length, pos, is_some, refl}
use Rattle.cap_time.specs.declared.stamps.Stamp.{Stamp}
use Rattle.cap_ip.specs.declared.headers.Key.{Key}
use Rattle.cap_join.specs.Fragments.{Piece}
use Rattle.cap_join.specs.ByteMap.{completes, joined_data}
use Rattle.cap_join.specs.Frames.{is_too_old}
use Rattle.cap_join.specs.History.{Event, arrives, flushes, open_groups_after, group_of}

-- the key of a datagram from 10.0.0.1 to 10.0.0.2
abbrev pub key_numbered : ℕ → Key
key_numbered identification = record {
  source = 167772161;
  destination = 167772162;
  protocol = 17;
  identification =
      identification;
}

-- a fragment of that key: its identification, place, start, whether more follow, and its data
abbrev pub piece_at : ℕ → ℕ → ℕ → Bool → List ℕ → Piece
piece_at identification place start more bytes =
    record {
      header = record {
        key = key_numbered identification;
        service = 0;
        time_to_live = 64;
        data_length = length bytes;
        fragment = Some (record { start = start; length = length bytes; more = more });
      };
      start = start;
      more = more;
      bytes = bytes;
      stamped = record { time = None; place = place; original = 28 };
    }

-- overlapped fragments, the latest first: two ends of the data, a middle, and the front
abbrev pub overlapped : List Piece
overlapped =
    piece_at 7 3 0 true (3 ∷ 232 ∷ 7 ∷ 208 ∷ 0 ∷ 32 ∷ 0 ∷ 0 ∷ [])
    ∷ piece_at 7 2 24 false (208 ∷ 209 ∷ 210 ∷ 211 ∷ 212 ∷ 213 ∷ 214 ∷ 215 ∷ [])
    ∷ piece_at 7 1 16 false (192 ∷ 193 ∷ 194 ∷ [])
    ∷ piece_at 7 0 8 true (160 ∷ 161 ∷ 162 ∷ 163 ∷ 164 ∷ 165 ∷ 166 ∷ 167 ∷ [])
    ∷ []

-- the last of the ends counts, and what no fragment wrote of a covered block is 0
pub record OverlapMap : Type 0 where
  pub whole : completes overlapped ≡ true
  pub bytes : joined_data overlapped
      ≡ 3 ∷ 232 ∷ 7 ∷ 208 ∷ 0 ∷ 32 ∷ 0 ∷ 0 ∷ 160 ∷ 161 ∷ 162 ∷ 163 ∷ 164 ∷ 165 ∷ 166 ∷ 167 ∷ 192 ∷ 193 ∷ 194 ∷ 0 ∷ 0 ∷ 0
      ∷ 0 ∷ 0 ∷ 208 ∷ 209 ∷ 210 ∷ 211 ∷ 212 ∷ 213 ∷ 214 ∷ 215 ∷ []

-- a fragment that opens a group, without a clock
abbrev pub opening : ℕ → Event
opening n = arrives None (piece_at n n 0 true (0 ∷ 0 ∷ 0 ∷ 0 ∷ 0 ∷ 0 ∷ 0 ∷ 0 ∷ []))

-- If two groups may be open the third gives up the first; and a flush drops its group.
pub record OpenLimit : Type 0 where
  pub given_up : (open_groups_after 2 (opening 2 ∷ opening 1 ∷ opening 0 ∷ [])).given_up ≡ 1
  pub first : group_of 2 (opening 2 ∷ opening 1 ∷ opening 0 ∷ []) (key_numbered 0) ≡ None
  pub second : is_some (group_of 2 (opening 2 ∷ opening 1 ∷ opening 0 ∷ []) (key_numbered 1)) ≡ true
  pub third : is_some (group_of 2 (opening 2 ∷ opening 1 ∷ opening 0 ∷ []) (key_numbered 2)) ≡ true
  pub flushed : group_of 2 (flushes (key_numbered 1) ∷ opening 1 ∷ opening 0 ∷ []) (key_numbered 1) ≡ None

-- a time of that many microseconds
abbrev pub at_microsecond : ℕ → Stamp
at_microsecond n = record { units = n; code = 6; low = 0; high = pos 0; allowed = refl }

-- times of 1 second, of 31, and of a microsecond more
abbrev pub time_1 : Stamp
time_1 = at_microsecond 1000000

abbrev pub time_31 : Stamp
time_31 = at_microsecond 31000000

abbrev pub time_31_1 : Stamp
time_31_1 = at_microsecond 31000001

-- After 30 seconds a group isn't too old yet, and a millionth of a second later it is.
pub record ThirtySeconds : Type 0 where
  pub at_thirty : is_too_old (Some time_1) (Some time_31) ≡ false
  pub later : is_too_old (Some time_1) (Some time_31_1) ≡ true
  pub without_clock : is_too_old None (Some time_31_1) ≡ false
