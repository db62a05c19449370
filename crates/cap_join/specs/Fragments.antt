-- Fragments of a datagram (RFC 791, 3.2).
use Rattle.std.specs.Prelude.{◌≡◌, ℕ, List, [], ◌∷◌, Bool, false, ◌+◌, ◌%◌, ◌<◌, ◌≤◌, length, IsTrue}
use Rattle.std.specs.Option.{option_map_or}
use Rattle.cap_ip.specs.Header.{HeaderFields}
use Rattle.cap_join.specs.declared.datagrams.Stamped.{Stamped}

-- A fragment with its data: where it begins in its datagram's data, whether more follow, and what is known of its
-- frame.
pub record Piece : Type 0 where
  pub header : HeaderFields
  pub start : ℕ
  pub more : Bool
  pub bytes : List ℕ
  pub stamped : Stamped

-- the fragment that a header and its data are
unfoldable pub piece_of : HeaderFields → List ℕ → Stamped → Piece
piece_of header bytes stamped =
    record {
      header = header;
      start = option_map_or (λ f. f.start) header.fragment 0;
      more = option_map_or (λ f. f.more) header.fragment false;
      bytes = bytes;
      stamped = stamped;
    }

-- the place after its last byte
abbrev pub end_of : Piece → ℕ
end_of p = p.start + length p.bytes

-- some data that begins at a whole block of 8 bytes, ends at one if more follow, and lies in the 65,515 bytes that a
-- datagram's data can have
pub record IsShapedFragment (p : Piece) : Type 0 where
  pub some : 0 < length p.bytes
  pub begins : p.start % 8 ≡ 0
  pub ends : IsTrue p.more → length p.bytes % 8 ≡ 0
  pub within : end_of p ≤ 65515

abbrev pub AreShaped : List Piece → Type 0
AreShaped [] = Unit {0}
AreShaped (p ∷ ps) = IsShapedFragment p × AreShaped ps
