-- The data of a joined datagram isn't longer than that of the longest.
use Rattle.std.proofs.Common.{◌≡◌, ℕ, ◌≤◌, List, ◌∷◌, length, Option, Some, None, IsSome, IfSome, arith, refl}
use Rattle.std.proofs.Common.{subst, sym}
use Rattle.std.proofs.lemmas.List.FromFn.{length-map-range_with_len}
use Rattle.cap_ip.specs.Header.{HeaderFields, IsPiece, IsWellFormed}
use Rattle.cap_ip.specs.declared.headers.Fragment.{Fragment}
use Rattle.cap_ip.specs.declared.headers.Key.{Key}
use Rattle.cap_join.proofs.Grouping.{greatest_end-short, total_of-reached, IsShaped-piece_of}
use Rattle.cap_join.specs.ByteMap.{joined_data}
use Rattle.cap_join.specs.Fragments.{Piece, IsShapedFragment, AreShaped, piece_of}
use Rattle.cap_join.specs.History.{Event, OpenGroup, group_at, live_at, pieces_with, joined_pieces, open_groups_after}
use Rattle.cap_join.specs.Joiners.{Entry, JoinerState, JoinerStandsFor, AreEntriesOf, IsAnswer, open_limit}
use Rattle.cap_join.specs.declared.datagrams.Datagram.{Datagram}
use Rattle.cap_join.specs.declared.datagrams.Put.{Put}
use Rattle.cap_join.specs.declared.datagrams.Put.TheVariants as puts
use Rattle.cap_join.specs.declared.datagrams.Stamped.{Stamped}
use Rattle.cap_time.specs.declared.stamps.Stamp.{Stamp}

-- a header's fragment, with all of its data, is shaped
shaped_by : (o : Option Fragment) (header : HeaderFields) (bytes : List ℕ) (stamped : Stamped) → header.fragment ≡ o
    → IsSome o → IfSome o (IsPiece header.data_length) → length bytes ≡ header.data_length
    → IsShapedFragment (piece_of header bytes stamped)
shaped_by (Some f) header bytes stamped is some piece whole =
    IsShaped-piece_of header bytes stamped f is (subst (λ (n : ℕ). IsPiece n f) (sym whole) piece)
shaped_by None header bytes stamped is some piece whole = absurd (grind arith)

shaped_piece : (header : HeaderFields) (bytes : List ℕ) (stamped : Stamped) → IsWellFormed header
    → IsSome header.fragment → length bytes ≡ header.data_length → IsShapedFragment (piece_of header bytes stamped)
shaped_piece header bytes stamped form some whole =
    shaped_by header.fragment header bytes stamped refl some form.piece whole

-- the open groups' fragments are shaped
found_shaped : (key : Key) (now : Option Stamp) (es : List Entry) (os : List OpenGroup) → AreEntriesOf es os
    → IfSome (group_at key (live_at now os)) (λ o. AreShaped o.pieces)
found_shaped key now (e ∷ es) (o ∷ os) h = grind (arith, found_shaped key now es os h.1)
found_shaped key now es os h = grind arith

with_shaped : (p : Piece) (o : Option OpenGroup) → IsShapedFragment p → IfSome o (λ o. AreShaped o.pieces)
    → AreShaped (pieces_with p o)
with_shaped p o s h = grind arith

joined_shaped : (clock : Option Stamp) (p : Piece) (events : List Event) (joiner : JoinerState)
    → JoinerStandsFor joiner events → IsShapedFragment p
    → AreShaped (joined_pieces clock p (open_groups_after open_limit events))
unfolding joined_pieces
joined_shaped clock p events joiner stands s = grind (arith, with_shaped, found_shaped)

short_data : (ps : List Piece) → AreShaped ps → length (joined_data ps) ≤ 65515
unfolding joined_data
short_data ps shaped = grind (arith, length-map-range_with_len, total_of-reached, greatest_end-short)

-- so is a datagram that a joiner completes with a fragment short
pub joined-short : (header : HeaderFields) (bytes : List ℕ) (stamped : Stamped) (clock : Option Stamp)
    (events : List Event) (joiner : JoinerState) (put : Put) (d : Datagram)
    → IsWellFormed header → IsSome header.fragment → length bytes ≡ header.data_length → JoinerStandsFor joiner events
    → put ≡ puts.Joined d
    → IsAnswer put (joined_pieces clock (piece_of header bytes stamped) (open_groups_after open_limit events))
    → length d.payload.items ≤ 65515
joined-short header bytes stamped clock events joiner put d form some whole stands is h =
    let p = piece_of header bytes stamped in
    let shaped = joined_shaped clock p events joiner stands (shaped_piece header bytes stamped form some whole) in
    grind (arith, short_data, shaped)
