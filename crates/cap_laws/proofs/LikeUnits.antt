-- Units and conversations of packets that have the same times, maybe in other forms.
use Rattle.std.proofs.Common.{arith, ◌≡◌, ℕ, ◌+◌, Bool, List, [], ◌∷◌, length, ap, not, Option, Some, None, Equal}
use Rattle.std.proofs.lemmas.List.Elements.{length_all_zip}
use Rattle.std.specs.List.{AllZip}
use Rattle.std.specs.Map.{lookup}
use Rattle.std.specs.Option.{option_map}
use Rattle.std.specs.Ordering.{is_lt, nat_cmp, ordering_then}
use Rattle.std.specs.Prelude.{filter, is_some, map, option_and_then, if◌then◌else◌}
use Rattle.cap_ip.specs.Header.{HeaderFields}
use Rattle.cap_ip.specs.Transport.{transport_of}
use Rattle.cap_join.specs.ByteMap.{joined_header, joined_data}
use Rattle.cap_join.proofs.AlikeGroups.{cmp_same}
use Rattle.cap_join.specs.Fragments.{Piece}
use Rattle.cap_join.specs.Frames.{pieces_original, first_frame, last_frame}
use Rattle.cap_join.specs.declared.datagrams.Stamped.{Stamped}
use Rattle.cap_time.specs.Clock.{clock_cmp}
use Rattle.cap_talks.specs.table.CountedUnits.{first_unit, group_unit, timed_frame, unit_of}
use Rattle.cap_talks.specs.table.Rows.{is_refused}
use Rattle.cap_talks.specs.table.Conversations.{Conversation, units_bytes, by_time, by_time_down, earlier_frame}
use Rattle.cap_talks.specs.table.Conversations.{frames_of}
use Rattle.cap_talks.specs.table.Conversations.{greatest_frame}
use Rattle.cap_talks.specs.table.Conversations.{talk_key, keys_of, later_frame, least_frame, place_or, row_of, rows_of}
use Rattle.cap_talks.specs.table.Conversations.{same_talk}
use Rattle.cap_talks.specs.table.Conversations.{units_of_talk}
use Rattle.cap_talks.specs.table.Units.{ends_of}
use Rattle.cap_talks.specs.declared.table.rows.TalkKey.{TalkKey}
use Rattle.cap_talks.specs.declared.table.units.Address.TheVariants.{Ipv4}
use Rattle.cap_talks.specs.declared.table.units.CountedUnit.{CountedUnit}
use Rattle.cap_talks.specs.declared.table.units.Endpoint.{Endpoint}
use Rattle.cap_talks.specs.declared.table.units.TimedFrame.{TimedFrame}
use Rattle.cap_laws.proofs.LikePieces.{Like, LikeFrames, data-like, frames-like, header-like, original-like}
use Rattle.cap_laws.specs.Forms.{IsSameTalk}

-- ---- frames

abbrev pub LikeTimed : Option TimedFrame → Option TimedFrame → Type 0
LikeTimed None None = Unit {0}
LikeTimed None (Some b) = ⊥
LikeTimed (Some a) None = ⊥
LikeTimed (Some a) (Some b) = (clock_cmp (Some a.time) (Some b.time) ≡ Equal) × (a.place ≡ b.place)

pub timed_frame-like : (a b : Option Stamped) → LikeFrames a b → LikeTimed (timed_frame a) (timed_frame b)
timed_frame-like a b h = grind arith

-- ---- units

-- Two units are the same but for the forms of their times.
pub record IsLikeUnit (u v : CountedUnit) : Type 0 where
  pub protocol : u.protocol ≡ v.protocol
  pub source : u.source ≡ v.source
  pub destination : u.destination ≡ v.destination
  pub frames : u.frames ≡ v.frames
  pub bytes : u.bytes ≡ v.bytes
  pub first : LikeTimed u.first v.first
  pub last : LikeTimed u.last v.last

abbrev pub LikeUnit : Option CountedUnit → Option CountedUnit → Type 0
LikeUnit None None = Unit {0}
LikeUnit None (Some v) = ⊥
LikeUnit (Some u) None = ⊥
LikeUnit (Some u) (Some v) = IsLikeUnit u v

pub between : (ends : Option (Endpoint × Endpoint)) (protocol frames frames_again bytes bytes_again : ℕ)
    (first first_again last last_again : Option TimedFrame)
    → frames ≡ frames_again → bytes ≡ bytes_again → LikeTimed first first_again → LikeTimed last last_again
    → LikeUnit (option_map (unit_of protocol frames bytes first last) ends)
    (option_map (unit_of protocol frames_again bytes_again first_again last_again) ends)
between ends protocol frames frames_again bytes bytes_again first first_again last last_again e f g h = grind arith

-- the unit of a group of fragments, of which the data and the header are known
abbrev unit_with : List Piece → List ℕ → Option HeaderFields → Option CountedUnit
unit_with pieces bytes header =
    option_and_then (λ h. option_map (unit_of h.key.protocol (length pieces) (pieces_original pieces)
    (timed_frame (first_frame pieces)) (timed_frame (last_frame pieces)))
    (ends_of (Ipv4 h.key.source) (Ipv4 h.key.destination) (transport_of h.key.protocol bytes (length bytes)))) header

with-like : (ps qs : List Piece) (bytes : List ℕ) (header : Option HeaderFields) → Like ps qs
    → LikeUnit (unit_with ps bytes header) (unit_with qs bytes header)
with-like ps qs bytes header h = grind (arith, between, length_all_zip, original-like, timed_frame-like, frames-like)

pub group-like : (ps qs : List Piece) → Like ps qs → LikeUnit (group_unit ps) (group_unit qs)
unfolding group_unit
group-like ps qs h = grind (
  arith,
  data-like,
  header-like,
  with-like,
  with-like ps qs (joined_data ps) (joined_header ps) h,
)

pub first_unit-like : (gs ks : List (List Piece)) → AllZip Like gs ks → LikeUnit (first_unit gs) (first_unit ks)
first_unit-like gs ks h = grind (arith, group-like)

-- ---- conversations

abbrev pub LikeUnits : List CountedUnit → List CountedUnit → Type 0
LikeUnits = AllZip IsLikeUnit

pub key-like : (u v : CountedUnit) → IsLikeUnit u v → talk_key u ≡ talk_key v
key-like u v h = cc

filtered : (s : CountedUnit → Bool) → ((u v : CountedUnit) → IsLikeUnit u v → s u ≡ s v) → (us vs : List CountedUnit)
    → LikeUnits us vs → LikeUnits (filter s us) (filter s vs)
filtered s same (u ∷ us) (v ∷ vs) h = grind (arith, filtered s same us vs h.1)
filtered s same us vs h = grind arith

keys-like : (us vs : List CountedUnit) → LikeUnits us vs → keys_of us ≡ keys_of vs
keys-like (u ∷ us) (v ∷ vs) h = λ i. key-like u v h.0 i
    ∷ filter (λ key. not (same_talk (key-like u v h.0 i) key)) (keys-like us vs h.1 i)
keys-like us vs h = grind arith

bytes-like : (us vs : List CountedUnit) → LikeUnits us vs → units_bytes us ≡ units_bytes vs
bytes-like (u ∷ us) (v ∷ vs) h = λ i. h.0.bytes i + bytes-like us vs h.1 i
bytes-like us vs h = grind arith

counts-like : (us vs : List CountedUnit) → LikeUnits us vs → frames_of us ≡ frames_of vs
counts-like (u ∷ us) (v ∷ vs) h = λ i. h.0.frames i + counts-like us vs h.1 i
counts-like us vs h = grind arith

one-of : (s t x y : TimedFrame) → LikeTimed (Some s) (Some t) → LikeTimed (Some x) (Some y) → (b c : Bool) → b ≡ c
    → LikeTimed (if b then Some s else Some x) (if c then Some t else Some y)
one-of s t x y h k b c e = grind arith

earlier-like : (a b c d : Option TimedFrame) → LikeTimed a b → LikeTimed c d
    → LikeTimed (earlier_frame a c) (earlier_frame b d)
earlier-like (Some x) (Some y) (Some s) (Some t) h k =
    one-of s t x y k h (is_lt (by_time s x)) (is_lt (by_time t y))
    (λ i. is_lt (ordering_then (cmp_same (Some s.time) (Some t.time) (Some x.time) (Some y.time) k.0 h.0 i)
    (nat_cmp (k.1 i) (h.1 i))))
earlier-like a b c d h k = grind arith

later-like : (a b c d : Option TimedFrame) → LikeTimed a b → LikeTimed c d
    → LikeTimed (later_frame a c) (later_frame b d)
later-like (Some x) (Some y) (Some s) (Some t) h k =
    one-of s t x y k h (is_lt (by_time_down s x)) (is_lt (by_time_down t y))
    (λ i. is_lt (ordering_then (cmp_same (Some x.time) (Some y.time) (Some s.time) (Some t.time) h.0 k.0 i)
    (nat_cmp (k.1 i) (h.1 i))))
later-like a b c d h k = grind arith

least-like : (us vs : List CountedUnit) → LikeUnits us vs → LikeTimed (least_frame us) (least_frame vs)
least-like (u ∷ us) (v ∷ vs) h = earlier-like u.first v.first (least_frame us) (least_frame vs) h.0.first
    (least-like us vs h.1)
least-like us vs h = grind arith

greatest-like : (us vs : List CountedUnit) → LikeUnits us vs → LikeTimed (greatest_frame us) (greatest_frame vs)
greatest-like (u ∷ us) (v ∷ vs) h = later-like u.last v.last (greatest_frame us) (greatest_frame vs) h.0.last
    (greatest-like us vs h.1)
greatest-like us vs h = grind arith

place-like : (a b : Option TimedFrame) → LikeTimed a b → place_or a 0 ≡ place_or b 0
place-like a b h = grind arith

row-like : (key : TalkKey) (us vs : List CountedUnit) → LikeUnits us vs → IsSameTalk (key, row_of us) (key, row_of vs)
row-like key us vs h = grind (arith, filtered, not, least-like, greatest-like, counts-like, bytes-like, place-like)

rows-at : (keys : List TalkKey) (us vs : List CountedUnit) → LikeUnits us vs
    → AllZip IsSameTalk (map (λ key. (key, row_of (units_of_talk key us))) keys)
    (map (λ key. (key, row_of (units_of_talk key vs))) keys)
rows-at [] us vs h = tt
rows-at (key ∷ keys) us vs h = (
  row-like key (units_of_talk key us) (units_of_talk key vs)
      (filtered (λ u. same_talk key (talk_key u)) (λ u v k. ap (λ (x : TalkKey). same_talk key x)
      (key-like u v k)) us vs h),
  rows-at keys us vs h,
)

pub rows-like : (us vs : List CountedUnit) → LikeUnits us vs → AllZip IsSameTalk (rows_of us) (rows_of vs)
unfolding rows_of
rows-like us vs h = grind (arith, keys-like, rows-at)

found-like : (key : TalkKey) (xs ys : List Conversation) → AllZip IsSameTalk xs ys
    → is_some (lookup (same_talk key) xs) ≡ is_some (lookup (same_talk key) ys)
found-like key (x ∷ xs) (y ∷ ys) h = grind (arith, found-like key xs ys h.1)
found-like key xs ys h = grind arith

pub refused-like : (limit : ℕ) (key other : TalkKey) (xs ys : List Conversation) → key ≡ other → AllZip IsSameTalk xs ys
    → is_refused limit xs key ≡ is_refused limit ys other
refused-like limit key other xs ys e h = grind (arith, found-like, length_all_zip)
