-- What is made of fragments whose frames have the same times, maybe in other forms.
use Rattle.std.proofs.Common.{arith, ◌≡◌, ℕ, zero, suc, ◌+◌, ◌*◌, Bool, false, List, [], ◌∷◌, length, refl, Option}
use Rattle.std.proofs.Common.{Some, None, ◌||◌, ◌&&◌}
use Rattle.std.specs.List.{AllZip, range_with_len}
use Rattle.std.specs.Option.{option_map_or}
use Rattle.std.specs.Prelude.{◌==◌, map, if◌then◌else◌}
use Rattle.cap_join.proofs.AlikeGroups.{AlikeGroups, IsAlikeEvent, IsAlikeness, alike-groups, before_same}
use Rattle.cap_join.specs.ByteMap.{is_covered, covers_below, total_of, joined_header, byte_at, block_count, completes}
use Rattle.cap_join.specs.ByteMap.{joined_data}
use Rattle.cap_join.specs.inner.EqualClocks.{IsSameClock}
use Rattle.cap_join.specs.Fragments.{Piece}
use Rattle.cap_join.specs.Frames.{pieces_original, timed, earlier_stamped, later_stamped, first_frame, last_frame}
use Rattle.cap_join.specs.History.{Event}
use Rattle.cap_join.specs.Holes.{is_within}
use Rattle.cap_join.specs.declared.datagrams.Stamped.{Stamped}
use Rattle.cap_class.specs.Classes.{has_place}

-- ---- frames

-- Two frames have the same place and length, and the same time, maybe in another form.
pub record IsLikeFrame (s t : Stamped) : Type 0 where
  pub time : IsSameClock s.time t.time
  pub place : s.place ≡ t.place
  pub original : s.original ≡ t.original

abbrev pub LikeFrames : Option Stamped → Option Stamped → Type 0
LikeFrames None None = Unit {0}
LikeFrames None (Some t) = ⊥
LikeFrames (Some s) None = ⊥
LikeFrames (Some s) (Some t) = IsLikeFrame s t

one-of : (s t x y : Stamped) → IsLikeFrame s t → IsLikeFrame x y → (b c : Bool) → b ≡ c
    → LikeFrames (if b then Some s else Some x) (if c then Some t else Some y)
one-of s t x y h k b c e = grind arith

earlier-like : (a b c d : Option Stamped) → LikeFrames a b → LikeFrames c d
    → LikeFrames (earlier_stamped a c) (earlier_stamped b d)
earlier-like a b c d h k = grind (arith, one-of, before_same)

later-like : (a b c d : Option Stamped) → LikeFrames a b → LikeFrames c d
    → LikeFrames (later_stamped a c) (later_stamped b d)
later-like a b c d h k = grind (arith, one-of, before_same)

-- ---- fragments

-- Two fragments are the same but for their frames.
pub record IsLike (p q : Piece) : Type 0 where
  pub header : p.header ≡ q.header
  pub start : p.start ≡ q.start
  pub more : p.more ≡ q.more
  pub bytes : p.bytes ≡ q.bytes
  pub stamped : IsLikeFrame p.stamped q.stamped

abbrev pub Like : List Piece → List Piece → Type 0
Like = AllZip IsLike

first-like : (ps qs : List Piece) → Like ps qs → LikeFrames (first_frame ps) (first_frame qs)
first-like (p ∷ ps) (q ∷ qs) h = grind (arith, first-like ps qs h.1, earlier-like, timed)
first-like ps qs h = grind arith

last-like : (ps qs : List Piece) → Like ps qs → LikeFrames (last_frame ps) (last_frame qs)
last-like (p ∷ ps) (q ∷ qs) h = grind (arith, last-like ps qs h.1, later-like, timed)
last-like ps qs h = grind arith

covered-like : (ps qs : List Piece) → Like ps qs → (k : ℕ) → is_covered ps k ≡ is_covered qs k
covered-like (p ∷ ps) (q ∷ qs) h k = λ i. is_within (h.0.start i) (h.0.start i + length (h.0.bytes i)) (8 * k)
    || covered-like ps qs h.1 k i
covered-like ps qs h k = grind arith

covers-like : (ps qs : List Piece) → Like ps qs → (n : ℕ) → covers_below ps n ≡ covers_below qs n
covers-like ps qs h zero = refl
covers-like ps qs h (suc n) = λ i. covered-like ps qs h n i && covers-like ps qs h n i

total-like : (ps qs : List Piece) → Like ps qs → total_of ps ≡ total_of qs
total-like (p ∷ ps) (q ∷ qs) h = λ i. if h.0.more i then total-like ps qs h.1 i else Some
    (h.0.start i + length (h.0.bytes i))
total-like ps qs h = grind arith

pub header-like : (ps qs : List Piece) → Like ps qs → joined_header ps ≡ joined_header qs
header-like (p ∷ ps) (q ∷ qs) h = λ i. if h.0.start i == 0 then Some (h.0.header i) else header-like ps qs h.1 i
header-like ps qs h = grind arith

byte-like : (ps qs : List Piece) → Like ps qs → (k : ℕ) → byte_at ps k ≡ byte_at qs k
byte-like (p ∷ ps) (q ∷ qs) h k = cc (byte-like ps qs h.1 k)
byte-like ps qs h k = grind arith

pub completes-like : (ps qs : List Piece) → Like ps qs → completes ps ≡ completes qs
unfolding completes
completes-like ps qs h = λ i. option_map_or (λ n. covers-like ps qs h (block_count n) i) (total-like ps qs h i) false

pub data-like : (ps qs : List Piece) → Like ps qs → joined_data ps ≡ joined_data qs
unfolding joined_data
data-like ps qs h = λ i. option_map_or (λ n. map (λ k. byte-like ps qs h k i) (range_with_len 0 n))
    (total-like ps qs h i) []

pub original-like : (ps qs : List Piece) → Like ps qs → pieces_original ps ≡ pieces_original qs
original-like (p ∷ ps) (q ∷ qs) h = λ i. original-like ps qs h.1 i + h.0.stamped.original i
original-like ps qs h = grind arith

pub place-like : (n m : ℕ) (ps qs : List Piece) → n ≡ m → Like ps qs → has_place n ps ≡ has_place m qs
place-like n m (p ∷ ps) (q ∷ qs) e h = λ i. (h.0.stamped.place i == e i) || place-like n m ps qs e h.1 i
place-like n m ps qs e h = grind arith

pub frames-like : (ps qs : List Piece) → Like ps qs → LikeFrames (first_frame ps) (first_frame qs)
    × LikeFrames (last_frame ps) (last_frame qs)
frames-like ps qs h = (first-like ps qs h, last-like ps qs h)

-- ---- groups

pub pieces-alike : IsAlikeness IsLike
pieces-alike = record { header = λ p q h. h.header; place = λ p q h. h.stamped.place; completes = completes-like }

abbrev pub LikeEvent : Event → Event → Type 0
LikeEvent = IsAlikeEvent IsLike

-- such fragments, at clocks of the same times, make such groups
pub events-groups : (limit : ℕ) (es fs : List Event) → AllZip LikeEvent es fs → AlikeGroups IsLike limit es fs
events-groups = alike-groups IsLike pieces-alike
