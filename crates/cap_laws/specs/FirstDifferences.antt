-- What `diff` says of two captures, by places: how far both are the same, and what comes next.
use Rattle.std.specs.Prelude.{◌≡◌, ◌≢◌, ◌⊎◌, ℕ, ◌+◌, List, [], ◌∷◌, ◌++◌, length, Option, Some, None, IsTrue, ◌↔◌}
use Rattle.std.specs.Prelude.{take, ⊤}
use Rattle.std.specs.List.{AllZip, slice_get}
use Rattle.std.specs.declared.cmp.Ordering.TheVariants.{Equal}
use Rattle.cap_bytes.specs.declared.faults.Refusal.{Refusal}
use Rattle.cap_bytes.specs.declared.faults.Tail.{Tail}
use Rattle.cap_source.specs.Feed.{Item, packet, refused}
use Rattle.cap_source.specs.Items.{file_items}
use Rattle.cap_source.specs.Times.{meta_time}
use Rattle.cap_time.specs.Clock.{clock_cmp}
use Rattle.cap_commands.specs.DiffText.{Compared, Comparison, comparison_of, data_place, differences_of}
use Rattle.cap_commands.specs.DiffText.{nothing_ignored, other_packet, same_packets, stopped_by}
use Rattle.cap_commands.specs.declared.diff.Differences.{Differences}
use Rattle.cap_laws.specs.again.Laws.{IsSamePacket, SamePackets}

-- the next item is this packet; or there is none, and the capture ends
abbrev pub ComesNext : List Item → Option Compared → Type 0
ComesNext items (Some a) = (later : List Item) × (items ≡ packet a.meta a.frame ∷ later)
ComesNext items None = items ≡ []

-- the next item is that refusal
abbrev pub RefusedNext : List Item → Refusal → Type 0
RefusedNext items r = (later : List Item) × (items ≡ refused r ∷ later)

-- the next item is a packet, or there is none
abbrev pub ReadsOn : List Item → Type 0
ReadsOn [] = ⊤
ReadsOn (packet meta frame ∷ later) = ⊤
ReadsOn (refused r ∷ later) = ⊥

-- two packets aren't the same, or only one of the two captures has a packet
abbrev pub Differ : Option Compared → Option Compared → Type 0
Differ (Some a) (Some b) = IsSamePacket a.meta b.meta a.frame b.frame → ⊥
Differ (Some a) None = ⊤
Differ None (Some b) = ⊤
Differ None None = ⊥

-- What is said of two captures after n packets that are the same in both, by what comes next in each: both end; or the
-- next packets differ, of number n + 1; or the first capture is refused there, or the second is and the first isn't.
abbrev pub IsSaid : ℕ → List Item → List Item → Comparison → Type 0
IsSaid n rest others (same_packets count) = (rest ≡ []) × (others ≡ []) × (count ≡ n)
IsSaid n rest others (other_packet number a b) =
    (number ≡ n + 1) × ComesNext rest a × ComesNext others b × Differ a b
IsSaid n rest others (stopped_by r) = RefusedNext rest r ⊎ (ReadsOn rest × RefusedNext others r)

-- What is said of two captures: both begin with packets that are the same, one by one, and after these comes what is
-- said.
pub record IsComparison (first second : List Item) (said : Comparison) : Type 0 where
  pub front : List Item
  pub front_too : List Item
  pub rest : List Item
  pub others : List Item
  pub first_is : first ≡ front ++ rest
  pub second_is : second ≡ front_too ++ others
  pub same : AllZip SamePackets front front_too
  pub next : IsSaid (length front) rest others said

-- `diff` says exactly that: of two captures there is one comparison, and it is this.
abbrev pub FirstDifference : Type 0
FirstDifference =
    (tail : Tail) (first second : List ℕ) (said : Comparison)
    → (comparison_of nothing_ignored tail first second ≡ said)
    ↔ IsComparison (file_items tail 1 first) (file_items tail 2 second) said

-- A field is named exactly if the two packets differ in it.
pub record Names (a b : Compared) (it : Differences) : Type 0 where
  pub link : IsTrue it.link ↔ (a.meta.interface.link ≢ b.meta.interface.link)
  pub time : IsTrue it.time ↔ (clock_cmp (meta_time a.meta) (meta_time b.meta) ≢ Equal)
  pub captured : IsTrue it.captured ↔ (a.meta.captured ≢ b.meta.captured)
  pub original : IsTrue it.original ↔ (a.meta.original ≢ b.meta.original)
  pub bytes : IsTrue it.bytes ↔ (a.frame ≢ b.frame)

abbrev pub DifferencesNamed : Type 0
DifferencesNamed = (a b : Compared) → Names a b (differences_of a b)

-- Two lists of bytes differ first at a place, counted from 0: the bytes before it are the same in both, and the bytes
-- at it aren't, or only one of the lists has a byte there.
pub record DifferFirst (xs ys : List ℕ) (place : ℕ) : Type 0 where
  pub before : take place xs ≡ take place ys
  pub here : slice_get xs place ≢ slice_get ys place

-- The place that is printed of two packets is the one at which their captured bytes differ first; none is printed
-- exactly if these are the same.
pub record IsPlaced (a b : Compared) : Type 0 where
  pub some : (place : ℕ) → (data_place (Some a) (Some b) ≡ Some place) ↔ DifferFirst a.frame b.frame place
  pub none : (data_place (Some a) (Some b) ≡ None) ↔ (a.frame ≡ b.frame)

abbrev pub DifferencePlaced : Type 0
DifferencePlaced = (a b : Compared) → IsPlaced a b
