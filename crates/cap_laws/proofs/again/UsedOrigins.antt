-- The numbers of origins by their first use, in one list and in the lists of several groups.
use Rattle.std.proofs.Common.{◌≡◌, ℕ, zero, suc, ◌+◌, ◌<◌, ◌≤◌, Bool, true, false, cond, List, [], ◌∷◌, ◌++◌, refl, sym}
use Rattle.std.proofs.Common.{arith, inl, inr}
use Rattle.std.specs.Prelude.{◌==◌, ◌⊎◌}
use Rattle.std.specs.List.{list_any, position_or_len}
use Rattle.std.proofs.lemmas.Bool.{true≢false}
use Rattle.std.proofs.lemmas.Bool.Decides.{nat_tests}
use Rattle.cap_source.specs.Feed.{Item, packet, refused}
use Rattle.cap_source.specs.declared.packets.Meta.{Meta}
use Rattle.cap_write.specs.Numbering.{Origin, own, origin_of, is_origin, is_used, number_of}
use Rattle.cap_laws.proofs.again.Renaming.{IsOneToOne, origins_behind}

-- ---- origins

-- ---- numbers in a list

-- The origin's first place in the list.
abbrev pub IsNumberIn : List Origin → Origin → ℕ → Type 0
IsNumberIn [] a n = ⊥
IsNumberIn (b ∷ bs) a zero = is_origin a b ≡ true
IsNumberIn (b ∷ bs) a (suc n) = (is_origin a b ≡ false) × IsNumberIn bs a n

pub number-more : (xs ys : List Origin) (a : Origin) (n : ℕ) → IsNumberIn xs a n → IsNumberIn (xs ++ ys) a n
number-more (x ∷ xs) ys a (suc n) h = (h.0, number-more xs ys a n h.1)
number-more xs ys a n h = grind arith

-- origins with a number are equal if their numbers are
pub numbers-decide : (xs : List Origin) (a c : Origin) (m n : ℕ) → IsNumberIn xs a m → IsNumberIn xs c n
    → (m == n) ≡ is_origin a c
numbers-decide (x ∷ xs) a c (suc m) (suc n) h k = grind (arith, numbers-decide xs a c m n h.1 k.1, nat_tests)
numbers-decide xs a c m n h k = grind arith

-- ---- the origins after a list

-- the origins used before some items and in them
abbrev pub all_origins : List Origin → List Item → List Origin
all_origins origins [] = origins
all_origins origins (packet meta frame ∷ items) = all_origins (origins_behind origins meta) items
all_origins origins (refused refusal ∷ items) = all_origins origins items

kept_origin : (ns : List Origin) (m : Meta) (a : Origin) (n : ℕ) (b : Bool) → IsNumberIn ns a n
    → IsNumberIn (cond b ns (ns ++ (origin_of m ∷ []))) a n
kept_origin ns m a n b h = grind (arith, number-more)

pub number-kept : (ns : List Origin) (xs : List Item) (a : Origin) (n : ℕ) → IsNumberIn ns a n
    → IsNumberIn (all_origins ns xs) a n
number-kept ns [] a n h = h
number-kept ns (packet m f ∷ xs) a n h =
    number-kept (origins_behind ns m) xs a n (kept_origin ns m a n (is_used (own ns) m) h)
number-kept ns (refused r ∷ xs) a n h = number-kept ns xs a n h

-- an origin that stands in the list has the first place, and another the next one
found : (ns : List Origin) (a : Origin) → list_any (is_origin a) ns ≡ true
    → IsNumberIn ns a (position_or_len (is_origin a) ns)
found [] a e = absurd (true≢false (sym e))
found (n ∷ ns) a e = grind (arith, found ns a)

lacking : (ns : List Origin) (a : Origin) → list_any (is_origin a) ns ≡ false
    → IsNumberIn (ns ++ (a ∷ [])) a (position_or_len (is_origin a) ns)
lacking [] a e = grind (arith, nat_tests)
lacking (n ∷ ns) a e = grind (arith, lacking ns a)

-- a packet's interface has its number in the origins after the packet
pub number-given : (ns : List Origin) (m : Meta) → IsNumberIn (origins_behind ns m) (origin_of m) (number_of (own ns) m)
number-given ns m = by (is_used (own ns) m) refl
  where
    by : (b : Bool) → is_used (own ns) m ≡ b → IsNumberIn (cond b ns (ns ++ (origin_of m ∷ []))) (origin_of m)
        (number_of (own ns) m)
    by b e = grind (arith, found, lacking)

-- ---- groups

-- The origins of a group of that many files, by their numbers.
pub record GroupOrigins : Type 0 where
  pub count : ℕ
  pub origins : List Origin

-- Files from a number on are a group, which is the file of another number: an origin of one of them, and its number
-- there.
pub record IsOfGroup (file place : ℕ) (g : GroupOrigins) (a b : Origin) : Type 0 where
  pub from : file ≤ a.0
  pub below : a.0 < file + g.count
  pub group : b.0 ≡ place
  pub number : IsNumberIn g.origins a b.1

-- the same in one of some groups
abbrev pub IsOfGroups : ℕ → ℕ → List GroupOrigins → Origin → Origin → Type 0
IsOfGroups file place [] a b = ⊥
IsOfGroups file place (g ∷ gs) a b = IsOfGroup file place g a b ⊎ IsOfGroups (file + g.count) (suc place) gs a b

bounds : (file place : ℕ) (gs : List GroupOrigins) (a b : Origin) → IsOfGroups file place gs a b → (file ≤ a.0)
    × (place ≤ b.0)
bounds file place [] a b h = absurd h
bounds file place (g ∷ gs) a b (inl h) = (h.from, omega (arith, h.group))
bounds file place (g ∷ gs) a b (inr h) = grind (arith, bounds (file + g.count) (suc place) gs a b h)

-- Different origins have different numbers, or are of different groups.
pub groups-apart : (file place : ℕ) (gs : List GroupOrigins) → IsOneToOne (IsOfGroups file place gs)
groups-apart file place [] a b c d h k = absurd h
groups-apart file place (g ∷ gs) a b c d (inl h) (inl k) = grind (arith, nat_tests, numbers-decide)
groups-apart file place (g ∷ gs) a b c d (inl h) (inr k) = grind (arith, bounds, nat_tests)
groups-apart file place (g ∷ gs) a b c d (inr h) (inl k) = grind (arith, bounds, nat_tests)
groups-apart file place (g ∷ gs) a b c d (inr h) (inr k) = groups-apart (file + g.count) (suc place) gs a b c d h k
