-- Numbering by first use is the same under other origins, if equal origins stay equal and no others become so.
use Rattle.std.proofs.Common.{arith, ◌≡◌, ℕ, suc, ◌+◌, cond, List, [], ◌∷◌, ◌++◌, length, ap, is_none}
use Rattle.std.specs.Prelude.{◌||◌, not}
use Rattle.std.specs.List.{AllZip, list_any, position_or_len}
use Rattle.std.specs.Option.{option_map}
use Rattle.indexmap.specs.IndexSet.{insert_key}
use Rattle.cap_source.specs.Feed.{Item, packet, refused}
use Rattle.cap_source.specs.declared.packets.Meta.{Meta}
use Rattle.cap_write.specs.Numbering.{Origin, own, origin_of, is_origin, write_fault, numbered_of, numbered_or}
use Rattle.cap_write.specs.Numbering.{numbered, refusal_in}

-- the origins after a packet
abbrev pub origins_behind : List Origin → Meta → List Origin
origins_behind origins meta = insert_key is_origin origins (origin_of meta)

-- Equal origins on one side belong to equal origins on the other, and only these.
abbrev pub IsOneToOne : (Origin → Origin → Type 0) → Type 0
IsOneToOne R = (a b c d : Origin) → R a b → R c d → is_origin b d ≡ is_origin a c

-- what is known of a packet, under another origin of its interface
pub record IsRenamed (R : Origin → Origin → Type 0) (m n : Meta) : Type 0 where
  pub origin : R (origin_of m) (origin_of n)
  pub interface : n.interface ≡ m.interface
  pub units : n.units ≡ m.units
  pub captured : n.captured ≡ m.captured
  pub original : n.original ≡ m.original

abbrev pub Renamed : (Origin → Origin → Type 0) → Item → Item → Type 0
Renamed R (packet m f) (packet n g) = IsRenamed R m n × (g ≡ f)
Renamed R (packet m f) (refused s) = ⊥
Renamed R (refused r) (packet n g) = ⊥
Renamed R (refused r) (refused s) = s.rule ≡ r.rule

module _ (R : Origin → Origin → Type 0) (one : IsOneToOne R) where
  any-renamed : (ns ms : List Origin) (a b : Origin) → AllZip R ns ms → R a b
      → list_any (is_origin b) ms ≡ list_any (is_origin a) ns
  any-renamed (n ∷ ns) (m ∷ ms) a b h r = λ i. one a b n m r h.0 i || any-renamed ns ms a b h.1 r i
  any-renamed ns ms a b h r = grind arith

  position-renamed : (ns ms : List Origin) (a b : Origin) → AllZip R ns ms → R a b
      → position_or_len (is_origin b) ms ≡ position_or_len (is_origin a) ns
  position-renamed (n ∷ ns) (m ∷ ms) a b h r = λ i. cond (not (one a b n m r h.0 i))
      (1 + position-renamed ns ms a b h.1 r i) 0
  position-renamed ns ms a b h r = grind arith

  length-renamed : (ns ms : List Origin) → AllZip R ns ms → length ms ≡ length ns
  length-renamed (n ∷ ns) (m ∷ ms) h = ap suc (length-renamed ns ms h.1)
  length-renamed ns ms h = grind arith

  one-more : (ns ms : List Origin) (a b : Origin) → AllZip R ns ms → R a b → AllZip R (ns ++ (a ∷ [])) (ms ++ (b ∷ []))
  one-more (n ∷ ns) (m ∷ ms) a b h r = (h.0, one-more ns ms a b h.1 r)
  one-more ns ms a b h r = grind arith

  fault-renamed : (ns ms : List Origin) (m n : Meta) → AllZip R ns ms → IsRenamed R m n
      → write_fault (own ms) n ≡ write_fault (own ns) m
  unfolding write_fault
  fault-renamed ns ms m n h r = grind (arith, is_none, length-renamed, any-renamed)

  numbered_of-renamed : (ns ms : List Origin) (m n : Meta) (f g : List ℕ) → AllZip R ns ms → IsRenamed R m n → g ≡ f
      → numbered_of (own ms) n g ≡ numbered_of (own ns) m f
  numbered_of-renamed ns ms m n f g h r e = grind (arith, position-renamed)

  origins-renamed : (ns ms : List Origin) (m n : Meta) → AllZip R ns ms → IsRenamed R m n
      → AllZip R (origins_behind ns m) (origins_behind ms n)
  origins-renamed ns ms m n h r = grind (arith, one-more, any-renamed)

  -- the same packets are written
  pub numbered-renamed : (ns ms : List Origin) → AllZip R ns ms → (xs ys : List Item) → AllZip (Renamed R) xs ys
      → numbered (own ms) ys ≡ numbered (own ns) xs
  unfolding numbered
  numbered-renamed ns ms h (packet m f ∷ xs) (packet n g ∷ ys) a =
      λ i. numbered_or (fault-renamed ns ms m n h a.0.0 i) (numbered_of-renamed ns ms m n f g h a.0.0 a.0.1 i)
      (numbered-renamed (origins_behind ns m) (origins_behind ms n) (origins-renamed ns ms m n h a.0.0) xs ys a.1 i)
  numbered-renamed ns ms h xs ys a = grind arith

  -- and the same refusal comes after them
  pub refusal-renamed : (ns ms : List Origin) → AllZip R ns ms → (xs ys : List Item) → AllZip (Renamed R) xs ys
      → option_map (λ f. f.rule) (refusal_in (own ms) ys) ≡ option_map (λ f. f.rule) (refusal_in (own ns) xs)
  unfolding refusal_in
  refusal-renamed ns ms h (packet m f ∷ xs) (packet n g ∷ ys) a =
      grind (
        arith,
        refusal-renamed (origins_behind ns m) (origins_behind ms n) (origins-renamed ns ms m n h a.0.0) xs ys a.1,
        fault-renamed,
        origins-renamed,
      )
  refusal-renamed ns ms h xs ys a = grind arith
