-- A merged file, read again.
use Rattle.std.proofs.Common.{◌≡◌, ◌==◌, ◌&&◌, ℕ, ◌≤◌, ◌<◌, map, nat_le, not, slice_get, List, [], ◌∷◌, ◌++◌, length}
use Rattle.std.proofs.Common.{Bool, if◌then◌else◌}
use Rattle.std.proofs.Common.{true, false, Option, Some, None, is_none, refl, sym, ap, ◌∙◌, subst, arith, length-append}
use Rattle.std.specs.Prelude.{unwrap_or}
use Rattle.std.proofs.lemmas.Bool.{eq-eqb, eqb-true, ne_eqb, false≢true}
use Rattle.std.proofs.lemmas.Bool.Decides.{Decides-int_eq, nat_tests}
use Rattle.std.proofs.lemmas.List.{length-map, map-append}
use Rattle.std.specs.List.{list_any, position_or_len}
use Rattle.std.specs.Ordering.{int_eq}
use Rattle.cap_bytes.specs.declared.faults.Rule.{Rule}
use Rattle.cap_source.specs.Feed.{Item, packet}
use Rattle.cap_source.specs.declared.packets.Meta.{Meta}
use Rattle.cap_source.proofs.Resolutions.{from_code_is}
use Rattle.cap_source.specs.TimeBases.{microseconds, resolution_of}
use Rattle.cap_time.specs.Resolution.{code_of}
use Rattle.cap_time.specs.declared.resolutions.Interface.{Interface}
use Rattle.cap_time.specs.declared.resolutions.Resolution.{Resolution}
use Rattle.cap_write.proofs.Places.{position_or_len-none, position_or_len-some}
use Rattle.cap_write.specs.Numbering.{Origin, Origins, own, shared, origin_of, is_origin, description_of}
use Rattle.cap_write.specs.Numbering.{is_description}
use Rattle.cap_write.specs.Numbering.{count_of, is_used, number_of, with_origin, is_full, write_fault, numbered_of}
use Rattle.cap_write.specs.Numbering.{Description, numbered_or, numbered}
use Rattle.cap_laws.specs.again.Laws.{AllFit, AllHave, AreNumbered, described_after, all_described}

both : (x y : Bool) → (x && y) ≡ true → (x ≡ true) × (y ≡ true)
both x y h = grind arith

-- the interface that says that, if one does
pub interface_from : Description → Interface
interface_from d =
    record {
      offset = d.offset;
      snaplen = d.snaplen;
      link = d.link;
      resolution = unwrap_or (resolution_of d.resolution) microseconds;
    }

resolution_of-code : (r : Resolution) → resolution_of (code_of r) ≡ Some r
resolution_of-code r = sym (from_code_is (code_of r) (Some r) ((λ i. r.allowed), (λ a. refl)) refl)

pub interface_from-is : (i : Interface) → interface_from (description_of i) ≡ i
unfolding interface_from
interface_from-is i = ap (λ r. record i { resolution = unwrap_or r microseconds }) (resolution_of-code i.resolution)

-- the interfaces of some origins, or of some descriptions
abbrev pub given_all : (Origin → Interface) → Origins → List Interface
given_all given (own origins) = map given origins
given_all given (shared descriptions) = map interface_from descriptions

-- the interfaces of some keys, which tell them apart, and one more
module _ {K : Type 0} (same : K → K → Bool) (given : K → Interface)
    (equal : (a b : K) → same a b ≡ true → given b ≡ given a) where
  -- what was used stands at its place
  at_place : (a : K) (keys : List K) → list_any (same a) keys ≡ true
      → slice_get (map given keys) (position_or_len (same a) keys) ≡ Some (given a)
  at_place a [] h = absurd (false≢true h)
  at_place a (b ∷ keys) h = grind (arith, at_place a keys, equal)

  -- and what wasn't comes after the others
  next_place : (a : K) (keys : List K) → list_any (same a) keys ≡ false
      → (position_or_len (same a) keys == length (map given keys)) ≡ true
  next_place a keys unused = eq-eqb (position_or_len (same a) keys) (length (map given keys))
      (position_or_len-none (same a) keys unused ∙ sym (length-map keys given))

  described_key : (a : K) (keys : List K) (i : Interface) → i ≡ given a → (used : Bool)
      → list_any (same a) keys ≡ used
      → (if position_or_len (same a) keys == length (map given keys) then map given keys ++ i ∷ [] else map given keys)
      ≡ map given (if used then keys else keys ++ a ∷ [])
  described_key a keys i is true used =
      ap (λ b. if b then map given keys ++ i ∷ [] else map given keys)
      (ne_eqb (position_or_len (same a) keys) (length (map given keys))
      (λ e. absurd (omega (arith, position_or_len-some (same a) keys used, e, length-map keys given))))
  described_key a keys i is false unused =
      ap (λ b. if b then map given keys ++ i ∷ [] else map given keys) (next_place a keys unused)
      ∙ (ap (λ j. map given keys ++ j ∷ []) is ∙ sym (map-append given keys (a ∷ [])))

  known_key : (a : K) (keys : List K) (i : Interface) → i ≡ given a → (used : Bool)
      → list_any (same a) keys ≡ used
      → (position_or_len (same a) keys == length (map given keys)) ≡ false
      → slice_get (map given keys) (position_or_len (same a) keys) ≡ Some i
  known_key a keys i is true used other = at_place a keys used ∙ ap Some (sym is)
  known_key a keys i is false unused other = absurd (false≢true (sym other ∙ next_place a keys unused))

length-given : (given : Origin → Interface) (origins : Origins) → length (given_all given origins) ≡ count_of origins
length-given given (own origins) = length-map origins given
length-given given (shared descriptions) = length-map descriptions interface_from

same_origin : (given : Origin → Interface) (a b : Origin) → is_origin a b ≡ true → given b ≡ given a
same_origin given a b is = grind (arith, nat_tests)

same_description : (a b : Description) → is_description a b ≡ true → interface_from b ≡ interface_from a
same_description a b is =
    let offset = both (int_eq a.offset b.offset)
    ((a.snaplen == b.snaplen) && ((a.link == b.link) && (a.resolution == b.resolution))) is in
    let snaplen = both (a.snaplen == b.snaplen) ((a.link == b.link) && (a.resolution == b.resolution)) offset.1 in
    let link = both (a.link == b.link) (a.resolution == b.resolution) snaplen.1 in
    sym (λ i. interface_from (record {
      offset = (Decides-int_eq a.offset b.offset).0 offset.0 i;
      snaplen = eqb-true a.snaplen b.snaplen snaplen.0 i;
      link = eqb-true a.link b.link link.0 i;
      resolution = eqb-true a.resolution b.resolution link.1 i;
    }))

pub number-next : (origins : Origins) (meta : Meta) → is_used origins meta ≡ false
    → (number_of origins meta == count_of origins) ≡ true
number-next (own origins) meta used =
    eq-eqb _ _ (position_or_len-none (is_origin (origin_of meta)) origins used)
number-next (shared descriptions) meta used =
    eq-eqb _ _ (position_or_len-none (is_description (description_of meta.interface)) descriptions used)

described-given : (given : Origin → Interface) (origins : Origins) (meta : Meta) (frame : List ℕ)
    → meta.interface ≡ given (origin_of meta)
    → described_after (given_all given origins) (numbered_of origins meta frame)
    ≡ given_all given (with_origin origins meta)
described-given given (own origins) meta frame interface =
    described_key is_origin given (same_origin given) (origin_of meta) origins meta.interface interface
    (list_any (is_origin (origin_of meta)) origins) refl
described-given given (shared descriptions) meta frame interface =
    let key = description_of meta.interface in
    described_key is_description interface_from same_description key descriptions meta.interface
    (sym (interface_from-is meta.interface)) (list_any (is_description key) descriptions) refl

known-given : (given : Origin → Interface) (origins : Origins) (meta : Meta)
    → meta.interface ≡ given (origin_of meta)
    → (number_of origins meta == length (given_all given origins)) ≡ false
    → slice_get (given_all given origins) (number_of origins meta) ≡ Some meta.interface
known-given given (own origins) meta interface other =
    known_key is_origin given (same_origin given) (origin_of meta) origins meta.interface interface
    (list_any (is_origin (origin_of meta)) origins) refl other
known-given given (shared descriptions) meta interface other =
    let key = description_of meta.interface in
    known_key is_description interface_from same_description key descriptions meta.interface
    (sym (interface_from-is meta.interface)) (list_any (is_description key) descriptions) refl other

-- packets are numbered after the interfaces of the origins that were used
pub IsNumbered-given : (given : Origin → Interface) (origins : Origins) (items : List Item) → AllHave given items
    → AreNumbered (given_all given origins) (numbered origins items)
unfolding numbered
IsNumbered-given given origins (packet meta frame ∷ items) have =
    by (write_fault origins meta) (IsNumbered-given given (with_origin origins meta) items have.1)
  where
    by : (fault : Option Rule) → AreNumbered (given_all given (with_origin origins meta))
        (numbered (with_origin origins meta) items)
        → AreNumbered (given_all given origins) (numbered_or fault (numbered_of origins meta frame)
        (numbered (with_origin origins meta) items))
    by (Some rule) later = tt
    by None later = search (known-given, described-given)
IsNumbered-given given origins items have = cc

-- their fields fit
pub AllFit-given : (given : Origin → Interface) (origins : Origins) (items : List Item) → AllHave given items
    → AllFit (numbered origins items)
unfolding numbered
AllFit-given given origins (packet meta frame ∷ items) have =
    grind (arith, AllFit-given given (with_origin origins meta) items have.1)
AllFit-given given origins items have = cc

not_full : (origins : Origins) (meta : Meta) → write_fault origins meta ≡ None → is_full origins meta ≡ false
unfolding write_fault
not_full origins meta is = grind (arith, is_none)

room_by : (count : ℕ) (full : Bool) → nat_le 1024 count ≡ full → (full && true) ≡ false → count < 1024
room_by count full is h = grind arith

pub room_left : (origins : Origins) (meta : Meta) → write_fault origins meta ≡ None → is_used origins meta ≡ false
    → count_of origins < 1024
room_left origins meta none used =
    grind (
      arith,
      room_by,
      not,
      not_full,
      ap (λ u. nat_le 1024 (count_of origins) && not u) (sym used)
          ∙ not_full origins meta none,
    )

with_origin-room : (origins : Origins) (meta : Meta) → write_fault origins meta ≡ None → count_of origins ≤ 1024
    → count_of (with_origin origins meta) ≤ 1024
with_origin-room origins meta none few = grind (arith, room_left, length-append)

-- at most 1,024 interfaces are described
pub all_described-given : (given : Origin → Interface) (origins : Origins) (items : List Item) → AllHave given items
    → count_of origins ≤ 1024
    → length (all_described (given_all given origins) (numbered origins items)) ≤ 1024
unfolding numbered
all_described-given given origins (packet meta frame ∷ items) have few =
    by (write_fault origins meta) refl (λ more. all_described-given given (with_origin origins meta) items have.1 more)
  where
    by : (fault : Option Rule) → write_fault origins meta ≡ fault
        → (count_of (with_origin origins meta) ≤ 1024 → length
        (all_described (given_all given (with_origin origins meta)) (numbered (with_origin origins meta) items)) ≤ 1024)
        → length (all_described (given_all given origins)
        (numbered_or fault (numbered_of origins meta frame) (numbered (with_origin origins meta) items))) ≤ 1024
    by (Some rule) is later = omega (arith, few, length-given given origins)
    by None is later =
        subst (λ l. length (all_described l (numbered (with_origin origins meta) items)) ≤ 1024)
        (sym (described-given given origins meta frame have.0.interface))
        (later (with_origin-room origins meta is few))
all_described-given given origins items have few = grind (arith, length-given)
