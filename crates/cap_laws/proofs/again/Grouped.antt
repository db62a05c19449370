-- Merging in rounds writes what merging at once writes.
use Rattle.std.proofs.Common.{rules, ◌≡◌, ℕ, suc, ◌+◌, ◌<◌, ◌≤◌, Bool, List, [], ◌∷◌, ◌++◌, length, refl, sym, ap, ◌∙◌}
use Rattle.std.proofs.Common.{subst, arith, inl, inr, Option, Some, None, is_none}
use Rattle.std.specs.Prelude.{map, ⊤, unwrap_or, if◌then◌else◌}
use Rattle.std.specs.List.{AllZip, AllByRecursion, flat_map}
use Rattle.std.specs.Option.{option_map}
use Rattle.std.proofs.lemmas.Bool.Decides.{nat_tests}
use Rattle.cap_bytes.specs.declared.faults.Refusal.{Refusal}
use Rattle.cap_bytes.specs.declared.faults.Rule.{Rule}
use Rattle.cap_bytes.specs.declared.faults.Rule.TheVariants.{NoTime, InterfaceLimit}
use Rattle.cap_source.specs.Feed.{Item, packet, refused}
use Rattle.cap_source.specs.declared.packets.Meta.{Meta}
use Rattle.cap_write.specs.Numbering.{Origin, Origins, own, Numbered, with_origin, is_full, write_fault, numbered_of}
use Rattle.cap_write.specs.Numbering.{numbered_or, numbered, refusal_or, refusal_in}
use Rattle.cap_merge.specs.Run.{Clocked, opened_track, merged, through_first}
use Rattle.cap_merge.specs.Parts.{item_time, is_refusal}
use Rattle.cap_merge.proofs.Rounds.{files_in}
use Rattle.cap_merge.proofs.Rounds as merged_rounds
use Rattle.cap_merge.proofs.RunLaws as run_laws
use Rattle.cap_laws.specs.again.Rounds.{in_file, numbered_files, run_of_packets, merged_packets, IsItemOf, IsMergeOf}
use Rattle.cap_laws.specs.again.Rounds.{FileRoundsLaw, RoundsLaw, file_of_packets, ClockLaw}
use Rattle.cap_laws.proofs.again.Renaming.{IsOneToOne, Renamed, numbered-renamed, origins_behind, refusal-renamed}
use Rattle.cap_laws.proofs.again.UsedOrigins.{all_origins, number-given, number-kept, GroupOrigins, IsOfGroup}
use Rattle.cap_laws.proofs.again.UsedOrigins.{IsOfGroups, groups-apart}
use Rattle.cap_laws.proofs.again.Alike.{merge_of, merge-alike, merge-all}

pub clock-law : ClockLaw
clock-law files before after x e = run_laws.clock-law item_time is_refusal files before after x e

-- ---- the run and the merged list

through_items : (xs : List (Clocked Item)) → map (λ x. x.item) (through_first (λ x. is_refusal x.item) xs)
    ≡ through_first is_refusal (map (λ x. x.item) xs)
through_items [] = refl
through_items (x ∷ xs) = grind (arith, through_items xs)

-- what comes after a refusal isn't written
pub numbered_through : (ns : Origins) (xs : List Item) → numbered ns (through_first is_refusal xs) ≡ numbered ns xs
unfolding numbered
numbered_through ns (packet m f ∷ xs) = ap (numbered_or (write_fault ns m) (numbered_of ns m f))
    (numbered_through (with_origin ns m) xs)
numbered_through ns xs = cc

pub refusal_through : (ns : Origins) (xs : List Item) → refusal_in ns (through_first is_refusal xs) ≡ refusal_in ns xs
unfolding refusal_in
refusal_through ns (packet m f ∷ xs) = ap (refusal_or (write_fault ns m) m) (refusal_through (with_origin ns m) xs)
refusal_through ns xs = cc

pub run_is : (files : List (List Item)) → run_of_packets files
    ≡ through_first is_refusal (merge_of item_time (numbered_files 1 files))
unfolding run_of_packets
run_is files = through_items (merged item_time (map opened_track (numbered_files 1 files)))

packets_are : (files : List (List Item)) → merged_packets files
    ≡ numbered (own []) (merge_of item_time (numbered_files 1 files))
packets_are files = ap (numbered (own [])) (run_is files)
    ∙ numbered_through (own []) (merge_of item_time (numbered_files 1 files))

refusal_is : (files : List (List Item)) → refusal_in (own []) (run_of_packets files)
    ≡ refusal_in (own []) (merge_of item_time (numbered_files 1 files))
refusal_is files = ap (refusal_in (own [])) (run_is files)
    ∙ refusal_through (own []) (merge_of item_time (numbered_files 1 files))

-- ---- other numbers of files

-- another origin of an interface leaves the time
pub same_time : (R : Origin → Origin → Type 0) (x y : Item) → Renamed R x y → item_time y ≡ item_time x
same_time R x y h = grind arith

-- The file's number is another, as far from the first.
pub record IsMoved (p q : ℕ) (a b : Origin) : Type 0 where
  pub file : b.0 + p ≡ a.0 + q
  pub instance : b.1 ≡ a.1

moved_apart : (p q : ℕ) → IsOneToOne (IsMoved p q)
moved_apart p q a b c d h k = grind (arith, nat_tests)

items_moved : (p q n m : ℕ) → m + p ≡ n + q → (xs : List Item)
    → AllZip (Renamed (IsMoved p q)) (map (in_file n) xs) (map (in_file m) xs)
items_moved p q n m e [] = tt
items_moved p q n m e (x ∷ xs) = grind (arith, items_moved p q n m e xs)

files_moved : (p q n m : ℕ) → m + p ≡ n + q → (files : List (List Item))
    → AllZip (AllZip (Renamed (IsMoved p q))) (numbered_files n files) (numbered_files m files)
files_moved p q n m e [] = tt
files_moved p q n m e (f ∷ fs) = (items_moved p q n m e f, files_moved p q (suc n) (suc m) (omega arith) fs)

pub merge_moved : (m : ℕ) (files : List (List Item))
    → AllZip (Renamed (IsMoved 1 m)) (merge_of item_time (numbered_files 1 files))
    (merge_of item_time (numbered_files m files))
merge_moved m files =
    merge-alike (Renamed (IsMoved 1 m)) item_time (same_time (IsMoved 1 m)) (numbered_files 1 files)
    (numbered_files m files) (files_moved 1 m 1 m (omega arith) files)

-- a merge writes the same from whatever number on the files are numbered
packets_moved : (m : ℕ) (files : List (List Item))
    → numbered (own []) (merge_of item_time (numbered_files m files)) ≡ merged_packets files
packets_moved m files =
    numbered-renamed (IsMoved 1 m) (moved_apart 1 m) [] [] tt (merge_of item_time (numbered_files 1 files))
    (merge_of item_time (numbered_files m files)) (merge_moved m files)
    ∙ sym (packets_are files)

pub no_rule : (o : Option Refusal) → option_map (λ f. f.rule) o ≡ None → o ≡ None
no_rule o e = grind arith

accepted_moved : (m : ℕ) (files : List (List Item)) → refusal_in (own []) (run_of_packets files) ≡ None
    → refusal_in (own []) (merge_of item_time (numbered_files m files)) ≡ None
accepted_moved m files e =
    no_rule (refusal_in (own []) (merge_of item_time (numbered_files m files)))
    (refusal-renamed (IsMoved 1 m) (moved_apart 1 m) [] [] tt (merge_of item_time (numbered_files 1 files))
    (merge_of item_time (numbered_files m files)) (merge_moved m files)
    ∙ ap (option_map (λ f. f.rule)) (sym (refusal_is files) ∙ e))

-- ---- one group

-- the item is of a file of those numbers
abbrev InFiles : ℕ → ℕ → Item → Type 0
InFiles first past (packet m f) = (first ≤ m.file) × (m.file < past)
InFiles first past (refused r) = ⊤

item_in : (n first past : ℕ) → first ≤ n → n < past → (x : Item) → InFiles first past (in_file n x)
item_in n first past l h x = grind arith

items_in : (n first past : ℕ) → first ≤ n → n < past → (xs : List Item)
    → AllByRecursion (InFiles first past) (map (in_file n) xs)
items_in n first past l h [] = tt
items_in n first past l h (x ∷ xs) = (item_in n first past l h x, items_in n first past l h xs)

all_in : (n first past : ℕ) (files : List (List Item)) → first ≤ n → n + length files ≤ past
    → AllByRecursion (AllByRecursion (InFiles first past)) (numbered_files n files)
all_in n first past [] l h = tt
all_in n first past (f ∷ fs) l h =
    (items_in n first past l (omega arith) f, all_in (suc n) first past fs (omega arith) (omega arith))

timed : (units : Option ℕ) (full : Bool)
    → (if is_none units then Some NoTime else if full then Some InterfaceLimit else None) ≡ None
    → Some (unwrap_or units 0) ≡ units
timed units full e = grind arith

pub timed_by : (ns : Origins) (m : Meta) → write_fault ns m ≡ None → Some (unwrap_or m.units 0) ≡ m.units
unfolding write_fault
timed_by ns m e = timed m.units (is_full ns m) e

group_next : (file place count : ℕ) (ns : List Origin) (m : Meta) (f : List ℕ) (xs ys : List Item) (fault : Option Rule)
    → write_fault (own ns) m ≡ fault → refusal_or fault m (refusal_in (with_origin (own ns) m) xs) ≡ None
    → AllZip IsItemOf (numbered_or fault (numbered_of (own ns) m f) (numbered (with_origin (own ns) m) xs)) ys
    → InFiles file (file + count) (packet m f)
    → ((zs : List Item) → refusal_in (with_origin (own ns) m) xs ≡ None
    → AllZip IsItemOf (numbered (with_origin (own ns) m) xs) zs
    → AllZip (Renamed (IsOfGroup file place (record { count = count; origins = all_origins (origins_behind ns m) xs })))
    xs
    (map (in_file place) zs))
    → AllZip (Renamed (IsOfGroup file place (record { count = count; origins = all_origins (origins_behind ns m) xs })))
    (packet m f ∷ xs) (map (in_file place) ys)
group_next file place count ns m f xs ys (Some rule) w e z h deeper = absurd (cc)
group_next file place count ns m f xs [] None w e z h deeper = absurd z
group_next file place count ns m f xs (y ∷ ys) None w e z h deeper =
    grind (arith, all_origins, number-kept, number-given, timed_by)

group_items : (file place count : ℕ) (ns : List Origin) (xs ys : List Item) → refusal_in (own ns) xs ≡ None
    → AllZip IsItemOf (numbered (own ns) xs) ys
    → AllByRecursion (InFiles file (file + count)) xs
    → AllZip (Renamed (IsOfGroup file place (record { count = count; origins = all_origins ns xs }))) xs
    (map (in_file place) ys)
unfolding numbered refusal_in
group_items file place count ns (packet m f ∷ xs) ys e z h =
    group_next file place count ns m f xs ys (write_fault (own ns) m) refl e z h.0
    (λ zs d w. group_items file place count (origins_behind ns m) xs zs d w h.1)
group_items file place count ns xs ys e z h = grind arith

origins_of : ℕ → List (List Item) → GroupOrigins
origins_of file files = record {
  count = length files;
  origins =
      all_origins [] (merge_of item_time (numbered_files file files));
}

group_alike : (file place : ℕ) (files : List (List Item)) (items : List Item) → IsMergeOf files items
    → AllZip (Renamed (IsOfGroup file place (origins_of file files))) (merge_of item_time (numbered_files file files))
    (map (in_file place) items)
unfolding origins_of
group_alike file place files items h =
    search (rules, group_items, merge_of, accepted_moved, packets_moved, merge-all, all_in)

-- ---- all groups

-- the files of the groups, numbered from that number on
unfoldable pub grouped : ℕ → List (List (List Item)) → List (List (List Item))
grouped file [] = []
grouped file (g ∷ gs) = numbered_files file g ∷ grouped (file + length g) gs

all_origins_of : ℕ → List (List (List Item)) → List GroupOrigins
all_origins_of file [] = []
all_origins_of file (g ∷ gs) = origins_of file g ∷ all_origins_of (file + length g) gs

numbered_both : (file : ℕ) (fs gs : List (List Item))
    → numbered_files file (fs ++ gs) ≡ numbered_files file fs ++ numbered_files (file + length fs) gs
numbered_both file [] gs = grind arith
numbered_both file (f ∷ fs) gs = grind (arith, numbered_both (suc file) fs gs)

pub grouped_files : (file : ℕ) (gs : List (List (List Item)))
    → files_in (grouped file gs) ≡ numbered_files file (flat_map (λ g. g) gs)
unfolding grouped
grouped_files file [] = refl
grouped_files file (g ∷ gs) = search (grouped_files (file + length g) gs, numbered_both)

zip_implied : (R S : Origin → Origin → Type 0) → ((a b : Origin) → R a b → S a b) → (xs ys : List Item)
    → AllZip (Renamed R) xs ys → AllZip (Renamed S) xs ys
zip_implied R S f (x ∷ xs) (y ∷ ys) h = grind (arith, zip_implied R S f xs ys h.1)
zip_implied R S f xs ys h = grind arith

zips_implied : (R S : Origin → Origin → Type 0) → ((a b : Origin) → R a b → S a b) → (fs gs : List (List Item))
    → AllZip (AllZip (Renamed R)) fs gs → AllZip (AllZip (Renamed S)) fs gs
zips_implied R S f (x ∷ xs) (y ∷ ys) h = (zip_implied R S f x y h.0, zips_implied R S f xs ys h.1)
zips_implied R S f xs ys h = grind arith

groups_alike : (file place : ℕ) (groups : List (List (List Item))) (files : List (List Item))
    → AllZip IsMergeOf groups files
    → AllZip (AllZip (Renamed (IsOfGroups file place (all_origins_of file groups))))
    (map (merge_of item_time) (grouped file groups)) (numbered_files place files)
unfolding grouped all_origins_of origins_of
groups_alike file place (g ∷ gs) (f ∷ fs) h = (
  zip_implied (IsOfGroup file place (origins_of file g)) (IsOfGroups file place (all_origins_of file (g ∷ gs)))
      (λ a b r. inl r)
      (merge_of item_time (numbered_files file g)) (map (in_file place) f) (group_alike file place g f h.0),
  zips_implied (IsOfGroups (file + length g) (suc place) (all_origins_of (file + length g) gs))
      (IsOfGroups file place (all_origins_of file (g ∷ gs))) (λ a b r. inr r)
      (map (merge_of item_time) (grouped (file + length g) gs)) (numbered_files (suc place) fs)
      (groups_alike (file + length g) (suc place) gs fs h.1),
)
groups_alike file place gs fs h = grind arith

-- the merge of the groups' files, and that of all files, item by item
rounds_alike : (groups : List (List (List Item))) (files : List (List Item)) → AllZip IsMergeOf groups files
    → AllZip (Renamed (IsOfGroups 1 1 (all_origins_of 1 groups)))
    (merge_of item_time (numbered_files 1 (flat_map (λ g. g) groups))) (merge_of item_time (numbered_files 1 files))
rounds_alike groups files h =
    let R = IsOfGroups 1 1 (all_origins_of 1 groups) in
    subst (λ (xs : List Item). AllZip (Renamed R) xs (merge_of item_time (numbered_files 1 files)))
    (merged_rounds.rounds-law item_time (grouped 1 groups) ∙ ap (merge_of item_time) (grouped_files 1 groups))
    (merge-alike (Renamed R) item_time (same_time R) (map (merge_of item_time) (grouped 1 groups))
    (numbered_files 1 files) (groups_alike 1 1 groups files h))

pub file_rounds-law : FileRoundsLaw
file_rounds-law groups files h =
    search (
      groups-apart 1 1 (all_origins_of 1 groups),
      rounds_alike groups files h,
      packets_are,
      numbered-renamed,
      all_origins_of,
      groups-apart,
      merge_of,
      rounds_alike,
      refusal_is,
      refusal-renamed,
    )

-- what a merge writes, as the items of a file, is what it writes
made : (ns : List Numbered) → AllZip IsItemOf ns (file_of_packets ns)
made [] = tt
made (n ∷ ns) = (
  record {
    instance = refl;
    interface = refl;
    units = refl;
    captured = refl;
    original = refl;
    frame = refl;
  },
  made ns,
)

all_made : (groups : List (List (List Item)))
    → AllByRecursion (λ g. refusal_in (own []) (run_of_packets g) ≡ None) groups
    → AllZip IsMergeOf groups (map (λ g. file_of_packets (merged_packets g)) groups)
all_made [] h = tt
all_made (g ∷ gs) h = (record { accepted = h.0; packets = made (merged_packets g) }, all_made gs h.1)

pub rounds-law : RoundsLaw
rounds-law groups h = file_rounds-law groups (map (λ g. file_of_packets (merged_packets g)) groups) (all_made groups h)
