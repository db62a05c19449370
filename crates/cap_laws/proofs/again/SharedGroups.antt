-- Merging in rounds writes what merging at once writes, if equal interfaces are one in each.
use Rattle.std.proofs.Common.{◌≡◌, ℕ, suc, ◌+◌, List, [], ◌∷◌, length, Option, Some, None, refl, sym, ap, ◌∙◌, subst}
use Rattle.std.proofs.Common.{arith}
use Rattle.std.specs.Prelude.{map}
use Rattle.std.specs.List.{AllZip, flat_map}
use Rattle.std.specs.Option.{option_map}
use Rattle.indexmap.specs.IndexSet.{insert_key}
use Rattle.cap_bytes.specs.declared.faults.Rule.{Rule}
use Rattle.cap_source.specs.Feed.{Item, packet}
use Rattle.cap_source.specs.declared.packets.Meta.{Meta}
use Rattle.cap_write.specs.Numbering.{Origin, Origins, shared, numbered, numbered_of, numbered_or, refusal_in}
use Rattle.cap_write.specs.Numbering.{refusal_or, Description, description_of, is_description, with_origin, write_fault}
use Rattle.cap_merge.specs.Parts.{item_time}
use Rattle.cap_merge.proofs.Rounds as merged_rounds
use Rattle.cap_laws.specs.again.Rounds.{in_file, numbered_files, run_of_packets, IsItemOf}
use Rattle.cap_laws.proofs.again.Alike.{merge_of, merge-alike}
use Rattle.cap_laws.proofs.again.Grouped.{IsMoved, grouped, grouped_files, merge_moved, no_rule, numbered_through}
use Rattle.cap_laws.proofs.again.Grouped.{refusal_through, run_is, same_time, timed_by}
use Rattle.cap_laws.proofs.again.Renaming.{IsRenamed, Renamed}

-- ---- other origins

-- Other origins of equal interfaces change nothing.
module _ (R : Origin → Origin → Type 0) where
  fault-same : (descriptions : List Description) (m n : Meta) → IsRenamed R m n
      → write_fault (shared descriptions) n ≡ write_fault (shared descriptions) m
  unfolding write_fault
  fault-same descriptions m n r = grind arith

  numbered_of-same : (descriptions : List Description) (m n : Meta) (f g : List ℕ) → IsRenamed R m n → g ≡ f
      → numbered_of (shared descriptions) n g ≡ numbered_of (shared descriptions) m f
  numbered_of-same descriptions m n f g r e = grind arith

  origins-same : (descriptions : List Description) (m n : Meta) → IsRenamed R m n
      → with_origin (shared descriptions) n ≡ with_origin (shared descriptions) m
  origins-same descriptions m n r = grind arith

  -- the same packets are written
  pub numbered-same : (descriptions : List Description) (xs ys : List Item) → AllZip (Renamed R) xs ys
      → numbered (shared descriptions) ys ≡ numbered (shared descriptions) xs
  unfolding numbered
  numbered-same descriptions (packet m f ∷ xs) (packet n g ∷ ys) a =
      λ i. numbered_or (fault-same descriptions m n a.0.0 i) (numbered_of-same descriptions m n f g a.0.0 a.0.1 i)
      ((ap (λ origins. numbered origins ys) (origins-same descriptions m n a.0.0)
      ∙ numbered-same (insert_key is_description descriptions (description_of m.interface)) xs ys a.1) i)
  numbered-same descriptions xs ys a = grind arith

  -- and the same refusal comes after them
  pub refusal-same : (descriptions : List Description) (xs ys : List Item) → AllZip (Renamed R) xs ys
      → option_map (λ f. f.rule) (refusal_in (shared descriptions) ys)
      ≡ option_map (λ f. f.rule) (refusal_in (shared descriptions) xs)
  unfolding refusal_in
  refusal-same descriptions (packet m f ∷ xs) (packet n g ∷ ys) a =
      by (write_fault (shared descriptions) m) (fault-same descriptions m n a.0.0)
      (ap (λ origins. option_map (λ f. f.rule) (refusal_in origins ys)) (origins-same descriptions m n a.0.0)
      ∙ refusal-same (insert_key is_description descriptions (description_of m.interface)) xs ys a.1)
    where
      by : (fault : Option Rule) → write_fault (shared descriptions) n ≡ fault
          → option_map (λ f. f.rule) (refusal_in (with_origin (shared descriptions) n) ys)
          ≡ option_map (λ f. f.rule) (refusal_in (with_origin (shared descriptions) m) xs)
          → option_map (λ f. f.rule) (refusal_or (write_fault (shared descriptions) n) n
          (refusal_in (with_origin (shared descriptions) n) ys))
          ≡ option_map (λ f. f.rule) (refusal_or fault m (refusal_in (with_origin (shared descriptions) m) xs))
      by (Some rule) is later = rw is refl
      by None is later = rw is later
  refusal-same descriptions xs ys a = grind arith

-- ---- the run and the merged list

packets_are : (files : List (List Item)) → numbered (shared []) (run_of_packets files)
    ≡ numbered (shared []) (merge_of item_time (numbered_files 1 files))
packets_are files = ap (numbered (shared [])) (run_is files)
    ∙ numbered_through (shared []) (merge_of item_time (numbered_files 1 files))

refusal_is : (files : List (List Item)) → refusal_in (shared []) (run_of_packets files)
    ≡ refusal_in (shared []) (merge_of item_time (numbered_files 1 files))
refusal_is files = ap (refusal_in (shared [])) (run_is files)
    ∙ refusal_through (shared []) (merge_of item_time (numbered_files 1 files))

packets_moved : (m : ℕ) (files : List (List Item))
    → numbered (shared []) (merge_of item_time (numbered_files m files)) ≡ numbered (shared []) (run_of_packets files)
packets_moved m files =
    numbered-same (IsMoved 1 m) [] (merge_of item_time (numbered_files 1 files))
    (merge_of item_time (numbered_files m files)) (merge_moved m files)
    ∙ sym (packets_are files)

accepted_moved : (m : ℕ) (files : List (List Item)) → refusal_in (shared []) (run_of_packets files) ≡ None
    → refusal_in (shared []) (merge_of item_time (numbered_files m files)) ≡ None
accepted_moved m files e =
    no_rule (refusal_in (shared []) (merge_of item_time (numbered_files m files)))
    (refusal-same (IsMoved 1 m) [] (merge_of item_time (numbered_files 1 files))
    (merge_of item_time (numbered_files m files)) (merge_moved m files)
    ∙ ap (option_map (λ f. f.rule)) (sym (refusal_is files) ∙ e))

-- ---- groups

-- any origin for any other
abbrev Any : Origin → Origin → Type 0
Any a b = Unit {0}

-- A file holds what a merge of some files writes, if nothing is refused.
pub record IsSharingOf (files : List (List Item)) (items : List Item) : Type 0 where
  pub accepted : refusal_in (shared []) (run_of_packets files) ≡ None
  pub packets : AllZip IsItemOf (numbered (shared []) (run_of_packets files)) items

group_next : (place : ℕ) (origins : Origins) (m : Meta) (f : List ℕ) (xs ys : List Item) (fault : Option Rule)
    → write_fault origins m ≡ fault → refusal_or fault m (refusal_in (with_origin origins m) xs) ≡ None
    → AllZip IsItemOf (numbered_or fault (numbered_of origins m f) (numbered (with_origin origins m) xs)) ys
    → ((zs : List Item) → refusal_in (with_origin origins m) xs ≡ None
    → AllZip IsItemOf (numbered (with_origin origins m) xs) zs
    → AllZip (Renamed Any) xs (map (in_file place) zs))
    → AllZip (Renamed Any) (packet m f ∷ xs) (map (in_file place) ys)
group_next place origins m f xs ys (Some rule) w e z deeper = absurd (cc)
group_next place origins m f xs [] None w e z deeper = absurd z
group_next place origins m f xs (y ∷ ys) None w e z deeper = grind (arith, timed_by)

group_items : (place : ℕ) (origins : Origins) (xs ys : List Item) → refusal_in origins xs ≡ None
    → AllZip IsItemOf (numbered origins xs) ys
    → AllZip (Renamed Any) xs (map (in_file place) ys)
unfolding numbered refusal_in
group_items place origins (packet m f ∷ xs) ys e z =
    group_next place origins m f xs ys (write_fault origins m) refl e z
    (λ zs d w. group_items place (with_origin origins m) xs zs d w)
group_items place origins xs ys e z = grind arith

group_alike : (file place : ℕ) (files : List (List Item)) (items : List Item) → IsSharingOf files items
    → AllZip (Renamed Any) (merge_of item_time (numbered_files file files)) (map (in_file place) items)
group_alike file place files items h =
    group_items place (shared []) (merge_of item_time (numbered_files file files)) items
    (accepted_moved file files h.accepted)
    (subst (λ ns. AllZip IsItemOf ns items) (sym (packets_moved file files)) h.packets)

groups_alike : (file place : ℕ) (groups : List (List (List Item))) (files : List (List Item))
    → AllZip IsSharingOf groups files
    → AllZip (AllZip (Renamed Any)) (map (merge_of item_time) (grouped file groups)) (numbered_files place files)
unfolding grouped
groups_alike file place (g ∷ gs) (f ∷ fs) h =
    (group_alike file place g f h.0, groups_alike (file + length g) (suc place) gs fs h.1)
groups_alike file place gs fs h = grind arith

-- the merge of the groups' files, and that of all files, item by item
rounds_alike : (groups : List (List (List Item))) (files : List (List Item)) → AllZip IsSharingOf groups files
    → AllZip (Renamed Any) (merge_of item_time (numbered_files 1 (flat_map (λ g. g) groups)))
    (merge_of item_time (numbered_files 1 files))
rounds_alike groups files h =
    subst (λ (xs : List Item). AllZip (Renamed Any) xs (merge_of item_time (numbered_files 1 files)))
    (merged_rounds.rounds-law item_time (grouped 1 groups) ∙ ap (merge_of item_time) (grouped_files 1 groups))
    (merge-alike (Renamed Any) item_time (same_time Any) (map (merge_of item_time) (grouped 1 groups))
    (numbered_files 1 files) (groups_alike 1 1 groups files h))

-- Files are split, in their order, into neighbouring groups, and each group is merged. Then the merge of files that
-- hold what these merges write, in the groups' order, writes what the merge of all files writes.
pub sharing_rounds : (groups : List (List (List Item))) (files : List (List Item)) → AllZip IsSharingOf groups files
    → (numbered (shared []) (run_of_packets files)
    ≡ numbered (shared []) (run_of_packets (flat_map (λ group. group) groups)))
    × (option_map (λ refusal. refusal.rule) (refusal_in (shared []) (run_of_packets files))
    ≡ option_map (λ refusal. refusal.rule)
    (refusal_in (shared []) (run_of_packets (flat_map (λ group. group) groups))))
sharing_rounds groups files h =
    let all = flat_map (λ (g : List (List Item)). g) groups in
    let xs = merge_of item_time (numbered_files 1 all) in
    let ys = merge_of item_time (numbered_files 1 files) in
    let alike = rounds_alike groups files h in (
      packets_are files ∙ (numbered-same Any [] xs ys alike ∙ sym (packets_are all)),
      ap (option_map (λ f. f.rule)) (refusal_is files)
          ∙ (refusal-same Any [] xs ys alike ∙ ap (option_map (λ f. f.rule)) (sym (refusal_is all))),
    )
