-- Merging the files that merges of groups wrote gives the bytes of one merge.
use Rattle.std.proofs.Common.{◌≡◌, ℕ, ◌+◌, List, [], ◌∷◌, ◌++◌, refl, sym, ◌∙◌, ap, subst, arith, Option, Some, None}
use Rattle.std.proofs.Common.{false}
use Rattle.std.specs.List.{AllZip, AllByRecursion, flat_map}
use Rattle.std.specs.Prelude.{map, is_none, unwrap_or}
use Rattle.std.proofs.lemmas.List.{map-append}
use Rattle.cap_blocks.specs.Grammar.{section_bytes}
use Rattle.cap_bytes.specs.declared.faults.Tail.{Tail}
use Rattle.cap_merge.specs.Files.{items_of_files, run_of_lists, run_of_files}
use Rattle.cap_source.specs.Feed.{Item, packet}
use Rattle.cap_source.specs.Items.{file_items}
use Rattle.cap_write.specs.Numbering.{Origins, own, shared, numbered, refusal_in, with_origin}
use Rattle.cap_write.specs.Texts.{packets_bytes}
use Rattle.cap_laws.specs.again.Laws.{instances, numbers}
use Rattle.cap_laws.specs.again.Rounds.{FileRoundsLaw, MergeLaw, SharingLaw, IsItemOf, IsMergeOf, numbered_files}
use Rattle.cap_laws.specs.again.Rounds.{run_of_packets}
use Rattle.cap_laws.proofs.FileNumbers.{file-numbered}
use Rattle.cap_laws.proofs.Twins.{goes, refuses}
use Rattle.cap_laws.proofs.again.SharedGroups.{IsSharingOf, sharing_rounds}
use Rattle.cap_laws.specs.Rounds.{FileGroup, IsMerged, group_bytes, group_run, refused_by, RoundsInBytes}
use Rattle.cap_laws.specs.Rounds.{IsMergedSharing, sharing_group_bytes, sharing_refused_by, SharingRoundsInBytes}

-- the items of files of those bytes, each numbered as the first
abbrev items_each : Tail → List (List ℕ) → List (List Item)
items_each tail files = map (file_items tail 1) files

numbered-each : (tail : Tail) (file : ℕ) (files : List (List ℕ))
    → numbered_files file (items_each tail files) ≡ items_of_files tail file files
numbered-each tail file [] = refl
numbered-each tail file (bytes ∷ files) = grind (arith, numbered-each tail (file + 1) files, file-numbered)

run-each : (tail : Tail) (files : List (List ℕ)) → run_of_packets (items_each tail files) ≡ run_of_files tail files
unfolding run_of_packets run_of_files
run-each tail files = ap run_of_lists (numbered-each tail 1 files)

-- ---- a written file

timed : (units : Option ℕ) → is_none units ≡ false → units ≡ Some (unwrap_or units 0)
timed units e = grind arith

-- if each packet is written, and its instance is its number, the items are those of what is written
items-are : (origins : Origins) (items : List Item) → refusal_in origins items ≡ None
    → instances items ≡ numbers (numbered origins items)
    → AllZip IsItemOf (numbered origins items) items
unfolding numbered instances
items-are origins (packet meta frame ∷ items) none same =
    grind (arith, items-are (with_origin origins meta) items, goes, instances, numbers)
items-are origins items none same = grind (arith, refuses)

-- ---- groups

merges-of : MergeLaw → (tail tail_again : Tail) (groups : List FileGroup) → AllByRecursion (IsMerged tail) groups
    → AllZip IsMergeOf (map (λ group. items_each tail group.files) groups)
    (items_each tail_again (map (group_bytes tail) groups))
merges-of law tail tail_again [] are = tt
merges-of law tail tail_again (group ∷ groups) are =
    grind (arith, merges-of law tail tail_again groups are.1, run-each, items-are)

all-files : (tail : Tail) (groups : List FileGroup)
    → flat_map (λ files. files) (map (λ group. items_each tail group.files) groups)
    ≡ items_each tail (flat_map (λ group. group.files) groups)
all-files tail [] = refl
all-files tail (group ∷ groups) = search (all-files tail groups, map-append)

-- ---- the law

pub rounds-in-bytes : MergeLaw → FileRoundsLaw → RoundsInBytes
rounds-in-bytes merge-law rounds-law order tail tail_again groups are =
    let parts = map (λ group. items_each tail group.files) groups in
    let files = flat_map (λ group. group.files) groups in
    let texts = map (group_bytes tail) groups in
    let law = rounds-law parts (items_each tail_again texts) (merges-of merge-law tail tail_again groups are) in
    let whole : run_of_packets (flat_map (λ lists. lists) parts)
    ≡ run_of_files tail files = ap run_of_packets (all-files tail groups)
    ∙ run-each tail files in
    let rounds = run-each tail_again texts in
    let packets : numbered (own []) (run_of_files tail_again texts) ≡ numbered (own []) (run_of_files tail files) =
    sym (ap (numbered (own [])) rounds) ∙ (law.0 ∙ ap (numbered (own [])) whole) in (
      ap (λ ns. section_bytes order ++ packets_bytes order 0 ns) packets,
      sym (ap refused_by rounds) ∙ (law.1 ∙ ap refused_by whole),
    )

-- ---- shared interfaces

sharing-of : SharingLaw → (tail tail_again : Tail) (group : FileGroup) → IsMergedSharing tail group
    → IsSharingOf (items_each tail group.files) (file_items tail_again 1 (sharing_group_bytes tail group))
sharing-of law tail tail_again group is =
    let run = group_run tail group in
    let again = file_items tail_again 1 (sharing_group_bytes tail group) in
    let read = law group.order tail tail_again 1 group.files is.bytes is.size in
    let whole = run-each tail group.files in
    record {
      accepted = ap (refusal_in (shared [])) whole ∙ is.accepted;
      packets =
          subst (λ ns. AllZip IsItemOf ns again) (read.0 ∙ ap (numbered (shared [])) (sym whole))
          (items-are (own []) again read.1 read.3);
    }

sharings-of : SharingLaw → (tail tail_again : Tail) (groups : List FileGroup)
    → AllByRecursion (IsMergedSharing tail) groups
    → AllZip IsSharingOf (map (λ group. items_each tail group.files) groups)
    (items_each tail_again (map (sharing_group_bytes tail) groups))
sharings-of law tail tail_again [] are = tt
sharings-of law tail tail_again (group ∷ groups) are =
    (sharing-of law tail tail_again group are.0, sharings-of law tail tail_again groups are.1)

pub sharing_rounds-in-bytes : SharingLaw → SharingRoundsInBytes
sharing_rounds-in-bytes sharing-law order tail tail_again groups are =
    let parts = map (λ group. items_each tail group.files) groups in
    let files = flat_map (λ group. group.files) groups in
    let texts = map (sharing_group_bytes tail) groups in
    let law = sharing_rounds parts (items_each tail_again texts) (sharings-of sharing-law tail tail_again groups are) in
    let whole : run_of_packets (flat_map (λ lists. lists) parts)
    ≡ run_of_files tail files = ap run_of_packets (all-files tail groups)
    ∙ run-each tail files in
    let rounds = run-each tail_again texts in
    let packets : numbered (shared []) (run_of_files tail_again texts)
    ≡ numbered (shared []) (run_of_files tail files) =
    sym (ap (numbered (shared [])) rounds) ∙ (law.0 ∙ ap (numbered (shared [])) whole) in (
      ap (λ ns. section_bytes order ++ packets_bytes order 0 ns) packets,
      sym (ap sharing_refused_by rounds) ∙ (law.1 ∙ ap sharing_refused_by whole),
    )
