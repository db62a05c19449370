-- Merging in rounds gives the bytes of merging at once.
use Rattle.std.specs.Prelude.{◌≡◌, ℕ, ◌≤◌, ◌^◌, List, length, map, Option, None, option_map}
use Rattle.std.specs.List.{AllByRecursion, flat_map}
use Rattle.cap_blocks.specs.Split.{AreBytes}
use Rattle.cap_bytes.specs.declared.faults.Rule.{Rule}
use Rattle.cap_bytes.specs.declared.faults.Tail.{Tail}
use Rattle.cap_bytes.specs.declared.numbers.Order.{Order}
use Rattle.cap_merge.specs.Files.{run_of_files}
use Rattle.cap_source.specs.Feed.{Item}
use Rattle.cap_write.specs.Texts.{merged_bytes, merged_refusal, sharing_bytes, sharing_refusal}

-- Some files, by their bytes, that are merged, and the byte order that is asked for.
pub record FileGroup : Type 0 where
  pub order : Order
  pub files : List (List ℕ)

-- the packets of its run, and the file that its merge writes
abbrev pub group_run : Tail → FileGroup → List Item
group_run tail group = run_of_files tail group.files

abbrev pub group_bytes : Tail → FileGroup → List ℕ
group_bytes tail group = merged_bytes group.order (group_run tail group)

-- Its merge refuses nothing, and writes at most 2^40 bytes.
pub record IsMerged (tail : Tail) (group : FileGroup) : Type 0 where
  pub bytes : AllByRecursion AreBytes group.files
  pub accepted : merged_refusal (group_run tail group) ≡ None
  pub size : length (group_bytes tail group) ≤ 2 ^ 40

-- the rule by which a merge of those packets is refused, if it is
abbrev pub refused_by : List Item → Option Rule
refused_by items = option_map (λ refusal. refusal.rule) (merged_refusal items)

-- Files are split, in their order, into neighbouring groups, and each group is merged, in its own byte order. Then the
-- merge of the written files writes, byte for byte, what the merge of all files writes, and is refused if that is, by
-- the same rule.
abbrev pub RoundsInBytes : Type 0
RoundsInBytes =
    (order : Order) (tail tail_again : Tail) (groups : List FileGroup) → AllByRecursion (IsMerged tail) groups
    → (let at_once = run_of_files tail (flat_map (λ group. group.files) groups) in
    let in_rounds = run_of_files tail_again (map (group_bytes tail) groups) in
    (merged_bytes order in_rounds ≡ merged_bytes order at_once)
    × (refused_by in_rounds ≡ refused_by at_once))

-- ---- shared interfaces

-- the file that the merge of a group writes in which equal interfaces are one
abbrev pub sharing_group_bytes : Tail → FileGroup → List ℕ
sharing_group_bytes tail group = sharing_bytes group.order (group_run tail group)

-- That merge refuses nothing, and writes at most 2^40 bytes.
pub record IsMergedSharing (tail : Tail) (group : FileGroup) : Type 0 where
  pub bytes : AllByRecursion AreBytes group.files
  pub accepted : sharing_refusal (group_run tail group) ≡ None
  pub size : length (sharing_group_bytes tail group) ≤ 2 ^ 40

-- the rule by which such a merge of those packets is refused, if it is
abbrev pub sharing_refused_by : List Item → Option Rule
sharing_refused_by items = option_map (λ refusal. refusal.rule) (sharing_refusal items)

-- The same of merges in which equal interfaces are one, in every round.
abbrev pub SharingRoundsInBytes : Type 0
SharingRoundsInBytes =
    (order : Order) (tail tail_again : Tail) (groups : List FileGroup) → AllByRecursion (IsMergedSharing tail) groups
    → (let at_once = run_of_files tail (flat_map (λ group. group.files) groups) in
    let in_rounds = run_of_files tail_again (map (sharing_group_bytes tail) groups) in
    (sharing_bytes order in_rounds ≡ sharing_bytes order at_once)
    × (sharing_refused_by in_rounds ≡ sharing_refused_by at_once))
