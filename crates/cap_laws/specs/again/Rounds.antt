-- Laws of merging: what is written of a merge is read again, a packet's clock in the merged list, and merging in
-- rounds.
use Rattle.std.specs.Prelude.{◌≡◌, ℕ, suc, ◌≤◌, ◌^◌, List, [], ◌∷◌, ◌++◌, length, map, Option, Some, None}
use Rattle.std.specs.List.{AllByRecursion, AllZip, flat_map}
use Rattle.std.specs.Option.{option_map}
use Rattle.std.specs.declared.cmp.Ordering.TheVariants.{Equal}
use Rattle.cap_blocks.specs.Split.{AreBytes}
use Rattle.cap_bytes.specs.declared.faults.Rule.{Rule}
use Rattle.cap_bytes.specs.declared.faults.Tail.{Tail}
use Rattle.cap_bytes.specs.declared.numbers.Order.{Order}
use Rattle.cap_source.specs.Feed.{Item, packet, refused, refusal_of}
use Rattle.cap_bytes.specs.declared.faults.Refusal.{Refusal}
use Rattle.cap_source.specs.Items.{file_first, file_items}
use Rattle.cap_bytes.specs.declared.formats.Format.TheVariants.{Pcapng}
use Rattle.cap_source.specs.declared.packets.Meta.{Meta}
use Rattle.cap_time.specs.Clock.{clock_cmp, greatest}
use Rattle.cap_write.specs.Numbering.{Numbered, own, shared, numbered, refusal_in}
use Rattle.cap_time.specs.declared.stamps.Unit.{Unit as Fraction}
use Rattle.cap_write.specs.Pcap.{first_in_unit, pcap_bytes, pcap_refusal}
use Rattle.cap_write.specs.PcapRun.{run_bytes, run_refusal}
use Rattle.cap_write.specs.Texts.{merged_bytes, merged_refusal, sharing_bytes}
use Rattle.cap_merge.specs.Files.{run_of_files, run_of_lists}
use Rattle.cap_merge.specs.Run.{Clocked, opened_track, run}
use Rattle.cap_merge.specs.Parts.{item_time, is_refusal}
use Rattle.cap_laws.specs.again.Laws.{instances, numbers}

-- ---- the merge law

-- What is written of a merge of any files, if it is at most 2^40 bytes long, has the packets of their run,
-- those before a refusal, in order: both have the same numbered packets, and a packet's instance is its number
-- there.
abbrev pub MergeLaw : Type 0
MergeLaw =
    (order : Order) (tail tail_again : Tail) (file_again : ℕ) (files : List (List ℕ)) → AllByRecursion AreBytes files
    → (let items = run_of_files tail files in
    let text = merged_bytes order items in
    let again = file_items tail_again file_again text in
    length text ≤ 2 ^ 40
    → (numbered (own []) again ≡ numbered (own []) items)
    × (refusal_in (own []) again ≡ None)
    × (refusal_of again ≡ None)
    × (instances again ≡ numbers (numbered (own []) again)))

-- What is written of a merge of any files in which equal interfaces are one, if it is at most 2^40 bytes
-- long, has the packets of their run, those before a refusal, in order: by their instances there they are numbered as
-- those of the run are by the descriptions of their interfaces.
abbrev pub SharingLaw : Type 0
SharingLaw =
    (order : Order) (tail tail_again : Tail) (file_again : ℕ) (files : List (List ℕ)) → AllByRecursion AreBytes files
    → (let items = run_of_files tail files in
    let text = sharing_bytes order items in
    let again = file_items tail_again file_again text in
    length text ≤ 2 ^ 40
    → (numbered (own []) again ≡ numbered (shared []) items)
    × (refusal_in (own []) again ≡ None)
    × (refusal_of again ≡ None)
    × (instances again ≡ numbers (numbered (own []) again)))

-- ---- the merge as pcap

-- the rule of a refusal
abbrev pub rule_of : Option Refusal → Option Rule
rule_of refusal = option_map (λ r. r.rule) refusal

-- What is written of the run of any files as one pcap file, in whatever unit, is what is written as pcap in that unit
-- of the pcapng file that is written of the run, if nothing is refused there and that is at most 2^40 bytes long; one
-- of the two is refused if the other is, by the same rule.
abbrev pub MergedPcap : Type 0
MergedPcap =
    (order back : Order) (unit : Option Fraction) (tail tail_again : Tail) (file_again : ℕ) (files : List (List ℕ))
    → AllByRecursion AreBytes files
    → (let items = run_of_files tail files in
    let text = merged_bytes order items in
    let first = first_in_unit unit (file_first tail_again file_again text) in
    let again = file_items tail_again file_again text in
    length text ≤ 2 ^ 40 → merged_refusal items ≡ None
    → (pcap_bytes back first again ≡ run_bytes unit back items)
    × (rule_of (pcap_refusal file_again first again) ≡ rule_of (run_refusal unit items)))

-- ---- the clock law

-- The greatest time among the packets of a run up to and with one is, by the order, that packet's clock, also if
-- files run back.
abbrev pub ClockLaw : Type 0
ClockLaw =
    (files : List (List Item)) (before after : List (Clocked Item)) (x : Clocked Item)
    → run item_time is_refusal (map opened_track files) ≡ before ++ (x ∷ after)
    → clock_cmp (greatest (map (λ y. item_time y.item) (before ++ (x ∷ [])))) x.clock ≡ Equal

-- ---- the law of rounds

-- an item as one of the file of that number
abbrev pub in_file : ℕ → Item → Item
in_file file (packet meta frame) = packet (record meta { file = file }) frame
in_file file (refused refusal) = refused (record refusal { file = file })

-- files by their places, from a number on
abbrev pub numbered_files : ℕ → List (List Item) → List (List Item)
numbered_files file [] = []
numbered_files file (items ∷ files) = map (in_file file) items ∷ numbered_files (suc file) files

-- the items of the run of some files, which are numbered from 1 by their places
unfoldable pub run_of_packets : List (List Item) → List Item
run_of_packets files = run_of_lists (numbered_files 1 files)

-- the packets that a merge of some files writes, and the rule that refuses the one after them, if one does
abbrev pub merged_packets : List (List Item) → List Numbered
merged_packets files = numbered (own []) (run_of_packets files)

abbrev pub merged_rule : List (List Item) → Option Rule
merged_rule files = option_map (λ refusal. refusal.rule) (refusal_in (own []) (run_of_packets files))

-- A packet of a file is a written one: the number of its interface is the interface's instance in the file.
pub record IsWrittenPacket (n : Numbered) (meta : Meta) (bytes : List ℕ) : Type 0 where
  pub instance : meta.instance ≡ n.number
  pub interface : meta.interface ≡ n.interface
  pub units : meta.units ≡ Some n.units
  pub captured : meta.captured ≡ n.captured
  pub original : meta.original ≡ n.original
  pub frame : bytes ≡ n.frame

abbrev pub IsItemOf : Numbered → Item → Type 0
IsItemOf n (packet meta frame) = IsWrittenPacket n meta frame
IsItemOf n (refused refusal) = ⊥

-- A file holds what a merge of some files writes, if nothing is refused.
pub record IsMergeOf (files : List (List Item)) (items : List Item) : Type 0 where
  pub accepted : refusal_in (own []) (run_of_packets files) ≡ None
  pub packets : AllZip IsItemOf (merged_packets files) items

-- Files are split, in their order, into neighbouring groups, and each group is merged. Then the merge of files that
-- hold what these merges write, in the groups' order, writes what the merge of all files writes.
abbrev pub FileRoundsLaw : Type 0
FileRoundsLaw =
    (groups : List (List (List Item))) (files : List (List Item)) → AllZip IsMergeOf groups files
    → (merged_packets files ≡ merged_packets (flat_map (λ group. group) groups))
    × (merged_rule files ≡ merged_rule (flat_map (λ group. group) groups))

-- Some written packets as the items of a file, in which their numbers are the instances; where their blocks begin isn't
-- told.
abbrev pub packet_item : Numbered → Item
packet_item n =
    packet (record {
      file = 1;
      offset = 0;
      format = Pcapng;
      skipped = 0;
      instance = n.number;
      interface = n.interface;
      units = Some n.units;
      captured = n.captured;
      original = n.original;
    }) n.frame

abbrev pub file_of_packets : List Numbered → List Item
file_of_packets packets = map packet_item packets

-- The run of what the groups' merges write, each as a file, has the packets of the run of all files.
abbrev pub RoundsLaw : Type 0
RoundsLaw =
    (groups : List (List (List Item)))
    → AllByRecursion (λ group. refusal_in (own []) (run_of_packets group) ≡ None) groups
    → (merged_packets (map (λ group. file_of_packets (merged_packets group)) groups)
    ≡ merged_packets (flat_map (λ group. group) groups))
    × (merged_rule (map (λ group. file_of_packets (merged_packets group)) groups)
    ≡ merged_rule (flat_map (λ group. group) groups))
