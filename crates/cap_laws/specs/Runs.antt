-- What stays of a run when the packets of files are written as one file.
use Rattle.std.specs.Prelude.{◌≡◌, ℕ, ◌≤◌, ◌^◌, List, [], ◌∷◌, length, Option, None}
use Rattle.std.specs.List.{AllByRecursion, AllZip}
use Rattle.std.specs.declared.cmp.Ordering.TheVariants.{Equal}
use Rattle.cap_blocks.specs.Split.{AreBytes}
use Rattle.cap_bytes.specs.declared.faults.Tail.{Tail}
use Rattle.cap_bytes.specs.declared.numbers.Order.{Order}
use Rattle.cap_time.specs.Clock.{clock_cmp}
use Rattle.cap_merge.specs.Files.{clocked_run, run_of_files}
use Rattle.cap_merge.specs.Run.{Clocked}
use Rattle.cap_source.specs.Feed.{Item, packet, refused}
use Rattle.cap_source.specs.Items.{file_first, file_items}
use Rattle.cap_source.specs.declared.packets.Meta.{Meta}
use Rattle.cap_time.specs.declared.stamps.Stamp.{Stamp}
use Rattle.cap_write.specs.Texts.{merged_bytes, merged_refusal, pcapng_bytes, pcapng_refusal}

-- Two packets, with their clocks, have equal clocks by the order, and the same interface, units, lengths and bytes.
pub record IsSameAtClock (clock clock_again : Option Stamp) (meta again : Meta)
    (bytes bytes_again : List ℕ) : Type 0 where
  pub clocks : clock_cmp clock clock_again ≡ Equal
  pub interface : meta.interface ≡ again.interface
  pub units : meta.units ≡ again.units
  pub captured : meta.captured ≡ again.captured
  pub original : meta.original ≡ again.original
  pub frame : bytes ≡ bytes_again

-- two items of runs are such packets: neither is a refusal
abbrev pub AreSamePackets : Option Stamp → Option Stamp → Item → Item → Type 0
AreSamePackets clock clock_again (packet meta frame) (packet again frame_again) =
    IsSameAtClock clock clock_again meta again frame frame_again
AreSamePackets clock clock_again (packet meta frame) (refused refusal) = ⊥
AreSamePackets clock clock_again (refused refusal) again = ⊥

-- two runs have as many items, and the items of one place are such packets
abbrev pub SameRun : List (Clocked Item) → List (Clocked Item) → Type 0
SameRun = AllZip (λ x y. AreSamePackets x.clock y.clock x.item y.item)

-- The file that a merge of some files writes, if nothing is refused and it is at most 2^40 bytes long, has the run of
-- the files.
abbrev pub MergedRun : Type 0
MergedRun =
    (order : Order) (tail tail_again : Tail) (files : List (List ℕ)) → AllByRecursion AreBytes files
    → (let items = run_of_files tail files in
    let text = merged_bytes order items in
    merged_refusal items ≡ None → length text ≤ 2 ^ 40
    → SameRun (clocked_run tail files) (clocked_run tail_again (text ∷ [])))

-- So has the pcapng file that is written of one file.
abbrev pub PcapngRun : Type 0
PcapngRun =
    (order : Order) (tail tail_again : Tail) (bytes : List ℕ) → AreBytes bytes
    → (let items = file_items tail 1 bytes in
    let first = file_first tail 1 bytes in
    let text = pcapng_bytes order 1 first items in
    pcapng_refusal 1 first items ≡ None → length text ≤ 2 ^ 40
    → SameRun (clocked_run tail (bytes ∷ [])) (clocked_run tail_again (text ∷ [])))
