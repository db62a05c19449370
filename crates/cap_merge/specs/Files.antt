-- The packets of several files in the order of exact time.
use Rattle.std.specs.Prelude.{ℕ, ◌+◌, ◌==◌, Bool, false, List, [], ◌∷◌, None, map, if◌then◌else◌}
use Rattle.cap_bytes.specs.declared.faults.Tail.{Tail}
use Rattle.cap_merge.specs.Parts.{item_time, is_refusal}
use Rattle.cap_merge.specs.Run.{Clocked, opened_track, run}
use Rattle.cap_source.specs.Feed.{Item}
use Rattle.cap_source.specs.Items.{file_items, counted_ending, no_kinds}
use Rattle.cap_source.specs.declared.feeds.FileEnd.{FileEnd}
use Rattle.cap_bytes.specs.declared.formats.Format.TheVariants.{Pcap}

-- the items of some files in the order of exact time, up to the first refusal
abbrev pub run_of_lists : List (List Item) → List Item
run_of_lists files = map (λ x. x.item) (run item_time is_refusal (map opened_track files))

-- the items of files of those bytes, the first of which has that number
abbrev pub items_of_files : Tail → ℕ → List (List ℕ) → List (List Item)
items_of_files tail file [] = []
items_of_files tail file (bytes ∷ files) = file_items tail file bytes ∷ items_of_files tail (file + 1) files

-- the run of files of those bytes, which are numbered from 1 by their places
unfoldable pub run_of_files : Tail → List (List ℕ) → List Item
run_of_files tail files = run_of_lists (items_of_files tail 1 files)

-- the same, each item with its clock
abbrev pub clocked_run : Tail → List (List ℕ) → List (Clocked Item)
clocked_run tail files = run item_time is_refusal (map opened_track (items_of_files tail 1 files))

-- how the file of a number ends, of files of those bytes, the first of which has the number `first`, if comments are
-- counted or aren't
abbrev pub counted_endings_from : Bool → Tail → ℕ → List (List ℕ) → ℕ → FileEnd
counted_endings_from comments tail first [] file =
    record {
      ending = record { format = Pcap; skipped = 0; cut = None };
      interfaces = 1;
      named = 0;
      kinds = no_kinds;
      comments = None;
    }
counted_endings_from comments tail first (bytes ∷ files) file =
    if first == file then counted_ending comments tail first bytes
    else counted_endings_from comments tail (first + 1) files file

-- the same if they aren't
abbrev pub endings_from : Tail → ℕ → List (List ℕ) → ℕ → FileEnd
endings_from = counted_endings_from false

-- how each file ends, of files that are numbered from 1 by their places, if comments are counted or aren't
unfoldable pub counted_endings : Bool → Tail → List (List ℕ) → ℕ → FileEnd
counted_endings comments tail files file = counted_endings_from comments tail 1 files file

-- the same if they aren't
abbrev pub endings_of_files : Tail → List (List ℕ) → ℕ → FileEnd
endings_of_files = counted_endings false
