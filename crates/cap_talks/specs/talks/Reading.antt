-- What reading a file whole, to count its packets, returns.
use Rattle.std.specs.Prelude.{◌≡◌, ℕ, ◌+◌, ◌-◌, List, [], ◌∷◌, take, Vec, Some, None, Result, Ok, Err, ⊤}
use Rattle.std.specs.declared.alloc.Global.{Global}
use Rattle.cap_bytes.specs.declared.faults.Fault.{Fault}
use Rattle.cap_bytes.specs.declared.faults.Fault.TheVariants.{Refused, Read, Write, Memory}
use Rattle.cap_bytes.specs.declared.faults.Tail.{Tail}
use Rattle.cap_source.specs.Feed.{Feed, refusal_of}
use Rattle.cap_source.specs.Items.{file_items, file_ending}
use Rattle.cap_talks.specs.counts.Counting.{packets_of, counted}
use Rattle.cap_talks.specs.declared.counts.counts.Counts.{Counts}
use Rattle.cap_talks.specs.declared.counts.files.Counted.{Counted}
use Rattle.cap_talks.specs.talks.InfoText.{first_refusal}

-- all packets that a feed gave are counted, or what refused it is returned
abbrev pub CountsAll : Feed → Result Counts Fault → Feed → Type 0
CountsAll old (Ok counts) new =
    (refusal_of old.items ≡ None) × (counts ≡ counted (packets_of old.items))
    × ((file : ℕ) → new.endings file ≡ old.endings file)
CountsAll old (Err (Refused refusal)) new = refusal_of old.items ≡ Some refusal
CountsAll old (Err (Read file offset)) new = ⊤
CountsAll old (Err Write) new = ⊥
CountsAll old (Err Memory) new = ⊤

-- the same of the file of that number with those bytes
abbrev pub counted_of : Tail → ℕ → List ℕ → Counted
counted_of tail file bytes =
    record {
      counts = counted (packets_of (file_items tail file bytes));
      ending = Some (file_ending tail file bytes).ending;
    }

abbrev pub CountsFile : Tail → ℕ → List ℕ → Result Counted Fault → Type 0
CountsFile tail file bytes (Ok it) = (refusal_of (file_items tail file bytes) ≡ None)
    × (it ≡ counted_of tail file bytes)
CountsFile tail file bytes (Err (Refused refusal)) = refusal_of (file_items tail file bytes) ≡ Some refusal
CountsFile tail file bytes (Err (Read f offset)) = f ≡ file
CountsFile tail file bytes (Err Write) = ⊥
CountsFile tail file bytes (Err Memory) = ⊤

-- the same of some files, from that number on
abbrev pub counted_files : Tail → ℕ → List (List ℕ) → List Counted
counted_files tail file [] = []
counted_files tail file (bytes ∷ files) = counted_of tail file bytes ∷ counted_files tail (file + 1) files

abbrev pub CountsFiles : Tail → List (List ℕ) → Result (Vec Counted Global) Fault → Type 0
CountsFiles tail files (Ok all) = (first_refusal tail 1 files ≡ None) × (all.items ≡ counted_files tail 1 files)
CountsFiles tail files (Err (Refused refusal)) = first_refusal tail 1 files ≡ Some refusal
CountsFiles tail files (Err (Read f offset)) = first_refusal tail 1 (take (f - 1) files) ≡ None
CountsFiles tail files (Err Write) = ⊥
CountsFiles tail files (Err Memory) = ⊤

-- No file before the one of which a read failed is refused.
abbrev pub FailsFirst : {A : Type 0} → Tail → List (List ℕ) → Result A Fault → Type 0
FailsFirst tail files (Ok _) = ⊤
FailsFirst tail files (Err (Refused refusal)) = ⊤
FailsFirst tail files (Err (Read f offset)) = first_refusal tail 1 (take (f - 1) files) ≡ None
FailsFirst tail files (Err Write) = ⊤
FailsFirst tail files (Err Memory) = ⊤
