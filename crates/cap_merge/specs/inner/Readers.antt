-- A merge of files of which nothing was read yet.
use Rattle.std.specs.Prelude.{◌≡◌, ℕ, ◌+◌, Bool, List, [], ◌∷◌, length, map, get_or, false, None, ⊤}
use Rattle.std.specs.List.{list_all, range_with_len}
use Rattle.cap_bytes.specs.declared.faults.Tail.{Tail}
use Rattle.cap_merge.specs.Files.{clocked_run, counted_endings}
use Rattle.cap_merge.specs.Parts.{Part, merged_feed, run_of}
use Rattle.cap_source.specs.Feed.{Feed}
use Rattle.cap_source.specs.Items.{file_items, counted_ending}

-- A reader: whether it tells its bytes, whether it can fail, and the bytes.
pub record ReaderFacts : Type 0 where
  pub told : Bool
  pub can_fail : Bool
  pub bytes : List ℕ

abbrev pub reader_of : {R : Type 0} → (R → Bool) → (R → Bool) → (R → List ℕ) → R → ReaderFacts
reader_of tells can_fail coming source = record {
  told = tells source;
  can_fail = can_fail source;
  bytes =
      coming source;
}

-- Nothing was asked of a feed: it is of the file of that number with those bytes, whose comments are counted or aren't.
pub record IsUnread (comments : Bool) (tail : Tail) (file : ℕ) (reader : ReaderFacts) (feed : Feed) : Type 0 where
  pub files : feed.files ≡ file ∷ []
  pub told : feed.told ≡ reader.told
  pub items : feed.items ≡ file_items tail file reader.bytes
  pub endings : (n : ℕ) → feed.endings n ≡ counted_ending comments tail file reader.bytes
  pub broken : feed.broken ≡ None
  pub can_fail : feed.can_fail file ≡ reader.can_fail

-- the same of each of some feeds, from that number on
abbrev pub AreUnread : Bool → Tail → ℕ → List ReaderFacts → List Feed → Type 0
AreUnread comments tail file [] [] = ⊤
AreUnread comments tail file [] (feed ∷ feeds) = ⊥
AreUnread comments tail file (reader ∷ readers) [] = ⊥
AreUnread comments tail file (reader ∷ readers) (feed ∷ feeds) = IsUnread comments tail file reader feed
    × AreUnread comments tail (file + 1) readers feeds

-- The files of some readers as one feed, of which nothing was asked: its run and how its files end are those of
-- the readers' bytes. Comments are counted, or aren't.
pub record IsCountedRun (comments : Bool) (tail : Tail) (readers : List ReaderFacts) (ps : List Part) : Type 0 where
  pub files : (merged_feed ps).files ≡ range_with_len 1 (length readers)
  pub told : (merged_feed ps).told ≡ list_all (λ r. r.told) readers
  pub run : run_of ps ≡ clocked_run tail (map (λ r. r.bytes) readers)
  pub endings : (file : ℕ)
      → (merged_feed ps).endings file ≡ counted_endings comments tail (map (λ r. r.bytes) readers) file
  pub known : (merged_feed ps).known ≡ None
  pub broken : (merged_feed ps).broken ≡ None
  pub can_fail : (place : ℕ) → (merged_feed ps).can_fail (1
      + place) ≡ get_or (map (λ r. r.can_fail) readers) place false

-- the same if comments aren't counted
abbrev pub IsUnreadRun : Tail → List ReaderFacts → List Part → Type 0
IsUnreadRun = IsCountedRun false
