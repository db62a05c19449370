-- What is counted of the packets of a file that is checked, and how the file ends.
use Rattle.std.specs.Prelude.{◌≡◌, ℕ, ◌+◌, ◌≤◌, nat_lt, Bool, true, false, List, [], ◌∷◌, length, take}
use Rattle.std.specs.Prelude.{Option, Some, None, is_none, if◌then◌else◌, IsTrue}
use Rattle.std.specs.List.{list_all}
use Rattle.cap_bytes.specs.declared.faults.Tail.{Tail}
use Rattle.cap_digest.specs.Canonical.{canonical_text}
use Rattle.cap_digest.specs.DigestText.{digest_if}
use Rattle.cap_source.specs.Feed.{Item, packet, refused, refusal_of}
use Rattle.cap_source.specs.Items.{file_ending, file_items}
use Rattle.cap_source.specs.Times.{meta_time}
use Rattle.cap_source.specs.declared.feeds.FileEnd.{FileEnd}
use Rattle.cap_source.specs.declared.packets.Meta.{Meta}
use Rattle.cap_time.specs.Clock.{earlier, is_backward, later}
use Rattle.cap_check.specs.declared.checked.Check.{Check}
use Rattle.cap_check.specs.declared.checked.CheckEnd.{CheckEnd}
use Rattle.cap_check.specs.declared.checked.CheckEnd.TheVariants.{Opening, Reading, Refusing, Whole}
use Rattle.cap_check.specs.declared.checked.Checked.{Checked}

-- 1 if that is so, else 0
abbrev pub counted_if : Bool → ℕ
counted_if is_so = if is_so then 1 else 0

-- nothing was taken yet
abbrev pub nothing_checked : Checked
nothing_checked =
    record {
      packets = 0;
      bytes = 0;
      first = None;
      last = None;
      backward = 0;
      untimed = 0;
      truncated = 0;
    }

-- What is counted with one packet more: its bytes are its original length, and its time counts as the least or the
-- greatest if it is below or above all others.
abbrev pub with_checked : Checked → Meta → Checked
with_checked checked meta =
    record {
      packets = checked.packets + 1;
      bytes = checked.bytes + meta.original;
      first = earlier checked.first (meta_time meta);
      last = later checked.last (meta_time meta);
      backward = checked.backward + counted_if (is_backward checked.last (meta_time meta));
      untimed = checked.untimed + counted_if (is_none (meta_time meta));
      truncated = checked.truncated + counted_if (nat_lt meta.captured meta.original);
    }

-- what is counted after the packets of a list, those before a refusal
unfoldable pub checked_after : Checked → List Item → Checked
checked_after checked [] = checked
checked_after checked (packet meta frame ∷ items) = checked_after (with_checked checked meta) items
checked_after checked (refused refusal ∷ items) = checked

-- A file that was opened: its bytes, if its device tells them, and whether a read of it can fail.
pub record Opened : Type 0 where
  pub told : Bool
  pub bytes : List ℕ
  pub can_fail : Bool

-- A read fails only of a device that can fail, and a file that was opened ends otherwise than unopened.
abbrev pub FailsIf : Bool → CheckEnd → Type 0
FailsIf can_fail (Whole end) = Unit {0}
FailsIf can_fail (Refusing refusal end) = Unit {0}
FailsIf can_fail (Reading offset end) = IsTrue can_fail
FailsIf can_fail Opening = ⊥

-- The file of that number with those bytes isn't refused, has those packets, and ends so.
abbrev pub HasCounts : Tail → ℕ → List ℕ → Checked → FileEnd → Type 0
HasCounts tail file bytes counts end =
    (refusal_of (file_items tail file bytes) ≡ None)
    × (counts ≡ checked_after nothing_checked (file_items tail file bytes))
    × (end ≡ file_ending tail file bytes)

-- The file was read up to that offset, at which a read failed: a record or a block begins there, or its bytes end. It
-- has the packets, the skipped blocks and the interfaces of the same file that ends there, which isn't cut. If the read
-- failed in the header or in the first block, nothing was read.
abbrev pub IsReadTo : Tail → ℕ → List ℕ → Checked → ℕ → Option FileEnd → Type 0
IsReadTo tail file bytes counts offset (Some end) =
    (offset ≤ length bytes) × (end.ending.cut ≡ None) × HasCounts tail file (take offset bytes) counts end
IsReadTo tail file bytes counts offset None = (offset ≡ 0) × (counts ≡ nothing_checked)

-- The file of that number with those bytes was read to its end, to its refusal, or to a read that failed.
abbrev pub IsCounted : Tail → ℕ → List ℕ → Checked → CheckEnd → Type 0
IsCounted tail file bytes counts (Whole end) = HasCounts tail file bytes counts end
IsCounted tail file bytes counts (Refusing refusal end) =
    (refusal_of (file_items tail file bytes) ≡ Some refusal)
    × (counts ≡ checked_after nothing_checked (file_items tail file bytes))
    × (end ≡ file_ending tail file bytes)
IsCounted tail file bytes counts (Reading offset end) = IsReadTo tail file bytes counts offset end
IsCounted tail file bytes counts Opening = ⊥

-- The digest of the packets of a file that ends so, if one is asked for. A file that isn't whole has none.
abbrev pub end_digest : Bool → List Item → CheckEnd → Option (List ℕ)
end_digest is_asked items (Whole end) = digest_if is_asked (canonical_text items)
end_digest is_asked items (Refusing refusal end) = None
end_digest is_asked items (Reading offset end) = None
end_digest is_asked items Opening = None

-- The file of that number was checked, whether it could be opened or not, with a digest or without.
abbrev pub IsChecked : Tail → Bool → ℕ → Option Opened → Check → Type 0
IsChecked tail is_asked file (Some opened) check =
    FailsIf opened.can_fail check.end
    × (IsTrue opened.told → IsCounted tail file opened.bytes check.counts check.end)
    × (IsTrue opened.told → check.digest ≡ end_digest is_asked (file_items tail file opened.bytes) check.end)
IsChecked tail is_asked file None check =
    check ≡ record { counts = nothing_checked; digest = None; end = Opening }

-- Files that have the numbers from that one on were checked, each by itself.
abbrev pub AreChecked : Tail → Bool → ℕ → List (Option Opened) → List Check → Type 0
AreChecked tail is_asked file [] [] = Unit {0}
AreChecked tail is_asked file [] (check ∷ checks) = ⊥
AreChecked tail is_asked file (opened ∷ files) [] = ⊥
AreChecked tail is_asked file (opened ∷ files) (check ∷ checks) =
    IsChecked tail is_asked file opened check × AreChecked tail is_asked (file + 1) files checks

-- whether a file was read whole
abbrev pub is_whole_end : CheckEnd → Bool
is_whole_end (Whole end) = true
is_whole_end (Refusing refusal end) = false
is_whole_end (Reading offset end) = false
is_whole_end Opening = false

-- whether each of some files was
abbrev pub are_whole : List Check → Bool
are_whole checks = list_all (λ check. is_whole_end check.end) checks
