-- What a reader is at one moment, and what reading from it into a buffer does.
use Rattle.std.specs.Prelude.{◌≡◌, ◌+◌, ◌≤◌, ◌<◌, ℕ, List, [], ◌++◌, length, take, drop, Bool, IsTrue, Option, Some}
use Rattle.std.specs.Prelude.{None, ⊤}
use Rattle.cap_bytes.specs.declared.buffers.Discarded.{Discarded}
use Rattle.cap_bytes.specs.declared.buffers.Filling.{Filling}
use Rattle.cap_bytes.specs.declared.buffers.Filling.TheVariants.{Whole, Ended, Failed}

-- a reader: whether it tells the bytes to come, which they are, how many it gives at a time at most, if it tells that,
-- whether it has failed, whether it can
pub record SourceState : Type 0 where
  pub told : Bool
  pub coming : List ℕ
  pub most : Option ℕ
  pub failed : Bool
  pub can_fail : Bool

-- a reader by the ghost members of `Source`
abbrev pub source_of : {R : Type 0} → record {
  has_failed : R → Bool;
  can_fail : R → Bool;
  tells_coming : R
      → Bool;
  coming : R → List ℕ;
  most : R → Option ℕ;
} → R → SourceState
source_of source r =
    record {
      told = source.tells_coming r;
      coming = source.coming r;
      most = source.most r;
      failed = source.has_failed r;
      can_fail = source.can_fail r;
    }

-- bytes were read after those that stood in a buffer, so that `whole` stands there now
pub record Reads (old new : SourceState) (front whole : List ℕ) : Type 0 where
  pub front_stays : take (length front) whole ≡ front
  pub bytes : IsTrue old.told → whole ++ new.coming ≡ front ++ old.coming
  pub told : IsTrue old.told → IsTrue new.told
  pub most : new.most ≡ old.most
  pub cannot : IsTrue new.can_fail → IsTrue old.can_fail

-- Fewer than n bytes and one read more: if a read gives that many at most, no read began with n bytes.
abbrev pub IsWithin : Option ℕ → ℕ → ℕ → Type 0
IsWithin None n count = ⊤
IsWithin (Some most) n count = count < n + most

-- how reading up to n bytes ended, `count` being there
abbrev pub Fills : ℕ → ℕ → Filling → SourceState → SourceState → Type 0
Fills n count Whole old new = (n ≤ count) × (new.failed ≡ old.failed)
Fills n count Ended old new = (count < n) × (IsTrue old.told → new.coming ≡ []) × (new.failed ≡ old.failed)
Fills n count Failed old new = IsTrue new.failed × IsTrue old.can_fail × (count < n)

-- How dropping the next n bytes of a reader ended: `rest` was read after them, and no read began when they were
-- dropped.
abbrev pub DiscardsBy : ℕ → Filling → ℕ → SourceState → SourceState → List ℕ → Type 0
DiscardsBy n Whole left old new rest =
    (left ≡ 0) × (new.failed ≡ old.failed) × (IsTrue old.told → n ≤ length old.coming)
    × (IsTrue old.told → rest ++ new.coming ≡ drop n old.coming) × (0 < n → IsWithin old.most 0 (length rest))
DiscardsBy n Ended left old new rest =
    (0 < left) × (new.failed ≡ old.failed) × (rest ≡ []) × (IsTrue old.told → n ≡ left + length old.coming)
    × (IsTrue old.told → new.coming ≡ [])
DiscardsBy n Failed left old new rest = (0 < left) × IsTrue new.failed × IsTrue old.can_fail × (rest ≡ [])

abbrev pub Discards : ℕ → Discarded → SourceState → SourceState → List ℕ → Type 0
Discards n result old new rest = DiscardsBy n result.filling result.left old new rest
