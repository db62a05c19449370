-- Reading into a buffer after what stands there.
use Rattle.std.proofs.Common.{◌≡◌, ℕ, ◌+◌, ◌-◌, ◌≤◌, ◌<◌, List, [], ◌++◌, length, take, drop, IsTrue, Bool, false, ◌||◌}
use Rattle.std.proofs.Common.{Result, IfOk, IfSome, OnErr, arith, append_assoc, length-append, length-take-le}
use Rattle.std.proofs.Common.{slice_range}
use Rattle.std.proofs.lemmas.Grind.{common_steps}
use Rattle.std.proofs.lemmas.List.{drop-append-le}
use Rattle.std.proofs.lemmas.Slice.{between_is}
use Rattle.std.proofs.Math.Seq.{take-length, take-append-add, take-append_seam, drop-append-add}
use Rattle.cap_bytes.specs.Device.{Takes}
use Rattle.cap_bytes.specs.inner.SourceState.{SourceState, Reads, IsWithin}
use Rattle.cap_bytes.specs.declared.devices.Broken.{Broken}

-- n bytes came into the room after the front
pub Reads-room : (old new : SourceState) (front room : List ℕ) (end n : ℕ) → length front ≡ end
    → (IsTrue old.told → old.coming ≡ take n room ++ new.coming)
    → (IsTrue old.told → IsTrue new.told) → new.most ≡ old.most → (IsTrue new.can_fail → IsTrue old.can_fail)
    → Reads old new front (take (end + n) (front ++ room))
Reads-room old new front room end n size came told most cannot =
    grind (arith, take-append-add, take-append_seam, append_assoc)

-- the same of what a read answered
pub Reads-taken : (old new : SourceState) (front room : List ℕ) (end : ℕ) (r : Result ℕ Broken) → length front ≡ end
    → IfOk r (λ n. n ≤ length room)
    → (IsTrue old.told → Takes old.coming r new.coming room)
    → (IsTrue old.told → IsTrue new.told) → new.most ≡ old.most → (IsTrue new.can_fail → IsTrue old.can_fail)
    → IfOk r (λ n. (end + n ≤ length (front ++ room)) × Reads old new front (take (end + n) (front ++ room)))
Reads-taken old new front room end r size count bytes told most cannot = grind (arith, length-append, Reads-room)

-- a read that failed: what stood there stays
pub Reads-failed : (old new : SourceState) (front room : List ℕ) (end : ℕ) (r : Result ℕ Broken) → length front ≡ end
    → (IsTrue old.told → Takes old.coming r new.coming room)
    → (IsTrue old.told → IsTrue new.told) → new.most ≡ old.most → (IsTrue new.can_fail → IsTrue old.can_fail)
    → OnErr r (Reads old new front (take end (front ++ room)))
Reads-failed old new front room end r size bytes told most cannot = grind (arith, take-append_seam, take-length)

-- a read of none into some room is the end
pub ended_at_none : (told : Bool) (old new room : List ℕ) (r : Result ℕ Broken) → 0 < length room
    → (IsTrue told → Takes old r new room)
    → IfOk r (λ n. n ≡ 0 → IsTrue told → new ≡ [])
ended_at_none told old new room r some bytes = grind arith

-- a buffer that is being filled: `count` bytes stand in it, the first `end` of which stood there before
pub record Filled (old new : SourceState) (front whole : List ℕ) (end count room n : ℕ) : Type 0 where
  pub reads : Reads old new front whole
  pub failed : new.failed ≡ old.failed
  pub longer : end ≤ count
  pub within : count ≤ room
  pub asked : end < n → IsWithin old.most n count

-- nothing was read yet
pub Filled-none : (s : SourceState) (buffer : List ℕ) (end n : ℕ) → end ≤ n → n ≤ length buffer
    → Filled s s (take end buffer) (take end buffer) end end (length buffer) n
Filled-none s buffer end n some room = grind (arith, take-length)

-- k bytes more came
pub Filled-more : (old mid new : SourceState) (front whole longer : List ℕ) (end count k room left n : ℕ)
    → Filled old mid front whole end count room n
    → count < n → IfSome mid.most (λ most. k ≤ most) → (count + k ≤ left) × Reads mid new whole longer
    → new.failed ≡ (mid.failed || false)
    → Filled old new front longer end (count + k) left n
Filled-more old mid new front whole longer end count k room left n filled few most reads failed =
    grind (arith, common_steps)

-- n bytes are being dropped from a reader, `left` of which are still to come
pub record Dropping (n left : ℕ) (old new : SourceState) : Type 0 where
  pub failed : new.failed ≡ old.failed
  pub fewer : left ≤ n
  pub some : 0 < n → 0 < left
  pub told : IsTrue old.told → IsTrue new.told
  pub most : new.most ≡ old.most
  pub cannot : IsTrue new.can_fail → IsTrue old.can_fail
  pub size : IsTrue old.told → length old.coming + left ≡ n + length new.coming
  pub bytes : IsTrue old.told → drop left new.coming ≡ drop n old.coming

-- a piece came, all of which is dropped, and it isn't enough
pub Dropping-more : (n left count : ℕ) (old mid new : SourceState) (piece : List ℕ) → length piece ≡ count
    → count < left
    → Dropping n left old mid → Reads mid new [] piece → new.failed ≡ mid.failed → Dropping n (left - count) old new
Dropping-more n left count old mid new piece size few p r failed = grind (arith, length-append, drop-append-add)

-- a piece came that has all that is left to drop, and `rest` after it
pub Dropping-last : (n left count : ℕ) (old mid new : SourceState) (buffer : List ℕ) → count ≤ length buffer
    → left ≤ count
    → Dropping n left old mid → Reads mid new [] (take count buffer)
    → (IsTrue old.told → n ≤ length old.coming)
    × (IsTrue old.told → slice_range buffer left count ++ new.coming ≡ drop n old.coming)
Dropping-last n left count old mid new buffer within enough p r =
    grind (arith, length-take-le, length-append, between_is, drop-append-le)
