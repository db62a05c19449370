-- What a call of a device does to the bytes that it tells.
use Rattle.std.specs.Prelude.{◌≡◌, ◌<◌, ◌||◌, ℕ, List, [], ◌++◌, length, take, Bool, IsTrue, Result, Ok, Err}
use Rattle.cap_bytes.specs.declared.devices.Broken.{Broken}

-- A reader gave the front of the buffer, and none only at its end or without room. If it
-- failed it gave none.
abbrev pub Takes : List ℕ → Result ℕ Broken → List ℕ → List ℕ → Type 0
Takes old (Ok n) new buffer = (old ≡ take n buffer ++ new) × (n ≡ 0 → 0 < length buffer → old ≡ [])
Takes old (Err _) new buffer = new ≡ old

-- A writer took the first n bytes. If it failed it took none.
abbrev pub Gives : List ℕ → Result ℕ Broken → List ℕ → List ℕ → Type 0
Gives old (Ok n) new bytes = new ≡ old ++ take n bytes
Gives old (Err _) new bytes = new ≡ old

-- All the bytes were written, or, at a fault, some number of the first.
abbrev pub Puts : {A E : Type 0} → List ℕ → Result A E → List ℕ → List ℕ → Type 0
Puts old (Ok _) new bytes = new ≡ old ++ bytes
Puts old (Err _) new bytes = (n : ℕ) × (new ≡ old ++ take n bytes)

-- A writer at one moment: whether it tells the bytes that it holds, which they are, whether it has failed, whether it
-- can.
pub record Writer : Type 0 where
  pub told : Bool
  pub held : List ℕ
  pub failed : Bool
  pub can_fail : Bool

-- a writer by the ghost members of `Sink`
abbrev pub writer_of : {W : Type 0} → record {
  has_failed : W → Bool;
  can_fail : W → Bool;
  tells_held : W
      → Bool;
  held : W → List ℕ;
} → W → Writer
writer_of sink w = record {
  told = sink.tells_held w;
  held = sink.held w;
  failed = sink.has_failed w;
  can_fail =
      sink.can_fail w;
}

-- What every call that writes keeps of its writer. `fails` says whether the writer failed in this call.
pub record WriterKeeps (old : Writer) (fails : Bool) (new : Writer) : Type 0 where
  pub told : IsTrue old.told → IsTrue new.told
  pub failed : new.failed ≡ (old.failed || fails)
  pub can : IsTrue fails → IsTrue old.can_fail
  pub cannot : IsTrue new.can_fail → IsTrue old.can_fail
