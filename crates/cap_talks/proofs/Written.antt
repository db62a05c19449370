-- Texts that are written in parts.
use Rattle.std.proofs.Common.{arith, ◌≡◌, List, ℕ, ◌++◌, None, Result, Err, IsOkUnless}
use Rattle.cap_bytes.proofs.Putting.{Prints-head}
use Rattle.cap_bytes.specs.Device.{Puts}
use Rattle.cap_bytes.specs.Printing.{Prints}
use Rattle.cap_bytes.specs.declared.faults.Fault.{Fault}
use Rattle.cap_bytes.specs.declared.faults.Fault.TheVariants.{Write}

-- a text that is written in one piece
pub prints-all : (text old new : List ℕ) (result : Result (Unit {0}) Fault) → IsOkUnless result Write
    → Puts old result new text → Prints text None old result new
prints-all text old new result fault p = grind arith

-- the writer failed in the first part of a text
pub prints-first : (old new head text : List ℕ) (fault : Fault) → fault ≡ Write
    → Prints {A = Unit {0}} head None old (Err fault) new
    → Prints {A = Unit {0}} (head ++ text) None old (Err fault) new
prints-first old new head text fault is p = grind (arith, Prints-head)
