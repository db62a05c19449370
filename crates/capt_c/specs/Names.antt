-- What a call that puts a text into a caller's buffer does.
use Rattle.std.specs.Prelude.{◌≡◌, ◌==◌, ◌+◌, ◌*◌, ◌-◌, ℕ, List, [], ◌∷◌, ◌++◌, length, take, drop, if◌then◌else◌}
use Rattle.cap_bytes.specs.Rules.{rule_number, rule_name}
use Rattle.cap_bytes.specs.declared.faults.Fault.{Fault}
use Rattle.cap_bytes.specs.declared.faults.Fault.TheVariants.{Refused, Read, Write, Memory}
use Rattle.cap_bytes.specs.declared.faults.Rule.{Rule}
use Rattle.capt_c.specs.declared.answers.CPlace.{CPlace}

-- As much of a text as there was room for was put into a buffer, which keeps what is behind it, and `count` is the
-- text's whole length.
abbrev pub PutsText : List ℕ → ℕ → List ℕ → List ℕ → Type 0
PutsText text count old new = (count ≡ length text) × (new ≡ take (length old) text ++ drop (length text) old)

-- The name of the rule of that number is put into a buffer; there is none of another number, and nothing is put.
pub record NamesRule (number count : ℕ) (old new : List ℕ) : Type 0 where
  pub name : (rule : Rule) → rule_number rule ≡ number → PutsText (rule_name rule) count old new
  pub none : ((rule : Rule) → rule_number rule ≡ number → ⊥) → (count ≡ 0) × (new ≡ old)

-- A status and a place tell that fault: of a refusal the place says all, of a failed read where it was.
abbrev pub TellsFault : ℕ → CPlace → Fault → Type 0
TellsFault status place (Refused refusal) =
    (status ≡ 2) × (refusal.file ≡ place.file) × (refusal.offset ≡ place.offset)
    × (rule_number refusal.rule ≡ place.rule)
TellsFault status place (Read file offset) = (status ≡ 3) × (file ≡ place.file) × (offset ≡ place.offset)
TellsFault status place Write = status ≡ 4
TellsFault status place Memory = status ≡ 5

-- The number of a version of which these characters are still to be read. A full stop (46) ends a part, and each part
-- is two digits of the number. `parts` is the number of the parts before, and `part` what was read of this one.
abbrev pub version_number_behind : ℕ → ℕ → List ℕ → ℕ
version_number_behind parts part [] = parts * 100 + part
version_number_behind parts part (c ∷ cs) =
    if c == 46 then version_number_behind (parts * 100 + part) 0 cs
    else version_number_behind parts (part * 10 + (c - 48)) cs

-- a version as a number
abbrev pub version_number : List ℕ → ℕ
version_number version = version_number_behind 0 0 version
