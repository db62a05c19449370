-- The parts of the line of a file that was checked.
use Rattle.std.specs.Prelude.{ℕ, List, [], ◌++◌, codes}
use Rattle.cap_print.specs.Facts.{begin_in, facts_in, fields_in}
use Rattle.cap_print.specs.declared.forms.Form.{Form}
use Rattle.cap_check.specs.CheckText.{check_facts, held_facts, odd_fields}
use Rattle.cap_check.specs.declared.checked.Check.{Check}
use Rattle.cap_check.specs.declared.checked.CheckLine.{CheckLine}

-- what it has, and how a line of what is counted begins
abbrev pub held_in : Form → ℕ → Check → List ℕ
held_in form file check = begin_in form (codes "check") (facts_in form (held_facts file check) [])

-- what is odd about it, and how it ends
abbrev pub odd_in : CheckLine → Form → Check → List ℕ
odd_in which form check = fields_in form (odd_fields which check) []

-- both
abbrev pub counts_in : CheckLine → Form → ℕ → Check → List ℕ
counts_in which form file check = held_in form file check ++ odd_in which form check

-- a line without its end
abbrev pub unnamed_in : CheckLine → Form → ℕ → Check → List ℕ
unnamed_in which form file check =
    begin_in form (check_facts which file check).kind (fields_in form (check_facts which file check).fields [])
