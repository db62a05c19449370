-- The files that a task is given, by their own names or by a file that has these.
use Rattle.std.proofs.Common.{◌≡◌, ◌⊎◌, ◌≤◌, ℕ, List, Option, Some}
use Rattle.std.proofs.Common.{None, Result, Ok, Err, length, arith, inl, inr, IsTrue, IsSome}
use Rattle.clap.specs.Words.{Row, Text}
use Rattle.cap_line.specs.CommandLine.{CannotVerify, IsJobBy, files_in, names_file_in, out_in}
use Rattle.cap_line.specs.Jobs.{inputs_fault, is_surveying, least_files, most_files, task_by}
use Rattle.cap_line.specs.declared.faults.LineFault.{LineFault}
use Rattle.cap_line.specs.declared.faults.LineFault.TheVariants as faults
use Rattle.cap_line.specs.declared.jobs.Task.{Task}
use Rattle.cap_line.specs.declared.jobs.Task.TheVariants as tasks

-- what is taken is what a whole job has
pub taken-is : (task : Task) (files : List (List ℕ)) (named known out : Option (List ℕ)) (count : ℕ)
    → inputs_fault task files named out ≡ Ok tt → length files ≡ count → known ≡ named
    → (least_files known ≤ count) × (IsSome known → IsTrue (is_surveying task)) × (count ≤ most_files task)
taken-is task files None known out count taken same is = (grind arith, grind arith, grind arith)
taken-is task files (Some list) known out count taken same is = (grind arith, grind arith, grind arith)

-- a refusal of them is that of the line
pub named-refused : (task : Task) (name : Text) (rows : List Row) (fault : LineFault) → task_by name ≡ Some task
    → ((fault ≡ faults.Line) × CannotVerify rows)
    ⊎ (inputs_fault task (files_in rows) (names_file_in rows) (out_in rows) ≡ Err fault)
    → IsJobBy name rows (Err fault)
named-refused task name rows faults.Help is why = grind arith
named-refused task name rows faults.Line is (inl why) = inr (inr (inr (inr (inr (inr (inl why.1))))))
named-refused task name rows faults.Line is (inr why) = inr (inr (inr (inr (inr (inr (inr (task, is, why)))))))
named-refused task name rows faults.Files is why = grind arith
named-refused task name rows faults.Input is why = grind arith
named-refused task name rows faults.Output is why = grind arith
named-refused task name rows faults.Memory is why = tt
