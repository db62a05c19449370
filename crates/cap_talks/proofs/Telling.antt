-- The text of files that were counted, and a text that is written after everything that can be refused.
use Rattle.std.proofs.Common.{◌≡◌, ◌+◌, ℕ, suc, List, [], ◌∷◌, ◌++◌, length, IsOkUnless, refl, ap, arith, Option, None}
use Rattle.std.proofs.Common.{Bool, Err, Ok, Result, subst}
use Rattle.std.specs.Result.{result_and}
use Rattle.cap_bytes.specs.Printing.{Prints, is_write}
use Rattle.cap_bytes.specs.declared.faults.Fault.{Fault}
use Rattle.cap_bytes.specs.declared.faults.Fault.TheVariants.{Memory, Read, Refused, Write}
use Rattle.cap_bytes.specs.declared.faults.Refusal.{Refusal}
use Rattle.cap_bytes.specs.declared.faults.Tail.{Tail}
use Rattle.cap_print.specs.Facts.{line_in}
use Rattle.cap_print.specs.declared.forms.Form.{Form}
use Rattle.cap_talks.specs.counts.FileLines.{files_facts, counted_texts_in}
use Rattle.cap_talks.specs.declared.counts.files.Counted.{Counted}
use Rattle.cap_talks.specs.talks.InfoText.{file_texts_in, first_refusal, info_text_in}
use Rattle.cap_source.specs.ReadFaults.{FailsOf}
use Rattle.cap_talks.specs.talks.Reading.{FailsFirst, counted_files}
use Rattle.cap_talks.specs.talks.Telling.{Tells}

-- the lines of what was counted of files are those of the files
pub texts-counted : (form : Form) (tail : Tail) (file : ℕ) (files : List (List ℕ))
    → counted_texts_in form file (counted_files tail file files) ≡ file_texts_in form tail file files
texts-counted form tail file [] = refl
texts-counted form tail file (bytes ∷ files) = cc (texts-counted form tail (file + 1) files)

files-counted : (tail : Tail) (file : ℕ) (files : List (List ℕ)) → length (counted_files tail file files) ≡ length files
files-counted tail file [] = refl
files-counted tail file (bytes ∷ files) = ap suc (files-counted tail (file + 1) files)

pub info-counted : (form : Form) (tail : Tail) (files : List (List ℕ)) (all : List Counted)
    → all ≡ counted_files tail 1 files
    → line_in form (files_facts (length all)) ++ counted_texts_in form 1 all ≡ info_text_in form tail files
info-counted form tail files all is = grind (arith, files-counted, texts-counted)

-- what a call returns that is done, and answers nothing
abbrev pub done : Result (Unit {0}) Fault
done = Ok tt

-- what a call returns without its answer says the same of the text, of the writer and of reads
pub tells-and : {A : Type 0} (text : List ℕ) (refusal : Option Refusal) (old new : List ℕ) (answer : Result A Fault)
    → Tells text refusal old answer new → Tells text refusal old (result_and answer done) new
tells-and text refusal old new (Ok it) t = t
tells-and text refusal old new (Err (Refused r)) t = t
tells-and text refusal old new (Err (Read file offset)) t = t
tells-and text refusal old new (Err Write) t = t
tells-and text refusal old new (Err Memory) t = t

pub is-write-and : {A : Type 0} (answer : Result A Fault)
    → is_write (result_and answer done) ≡ is_write answer
is-write-and (Ok it) = refl
is-write-and (Err (Refused r)) = refl
is-write-and (Err (Read file offset)) = refl
is-write-and (Err Write) = refl
is-write-and (Err Memory) = refl

pub fails-and : {A : Type 0} (can_fail : List Bool) (answer : Result A Fault) → FailsOf can_fail answer
    → FailsOf can_fail (result_and answer done)
fails-and can_fail (Ok it) f = tt
fails-and can_fail (Err (Refused r)) f = f
fails-and can_fail (Err (Read file offset)) f = f
fails-and can_fail (Err Write) f = f
fails-and can_fail (Err Memory) f = f

pub fails-first-and : {A : Type 0} (tail : Tail) (files : List (List ℕ)) (answer : Result A Fault)
    → FailsFirst tail files answer → FailsFirst tail files (result_and answer done)
fails-first-and tail files (Ok it) f = tt
fails-first-and tail files (Err (Refused r)) f = f
fails-first-and tail files (Err (Read file offset)) f = f
fails-first-and tail files (Err Write) f = f
fails-first-and tail files (Err Memory) f = f

-- a fault of one call that is another's
pub tells-fault : (A B : Type 0) (text : List ℕ) (refusal : Option Refusal) (old new : List ℕ) (fault : Fault)
    → Tells {A = A} text refusal old (Err fault) new → Tells {A = B} text refusal old (Err fault) new
tells-fault A B text refusal old new (Refused r) t = t
tells-fault A B text refusal old new (Read file offset) t = t
tells-fault A B text refusal old new Write t = t
tells-fault A B text refusal old new Memory t = t

-- a text that is written after everything that can be refused
pub tells-printed : (text : List ℕ) (refusal : Option Refusal) (old : List ℕ) (result : Result (Unit {0}) Fault)
    (new : List ℕ) → refusal ≡ None
    → IsOkUnless result Write → Prints text None old result new → Tells text refusal old result new
tells-printed text refusal old result new none fault p = grind arith

-- the lines of files that were counted are written
pub tells-counted : (form : Form) (tail : Tail) (files : List (List ℕ)) (all : List Counted)
    (result : Result (Unit {0}) Fault) (old new : List ℕ)
    → (first_refusal tail 1 files ≡ None) × (all ≡ counted_files tail 1 files) → IsOkUnless result Write
    → Prints (line_in form (files_facts (length all)) ++ counted_texts_in form 1 all) None old result new
    → Tells (info_text_in form tail files) (first_refusal tail 1 files) old result new
tells-counted form tail files all result old new counts fault p =
    tells-printed (info_text_in form tail files) (first_refusal tail 1 files) old result new counts.0 fault
    (subst (λ l. Prints l None old result new) (info-counted form tail files all counts.1) p)
