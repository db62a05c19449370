-- What is written of a merge of files of which nothing was read yet.
use Rattle.std.proofs.Common.{◌≡◌, ℕ, Bool, List, map, IsTrue, Result, Err, sym, ap, subst, ◌∙◌, append-nil}
use Rattle.std.specs.List.{list_all}
use Rattle.cap_bytes.specs.Printing.{Prints}
use Rattle.cap_bytes.specs.declared.faults.Fault.{Fault}
use Rattle.cap_bytes.specs.declared.faults.Fault.TheVariants.{Memory}
use Rattle.cap_bytes.specs.declared.faults.Tail.{Tail}
use Rattle.cap_bytes.specs.declared.numbers.Order.{Order}
use Rattle.cap_merge.proofs.Unread.{told-readers, bytes-readers, run-items}
use Rattle.cap_merge.specs.Files.{clocked_run}
use Rattle.cap_merge.specs.Parts.{Part, merged_feed, run_of}
use Rattle.cap_merge.specs.inner.Readers.{ReaderFacts, IsCountedRun}
use Rattle.cap_commands.specs.declared.counting.OutputFormat.{OutputFormat}
use Rattle.cap_commands.specs.JoinText.{join_text_in, join_refusal_in}
use Rattle.cap_commands.specs.MergeText.{merge_text_in, merge_refusal_in}
use Rattle.cap_commands.specs.declared.counting.RunForm.{RunForm}
use Rattle.cap_commands.specs.RunText.{datagrams_refusal, datagrams_text, packets_refusal, packets_text}

-- the packets of a merge, written
pub Prints-merged : {comments : Bool} {A : Type 0} (reader : A → ReaderFacts) (tail : Tail) (form : RunForm)
    (order : Order) (sources : List A) (ps : List Part)
    (held new : List ℕ) (result : Result (Unit {0}) Fault) → IsCountedRun comments tail (map reader sources) ps
    → (IsTrue (merged_feed ps).told → Prints (packets_text form order (merged_feed ps).items)
    (packets_refusal form (merged_feed ps).items) held result new)
    → IsTrue (list_all (λ s. (reader s).told) sources)
    → Prints (merge_text_in form order tail (map (λ s. (reader s).bytes) sources))
    (merge_refusal_in form tail (map (λ s. (reader s).bytes) sources)) held result new
Prints-merged reader tail form order sources ps held new result u prints t =
    subst (λ items. Prints (packets_text form order items) (packets_refusal form items) held result new)
    (run-items reader tail sources ps u) (prints (told-readers reader tail sources ps u t))

-- its datagrams, written
pub Prints-joined : {comments : Bool} {A : Type 0} (reader : A → ReaderFacts) (tail : Tail) (format : OutputFormat)
    (order : Order) (sources : List A) (ps : List Part)
    (held new : List ℕ) (result : Result (Unit {0}) Fault) → IsCountedRun comments tail (map reader sources) ps
    → (IsTrue (merged_feed ps).told → Prints (datagrams_text format order (run_of ps))
    (datagrams_refusal format (run_of ps)) held result new)
    → IsTrue (list_all (λ s. (reader s).told) sources)
    → Prints (join_text_in format order tail (map (λ s. (reader s).bytes) sources))
    (join_refusal_in format tail (map (λ s. (reader s).bytes) sources)) held result new
Prints-joined reader tail format order sources ps held new result u prints t =
    subst (λ run. Prints (datagrams_text format order run) (datagrams_refusal format run) held result new)
    (u.run ∙ ap (clocked_run tail) (bytes-readers reader sources)) (prints (told-readers reader tail sources ps u t))

-- what is written if there was no memory: nothing
pub Prints-nothing : (fault : Fault) (text : List ℕ) (refusal : _) (held : List ℕ) → fault ≡ Memory
    → Prints {A = Unit {0}} text refusal held (Err fault) held
Prints-nothing fault text refusal held is = rw is ((0, sym (append-nil held)))
