-- What a command makes at once is what is to be read.
use Rattle.std.proofs.Common.{◌≡◌, ◌++◌, [], ◌∷◌, List, ℕ, Bool, false, map, Some, Result, refl, sym, ap, subst}
use Rattle.std.proofs.Common.{append-nil}
use Rattle.cap_bytes.specs.declared.faults.Fault.{Fault}
use Rattle.cap_bytes.specs.declared.formats.Format.{Format}
use Rattle.cap_bytes.specs.declared.numbers.Order.{Order}
use Rattle.cap_commands.specs.Jobs.{DoesTask, finding_in, found_in, tail_of}
use Rattle.cap_commands.specs.Left.{done_of}
use Rattle.cap_commands.specs.RunText.{output_format}
use Rattle.cap_commands.specs.declared.jobs.Done.{Done}
use Rattle.cap_commands.specs.declared.jobs.Finding.{Finding}
use Rattle.capt_c.specs.Answers.{format_of, order_of}
use Rattle.capt_c.specs.Asking.{BeginsJob, DoesAsked, form_asked, never_failing, shows_asked}
use Rattle.capt_c.specs.JobEnds.{EndsAs}
use Rattle.capt_c.specs.JobRests.{JobRest, answer_by_end, found_by_end}
use Rattle.capt_c.specs.Sources.{rest_of}
use Rattle.capt_c.specs.declared.job_ends.JobEnd.{JobEnd}
use Rattle.capt_c.specs.declared.job_options.Asked.{Asked}
use Rattle.capt_c.specs.declared.sources.Slice.{Slice}

falses : (sources : List Slice) → map (λ _. false) sources ≡ never_failing (map rest_of sources)
falses [] = refl
falses (source ∷ sources) = ap (λ (bs : List Bool). false ∷ bs) (falses sources)

-- what the command does that is asked for that, with an order and a format
abbrev pub DoesWith : Asked → Order → Format → List Bool → List (List ℕ) → Finding → List ℕ → Result Unit Fault → List ℕ
    → Type 0
DoesWith asked order format fails files =
    DoesTask asked.task asked.flags.ignored (tail_of asked.flags.common.allow_cut) (form_asked asked)
    (shows_asked asked) asked.flags.class order (Some (output_format format asked.unit)) asked.flags.shares
    asked.flags.digests fails files

pub begins-whole : (asked : Asked) (order : Order) (format : Format) (sources : List Slice) (files : List (List ℕ))
    (answer : Result Done Fault) (end : JobEnd) (old held made : List ℕ) (rest : JobRest)
    → order ≡ order_of asked.flags.common.big → format ≡ format_of asked.flags.common.to_pcap
    → map rest_of sources ≡ files → EndsAs answer end → old ≡ [] → made ≡ held
    → rest ≡ record { text = made ++ []; end = end }
    → DoesWith asked order format (map (λ _. false) sources) (map rest_of sources) (found_in (finding_in answer)) old
    (done_of (finding_in answer)) held
    → BeginsJob asked files rest
begins-whole asked order format sources files answer end old held made rest o f from ends fresh is rests does =
    let rs = map rest_of sources in
    let found = found_in (finding_in answer) in
    let done = done_of (finding_in answer) in
    let a = subst (λ (x : Order). DoesWith asked x format (map (λ _. false) sources) rs found old done held) o does in
    let b = subst (λ (x : Format). DoesWith asked (order_of asked.flags.common.big) x (map (λ _. false) sources) rs
    found old done held) f a in
    let c = subst (λ (x : List Bool). DoesWith asked (order_of asked.flags.common.big)
    (format_of asked.flags.common.to_pcap) x rs found old done held) (falses sources) b in
    let d = subst (λ (x : List (List ℕ)). DoesAsked asked x found old done held) from c in
    let e = subst (λ (x : Finding). DoesAsked asked files x old done held) ends.found d in
    let g = subst (λ (x : List ℕ). DoesAsked asked files (found_by_end end) x done held) fresh e in
    let h = subst (λ (x : Result Unit Fault). DoesAsked asked files (found_by_end end) [] x held) ends.done g in
    let i = subst (λ (x : List ℕ). DoesAsked asked files (found_by_end end) [] (answer_by_end end) x) (sym is) h in
    let j = subst (λ (x : List ℕ). DoesAsked asked files (found_by_end end) [] (answer_by_end end) x)
    (sym (append-nil made)) i in
    subst (λ (r : JobRest). DoesAsked asked files (found_by_end r.end) [] (answer_by_end r.end) r.text) (sym rests) j
