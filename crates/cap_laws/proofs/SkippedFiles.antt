-- `info` and `report` without the files that are refused.
use Rattle.std.proofs.Common.{◌≡◌, ◌⊎◌, ◌∙◌, ◌<◌, ◌+◌, ℕ, List, [], ◌∷◌, ◌++◌, length, map, Bool, true, false, Option}
use Rattle.std.proofs.Common.{Some, None, Result, Ok, Err, IfOk, IsTrue, inl, inr, refl, sym, ap, arith}
use Rattle.std.proofs.Common.{append-nil}
use Rattle.std.proofs.lemmas.List.{length-map}
use Rattle.std.specs.Prelude.{is_some}
use Rattle.std.specs.List.{AllByRecursion}
use Rattle.cap_bytes.specs.declared.faults.Fault.{Fault}
use Rattle.cap_bytes.specs.declared.faults.Refusal.{Refusal}
use Rattle.cap_bytes.specs.declared.faults.Tail.{Tail}
use Rattle.cap_bytes.specs.declared.numbers.Order.{Order}
use Rattle.cap_check.specs.Checking.{Opened}
use Rattle.cap_commands.specs.Jobs.{Does, DoesTask, Finds, FindsTask, JobShows, form_by, found_in, job_shows, output_of}
use Rattle.cap_commands.specs.Jobs.{tail_of}
use Rattle.cap_commands.specs.declared.counting.OutputFormat.{OutputFormat}
use Rattle.cap_commands.specs.Left.{done_of}
use Rattle.cap_commands.specs.Skipping.{is_any_refused, kept_of, left_out_lines, refusals_from}
use Rattle.cap_commands.specs.declared.jobs.Finding.{Finding}
use Rattle.cap_commands.specs.declared.jobs.Finding.TheVariants.{Difference, NotWhole, Nothing}
use Rattle.cap_commands.specs.declared.left.DroppedInfo.{DroppedInfo}
use Rattle.cap_laws.proofs.FileNumbers.{file-numbered}
use Rattle.cap_laws.specs.SkippedFiles.{KeepsWhole, SkipsAsOthers, job_text, printed_text, whole_files}
use Rattle.cap_laws.specs.again.Rounds.{in_file}
use Rattle.cap_line.specs.Jobs.{is_skipping}
use Rattle.cap_line.specs.declared.jobs.Ignored.{Ignored}
use Rattle.cap_line.specs.declared.jobs.Job.{Job}
use Rattle.cap_line.specs.declared.jobs.Task.{Task}
use Rattle.cap_line.specs.declared.jobs.Task.TheVariants as tasks
use Rattle.cap_print.specs.declared.forms.Form.{Form}
use Rattle.cap_source.specs.Feed.{Item, packet, refused, refusal_of}
use Rattle.cap_source.specs.Items.{file_items}
use Rattle.cap_talks.specs.talks.InfoText.{first_refusal}
use Rattle.cap_tool.specs.Runs.{EndsBy, RunsJob, RunsRest, SkipsJob, ended_as}
use Rattle.cap_tool.specs.Skipped.{AreRefusals, ended_skipping}
use Rattle.cap_tool.specs.declared.outcomes.Outcome.{Outcome}
use Rattle.cap_tool.specs.declared.outcomes.Outcome.TheVariants as outcomes
use Rattle.cap_tool.specs.declared.outcomes.RunStop.{RunStop}

-- ---- the number of a file doesn't say whether it is refused

none-numbered : (file : ℕ) (items : List Item) → refusal_of items ≡ None → refusal_of (map (in_file file) items) ≡ None
unfolding refusal_of
none-numbered file [] is = refl
none-numbered file (packet meta frame ∷ items) is = none-numbered file items is
none-numbered file (refused refusal ∷ items) is = absurd (cc)

not-refused : (tail : Tail) (n m : ℕ) (bytes : List ℕ) → refusal_of (file_items tail n bytes) ≡ None
    → refusal_of (file_items tail m bytes) ≡ None
not-refused tail n m bytes is =
    ap refusal_of (file-numbered tail m n bytes) ∙ none-numbered m (file_items tail n bytes) is

-- ---- what is kept

kept-by : (tail : Tail) (n m : ℕ) (bytes : List ℕ) (files : List (List ℕ)) (refusal : Option Refusal)
    → refusal ≡ refusal_of (file_items tail n bytes)
    → ((m : ℕ) → first_refusal tail m (kept_of (refusals_from tail (n + 1) files) files) ≡ None)
    → first_refusal tail m (kept_of (refusal ∷ refusals_from tail (n + 1) files) (bytes ∷ files)) ≡ None
kept-by tail n m bytes files None is rest =
    let here = not-refused tail n m bytes (sym is) in
    rw here (rest (m + 1))
kept-by tail n m bytes files (Some r) is rest = rest m

-- no file that is kept is refused
kept-whole : (tail : Tail) (n m : ℕ) (files : List (List ℕ))
    → first_refusal tail m (kept_of (refusals_from tail n files) files) ≡ None
kept-whole tail n m [] = refl
kept-whole tail n m (bytes ∷ files) =
    kept-by tail n m bytes files (refusal_of (file_items tail n bytes)) refl (λ k. kept-whole tail (n + 1) k files)

-- files that aren't refused
all-kept : (form : Form) (tail : Tail) (n : ℕ) (files : List (List ℕ)) → first_refusal tail n files ≡ None
    → (is_any_refused (refusals_from tail n files) ≡ false) × (kept_of (refusals_from tail n files) files ≡ files)
    × (left_out_lines form (refusals_from tail n files) ≡ [])
all-kept form tail n [] is = (refl, refl, refl)
all-kept form tail n (bytes ∷ files) is =
    let here : refusal_of (file_items tail n bytes) ≡ None = grind arith in
    let rest : first_refusal tail (n + 1) files ≡ None = grind arith in
    let more = all-kept form tail (n + 1) files rest in
    rw here (more.0, ap (λ l. bytes ∷ l) more.1, more.2)

none-refused : (tail : Tail) (n : ℕ) (files : List (List ℕ)) → is_any_refused (refusals_from tail n files) ≡ false
    → first_refusal tail n files ≡ None
none-refused tail n [] is = refl
none-refused tail n (bytes ∷ files) is =
    let here : is_some (refusal_of (file_items tail n bytes)) ≡ false = grind arith in
    let rest : is_any_refused (refusals_from tail (n + 1) files) ≡ false = grind arith in
    let more = none-refused tail (n + 1) files rest in
    grind arith

pub keeps-whole : KeepsWhole
keeps-whole form tail files =
    (kept-whole tail 1 1 files, none-refused tail 1 files, all-kept form tail 1 files)

-- ---- the refusals that were found are those of the files' bytes

pub are-refusals : (tail : Tail) (n : ℕ) (files : List Opened) (refusals : List (Option Refusal))
    → AllByRecursion (λ file. IsTrue file.told) files → AreRefusals tail n files refusals
    → refusals ≡ refusals_from tail n (map (λ file. file.bytes) files)
are-refusals tail n [] [] told are = refl
are-refusals tail n [] (r ∷ refusals) told are = absurd are
are-refusals tail n (f ∷ files) [] told are = absurd are
are-refusals tail n (f ∷ files) (r ∷ refusals) told are =
    let here = are.0 told.0 in
    let rest = are-refusals tail (n + 1) files refusals told.1 are.1 in
    cc

kept-map : {A B : Type 0} (f : A → B) (refusals : List (Option Refusal)) (xs : List A)
    → map f (kept_of refusals xs) ≡ kept_of refusals (map f xs)
kept-map f [] xs = refl
kept-map f (r ∷ refusals) [] = refl
kept-map f (None ∷ refusals) (x ∷ xs) = ap (λ l. f x ∷ l) (kept-map f refusals xs)
kept-map f (Some r ∷ refusals) (x ∷ xs) = kept-map f refusals xs

-- if no file is kept, one is refused
none-kept : (tail : Tail) (n : ℕ) (files : List (List ℕ)) → 0 < length files
    → kept_of (refusals_from tail n files) files ≡ [] → is_any_refused (refusals_from tail n files) ≡ true
none-kept tail n [] some is = absurd (omega (arith, some))
none-kept tail n (bytes ∷ files) some is = by (refusal_of (file_items tail n bytes)) is
  where
    by : (r : Option Refusal) → kept_of (r ∷ refusals_from tail (n + 1) files) (bytes ∷ files) ≡ []
        → is_any_refused (r ∷ refusals_from tail (n + 1) files) ≡ true
    by None none = absurd (cc)
    by (Some r) none = refl

-- ---- what a job has written that is done, and how it ends

does-text : (task : Task) (ignored : Ignored) (tail : Tail) (form : Form) (shown : JobShows) (classed : Bool)
    (order : Order) (to : Option OutputFormat) (shares digests skips : Bool) (fails : List Bool) (files : List (List ℕ))
    (old new : List ℕ) → IsTrue (is_skipping task skips)
    → DoesTask task ignored tail form shown classed order to shares digests fails files Nothing old (Ok tt) new
    → new ≡ old ++ printed_text task form shown tail files
does-text tasks.List ignored tail form shown classed order to shares digests skips fails files old new is does =
    absurd (cc)
does-text tasks.Blocks ignored tail form shown classed order to shares digests skips fails files old new is does =
    absurd (cc)
does-text tasks.Diff ignored tail form shown classed order to shares digests skips fails files old new is does =
    absurd (cc)
does-text tasks.Digest ignored tail form shown classed order to shares digests skips fails files old new is does =
    absurd (cc)
does-text tasks.Check ignored tail form shown classed order to shares digests skips fails files old new is does =
    absurd (cc)
does-text tasks.Info ignored tail form shown classed order to shares digests skips fails files old new is does = does.1
does-text tasks.Report ignored tail form shown classed order to shares digests skips fails files old new is does =
    does.1
does-text tasks.Convert ignored tail form shown classed order to shares digests skips fails files old new is does =
    absurd (cc)
does-text tasks.Merge ignored tail form shown classed order to shares digests skips fails files old new is does =
    absurd (cc)
does-text tasks.Join ignored tail form shown classed order to shares digests skips fails files old new is does =
    absurd (cc)

finds-nothing : (task : Task) (ignored : Ignored) (tail : Tail) (skips : Bool) (files : List (List ℕ)) (found : Finding)
    → IsTrue (is_skipping task skips) → FindsTask task ignored tail files found → found ≡ Nothing
finds-nothing tasks.List ignored tail skips files found is finds = absurd (cc)
finds-nothing tasks.Blocks ignored tail skips files found is finds = absurd (cc)
finds-nothing tasks.Diff ignored tail skips files found is finds = absurd (cc)
finds-nothing tasks.Digest ignored tail skips files found is finds = absurd (cc)
finds-nothing tasks.Check ignored tail skips files found is finds = absurd (cc)
finds-nothing tasks.Info ignored tail skips files found is finds = finds
finds-nothing tasks.Report ignored tail skips files found is finds = finds
finds-nothing tasks.Convert ignored tail skips files found is finds = absurd (cc)
finds-nothing tasks.Merge ignored tail skips files found is finds = absurd (cc)
finds-nothing tasks.Join ignored tail skips files found is finds = absurd (cc)

module _ (job : Job) (skips : IsTrue (is_skipping job.task job.skips)) (fails : List Bool) (files : List (List ℕ))
    (old : List ℕ) (done : Result DroppedInfo RunStop) (new waiting : List ℕ) where
  ran-by : (answer : Result Finding Fault) → Does job fails files (found_in answer) old (done_of answer) new
      → EndsBy answer waiting done → ended_as done ≡ Ok tt
      → new ≡ old ++ printed_text job.task (form_by job.json job.time) (job_shows job)
      (tail_of job.allow_cut) files
  ran-by (Ok Nothing) does ends ok =
      does-text job.task job.ignored (tail_of job.allow_cut) (form_by job.json job.time) (job_shows job) job.class
      job.order (output_of job) job.shares job.digests job.skips fails files old new skips does
  ran-by (Ok Difference) does (inl e) ok = absurd (cc)
  ran-by (Ok Difference) does (inr e) ok = absurd (cc)
  ran-by (Ok NotWhole) does (inl e) ok = absurd (cc)
  ran-by (Ok NotWhole) does (inr e) ok = absurd (cc)
  ran-by (Err fault) does (inl e) ok = absurd (cc)
  ran-by (Err fault) does (inr e) ok = absurd (cc)

  ran-text : RunsJob job fails files old done new waiting → ended_as done ≡ Ok tt
      → new ≡ old ++ printed_text job.task (form_by job.json job.time) (job_shows job)
      (tail_of job.allow_cut) files
  ran-text ran ok = ran-by ran.answer ran.does ran.ends ok

  whole-by : (answer : Result Finding Fault) → IfOk answer (Finds job files) → EndsBy answer waiting done
      → ended_as done ≡ Err outcomes.NotWhole → ⊥
  whole-by (Ok Nothing) finds (inl e) is = cc
  whole-by (Ok Nothing) finds (inr e) is = cc
  whole-by (Ok Difference) finds (inl e) is = cc
  whole-by (Ok Difference) finds (inr e) is = cc
  whole-by (Ok NotWhole) finds ends is =
      let none = finds-nothing job.task job.ignored (tail_of job.allow_cut) job.skips files NotWhole skips finds in cc
  whole-by (Err fault) finds (inl e) is = cc
  whole-by (Err fault) finds (inr e) is = cc

-- how a run ended whose job ended so
done-ok : (refusals : List (Option Refusal)) (done : Result (Unit {0}) Outcome)
    → Ok tt ≡ ended_skipping refusals done → (done ≡ Ok tt) × (is_any_refused refusals ≡ false)
done-ok refusals done is = grind arith

done-left : (refusals : List (Option Refusal)) (done : Result (Unit {0}) Outcome)
    → Err outcomes.NotWhole ≡ ended_skipping refusals done
    → ((done ≡ Ok tt) × (is_any_refused refusals ≡ true)) ⊎ (done ≡ Err outcomes.NotWhole)
done-left refusals done is = grind arith

module _ (job : Job) (skips : IsTrue (is_skipping job.task job.skips)) (refusals : List (Option Refusal))
    (fails : List Bool) (old : List ℕ) (ended : Result DroppedInfo RunStop) (new waiting : List ℕ) where
  rest-ok : (kept : List (List ℕ)) → RunsRest job refusals fails kept old ended new waiting → ended_as ended ≡ Ok tt
      → (is_any_refused refusals ≡ false) × (new ≡ old ++ job_text job kept)
  rest-ok [] (written, inl e) ok = absurd (cc)
  rest-ok [] (written, inr e) ok = absurd (cc)
  rest-ok (bytes ∷ files) ran ok =
      let is = done-ok refusals (ended_as ran.done) (sym ok ∙ ran.ends) in
      (is.1, ran-text job skips fails (bytes ∷ files) old ran.done new waiting ran.runs is.0)

  rest-left : (kept : List (List ℕ)) → RunsRest job refusals fails kept old ended new waiting
      → ended_as ended ≡ Err outcomes.NotWhole
      → ((kept ≡ []) ⊎ (is_any_refused refusals ≡ true)) × (new ≡ old ++ job_text job kept)
  rest-left [] ran left = (inl refl, ran.0 ∙ sym (append-nil old))
  rest-left (bytes ∷ files) ran left = by (done-left refusals (ended_as ran.done) (sym left ∙ ran.ends))
    where
      by : ((ended_as ran.done ≡ Ok tt) × (is_any_refused refusals ≡ true))
          ⊎ (ended_as ran.done ≡ Err outcomes.NotWhole)
          → ((bytes ∷ files ≡ []) ⊎ (is_any_refused refusals ≡ true)) × (new ≡ old ++ job_text job (bytes ∷ files))
      by (inl is) =
          (inr is.1, ran-text job skips fails (bytes ∷ files) old ran.done new waiting ran.runs is.0)
      by (inr is) = absurd (whole-by job skips fails (bytes ∷ files) old ran.done new waiting ran.runs.answer
          ran.runs.finds ran.runs.ends is)

module _ (job : Job) (skips : IsTrue (is_skipping job.task job.skips)) (refusals : List (Option Refusal))
    (bytes : List (List ℕ)) (all : refusals ≡ refusals_from (tail_of job.allow_cut) 1 bytes) (kept : List (List ℕ))
    (kept_are : kept ≡ whole_files (tail_of job.allow_cut) bytes) (fails : List Bool) (old : List ℕ)
    (ended : Result DroppedInfo RunStop) (new waiting : List ℕ) where
  abbrev lines : List ℕ
  lines = left_out_lines (form_by job.json job.time) refusals

  by-ok : SkipsJob job refusals fails kept old ended new waiting → ended_as ended ≡ Ok tt
      → (is_any_refused refusals ≡ false) × (new ≡ old ++ job_text job bytes)
  by-ok (inl wrote) ok = absurd (let e = wrote.1 in cc)
  by-ok (inr rest) ok =
      let tail = tail_of job.allow_cut in
      let is = rest-ok job skips refusals fails (old ++ lines) ended new waiting kept rest ok in
      let none = none-refused tail 1 bytes (ap is_any_refused (sym all) ∙ is.0) in
      let whole = all-kept (form_by job.json job.time) tail 1 bytes none in
      let no_lines : lines ≡ [] = ap (left_out_lines (form_by job.json job.time)) all ∙ whole.2 in (
        is.0,
        is.1 ∙ (ap (λ l. (old ++ l) ++ job_text job kept) no_lines
            ∙ (ap (λ l. l ++ job_text job kept) (append-nil old)
            ∙ ap (λ k. old ++ job_text job k) (kept_are ∙ whole.1))),
      )

  any : 0 < length bytes → (kept ≡ []) ⊎ (is_any_refused refusals ≡ true) → is_any_refused refusals ≡ true
  any some (inl none) =
      ap is_any_refused all ∙ none-kept (tail_of job.allow_cut) 1 bytes some (sym kept_are ∙ none)
  any some (inr is) = is

  by-left : 0 < length bytes → SkipsJob job refusals fails kept old ended new waiting
      → ended_as ended ≡ Err outcomes.NotWhole
      → (is_any_refused refusals ≡ true)
      × (new ≡ old ++ lines ++ job_text job (whole_files (tail_of job.allow_cut) bytes))
  by-left some (inl wrote) left = absurd (let e = wrote.1 in cc)
  by-left some (inr rest) left =
      let is = rest-left job skips refusals fails (old ++ lines) ended new waiting kept rest left in (
        any some is.0,
        is.1 ∙ ap (λ k. old ++ lines ++ job_text job k) kept_are,
      )

pub skips-as-others : SkipsAsOthers
skips-as-others job files refusals old ended new waiting skips some told are ran =
    let bytes = map (λ file. file.bytes) files in
    let all : refusals ≡ refusals_from (tail_of job.allow_cut) 1 bytes =
    are-refusals (tail_of job.allow_cut) 1 files refusals told are in
    let kept = map (λ file. file.bytes) (kept_of refusals files) in
    let kept_are : kept ≡ whole_files (tail_of job.allow_cut) bytes =
    kept-map (λ file. file.bytes) refusals files ∙ ap (λ r. kept_of r bytes) all in
    let fails = map (λ file. file.can_fail) (kept_of refusals files) in
    let there : 0 < length bytes = omega (arith, some, length-map files (λ file. file.bytes)) in (
      all,
      λ ok. by-ok job skips refusals bytes all kept kept_are fails old ended new waiting ran ok,
      λ left. by-left job skips refusals bytes all kept kept_are fails old ended new waiting there ran left,
    )
