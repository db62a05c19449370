-- The totals of a run are sums over its items, and so over the files.
use Rattle.std.proofs.Common.{◌≡◌, ℕ, ◌+◌, List, [], ◌∷◌, length, map, refl, sym, ap, ◌∙◌, subst, arith, None}
use Rattle.std.specs.List.{AllByRecursion, flat_map, sum_by}
use Rattle.std.proofs.lemmas.List.Sorted.{sum_by-IsPermutation}
use Rattle.std.proofs.lemmas.List.Sums.{sum_by-append, sum_by-cons}
use Rattle.cap_bytes.specs.declared.faults.Tail.{Tail}
use Rattle.cap_class.specs.Taken.{Taken}
use Rattle.cap_merge.specs.Files.{clocked_run, items_of_files, run_of_files}
use Rattle.cap_merge.specs.Run.{Clocked}
use Rattle.cap_merge.specs.inner.Lists.{all-front, all-back}
use Rattle.cap_source.specs.Feed.{Item, packet, refused, refusal_of}
use Rattle.cap_source.specs.Items.{file_items}
use Rattle.cap_talks.specs.table.TakenText.{taken_bytes, truncated_of}
use Rattle.cap_class.specs.Runs.{taken_after, with_item}
use Rattle.std.specs.Prelude.{nat_lt, if◌then◌else◌}
use Rattle.cap_laws.proofs.FileNumbers.{file-numbered}
use Rattle.cap_laws.proofs.MergeSorts.{NotRefused, whole-run}
use Rattle.cap_laws.proofs.OneFile.{run-one}
use Rattle.cap_laws.specs.Totals.{ReportTotals}
use Rattle.cap_laws.specs.again.Rounds.{in_file}

-- what counts the packets that were taken, and what each item adds to it, under every number of its file
pub record IsSum (count : List Taken → ℕ) (adds : Item → ℕ) : Type 0 where
  pub none : count [] ≡ 0
  pub step : (x : Clocked Item) (xs : List Taken) → count (with_item x.clock x.item xs) ≡ count xs + adds x.item
  pub numbered : (file : ℕ) (x : Item) → adds (in_file file x) ≡ adds x

taken_sum : (count : List Taken → ℕ) (adds : Item → ℕ) → IsSum count adds → (xs : List Taken)
    (run : List (Clocked Item))
    → count (taken_after xs run) ≡ count xs + sum_by adds (map (λ x. x.item) run)
unfolding taken_after
taken_sum count adds is xs [] = omega arith
taken_sum count adds is xs (x ∷ run) =
    omega (
      arith,
      taken_sum count adds is (with_item x.clock x.item xs) run,
      is.step x xs,
      sum_by-cons adds x.item (map (λ x. x.item) run),
    )

-- of a whole run
run_sum : (count : List Taken → ℕ) (adds : Item → ℕ) → IsSum count adds → (tail : Tail) (files : List (List ℕ))
    → count (taken_after [] (clocked_run tail files)) ≡ sum_by adds (run_of_files tail files)
unfolding run_of_files
run_sum count adds is tail files =
    let all : count (taken_after [] (clocked_run tail files)) ≡ count [] + sum_by adds (run_of_files tail files) =
    taken_sum count adds is [] (clocked_run tail files) in
    omega (arith, all, is.none)

-- ---- a file alone

none-numbered : (file : ℕ) (xs : List Item) → AllByRecursion NotRefused (map (in_file file) xs) → refusal_of xs ≡ None
unfolding refusal_of
none-numbered file [] h = refl
none-numbered file (packet meta frame ∷ xs) h = none-numbered file xs h.1
none-numbered file (refused refusal ∷ xs) h = grind (arith, h.0)

sum-numbered : (adds : Item → ℕ) → ((file : ℕ) (x : Item) → adds (in_file file x) ≡ adds x) → (file : ℕ)
    (xs : List Item) → sum_by adds (map (in_file file) xs) ≡ sum_by adds xs
sum-numbered adds same file [] = refl
sum-numbered adds same file (x ∷ xs) =
    sum_by-cons adds (in_file file x) (map (in_file file) xs)
    ∙ (λ i. same file x i + sum-numbered adds same file xs i)
    ∙ sym (sum_by-cons adds x xs)

alone : (count : List Taken → ℕ) (adds : Item → ℕ) → IsSum count adds → (tail : Tail) (file : ℕ) (bytes : List ℕ)
    → AllByRecursion NotRefused (file_items tail file bytes)
    → sum_by adds (file_items tail file bytes) ≡ count (taken_after [] (clocked_run tail (bytes ∷ [])))
unfolding run_of_files
alone count adds is tail file bytes h =
    let numbered = file-numbered tail file 1 bytes in
    let none : refusal_of (file_items tail 1 bytes) ≡ None =
    none-numbered file (file_items tail 1 bytes) (subst (AllByRecursion NotRefused) numbered h) in
    ap (sum_by adds) numbered
    ∙ sum-numbered adds is.numbered file (file_items tail 1 bytes)
    ∙ ap (sum_by adds) (sym (run-one (file_items tail 1 bytes) none))
    ∙ sym (run_sum count adds is tail (bytes ∷ []))

each_alone : (count : List Taken → ℕ) (adds : Item → ℕ) → IsSum count adds → (tail : Tail) (file : ℕ)
    (files : List (List ℕ))
    → AllByRecursion NotRefused (flat_map (λ items. items) (items_of_files tail file files))
    → sum_by adds (flat_map (λ items. items) (items_of_files tail file files))
    ≡ sum_by count (map (λ bytes. taken_after [] (clocked_run tail (bytes ∷ []))) files)
each_alone count adds is tail file [] h = refl
each_alone count adds is tail file (bytes ∷ files) h =
    let items = file_items tail file bytes in
    let others = flat_map (λ items. items) (items_of_files tail (file + 1) files) in
    let report : List ℕ → List Taken = λ bytes. taken_after [] (clocked_run tail (bytes ∷ [])) in
    sum_by-append adds items others
    ∙ (λ i. alone count adds is tail file bytes (all-front NotRefused items others h) i
    + each_alone count adds is tail (file + 1) files (all-back NotRefused items others h) i)
    ∙ sym (sum_by-cons count (report bytes) (map report files))

-- over all files it is the sum of what it is over each
pub adds_up : (count : List Taken → ℕ) (adds : Item → ℕ) → IsSum count adds → (tail : Tail) (files : List (List ℕ))
    → refusal_of (run_of_files tail files) ≡ None
    → count (taken_after [] (clocked_run tail files))
    ≡ sum_by count (map (λ bytes. taken_after [] (clocked_run tail (bytes ∷ []))) files)
adds_up count adds is tail files none =
    let all = flat_map (λ items. items) (items_of_files tail 1 files) in
    let run = whole-run tail files none in
    run_sum count adds is tail files
    ∙ sum_by-IsPermutation adds all (run_of_files tail files) run.same
    ∙ each_alone count adds is tail 1 files run.accepted

-- ---- the totals

one_packet : Item → ℕ
one_packet (packet meta frame) = 1
one_packet (refused refusal) = 0

one_length : Item → ℕ
one_length (packet meta frame) = meta.original
one_length (refused refusal) = 0

one_part : Item → ℕ
one_part (packet meta frame) = if nat_lt (length frame) meta.original then 1 else 0
one_part (refused refusal) = 0

packet_step : (x : Clocked Item) (i : Item) (xs : List Taken)
    → length (with_item x.clock i xs) ≡ length xs + one_packet i
unfolding one_packet
packet_step x (packet meta frame) xs = omega arith
packet_step x (refused refusal) xs = omega arith

length_step : (x : Clocked Item) (i : Item) (xs : List Taken)
    → taken_bytes (with_item x.clock i xs) ≡ taken_bytes xs + one_length i
unfolding one_length
length_step x (packet meta frame) xs = refl
length_step x (refused refusal) xs = omega arith

part_step : (x : Clocked Item) (i : Item) (xs : List Taken)
    → truncated_of (with_item x.clock i xs) ≡ truncated_of xs + one_part i
unfolding one_part
part_step x (packet meta frame) xs = refl
part_step x (refused refusal) xs = omega arith

packet_numbered : (file : ℕ) (x : Item) → one_packet (in_file file x) ≡ one_packet x
unfolding one_packet
packet_numbered file (packet meta frame) = refl
packet_numbered file (refused refusal) = refl

length_numbered : (file : ℕ) (x : Item) → one_length (in_file file x) ≡ one_length x
unfolding one_length
length_numbered file (packet meta frame) = refl
length_numbered file (refused refusal) = refl

part_numbered : (file : ℕ) (x : Item) → one_part (in_file file x) ≡ one_part x
unfolding one_part
part_numbered file (packet meta frame) = refl
part_numbered file (refused refusal) = refl

pub totals-law : ReportTotals
totals-law tail files none =
    record {
      packets = adds_up length one_packet
          (record { none = refl; step = λ x. packet_step x x.item; numbered = packet_numbered }) tail files none;
      bytes = adds_up taken_bytes one_length
          (record { none = refl; step = λ x. length_step x x.item; numbered = length_numbered }) tail files none;
      truncated = adds_up truncated_of one_part
          (record { none = refl; step = λ x. part_step x x.item; numbered = part_numbered }) tail files none;
    }
