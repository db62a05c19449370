-- The refusals of files, found one after another.
use Rattle.std.proofs.Common.{◌≡◌, ◌∙◌, ◌<◌, ◌≤◌, ◌+◌, ℕ, List, [], ◌∷◌, ◌++◌, length, map, get_or, Bool, Option, Some}
use Rattle.std.proofs.Common.{None, Ok, IsTrue, refl, ap, sym, subst, arith, length-append}
use Rattle.std.specs.Borrow.{Bor}
use Rattle.std.proofs.lemmas.List.{length-map, map-append}
use Rattle.cap_bytes.specs.declared.faults.Refusal.{Refusal}
use Rattle.cap_bytes.specs.declared.faults.Tail.{Tail}
use Rattle.cap_check.specs.Checking.{Opened}
use Rattle.cap_commands.specs.Skipping.{FindsRefusal, kept_of}
use Rattle.cap_line.specs.Jobs.{is_skipping, most_files}
use Rattle.cap_line.specs.declared.jobs.Task.{Task}
use Rattle.cap_tool.specs.CheckedNames.{AreGiven}
use Rattle.cap_tool.specs.Skipped.{AreRefusals, FindsAt, FindsRefusals}
use Rattle.cap_tool.proofs.CheckedFiles.{AreGiven-more}

-- the refusal of one file more
AreRefusals-more : (tail : Tail) (file : ℕ) (files : List Opened) (refusals : List (Option Refusal)) (opened : Opened)
    (refusal : Option Refusal) → AreRefusals tail file files refusals
    → FindsRefusal tail (file + length files) opened (Ok refusal)
    → AreRefusals tail file (files ++ opened ∷ []) (refusals ++ refusal ∷ [])
AreRefusals-more tail file [] [] opened refusal are one =
    (subst (λ (n : ℕ). FindsRefusal tail n opened (Ok refusal)) (omega arith) one, tt)
AreRefusals-more tail file [] (r ∷ refusals) opened refusal are one = absurd are
AreRefusals-more tail file (f ∷ files) [] opened refusal are one = absurd are
AreRefusals-more tail file (f ∷ files) (r ∷ refusals) opened refusal are one = (
  are.0,
  AreRefusals-more tail (file + 1) files refusals opened refusal are.1
      (subst (λ (n : ℕ). FindsRefusal tail n opened (Ok refusal)) (omega arith) one),
)

-- The refusals of the first files of some names were found.
pub record AreFound {R : Type 0} (gives : List ℕ → Option R → Type 0) (known : R → Opened) (tail : Tail)
    (names : List (List ℕ)) (place : ℕ) (refusals : List (Option Refusal)) : Type 0 where
  pub readers : List R
  pub opened : AreGiven gives names (map Some readers)
  pub count : length readers ≡ place
  pub found : AreRefusals tail 1 (map known readers) refusals

-- none was
pub found-none : {R : Type 0} (gives : List ℕ → Option R → Type 0) (known : R → Opened) (tail : Tail)
    (names : List (List ℕ)) → AreFound gives known tail names 0 []
found-none gives known tail names = record { readers = []; opened = tt; count = refl; found = tt }

-- one more is
pub found-more : {R : Type 0} (gives : List ℕ → Option R → Type 0) (known : R → Opened) (tail : Tail)
    (names : List (List ℕ)) (place : ℕ) (refusals more : List (Option Refusal)) (refusal : Option Refusal)
    → place < length names → AreFound gives known tail names place refusals
    → FindsAt gives known tail names place (Ok refusal) → more ≡ refusals ++ refusal ∷ []
    → AreFound gives known tail names (place + 1) more
found-more gives known tail names place refusals more refusal within a at is =
    let reader = at.0 in
    let same : length (map Some a.readers) ≡ place = length-map a.readers Some ∙ a.count in
    let number : place + 1 ≡ 1 + length (map known a.readers) = omega (arith, a.count, length-map a.readers known) in
    record {
      readers = a.readers ++ reader ∷ [];
      opened = subst (AreGiven gives names) (sym (map-append Some a.readers (reader ∷ [])))
          (AreGiven-more gives names (map Some a.readers) (get_or names place []) (Some reader) a.opened
          (omega (arith, within, same)) (ap (λ n. get_or names n []) (sym same)) at.1);
      count = length-append a.readers (reader ∷ []) ∙ ap (λ n. n + 1) a.count;
      found = subst (AreRefusals tail 1 (map known (a.readers ++ reader ∷ []))) (sym is)
          (subst (λ files. AreRefusals tail 1 files (refusals ++ refusal ∷ []))
          (sym (map-append known a.readers (reader ∷ [])))
          (AreRefusals-more tail 1 (map known a.readers) refusals (known reader) refusal a.found
          (subst (λ (n : ℕ). FindsRefusal tail n (known reader) (Ok refusal)) number at.2)));
    }

-- all are
pub found-all : {R : Type 0} (gives : List ℕ → Option R → Type 0) (known : R → Opened) (tail : Tail)
    (names : List (List ℕ)) (place : ℕ) (refusals : List (Option Refusal)) → place ≡ length names
    → AreFound gives known tail names place refusals → FindsRefusals gives known tail names refusals
found-all gives known tail names place refusals over a =
    record { readers = a.readers; opened = a.opened; all = a.count ∙ over; found = a.found }

-- there is a refusal, or none, for each file
AreRefusals-length : (tail : Tail) (file : ℕ) (files : List Opened) (refusals : List (Option Refusal))
    → AreRefusals tail file files refusals → length refusals ≡ length files
AreRefusals-length tail file [] [] are = refl
AreRefusals-length tail file [] (r ∷ refusals) are = absurd are
AreRefusals-length tail file (f ∷ files) [] are = absurd are
AreRefusals-length tail file (f ∷ files) (r ∷ refusals) are =
    omega (arith, AreRefusals-length tail (file + 1) files refusals are.1)

pub found-length : {R : Type 0} (gives : List ℕ → Option R → Type 0) (known : R → Opened) (tail : Tail)
    (names : List (List ℕ)) (refusals : List (Option Refusal)) → FindsRefusals gives known tail names refusals
    → length refusals ≡ length names
found-length gives known tail names refusals a =
    AreRefusals-length tail 1 (map known a.readers) refusals a.found ∙ (length-map a.readers known ∙ a.all)

-- no more files are kept than there are
pub kept-fewer : {A : Type 0} (refusals : List (Option Refusal)) (xs : List A)
    → length (kept_of refusals xs) ≤ length xs
kept-fewer [] xs = omega arith
kept-fewer (r ∷ refusals) [] = omega arith
kept-fewer (None ∷ refusals) (x ∷ xs) = omega (arith, kept-fewer refusals xs)
kept-fewer (Some r ∷ refusals) (x ∷ xs) = omega (arith, kept-fewer refusals xs)

-- a task that leaves files out takes at most 32
pub skipping-most : (task : Task) (skips : Bool) → IsTrue (is_skipping task skips) → most_files task ≤ 32
skipping-most task skips is = grind arith

-- the same of names
pub kept-count : (refusals : List (Option Refusal)) (names kept : List (Bor (List ℕ)))
    → map (λ k. k.now) kept ≡ kept_of refusals (map (λ n. n.now) names) → length kept ≤ length names
kept-count refusals names kept is =
    let same = ap length is in
    omega (
      arith,
      same,
      length-map kept (λ k. k.now),
      length-map names (λ n. n.now),
      kept-fewer refusals (map (λ n. n.now) names),
    )
