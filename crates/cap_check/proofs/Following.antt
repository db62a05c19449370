-- Files that are checked one after another, and their lines.
use Rattle.std.proofs.Common.{◌≡◌, ◌<◌, ◌+◌, ◌≤◌, ℕ, suc, Bool, true, List, [], ◌∷◌, ◌++◌, length, take}
use Rattle.std.proofs.Common.{get_or, arith, Option, refl, sym, ap, subst, ◌∙◌, append-nil}
use Rattle.std.proofs.Common.{append_assoc, Ok, Err, length-append, map, suc, drop}
use Rattle.std.proofs.Math.Seq.{take-append-add, take-append_seam}
use Rattle.std.proofs.lemmas.List.{length-map, length-take-le}
use Rattle.std.specs.Prelude.{◌&&◌}
use Rattle.cap_bytes.specs.declared.faults.Fault.{Fault}
use Rattle.cap_bytes.specs.declared.faults.Fault.TheVariants.{Memory, Read, Refused, Write}
use Rattle.cap_bytes.specs.declared.faults.Tail.{Tail}
use Rattle.cap_print.specs.declared.forms.Form.{Form}
use Rattle.cap_check.specs.CheckText.{WritesCheck, WritesChecks, asks_digest, check_line_in, check_lines}
use Rattle.cap_check.specs.Checking.{AreChecked, IsChecked, Opened, are_whole, is_whole_end}
use Rattle.cap_check.specs.declared.checked.Check.{Check}
use Rattle.cap_check.specs.declared.checked.CheckLine.{CheckLine}

-- one file more was checked
AreChecked-more : (tail : Tail) (is_asked : Bool) (file : ℕ) (files : List (Option Opened)) (checks : List Check)
    (opened : Option Opened) (check : Check)
    → AreChecked tail is_asked file files checks → IsChecked tail is_asked (file + length files) opened check
    → AreChecked tail is_asked file (files ++ opened ∷ []) (checks ++ check ∷ [])
AreChecked-more tail is_asked file [] [] opened check are is =
    (subst (λ n. IsChecked tail is_asked n opened check) (omega arith) is, tt)
AreChecked-more tail is_asked file [] (c ∷ checks) opened check are is = absurd are
AreChecked-more tail is_asked file (o ∷ files) [] opened check are is = absurd are
AreChecked-more tail is_asked file (o ∷ files) (c ∷ checks) opened check are is = (
  are.0,
  AreChecked-more tail is_asked (file + 1) files checks opened check are.1
      (subst (λ n. IsChecked tail is_asked n opened check) (omega arith) is),
)

-- as many were checked
pub AreChecked-length : (tail : Tail) (is_asked : Bool) (file : ℕ) (files : List (Option Opened)) (checks : List Check)
    → AreChecked tail is_asked file files checks → length checks ≡ length files
AreChecked-length tail is_asked file [] [] are = refl
AreChecked-length tail is_asked file [] (c ∷ checks) are = absurd are
AreChecked-length tail is_asked file (o ∷ files) [] are = absurd are
AreChecked-length tail is_asked file (o ∷ files) (c ∷ checks) are =
    ap suc (AreChecked-length tail is_asked (file + 1) files checks are.1)

lines-more : (which : CheckLine) (form : Form) (names : ℕ → List ℕ) (file : ℕ) (checks : List Check) (check : Check)
    → check_lines which form names file (checks ++ check ∷ [])
    ≡ check_lines which form names file checks
    ++ check_line_in which form (file + length checks) (names (file + length checks)) check
lines-more which form names file [] check =
    append-nil (check_line_in which form file (names file) check)
    ∙ ap (λ n. check_line_in which form n (names n) check) (omega arith)
lines-more which form names file (c ∷ checks) check =
    let line = check_line_in which form file (names file) c in
    ap (λ l. line ++ l) (lines-more which form names (file + 1) checks check)
    ∙ (ap (λ n. line ++ (check_lines which form names (file + 1) checks ++ check_line_in which form n (names n) check))
    (omega arith)
    ∙ sym (append_assoc line (check_lines which form names (file + 1) checks) _))

whole-more : (checks : List Check) (check : Check)
    → are_whole (checks ++ check ∷ []) ≡ (are_whole checks && is_whole_end check.end)
whole-more [] check = grind arith
whole-more (c ∷ checks) check = grind (arith, whole-more checks check)

-- Those files are checked, that is whether all of them are whole, and their lines are printed.
pub record ArePrinted (which : CheckLine) (form : Form) (tail : Tail) (names : ℕ → List ℕ)
    (files : List (Option Opened)) (whole : Bool) (old held : List ℕ) : Type 0 where
  pub checks : List Check
  pub checked : AreChecked tail (asks_digest which) 1 files checks
  pub whole_are : whole ≡ are_whole checks
  pub written : held ≡ old ++ check_lines which form names 1 checks

-- none is
pub printed-none : (which : CheckLine) (form : Form) (tail : Tail) (names : ℕ → List ℕ) (held : List ℕ)
    → ArePrinted which form tail names [] true held held
printed-none which form tail names held = record {
  checks = [];
  checked = tt;
  whole_are = refl;
  written = sym (append-nil held);
}

-- the line of a file comes after those before it
next-line : (which : CheckLine) (form : Form) (names : ℕ → List ℕ) (place : ℕ) (checks : List Check) (check : Check)
    → length checks ≡ place
    → check_lines which form names 1 (checks ++ check ∷ [])
    ≡ check_lines which form names 1 checks ++ check_line_in which form (1 + place) (names (1 + place)) check
next-line which form names place checks check is =
    lines-more which form names 1 checks check
    ∙ ap (λ n. check_lines which form names 1 checks ++ check_line_in which form (1 + n) (names (1 + n)) check) is

-- one file more is checked
pub printed-more : (which : CheckLine) (form : Form) (tail : Tail) (names : ℕ → List ℕ) (files : List (Option Opened))
    (opened : Option Opened) (whole one : Bool) (old mid new : List ℕ)
    → ArePrinted which form tail names files whole old mid
    → WritesCheck which form tail (1 + length files) (names (1 + length files)) opened mid (Ok one) new
    → ArePrinted which form tail names (files ++ opened ∷ []) (whole && one) old new
printed-more which form tail names files opened whole one old mid new p wrote =
    let check = wrote.0 in
    let line = check_line_in which form (1 + length files) (names (1 + length files)) check in
    record {
      checks = p.checks ++ check ∷ [];
      checked = AreChecked-more tail (asks_digest which) 1 files p.checks opened check p.checked wrote.1;
      whole_are = rw (p.whole_are, wrote.2) (sym (whole-more p.checks check));
      written = wrote.3 ∙ (ap (λ l. l ++ line) p.written
          ∙ (append_assoc old (check_lines which form names 1 p.checks) line
          ∙ ap (λ l. old ++ l) (sym (next-line which form names (length files) p.checks check
          (AreChecked-length tail (asks_digest which) 1 files p.checks p.checked)))));
    }

-- its line can't be written whole, or it can't be checked
pub printed-fault : (which : CheckLine) (form : Form) (tail : Tail) (names : ℕ → List ℕ)
    (files later : List (Option Opened)) (opened : Option Opened) (whole : Bool) (fault : Fault) (old mid new : List ℕ)
    → ArePrinted which form tail names files whole old mid
    → WritesCheck which form tail (1 + length files) (names (1 + length files)) opened mid (Err fault) new
    → WritesChecks which form tail names (files ++ opened ∷ later) old (Err fault) new
printed-fault which form tail names files later opened whole (Refused refusal) old mid new p wrote = wrote
printed-fault which form tail names files later opened whole (Read file offset) old mid new p wrote = wrote
printed-fault which form tail names files later opened whole Write old mid new p wrote =
    let check = wrote.0 in
    let lines = check_lines which form names 1 p.checks in
    let line = check_line_in which form (1 + length files) (names (1 + length files)) check in
    let k = wrote.2.0 in (
      length files + 1,
      p.checks ++ check ∷ [],
      subst (λ l. AreChecked tail (asks_digest which) 1 l (p.checks ++ check ∷ []))
          (sym (take-append-add files (opened ∷ later) 1))
          (AreChecked-more tail (asks_digest which) 1 files p.checks opened check p.checked wrote.1),
      (
        length lines + k,
        wrote.2.1 ∙ (ap (λ l. l ++ take k line) p.written
            ∙ (append_assoc old lines (take k line)
            ∙ ap (λ l. old ++ l) (sym (ap (take (length lines + k))
            (next-line which form names (length files) p.checks check
            (AreChecked-length tail (asks_digest which) 1 files p.checks p.checked))
            ∙ take-append-add lines line k)))),
      ),
    )
printed-fault which form tail names files later opened whole Memory old mid new p wrote = (
  length files,
  p.checks,
  grind (arith, length-append),
  subst (λ l. AreChecked tail (asks_digest which) 1 l p.checks) (sym (take-append_seam files (opened ∷ later)))
      p.checked,
  wrote ∙ p.written,
)

-- all are
pub printed-all : (which : CheckLine) (form : Form) (tail : Tail) (names : ℕ → List ℕ) (files : List (Option Opened))
    (whole : Bool) (old new : List ℕ) → ArePrinted which form tail names files whole old new
    → WritesChecks which form tail names files old (Ok whole) new
printed-all which form tail names files whole old new p = (p.checks, p.checked, p.whole_are, p.written)

-- the first of some files, with the one after them
taken-behind : {R : Type 0} (opened : R → Option Opened) (all : List R) (place : ℕ) (x : R)
    → x ≡ get_or all place x → place < length all
    → take (suc place) (map opened all) ≡ take place (map opened all) ++ opened x ∷ []
taken-behind opened (y ∷ all) (suc place) x is within =
    ap (λ l. opened y ∷ l) (taken-behind opened all place x is (omega arith))
taken-behind opened all place x is within = grind arith

pub taken-more : {R : Type 0} (opened : R → Option Opened) (all : List R) (place : ℕ) (x : R)
    → x ≡ get_or all place x → place < length all
    → take (place + 1) (map opened all) ≡ take place (map opened all) ++ opened x ∷ []
taken-more opened all place x is within =
    let further : place + 1 ≡ suc place = omega arith in
    ap (λ n. take n (map opened all)) further ∙ taken-behind opened all place x is within

-- with those behind it, they are all
pub all-are : {R : Type 0} (opened : R → Option Opened) (all : List R) (place : ℕ) (x : R)
    → x ≡ get_or all place x → place < length all
    → take place (map opened all) ++ opened x ∷ drop (suc place) (map opened all) ≡ map opened all
all-are opened (y ∷ all) (suc place) x is within =
    ap (λ l. opened y ∷ l) (all-are opened all place x is (omega arith))
all-are opened all place x is within = grind arith

-- how many they are
pub taken-length : {R : Type 0} (opened : R → Option Opened) (all : List R) (place : ℕ) → place ≤ length all
    → length (take place (map opened all)) ≡ place
taken-length opened all place within =
    length-take-le place (map opened all) (omega (arith, within, length-map all opened))
