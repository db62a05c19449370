-- The lines of the files of a table.
use Rattle.std.proofs.Common.{◌≡◌, ◌<◌, ◌+◌, ◌==◌, ◌||◌, ℕ, zero, suc, Bool, List, [], ◌∷◌, ◌++◌, length, IsTrue, refl}
use Rattle.std.proofs.Common.{ap, subst, arith, Option}
use Rattle.std.specs.List.{flat_map, list_any, range_with_len}
use Rattle.cap_source.specs.Feed.{HasFile}
use Rattle.cap_source.specs.declared.feeds.FileEnd.{FileEnd}
use Rattle.cap_print.specs.Facts.{line_in}
use Rattle.cap_print.specs.declared.forms.Form.{Form}
use Rattle.cap_talks.specs.counts.Counting.{counted}
use Rattle.cap_talks.specs.counts.FileLines.{file_facts, ending_at}
use Rattle.cap_talks.specs.counts.FileLines.{ended_from, counted_texts_in}
use Rattle.cap_talks.specs.table.TakenText.{file_line_in, metas_of}
use Rattle.cap_class.specs.Taken.{Taken}
use Rattle.cap_talks.specs.inner.table.Totals.{counts_from}
use Rattle.cap_talks.specs.declared.counts.counts.Counts.{Counts}

-- a file of that number is one of them
pub is-numbered : (first count place : ℕ) → place < count → HasFile (range_with_len first count) (first + place)
is-numbered first (suc count) (suc place) within =
    by (first == first + suc place) (subst (HasFile (range_with_len (first + 1) count)) next
    (is-numbered (first + 1) count place (omega (arith, within))))
  where
    next : first + 1 + place ≡ first + suc place
    next = omega arith

    by : (b : Bool) → HasFile (range_with_len (first + 1) count) (first + suc place)
        → IsTrue (b || list_any (λ f. f == first + suc place) (range_with_len (first + 1) count))
    by b h = grind arith
is-numbered first count place within = grind arith

pub ended-length : (e : Option (ℕ → FileEnd)) (file : ℕ) (all : List Counts)
    → length (ended_from e file all) ≡ length all
ended-length e file [] = refl
ended-length e file (c ∷ all) = ap suc (ended-length e (file + 1) all)

-- the lines of what is counted of each file are those of the report
pub lines-counted : (form : Form) (e : Option (ℕ → FileEnd)) (xs : List Taken) (first count : ℕ)
    → counted_texts_in form first (ended_from e first (counts_from first count xs))
    ≡ flat_map (file_line_in form e xs) (range_with_len first count)
lines-counted form e xs first zero = refl
lines-counted form e xs first (suc count) =
    ap (λ l. line_in form (file_facts first (counted (metas_of first xs)) (ending_at e first)) ++ l)
    (lines-counted form e xs (first + 1) count)
