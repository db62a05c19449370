-- The lines of files, written one by one.
use Rattle.std.proofs.lemmas.Grind.{common_steps}
use Rattle.std.proofs.Common.{◌≡◌, ◌<◌, ◌≤◌, ◌+◌, ℕ, suc, List, [], ◌∷◌, ◌++◌, length, take, drop, get_or, IsTrue, refl}
use Rattle.std.proofs.Common.{sym, ap, ◌∙◌, subst, arith, length-append, take_at, drop_at}
use Rattle.cap_bytes.proofs.Putting.{Putting, Putting-more, Putting-front}
use Rattle.cap_bytes.specs.Device.{Writer}
use Rattle.cap_bytes.specs.Printing.{PrintsFront}
use Rattle.cap_print.specs.Facts.{line_in}
use Rattle.cap_print.specs.declared.forms.Form.{Form}
use Rattle.cap_talks.specs.counts.FileLines.{file_facts, counted_texts_in}
use Rattle.cap_talks.specs.declared.counts.files.Counted.{Counted}

-- the line of the file at a place, and those after it
pub texts-at : (form : Form) (all : List Counted) (place file : ℕ) (it : Counted) → it ≡ get_or all place it
    → place < length all
    → counted_texts_in form file (drop place all) ≡ line_in form (file_facts file it.counts it.ending)
    ++ counted_texts_in form (file + 1) (drop (suc place) all)
texts-at form (c ∷ all) (suc place) file it is within = texts-at form all place file it is (omega arith)
texts-at form all place file it is within = grind arith

pub texts-none : (form : Form) (all : List Counted) (place file : ℕ) → length all ≤ place
    → counted_texts_in form file (drop place all) ≡ []
texts-none form (c ∷ all) (suc place) file past = texts-none form all place file (omega arith)
texts-none form all place file past = grind (arith, common_steps)

-- one line more is written
pub lines-more : (form : Form) (from mid to : Writer) (all : List Counted) (place : ℕ) (it : Counted) (line : List ℕ)
    → it ≡ get_or all place it → place < length all
    → line ≡ line_in form (file_facts (place + 1) it.counts it.ending)
    → Putting from mid (counted_texts_in form 1 all) (counted_texts_in form (place + 1) (drop place all))
    → (IsTrue mid.told → to.held ≡ mid.held ++ line) → (IsTrue mid.told → IsTrue to.told)
    → (IsTrue to.can_fail → IsTrue mid.can_fail)
    → Putting from to (counted_texts_in form 1 all) (counted_texts_in form (place + 1 + 1) (drop (place + 1) all))
lines-more form from mid to all place it line is within text p wrote told cannot =
    let behind = counted_texts_in form (place + 1 + 1) (drop (suc place) all) in
    let split : counted_texts_in form (place + 1) (drop place all) ≡ line ++ behind =
    texts-at form all place (place + 1) it is within ∙ ap (λ l. l ++ behind) (sym text) in
    let next : suc place ≡ place + 1 = omega arith in
    subst (λ (n : ℕ). Putting from to (counted_texts_in form 1 all) (counted_texts_in form (place + 1 + 1)
    (drop n all))) next
    (subst (Putting from to (counted_texts_in form 1 all))
    (ap (drop (length line)) split ∙ drop_at line behind (length line) refl)
    (Putting-more from mid to (counted_texts_in form 1 all) (counted_texts_in form (place + 1) (drop place all))
    (length line) p
    (omega (arith, ap length split, length-append line behind))
    (λ w. wrote w ∙ ap (λ l. mid.held ++ l) (sym (ap (take (length line)) split
    ∙ take_at line behind (length line) refl)))
    told cannot))

-- the writer fails in a line
pub lines-front : (form : Form) (from mid : Writer) (held : List ℕ) (all : List Counted) (place : ℕ) (it : Counted)
    (line : List ℕ)
    (n : ℕ) → it ≡ get_or all place it → place < length all
    → line ≡ line_in form (file_facts (place + 1) it.counts it.ending)
    → Putting from mid (counted_texts_in form 1 all) (counted_texts_in form (place + 1) (drop place all))
    → IsTrue from.told
    → held ≡ mid.held ++ take n line
    → PrintsFront (counted_texts_in form 1 all) from.held held
lines-front form from mid held all place it line n is within text p t wrote =
    let behind = counted_texts_in form (place + 1 + 1) (drop (suc place) all) in
    let split : counted_texts_in form (place + 1) (drop place all) ≡ line ++ behind =
    texts-at form all place (place + 1) it is within ∙ ap (λ l. l ++ behind) (sym text) in
    Putting-front from mid held (counted_texts_in form 1 all) line behind n
    (subst (Putting from mid (counted_texts_in form 1 all)) split p) t wrote
