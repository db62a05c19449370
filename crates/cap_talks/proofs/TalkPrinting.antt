-- The lines of conversations, written one by one.
use Rattle.std.proofs.lemmas.Grind.{common_steps}
use Rattle.std.proofs.Common.{◌≡◌, ◌<◌, ◌≤◌, ◌+◌, ℕ, zero, suc, List, [], ◌∷◌, ◌++◌, length, take, drop, refl}
use Rattle.std.proofs.Common.{IsTrue, get_or, sym, ap, ◌∙◌, subst, arith, length-append, take_at, drop_at}
use Rattle.cap_bytes.proofs.Putting.{Putting, Putting-more, Putting-front}
use Rattle.cap_bytes.specs.Device.{Writer}
use Rattle.cap_bytes.specs.Printing.{PrintsFront}
use Rattle.cap_print.specs.declared.forms.Form.{Form}
use Rattle.cap_talks.specs.table.Conversations.{Conversation}
use Rattle.cap_print.specs.Facts.{line_in}
use Rattle.cap_talks.specs.inner.table.Ranked.{AreRanked}
use Rattle.cap_talks.specs.table.TalkLines.{line_at_in, talk_facts, talk_texts_in}
use Rattle.cap_talks.specs.declared.table.top.Ranked.{Ranked}
use Rattle.std.specs.Option.{option_map_or}
use Rattle.std.specs.Prelude.{slice_get}

-- the line of the conversation at a place, and those after it
lines-at : (form : Form) (all : List Conversation) (place : ℕ) → place < length all
    → talk_texts_in form (drop place all) ≡ line_at_in form all place ++ talk_texts_in form (drop (suc place) all)
lines-at form (t ∷ all) (suc place) within = lines-at form all place (omega arith)
lines-at form all place within = grind arith

pub lines-none : (form : Form) (all : List Conversation) (place : ℕ) → length all ≤ place
    → talk_texts_in form (drop place all) ≡ []
lines-none form (t ∷ all) (suc place) past = lines-none form all place (omega arith)
lines-none form all place past = grind (arith, common_steps)

split_at_line : (form : Form) (all : List Conversation) (place : ℕ) (line : List ℕ) → place < length all
    → line ≡ line_at_in form all place
    → talk_texts_in form (drop place all) ≡ line ++ talk_texts_in form (drop (suc place) all)
split_at_line form all place line within text = lines-at form all place within
    ∙ ap (λ l. l ++ talk_texts_in form (drop (suc place) all)) (sym text)

-- one line more is written
pub line-more : (form : Form) (from mid to : Writer) (all : List Conversation) (place : ℕ) (line : List ℕ)
    → place < length all
    → line ≡ line_at_in form all place
    → Putting from mid (talk_texts_in form all) (talk_texts_in form (drop place all))
    → (IsTrue mid.told → to.held ≡ mid.held ++ line) → (IsTrue mid.told → IsTrue to.told)
    → (IsTrue to.can_fail → IsTrue mid.can_fail)
    → Putting from to (talk_texts_in form all) (talk_texts_in form (drop (place + 1) all))
line-more form from mid to all place line within text p wrote told cannot =
    let behind = talk_texts_in form (drop (suc place) all) in
    let split : talk_texts_in form (drop place all) ≡ line ++ behind = split_at_line form all place line within text in
    let next : suc place ≡ place + 1 = omega arith in
    subst (λ (n : ℕ). Putting from to (talk_texts_in form all) (talk_texts_in form (drop n all))) next
    (subst (Putting from to (talk_texts_in form all))
    (ap (drop (length line)) split ∙ drop_at line behind (length line) refl)
    (Putting-more from mid to (talk_texts_in form all) (talk_texts_in form (drop place all)) (length line) p
    (omega (arith, ap length split, length-append line behind))
    (λ w. wrote w ∙ ap (λ l. mid.held ++ l) (sym (ap (take (length line)) split
    ∙ take_at line behind (length line) refl)))
    told cannot))

-- one part more of a text is written, and the writer fails in a part
part-more : (from mid to : Writer) (whole rest line behind : List ℕ) → rest ≡ line ++ behind
    → Putting from mid whole rest
    → (IsTrue mid.told → to.held ≡ mid.held ++ line) → (IsTrue mid.told → IsTrue to.told)
    → (IsTrue to.can_fail → IsTrue mid.can_fail)
    → Putting from to whole behind
part-more from mid to whole rest line behind split p wrote told cannot =
    subst (Putting from to whole) (ap (drop (length line)) split ∙ drop_at line behind (length line) refl)
    (Putting-more from mid to whole rest (length line) p
    (omega (arith, ap length split, length-append line behind))
    (λ w. wrote w ∙ ap (λ l. mid.held ++ l) (sym (ap (take (length line)) split
    ∙ take_at line behind (length line) refl)))
    told cannot)

part-front : (from mid : Writer) (held whole rest line behind : List ℕ) (n : ℕ) → rest ≡ line ++ behind
    → Putting from mid whole rest → IsTrue from.told → held ≡ mid.held ++ take n line
    → PrintsFront whole from.held held
part-front from mid held whole rest line behind n split p t wrote =
    Putting-front from mid held whole line behind n (subst (Putting from mid whole) split p) t wrote

-- the line of a conversation that is named by its place, and those of the conversations named after it
named-at : (form : Form) (rows talks : List Conversation) (named : List Ranked) (k : ℕ) (d it : Ranked)
    → AreRanked rows named talks → it ≡ get_or named k d → k < length named
    → talk_texts_in form (drop k talks)
    ≡ line_at_in form rows it.place ++ talk_texts_in form (drop (suc k) talks)
named-at form rows [] [] k d it r is l = absurd (omega (arith, l))
named-at form rows (t ∷ talks) [] k d it r is l = absurd (omega (arith, l))
named-at form rows [] (a ∷ named) k d it r is l = absurd r
named-at form rows (t ∷ talks) (a ∷ named) zero d it r is l =
    ap (λ found. option_map_or (λ talk. line_in form (talk_facts talk.0 talk.1)) found []
    ++ talk_texts_in form talks)
    (sym (ap (λ (x : Ranked). slice_get rows x.place) is ∙ r.0.place))
named-at form rows (t ∷ talks) (a ∷ named) (suc k) d it r is l =
    named-at form rows talks named k d it r.1 is (omega (arith, l))

pub named-none : (form : Form) (rows talks : List Conversation) (named : List Ranked) (k : ℕ)
    → AreRanked rows named talks → length named ≤ k → talk_texts_in form (drop k talks) ≡ []
named-none form rows [] [] zero r past = refl
named-none form rows [] [] (suc k) r past = refl
named-none form rows (t ∷ talks) [] k r past = absurd r
named-none form rows [] (a ∷ named) k r past = absurd r
named-none form rows (t ∷ talks) (a ∷ named) zero r past = absurd (omega (arith, past))
named-none form rows (t ∷ talks) (a ∷ named) (suc k) r past =
    named-none form rows talks named k r.1 (omega (arith, past))

-- one line more of named conversations is written
pub named-more : (form : Form) (from mid to : Writer) (rows talks : List Conversation) (named : List Ranked) (k : ℕ)
    (d it : Ranked) (line : List ℕ) → AreRanked rows named talks → it ≡ get_or named k d → k < length named
    → line ≡ line_at_in form rows it.place
    → Putting from mid (talk_texts_in form talks) (talk_texts_in form (drop k talks))
    → (IsTrue mid.told → to.held ≡ mid.held ++ line) → (IsTrue mid.told → IsTrue to.told)
    → (IsTrue to.can_fail → IsTrue mid.can_fail)
    → Putting from to (talk_texts_in form talks) (talk_texts_in form (drop (k + 1) talks))
named-more form from mid to rows talks named k d it line r is l text p wrote told cannot =
    let next : suc k ≡ k + 1 = omega arith in
    subst (λ (n : ℕ). Putting from to (talk_texts_in form talks) (talk_texts_in form (drop n talks))) next
    (part-more from mid to (talk_texts_in form talks) (talk_texts_in form (drop k talks)) line
    (talk_texts_in form (drop (suc k) talks))
    (named-at form rows talks named k d it r is l ∙ ap (λ l. l ++ talk_texts_in form (drop (suc k) talks)) (sym text))
    p wrote told cannot)

-- the writer fails in one
pub named-front : (form : Form) (from mid : Writer) (held : List ℕ) (rows talks : List Conversation)
    (named : List Ranked) (k : ℕ) (d it : Ranked) (line : List ℕ) (n : ℕ)
    → AreRanked rows named talks → it ≡ get_or named k d → k < length named
    → line ≡ line_at_in form rows it.place
    → Putting from mid (talk_texts_in form talks) (talk_texts_in form (drop k talks)) → IsTrue from.told
    → held ≡ mid.held ++ take n line
    → PrintsFront (talk_texts_in form talks) from.held held
named-front form from mid held rows talks named k d it line n r is l text p t wrote =
    part-front from mid held (talk_texts_in form talks) (talk_texts_in form (drop k talks)) line
    (talk_texts_in form (drop (suc k) talks)) n
    (named-at form rows talks named k d it r is l ∙ ap (λ l. l ++ talk_texts_in form (drop (suc k) talks)) (sym text))
    p t wrote

-- the writer fails in a line
pub line-front : (form : Form) (from mid : Writer) (held : List ℕ) (all : List Conversation) (place : ℕ)
    (line : List ℕ) (n : ℕ)
    → place < length all → line ≡ line_at_in form all place
    → Putting from mid (talk_texts_in form all) (talk_texts_in form (drop place all)) → IsTrue from.told
    → held ≡ mid.held ++ take n line
    → PrintsFront (talk_texts_in form all) from.held held
line-front form from mid held all place line n within text p t wrote =
    search (
      Putting-front,
      split_at_line,
      subst (Putting from mid (talk_texts_in form all))
          (split_at_line form all place line within text) p,
    )
