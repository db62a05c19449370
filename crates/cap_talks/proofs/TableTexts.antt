-- The text of what a table stands for.
use Rattle.std.proofs.Common.{arith, ◌≡◌, Bool, ℕ, List, ◌++◌, length, Option, refl, ◌∙◌, append_assoc}
use Rattle.cap_print.specs.Facts.{line_in}
use Rattle.cap_print.specs.declared.forms.Form.{Form}
use Rattle.cap_source.specs.declared.feeds.FileEnd.{FileEnd}
use Rattle.cap_class.specs.Counting.{counts_of}
use Rattle.cap_class.specs.Ipv6.{report_classes}
use Rattle.cap_talks.specs.table.CountedUnits.{given_up_in, joined_in, units_for}
use Rattle.cap_talks.specs.counts.FileLines.{files_facts}
use Rattle.cap_talks.specs.counts.FileLines.{ended_from, counted_texts_in}
use Rattle.cap_talks.specs.table.TakenText.{body_for, counts_text_for, files_part_in, frames_facts_for, text_for}
use Rattle.cap_talks.specs.table.TakenText.{total_facts}
use Rattle.cap_talks.specs.table.TakenText.{body_showing_for, joined_facts, text_showing_for}
use Rattle.cap_talks.specs.table.TakenText.{taken_bytes, truncated_of}
use Rattle.cap_class.specs.Taken.{Taken}
use Rattle.cap_talks.specs.table.Conversations.{Conversation, rows_of}
use Rattle.cap_talks.specs.table.TalkLines.{talk_texts_in, talks_facts}
use Rattle.cap_talks.specs.inner.table.Tallies.{TallyState, TallyStands, tally_text_in}
use Rattle.cap_talks.specs.inner.table.Totals.{TotalsState, TotalsStand}
use Rattle.cap_talks.specs.declared.counts.files.Counted.{Counted}
use Rattle.cap_talks.proofs.TableLines.{ended-length, lines-counted}
use Rattle.cap_talks.proofs.Waiting.{given-up}

-- the lines of the files
files-are : (form : Form) (e : Option (ℕ → FileEnd)) (t : TotalsState) (xs : List Taken) (ended : List Counted)
    → TotalsStand t xs → ended ≡ ended_from e 1 t.files
    → line_in form (files_facts (length ended)) ++ counted_texts_in form 1 ended
    ≡ files_part_in form (length t.files) e xs
unfolding files_part_in
files-are form e t xs ended s is = grind (arith, ended-length, lines-counted)

-- the lines of a tally
tally-is : (form : Form) (rows : List Conversation) (t : TallyState) (xs : List Taken) (next : Option Taken)
    → TallyStands t xs next
    → tally_text_in form rows t
    ≡ line_in form (frames_facts_for t.reads (counts_of (report_classes t.reads xs)))
    ++ line_in form (joined_facts (joined_in xs)
    (given_up_in xs))
    ++ (line_in form (talks_facts (length (rows_of (units_for t.reads xs)))) ++ talk_texts_in form rows)
unfolding tally_text_in
tally-is form rows t xs next s = λ i.
    line_in form (frames_facts_for t.reads (s.classes i)) ++ line_in form
    (joined_facts (s.joined i) (given-up t xs next s i))
    ++ (line_in form (talks_facts (length (s.talks.rows i))) ++ talk_texts_in form rows)

regroup : (a b c d e : List ℕ) → a ++ (b ++ c ++ (d ++ e)) ≡ a ++ b ++ c ++ d ++ e
regroup a b c d e = simp append_assoc refl

-- all other lines
pub body-is : (form : Form) (rows : List Conversation) (t : TotalsState) (u : TallyState) (xs : List Taken)
    (next : Option Taken) → TotalsStand t xs → TallyStands u xs next
    → line_in form (total_facts t.packets t.bytes t.truncated) ++ tally_text_in form rows u
    ≡ body_showing_for u.reads form rows xs
unfolding body_showing_for counts_text_for
body-is form rows t u xs next s k =
    (λ i. line_in form (total_facts (s.packets i) (s.bytes i) (s.truncated i)) ++ tally-is form rows u xs next k i)
    ∙ regroup (line_in form (total_facts (length xs) (taken_bytes xs) (truncated_of xs)))
    (line_in form (frames_facts_for u.reads (counts_of (report_classes u.reads xs))))
    (line_in form (joined_facts (joined_in xs) (given_up_in xs)))
    (line_in form (talks_facts (length (rows_of (units_for u.reads xs))))) (talk_texts_in form rows)

-- the whole report
pub text-is : (form : Form) (rows : List Conversation) (e : Option (ℕ → FileEnd)) (t : TotalsState) (u : TallyState)
    (xs : List Taken) (next : Option Taken) (ended : List Counted)
    → TotalsStand t xs → TallyStands u xs next → ended ≡ ended_from e 1 t.files
    → (line_in form (files_facts (length ended)) ++ counted_texts_in form 1 ended)
    ++ (line_in form (total_facts t.packets t.bytes t.truncated) ++ tally_text_in form rows u)
    ≡ text_showing_for u.reads form rows (length t.files) e xs
text-is form rows e t u xs next ended s k is =
    λ i. files-are form e t xs ended s is i ++ body-is form rows t u xs next s k i

-- the report with the lines of all conversations
pub text-all : (reads : Bool) (form : Form) (count : ℕ) (e : Option (ℕ → FileEnd)) (xs : List Taken)
    → text_showing_for reads form (rows_of (units_for reads xs)) count e xs ≡ text_for reads form count e xs
unfolding body_for body_showing_for
text-all reads form count e xs = refl
