-- A time in UTC is put part by part.
use Rattle.std.proofs.Common.{◌≡◌, ℕ, ◌/◌, ◌%◌, List, ◌++◌, Some, sym, ap, ◌∙◌, arith, append_assoc}
use Rattle.std.specs.Prelude.{codes}
use Rattle.cap_time.specs.Time.{Printed}
use Rattle.cap_print.specs.Dates.{calendar_seconds, clock_text, date_of, date_text, utc_text, utc_text_by}
use Rattle.cap_print.specs.Decimals.{fraction_text}

four-joined : (a b c d old : List ℕ) → a ++ (b ++ (c ++ (d ++ old))) ≡ (a ++ b ++ c ++ d) ++ old
four-joined a b c d old = simp append_assoc

pub utc-parts : (time : Printed) (seconds : ℕ) (new clock fraction zone old : List ℕ)
    → Some seconds ≡ calendar_seconds time.seconds
    → zone ≡ codes "Z" ++ old
    → fraction ≡ fraction_text time.numerator time.denominator ++ zone
    → clock ≡ clock_text (seconds % 86400) ++ fraction
    → new ≡ date_text (date_of (seconds / 86400)) ++ clock
    → new ≡ utc_text time ++ old
utc-parts time seconds new clock fraction zone old within z f c n =
    n ∙ ap (λ l. date_text (date_of (seconds / 86400)) ++ l) (c ∙ ap (λ l. clock_text (seconds % 86400) ++ l)
    (f ∙ ap (λ l. fraction_text time.numerator time.denominator ++ l) z))
    ∙ four-joined (date_text (date_of (seconds / 86400))) (clock_text (seconds % 86400))
    (fraction_text time.numerator time.denominator) (codes "Z") old
    ∙ ap (λ o. utc_text_by o time ++ old) within
