-- The text of a time is read back.
use Rattle.std.proofs.Common.{◌≡◌, ℕ, List, [], ◌∷◌, ◌++◌, drop, length, refl, sym, ap, ◌∙◌, arith}
use Rattle.std.proofs.Common.{append_assoc, Some, None}
use Rattle.std.proofs.Common.{length-append}
use Rattle.std.specs.Prelude.{codes, decimal}
use Rattle.std.specs.Fmt.{signed_decimal}
use Rattle.cap_print.specs.Times.{time_text}
use Rattle.cap_time.specs.Time.{Printed}
use Rattle.cap_laws.proofs.JsonNumbers.{Stops, decimal-split, signed-split, stops-at}
use Rattle.cap_laws.specs.ExactTimes.{TimesReadBack}

-- the text with what follows each number
spread : (time : Printed)
    → time_text (Some time)
    ≡ signed_decimal time.seconds ++ (43 ∷ (decimal time.numerator ++ (47 ∷ decimal time.denominator)))
spread time = grind (arith, append_assoc)

stops-plus : (cs : List ℕ) → Stops (43 ∷ cs)
stops-plus cs = stops-at 43 cs (λ is. omega (arith, is))

stops-slash : (cs : List ℕ) → Stops (47 ∷ cs)
stops-slash cs = stops-at 47 cs (λ is. omega (arith, is))

stops-end : (cs : List ℕ) → Stops (10 ∷ cs)
stops-end cs = stops-at 10 cs (λ is. omega (arith, is))

-- a text of a time has more than one byte
longer : (time : Printed) → time_text (Some time) ≡ codes "-" → ⊥
longer time e =
    omega (
      arith,
      ap length (sym (spread time) ∙ e),
      length-append (signed_decimal time.seconds)
          (43 ∷ (decimal time.numerator ++ (47 ∷ decimal time.denominator))),
      length-append (decimal time.numerator) (47 ∷ decimal time.denominator),
    )

pub times-read-back : TimesReadBack
times-read-back None None a b e = refl
times-read-back None (Some u) a b e = absurd (longer u (sym e))
times-read-back (Some t) None a b e = absurd (longer t e)
times-read-back (Some t) (Some u) a b e =
    let whole = ap (λ l. l ++ (10 ∷ [])) (sym (spread t) ∙ e ∙ spread u) in
    let turned : signed_decimal t.seconds ++ (43 ∷ (decimal t.numerator ++ (47 ∷ (decimal t.denominator ++ (10 ∷ [])))))
    ≡ signed_decimal u.seconds ++ (43 ∷ (decimal u.numerator ++ (47 ∷ (decimal u.denominator ++ (10 ∷ []))))) =
    grind (arith, append_assoc, whole) in
    let d = signed-split t.seconds u.seconds _ _ a.0 b.0 (stops-plus _) (stops-plus _) turned in
    let f = decimal-split t.numerator u.numerator _ _ a.1 b.1 (stops-slash _) (stops-slash _) (ap (drop 1) d.1) in
    let g = decimal-split t.denominator u.denominator _ _ a.2 b.2 (stops-end _) (stops-end _) (ap (drop 1) f.1) in
    λ i. Some (record { seconds = d.0 i; numerator = f.0 i; denominator = g.0 i })
