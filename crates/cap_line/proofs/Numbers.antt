-- A text of decimal digits, and the number that it is read as.
use Rattle.std.proofs.Common.{◌≡◌, ◌<◌, ◌^◌, ℕ, Bool, true, false, List, []}
use Rattle.std.proofs.Common.{◌∷◌, None, Some, nat_le, refl, ap, subst, ◌∙◌, arith}
use Rattle.std.specs.Char.{digit_value, is_ascii_digit}
use Rattle.std.specs.List.{list_all}
use Rattle.std.specs.Str.Parse.{AllDigits, IsNumeral, digits_value, without_leading_plus}
use Rattle.cap_line.specs.Jobs.{is_digits, number_in}

digit-below : (code : ℕ) → is_ascii_digit code ≡ true → digit_value code < 10
digit-below code is = grind arith

all-digits : (text : List ℕ) → list_all is_ascii_digit text ≡ true → AllDigits 10 text
all-digits [] are = tt
all-digits (code ∷ rest) are = (digit-below code (grind arith), all-digits rest (grind arith))

no-plus : (text : List ℕ) → is_digits text ≡ true → without_leading_plus text ≡ text
no-plus [] is = refl
no-plus (code ∷ rest) is = grind arith

numeral : (text : List ℕ) → is_digits text ≡ true → IsNumeral 10 text
numeral text is = (grind arith, all-digits text (grind arith))

-- digits that aren't read as a number of 32 bits are none
pub unread_number : (text : List ℕ) → is_digits text ≡ true
    → (IsNumeral 10 (without_leading_plus text) × (digits_value 10 (without_leading_plus text) < 2 ^ 32) → ⊥)
    → None ≡ number_in text
unread_number text is unread = by (nat_le (digits_value 10 text) 4294967295) refl where
  by : (b : Bool) → nat_le (digits_value 10 text) 4294967295 ≡ b → None ≡ number_in text
  by true e = absurd (unread (rw (no-plus text is) (numeral text is, grind arith)))
  by false e = rw (is, e) refl

-- and those that are
pub read_number : (text : List ℕ) (number : ℕ) → is_digits text ≡ true
    → digits_value 10 (without_leading_plus text) < 2 ^ 32 → number ≡ digits_value 10 (without_leading_plus text)
    → Some number ≡ number_in text
read_number text number is below same =
    let plain = no-plus text is in
    let value : number ≡ digits_value 10 text = same ∙ ap (digits_value 10) plain in
    let small : nat_le (digits_value 10 text) 4294967295 ≡ true =
    grind (arith, subst (λ t. digits_value 10 t < 2 ^ 32) plain below) in
    rw (is, small, value) refl
