-- The options of some bytes, case by case.
use Rattle.std.proofs.Common.{◌≡◌, ◌≢◌, ◌==◌, ℕ, zero, suc, ◌+◌, ◌<◌, ◌≤◌, nat_lt, if◌then◌else◌, List, [], ◌∷◌, length}
use Rattle.std.proofs.Common.{take, drop, Ok, Err, refl, ◌∙◌, arith, length-drop, lt-ltb}
use Rattle.std.proofs.lemmas.Bool.Decides.{nat_tests}
use Rattle.cap_bytes.specs.declared.faults.Rule.TheVariants.{OptionEnd}
use Rattle.cap_bytes.specs.declared.numbers.Order.{Order}
use Rattle.cap_blocks.specs.OptionList.{options_by, options_of, OptionItem, code_at, length_at, padded}

-- the options by the tests of the first one, and what the rest gives
abbrev chosen : ℕ → ℕ → ℕ → OptionItem → List OptionItem → List OptionItem
chosen size code length first rest =
    if nat_lt size 4 then [] else
    if code == 0 then [] else
    if nat_lt size (4 + length) then Err OptionEnd ∷ [] else first ∷ rest

-- fuel that is enough makes no difference
options_by-enough : (n m : ℕ) (order : Order) (bytes : List ℕ) → length bytes ≤ n → length bytes ≤ m
    → options_by n order bytes ≡ options_by m order bytes
unfolding options_by
options_by-enough zero zero order bytes p q = refl
options_by-enough zero (suc m) order bytes p q = let short : length bytes < 4 = omega arith in
    rw (lt-ltb (length bytes) 4 short) refl
options_by-enough (suc n) zero order bytes p q = let short : length bytes < 4 = omega arith in
    rw (lt-ltb (length bytes) 4 short) refl
options_by-enough (suc n) (suc m) order bytes p q = grind (arith, options_by-enough n m order, length-drop, chosen)

-- the options by the first one
options_of-chosen : (order : Order) (bytes : List ℕ)
    → options_of order bytes
    ≡ chosen (length bytes) (code_at order bytes) (length_at order bytes)
    (Ok (code_at order bytes, take (length_at order bytes) (drop 4 bytes)))
    (options_of order (drop (4 + padded (length_at order bytes)) bytes))
unfolding options_by options_of
options_of-chosen order bytes = grind (arith, length-drop, options_by-enough, chosen)

-- which of them is chosen
chosen-short : (size code length : ℕ) (first : OptionItem) (rest : List OptionItem) → size < 4
    → chosen size code length first rest ≡ []
chosen-short size code length first rest short = rw (lt-ltb size 4 short) refl

chosen-end : (size code length : ℕ) (first : OptionItem) (rest : List OptionItem) → code ≡ 0
    → chosen size code length first rest ≡ []
chosen-end size code length first rest end = grind (arith, nat_tests)

chosen-overrun : (size code length : ℕ) (first : OptionItem) (rest : List OptionItem) → 4 ≤ size → code ≢ 0
    → size < 4 + length
    → chosen size code length first rest ≡ Err OptionEnd ∷ []
chosen-overrun size code length first rest head some past = grind (arith, nat_tests)

chosen-first : (size code length : ℕ) (first : OptionItem) (rest : List OptionItem) → 4 + length ≤ size → code ≢ 0
    → chosen size code length first rest ≡ first ∷ rest
chosen-first size code length first rest within some = grind (arith, nat_tests)

-- fewer than 4 bytes spell no option
pub options_of-short : (order : Order) (bytes : List ℕ) → length bytes < 4 → options_of order bytes ≡ []
options_of-short order bytes short = options_of-chosen order bytes ∙ chosen-short _ _ _ _ _ short

-- code 0 ends the list
pub options_of-end : (order : Order) (bytes : List ℕ) → code_at order bytes ≡ 0 → options_of order bytes ≡ []
options_of-end order bytes end = options_of-chosen order bytes ∙ chosen-end _ _ _ _ _ end

-- a value that runs past the end
pub options_of-overrun : (order : Order) (bytes : List ℕ) → 4 ≤ length bytes → code_at order bytes ≢ 0
    → length bytes < 4 + length_at order bytes → options_of order bytes ≡ Err OptionEnd ∷ []
options_of-overrun order bytes head some past = options_of-chosen order bytes ∙ chosen-overrun _ _ _ _ _ head some past

-- an option, and those after its padding
pub options_of-more : (order : Order) (bytes : List ℕ) → code_at order bytes ≢ 0
    → 4 + length_at order bytes ≤ length bytes
    → options_of order bytes
    ≡ Ok (code_at order bytes, take (length_at order bytes) (drop 4 bytes))
    ∷ options_of order (drop (4 + padded (length_at order bytes)) bytes)
options_of-more order bytes some within = options_of-chosen order bytes ∙ chosen-first _ _ _ _ _ within some
