-- Every list of bytes is read as the options that it spells.
use Rattle.std.proofs.Common.{◌≡◌, ◌≢◌, ◌⊎◌, ◌==◌, ℕ, zero, suc, ◌+◌, ◌%◌, ◌<◌, ◌≤◌, nat_lt, Bool, true, false, List}
use Rattle.std.proofs.Common.{[], ◌∷◌, ◌++◌, map, length, take, drop, Ok, Err, refl, sym, ap, ◌∙◌, arith, length-drop}
use Rattle.std.proofs.Common.{length-append, append-nil, inl, inr}
use Rattle.std.proofs.lemmas.Bool.Decides.{nat_tests}
use Rattle.std.proofs.lemmas.List.{drop_at, drop-append-le, length-take-le, take-append-le, take-append-drop, drop-take}
use Rattle.std.proofs.lemmas.List.{take-take}
use Rattle.cap_bytes.proofs.Spelling.{number-append, number-drop_append, number-take, number-drop_take}
use Rattle.cap_bytes.specs.Number.{number}
use Rattle.cap_bytes.specs.declared.faults.Rule.TheVariants.{OptionEnd}
use Rattle.cap_bytes.specs.declared.numbers.Order.{Order}
use Rattle.cap_blocks.proofs.OptionLaws.{options_of-short, options_of-end, options_of-overrun, options_of-more}
use Rattle.cap_blocks.specs.inner.OptionGrammar.{SpellsOption, SpellsOptions, EndsOptions, RunsPast, EveryOptions}
use Rattle.cap_blocks.specs.inner.OptionGrammar.{OptionsRead}
use Rattle.cap_blocks.specs.OptionList.{options_of, code_at, length_at, padded}

-- ---- reading what is spelled

-- an option's bytes are as many as are read for it
spelled-size : (n size : ℕ) → size % 4 ≡ 0 → 4 + n ≤ size → size < 8 + n → 4 + padded n ≡ size
spelled-size n size whole least most = omega arith

option-read : (order : Order) (option : ℕ × List ℕ) (text later : List ℕ) → SpellsOption order option.0 option.1 text
    → options_of order (text ++ later) ≡ Ok option ∷ options_of order later
option-read order option text later s =
    let bytes = text ++ later in
    let code : code_at order bytes ≡ option.0 = number-append order 2 text later (omega (arith, s.least)) ∙ s.code_is in
    let size : length_at order bytes ≡ length option.1 =
    number-drop_append order 2 2 text later (omega (arith, s.least)) ∙ s.length_is in
    let value : take (length option.1) (drop 4 bytes) ≡ option.1 =
    ap (take (length option.1)) (drop-append-le 4 text later (omega (arith, s.least)))
    ∙ (take-append-le (length option.1) (drop 4 text) later (omega (arith, length-drop 4 text, s.least))
    ∙ s.value_is) in
    let behind : drop (4 + padded (length option.1)) bytes ≡ later =
    drop_at text later (4 + padded (length option.1))
    (sym (spelled-size (length option.1) (length text) s.whole s.least s.most)) in
    let more = options_of-more order bytes (λ zero. s.some (sym code ∙ zero))
    (omega (arith, size, s.least, length-append text later)) in
    rw (code, size, value, behind) at more

ends-read : (order : Order) (rest : List ℕ) → EndsOptions order rest → options_of order rest ≡ []
ends-read order rest (inl none) = rw none (options_of-short order [] (omega arith))
ends-read order rest (inr end) = options_of-end order rest end.1

runs-read : (order : Order) (rest : List ℕ) → RunsPast order rest → options_of order rest ≡ Err OptionEnd ∷ []
runs-read order rest runs = options_of-overrun order rest runs.head runs.some runs.past

options-read : (order : Order) (bytes : List ℕ) (options : List (ℕ × List ℕ)) (rest : List ℕ)
    → SpellsOptions order bytes options rest
    → options_of order bytes ≡ map (λ option. Ok option) options ++ options_of order rest
options-read order bytes [] rest s = ap (options_of order) s
options-read order bytes (option ∷ options) rest s =
    ap (options_of order) s.2 ∙ (option-read order option s.0 s.1 s.3
    ∙ ap (λ os. Ok option ∷ os) (options-read order s.1 options rest s.4))

append-none : {A : Type 0} (xs ys : List A) → ys ≡ [] → xs ++ ys ≡ xs
append-none xs ys none = rw none (append-nil xs)

pub options_read-law : OptionsRead
options_read-law order bytes options rest s = (
  λ ends. options-read order bytes options rest s ∙ append-none _ _ (ends-read order rest ends),
  λ runs. options-read order bytes options rest s
      ∙ ap (λ os. map (λ option. Ok option) options ++ os) (runs-read order rest runs),
)

-- ---- every body is spelled

-- the bytes of the first option
first-spelled : (order : Order) (bytes : List ℕ) → length bytes % 4 ≡ 0 → number order 2 bytes ≢ 0
    → 4 + number order 2 (drop 2 bytes) ≤ length bytes
    → SpellsOption order (number order 2 bytes) (take (number order 2 (drop 2 bytes)) (drop 4 bytes))
    (take (4 + padded (number order 2 (drop 2 bytes))) bytes)
first-spelled order bytes whole some within =
    let n = number order 2 (drop 2 bytes) in
    let size = 4 + padded n in
    let fits : size ≤ length bytes = omega (arith, whole, within) in
    let long = length-take-le size bytes fits in
    let value : length (take n (drop 4 bytes)) ≡ n =
    length-take-le n (drop 4 bytes) (omega (arith, length-drop 4 bytes, within)) in
    record {
      some = some;
      code_is = number-take order 2 size bytes (omega arith);
      length_is = number-drop_take order 2 2 size bytes (omega arith) fits ∙ sym value;
      value_is = rw (value, drop-take 4 (padded n) bytes) (take-take n (padded n) (drop 4 bytes) (omega arith));
      whole = rw long (omega arith);
      least = omega (arith, long, value);
      most = omega (arith, long, value);
    }

-- what stands at the front of a body: the end, a value that runs past it, or an option
abbrev Front : Order → List ℕ → Type 0
Front order bytes =
    (EndsOptions order bytes ⊎ RunsPast order bytes)
    ⊎ ((number order 2 bytes ≢ 0) × (4 + number order 2 (drop 2 bytes) ≤ length bytes))

front : (order : Order) (bytes : List ℕ) → length bytes % 4 ≡ 0 → Front order bytes
front order [] whole = inl (inl (inl refl))
front order (b ∷ bs) whole = by (number order 2 (b ∷ bs) == 0)
    (nat_lt (length (b ∷ bs)) (4 + number order 2 (drop 2 (b ∷ bs)))) refl refl
  where
    by : (a c : Bool) → (number order 2 (b ∷ bs) == 0) ≡ a
        → nat_lt (length (b ∷ bs)) (4 + number order 2 (drop 2 (b ∷ bs))) ≡ c → Front order (b ∷ bs)
    by true c is is' = inl (inl (inr (omega (arith, whole), grind (arith, nat_tests))))
    by false true is is' =
        inl (inr (record {
          head = omega (arith, whole);
          some = grind (arith, nat_tests);
          past = grind (arith, nat_tests);
        }))
    by false false is is' = inr (grind (arith, nat_tests), grind (arith, nat_tests))

length-zero : (bytes : List ℕ) → length bytes ≡ 0 → bytes ≡ []
length-zero [] is = refl
length-zero (b ∷ bs) is = absurd (omega (arith, is))

every : (fuel : ℕ) (order : Order) (bytes : List ℕ) → length bytes ≤ fuel → length bytes % 4 ≡ 0
    → (options : List (ℕ × List ℕ)) × (rest : List ℕ) × SpellsOptions order bytes options rest
    × (EndsOptions order rest ⊎ RunsPast order rest)
every zero order bytes few whole = ([], bytes, refl, inl (inl (length-zero bytes (omega arith))))
every (suc fuel) order bytes few whole = by (λ later. every fuel order later) (front order bytes whole)
  where
    by : ((later : List ℕ) → length later ≤ fuel → length later % 4 ≡ 0
        → (options : List (ℕ × List ℕ)) × (rest : List ℕ) × SpellsOptions order later options rest
        × (EndsOptions order rest ⊎ RunsPast order rest))
        → Front order bytes
        → (options : List (ℕ × List ℕ)) × (rest : List ℕ) × SpellsOptions order bytes options rest
        × (EndsOptions order rest ⊎ RunsPast order rest)
    by next (inl last) = ([], bytes, refl, last)
    by next (inr first) =
        let n = number order 2 (drop 2 bytes) in
        let size = 4 + padded n in
        let later = drop size bytes in
        let spelled = first-spelled order bytes whole first.0 first.1 in
        let rest = next later (omega (arith, length-drop size bytes))
        (omega (arith, length-drop size bytes, whole)) in (
          (number order 2 bytes, take n (drop 4 bytes)) ∷ rest.0,
          rest.1,
          (take size bytes, later, sym (take-append-drop size bytes), spelled, rest.2),
          rest.3,
        )

pub every_options-law : EveryOptions
every_options-law order bytes whole = every (length bytes) order bytes (omega arith) whole
