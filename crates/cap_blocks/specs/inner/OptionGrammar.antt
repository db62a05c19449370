-- Which bytes spell a list of options (draft-ietf-opsawg-pcapng, 3.5).
use Rattle.std.specs.Prelude.{◌≡◌, ◌≢◌, ◌⊎◌, ℕ, ◌+◌, ◌%◌, ◌≤◌, ◌<◌, List, [], ◌∷◌, ◌++◌, map, length, take, drop, Ok}
use Rattle.std.specs.Prelude.{Err}
use Rattle.cap_bytes.specs.Number.{number}
use Rattle.cap_bytes.specs.declared.faults.Rule.TheVariants.{OptionEnd}
use Rattle.cap_bytes.specs.declared.numbers.Order.{Order}
use Rattle.cap_blocks.specs.OptionList.{options_of}

-- The bytes spell an option of that code, which isn't 0, with that value: the code, the value's length, the value, and
-- at most three bytes of any kind up to a multiple of 4.
pub record SpellsOption (order : Order) (code : ℕ) (value bytes : List ℕ) : Type 0 where
  pub some : code ≢ 0
  pub code_is : number order 2 bytes ≡ code
  pub length_is : number order 2 (drop 2 bytes) ≡ length value
  pub value_is : take (length value) (drop 4 bytes) ≡ value
  pub whole : length bytes % 4 ≡ 0
  pub least : 4 + length value ≤ length bytes
  pub most : length bytes < 8 + length value

-- The bytes are spellings of these options, one after the other, and then the rest.
abbrev pub SpellsOptions : Order → List ℕ → List (ℕ × List ℕ) → List ℕ → Type 0
SpellsOptions order bytes [] rest = bytes ≡ rest
SpellsOptions order bytes (option ∷ options) rest =
    (text later : List ℕ) × (bytes ≡ text ++ later) × SpellsOption order option.0 option.1 text
    × SpellsOptions order later options rest

-- The rest ends the list: nothing is left of the body, or there is code 0, whatever follows that.
abbrev pub EndsOptions : Order → List ℕ → Type 0
EndsOptions order rest = (rest ≡ []) ⊎ ((4 ≤ length rest) × (number order 2 rest ≡ 0))

-- The rest is the beginning of an option with a value that runs past the body.
pub record RunsPast (order : Order) (rest : List ℕ) : Type 0 where
  pub head : 4 ≤ length rest
  pub some : number order 2 rest ≢ 0
  pub past : length rest < 4 + number order 2 (drop 2 rest)

-- Every body of whole words is a list of options and a rest that ends the list or runs past the body,
abbrev pub EveryOptions : Type 0
EveryOptions =
    (order : Order) (bytes : List ℕ) → length bytes % 4 ≡ 0
    → (options : List (ℕ × List ℕ)) × (rest : List ℕ) × SpellsOptions order bytes options rest
    × (EndsOptions order rest ⊎ RunsPast order rest)

-- and what is read of it are exactly these options, and the fault of that one if it runs past.
abbrev pub OptionsRead : Type 0
OptionsRead =
    (order : Order) (bytes : List ℕ) (options : List (ℕ × List ℕ)) (rest : List ℕ)
    → SpellsOptions order bytes options rest
    → (EndsOptions order rest → options_of order bytes ≡ map (λ option. Ok option) options)
    × (RunsPast order rest → options_of order bytes ≡ map (λ option. Ok option) options ++ Err OptionEnd ∷ [])
