-- How many comments a block can have, and what counting them leaves of what else is known of a file.
use Rattle.std.proofs.Common.{◌≡◌, ◌+◌, ◌≤◌, ℕ, zero, suc, true, false, List, [], ◌∷◌, length, count_by, arith}
use Rattle.std.proofs.Common.{Bool, cond, ap, ◌∙◌}
use Rattle.std.proofs.lemmas.List.Sums.{count_by-le-length, sum_by-cons}
use Rattle.cap_bytes.specs.declared.numbers.Order.{Order}
use Rattle.cap_blocks.specs.OptionList.{OptionItem, options_by, options_of}
use Rattle.cap_source.specs.Comments.{is_comment}

few_options : (fuel : ℕ) (order : Order) (bytes : List ℕ) → length (options_by fuel order bytes) ≤ fuel
unfolding options_by
few_options zero order bytes = omega arith
few_options (suc fuel) order bytes = grind (arith, few_options fuel order)

-- as many as there are bytes, at most
pub few_comments : (order : Order) (bytes : List ℕ) → count_by is_comment (options_of order bytes) ≤ length bytes
unfolding options_of
few_comments order bytes =
    omega (
      arith,
      count_by-le-length is_comment (options_by (length bytes) order bytes),
      few_options (length bytes) order bytes,
    )

-- one option, and those behind it
comments-front : (items rest : List OptionItem) (option : OptionItem) (b : Bool) → items ≡ option ∷ rest
    → is_comment option ≡ b → count_by is_comment items ≡ cond b 1 0 + count_by is_comment rest
comments-front items rest option b is which =
    ap (count_by is_comment) is ∙ (sum_by-cons (λ o. cond (is_comment o) 1 0) option rest
    ∙ ap (λ t. cond t 1 0 + count_by is_comment rest) which)

-- the same behind others that were counted
pub count_comment : (items rest : List OptionItem) (option : OptionItem) (counted all : ℕ) → items ≡ option ∷ rest
    → is_comment option ≡ true → counted + count_by is_comment items ≡ all
    → (counted + 1) + count_by is_comment rest ≡ all
count_comment items rest option counted all is one sum = omega (arith, comments-front items rest option true is one)

pub count_other : (items rest : List OptionItem) (option : OptionItem) (counted all : ℕ) → items ≡ option ∷ rest
    → is_comment option ≡ false → counted + count_by is_comment items ≡ all
    → counted + count_by is_comment rest ≡ all
count_other items rest option counted all is other sum = omega (arith, comments-front items rest option false is other)

pub count_done : (items : List OptionItem) (counted all : ℕ) → items ≡ [] → counted + count_by is_comment items ≡ all
    → counted ≡ all
count_done items counted all is sum = grind arith
