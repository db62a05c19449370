-- Numbers that read the same in both orders, and numbers that don't.
use Rattle.std.proofs.Common.{◌≡◌, ℕ, ◌+◌, List, drop, arith}
use Rattle.std.proofs.lemmas.List.{get_or-drop}
use Rattle.cap_bytes.specs.Number.{number}
use Rattle.cap_bytes.specs.declared.numbers.Order.{Order}
use Rattle.cap_bytes.specs.declared.numbers.Order.TheVariants.{Big, Little}
use Rattle.cap_blocks.specs.Grammar.{section_kind, order_magic}
use Rattle.cap_blocks.specs.Split.{AreBytes}

-- a section header's kind reads the same in both orders
pub kind_same : (p q : Order) (bytes : List ℕ) → AreBytes bytes → number p 4 bytes ≡ section_kind
    → number q 4 bytes ≡ section_kind
unfolding number
kind_same p q bytes fits is = grind arith

-- an order magic doesn't
pub magic_one : (bytes : List ℕ) → AreBytes bytes → number Big 4 bytes ≡ order_magic
    → number Little 4 bytes ≡ order_magic → ⊥
unfolding number
magic_one bytes fits big little = grind arith

pub AreBytes-drop : (n : ℕ) (bytes : List ℕ) → AreBytes bytes → AreBytes (drop n bytes)
AreBytes-drop n bytes fits k = rw get_or-drop (fits (n + k))
