-- A block that stands whole at the front of some bytes.
use Rattle.std.proofs.Common.{◌≡◌, ℕ, ◌<◌, List, length, Option, Some, Ok, refl, ap, ◌∙◌, subst}
use Rattle.cap_bytes.specs.declared.faults.Rule.{Rule}
use Rattle.cap_bytes.specs.declared.faults.Rule.TheVariants.{Cut}
use Rattle.cap_bytes.specs.declared.numbers.Order.{Order}
use Rattle.cap_blocks.proofs.Behind.{body_fault-cut}
use Rattle.cap_blocks.proofs.Faults.{block_fault-body}
use Rattle.cap_blocks.specs.inner.Parsing.{ParsesBlockHeader}
use Rattle.cap_blocks.specs.Split.{block_at, block_fault, block_order_at, body_fault, total_at}
use Rattle.cap_blocks.specs.declared.blocks.Block.{Block}

pub order-at : (section : Option Order) (offset : ℕ) (bytes : List ℕ)
    → (block_at section offset bytes).order ≡ block_order_at section bytes
unfolding block_at
order-at section offset bytes = refl

pub total-at : (section : Option Order) (offset : ℕ) (bytes : List ℕ)
    → (block_at section offset bytes).total ≡ total_at (block_order_at section bytes) bytes
unfolding block_at
total-at section offset bytes = refl

-- by its header, and what its body is refused by
pub fault-whole : (section : Option Order) (offset : ℕ) (bytes : List ℕ) (block : Block) (fault : Option Rule)
    → ParsesBlockHeader section offset bytes (Ok block) → body_fault block.order bytes ≡ fault
    → block_fault section offset bytes ≡ fault
fault-whole section offset bytes block fault p is =
    let order = ap (λ (b : Block). b.order) p.1 ∙ order-at section offset bytes in
    block_fault-body section offset bytes fault p.0 (subst (λ (o : Order). body_fault o bytes ≡ fault) order is)

pub fault-cut : (section : Option Order) (offset : ℕ) (bytes : List ℕ) (block : Block)
    → ParsesBlockHeader section offset bytes (Ok block) → length bytes < block.total
    → block_fault section offset bytes ≡ Some Cut
fault-cut section offset bytes block p few =
    block_fault-body section offset bytes (Some Cut) p.0
    (body_fault-cut (block_order_at section bytes) bytes
    (subst (λ (n : ℕ). length bytes < n) (ap (λ (b : Block). b.total) p.1 ∙ total-at section offset bytes) few))
