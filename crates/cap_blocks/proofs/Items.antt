-- The items of some bytes, by what stands at their front.
use Rattle.std.proofs.Common.{◌≡◌, ℕ, ◌+◌, ◌==◌, ◌&&◌, false, List, [], ◌∷◌, length, drop, Option, Some, None, is_some}
use Rattle.std.proofs.Common.{IsSome, arith}
use Rattle.cap_bytes.specs.Items.{stop_by, given, stopped}
use Rattle.cap_bytes.specs.declared.faults.Rule.{Rule}
use Rattle.cap_bytes.specs.declared.faults.Tail.{Tail}
use Rattle.cap_bytes.specs.declared.numbers.Order.{Order}
use Rattle.cap_bytes.specs.declared.stops.Stop.{Stop}
use Rattle.cap_bytes.specs.declared.stops.Stop.TheVariants as stops
use Rattle.cap_bytes.proofs.Items as items
use Rattle.cap_bytes.proofs.Items.{Advances, stop_where-end, stop_where-fault}
use Rattle.cap_blocks.specs.Split.{block_fault, block_order_at, total_at, block_at, body_at, block_stop_at}
use Rattle.cap_blocks.specs.Split.{block_format, block_items_from}
use Rattle.cap_blocks.proofs.Faults.{FieldsFit-from_stop_at, total-least}

advances : Advances block_format
advances section tail file offset bytes is = grind (arith, FieldsFit-from_stop_at, total-least)

-- If something ends the blocks, that is the one item.
pub items_from-stop : (section : Option Order) (tail : Tail) (file offset : ℕ) (bytes : List ℕ) (stop : Stop)
    → block_stop_at section tail file offset bytes ≡ Some stop
    → block_items_from section tail file offset bytes ≡ stopped stop ∷ []
items_from-stop section tail file offset bytes stop is =
    items.items_in-stop block_format tail file section offset bytes stop is

-- At no bytes after a whole block they end.
pub items_from-none : (section : Option Order) (tail : Tail) (file offset : ℕ) → IsSome section
    → block_items_from section tail file offset [] ≡ stopped stops.End ∷ []
items_from-none section tail file offset some = search (items_from-stop, stop_where-end, is_some)

-- At a fault they end by it.
pub items_from-fault : (section : Option Order) (tail : Tail) (file offset : ℕ) (bytes : List ℕ) (rule : Rule)
    → (is_some section && (length bytes == 0)) ≡ false → block_fault section offset bytes ≡ Some rule
    → block_items_from section tail file offset bytes
    ≡ stopped (stop_by (is_some section) tail file offset (length bytes) rule) ∷ []
items_from-fault section tail file offset bytes rule some fault = search (items_from-stop, is_some, stop_where-fault)

-- A block is the first item, and those of the bytes after it follow, in its order.
pub items_from-block : (section : Option Order) (tail : Tail) (file offset : ℕ) (bytes : List ℕ)
    → block_stop_at section tail file offset bytes ≡ None
    → block_items_from section tail file offset bytes ≡ given (block_at section offset bytes) (body_at section bytes)
    ∷ block_items_from (Some (block_order_at section bytes)) tail file (offset
    + total_at (block_order_at section bytes) bytes)
    (drop (total_at (block_order_at section bytes) bytes) bytes)
items_from-block section tail file offset bytes is =
    items.items_in-piece block_format tail file advances section offset bytes is
