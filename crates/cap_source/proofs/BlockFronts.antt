-- The blocks of a pcapng file as it would be if it ended further on.
use Rattle.std.proofs.Common.{◌≡◌, ℕ, ◌+◌, ◌-◌, ◌≤◌, List, ◌∷◌, ◌++◌, length, take, drop, Option, Some, None}
use Rattle.std.proofs.Common.{sym, ap, subst, ◌∙◌}
use Rattle.std.proofs.Common.{arith, length-drop, length-take}
use Rattle.std.proofs.lemmas.List.{take-append-drop, drop-take}
use Rattle.std.proofs.lemmas.Bool.Decides.{nat_tests}
use Rattle.cap_bytes.specs.Items.{given}
use Rattle.cap_bytes.specs.declared.faults.Tail.{Tail}
use Rattle.cap_bytes.specs.declared.numbers.Order.{Order}
use Rattle.cap_blocks.specs.Split.{block_at, block_items_from, block_order_at, block_stop_at, body_at}
use Rattle.cap_blocks.specs.Split.{body_fault, body_in, total_at}
use Rattle.cap_blocks.specs.declared.blocks.Block.{Block}
use Rattle.cap_blocks.proofs.Faults.{FieldsFit-from_stop_at, block_at-append, block_fault-body, block_fault-from_none}
use Rattle.cap_blocks.proofs.Faults.{faults-from_none, header_fault-append, stop_at-whole, total-least, order_at-append}
use Rattle.cap_blocks.proofs.Items.{items_from-block}
use Rattle.cap_blocks.proofs.More.{body-there, lent-there, total-there}

-- The first bytes of some bytes at whose front a block stands, if they have all of it.
record HasBlock (section : Option Order) (tail : Tail) (file offset : ℕ) (xs ys : List ℕ) : Type 0 where
  pub none : block_stop_at section tail file offset xs ≡ None
  pub block : block_at section offset xs ≡ block_at section offset (xs ++ ys)
  pub order : block_order_at section xs ≡ block_order_at section (xs ++ ys)
  pub total : total_at (block_order_at section xs) xs ≡ total_at (block_order_at section (xs ++ ys)) (xs ++ ys)
  pub body : body_at section xs ≡ body_at section (xs ++ ys)

has-block : (section : Option Order) (tail : Tail) (file offset : ℕ) (xs ys : List ℕ)
    → block_stop_at section tail file offset (xs ++ ys) ≡ None
    → total_at (block_order_at section (xs ++ ys)) (xs ++ ys) ≤ length xs → HasBlock section tail file offset xs ys
has-block section tail file offset xs ys none enough =
    let parts = faults-from_none section offset (xs ++ ys)
    (block_fault-from_none section tail file offset (xs ++ ys) none) in
    let fit = FieldsFit-from_stop_at section tail file offset (xs ++ ys) none in
    let least = total-least _ _ fit.allowed in
    let head : 12 ≤ length xs = omega (arith, least, enough) in
    let header = sym (header_fault-append section offset xs ys head) ∙ parts.0 in
    let total = total-there section offset xs ys header in
    let few : total_at (block_order_at section xs) xs ≤ length xs = omega (arith, total, enough) in
    let body = sym (body-there section offset xs ys header few) ∙ parts.1 in
    record {
      none = stop_at-whole section tail file offset xs (omega (arith, head))
          (block_fault-body section offset xs None header body);
      block = sym (block_at-append section offset xs ys head);
      order = sym (order_at-append section xs ys head);
      total = sym total;
      body = sym (lent-there section offset xs ys header few);
    }

-- a block that is there is no longer than what is there
total-within : (section : Option Order) (tail : Tail) (file offset : ℕ) (bytes : List ℕ)
    → block_stop_at section tail file offset bytes ≡ None → total_at (block_order_at section bytes) bytes ≤ length bytes
unfolding body_fault
total-within section tail file offset bytes none =
    let body = (faults-from_none section offset bytes (block_fault-from_none section tail file offset bytes none)).1 in
    grind (arith, nat_tests)

module _ (section : Option Order) (tail : Tail) (file offset : ℕ) where
  -- the items of such first bytes: the block, and those of the rest of them
  items-of_front : (xs ys : List ℕ) (order : Order) (total : ℕ)
      → block_stop_at section tail file offset (xs ++ ys) ≡ None
      → block_order_at section (xs ++ ys) ≡ order → total_at (block_order_at section (xs ++ ys)) (xs ++ ys) ≡ total
      → total ≤ length xs
      → block_items_from section tail file offset xs
      ≡ given (block_at section offset (xs ++ ys)) (body_at section (xs ++ ys))
      ∷ block_items_from (Some order) tail file (offset + total) (drop total xs)
  items-of_front xs ys order total none is_order is_total enough =
      let h = has-block section tail file offset xs ys none (omega (arith, is_total, enough)) in
      let o = h.order ∙ is_order in
      let t = h.total ∙ is_total in
      items_from-block section tail file offset xs h.none
      ∙ (λ i. given (h.block i) (h.body i) ∷ block_items_from (Some (o i)) tail file (offset + t i) (drop (t i) xs))

  -- the same of the bytes before an end, which isn't in the block
  items-before : (bytes : List ℕ) (order : Order) (total size : ℕ)
      → block_stop_at section tail file offset bytes ≡ None
      → block_order_at section bytes ≡ order → total_at (block_order_at section bytes) bytes ≡ total
      → block_items_from section tail file offset (take (total + size) bytes)
      ≡ given (block_at section offset bytes) (body_at section bytes)
      ∷ block_items_from (Some order) tail file (offset + total) (take size (drop total bytes))
  items-before bytes order total size none is_order is_total =
      let within = total-within section tail file offset bytes none in
      let few : total ≤ length (take (total + size) bytes) =
      omega (arith, length-take (total + size) bytes, within, is_total) in
      let whole = sym (take-append-drop (total + size) bytes) in
      let by = items-of_front (take (total + size) bytes) (drop (total + size) bytes) order total
      (subst (λ (l : List ℕ). block_stop_at section tail file offset l ≡ None) whole none)
      (subst (λ (l : List ℕ). block_order_at section l ≡ order) whole is_order)
      (subst (λ (l : List ℕ). total_at (block_order_at section l) l ≡ total) whole is_total) few in
      by ∙ (λ i. given (block_at section offset (sym whole i)) (body_at section (sym whole i))
      ∷ block_items_from (Some order) tail file (offset + total) (drop-take total size bytes i))

-- the size of what comes before an end
size-before : (offset total later end : ℕ) → later ≡ offset + total → later ≤ end → end - offset ≡ total + (end - later)
size-before offset total later end is within = omega (arith, is)

-- the same of a block that was given
pub items-given : (a b : Option Order) (tail tail' : Tail) (file file' offset offset' end : ℕ) (bytes bytes' : List ℕ)
    (block : Block)
    → b ≡ Some block.order → tail' ≡ tail → file' ≡ file → offset' ≡ offset + block.total
    → block_stop_at a tail file offset bytes ≡ None → block ≡ block_at a offset bytes
    → bytes' ≡ drop block.total bytes → offset' ≤ end
    → block_items_from a tail file offset (take (end - offset) bytes)
    ≡ given block (body_in block.total bytes)
    ∷ block_items_from b tail' file' offset' (take (end - offset') bytes')
unfolding block_at
items-given a b tail tail' file file' offset offset' end bytes bytes' block is_b t f o none is rest within =
    let order : block_order_at a bytes ≡ block.order = ap (λ (k : Block). k.order) (sym is) in
    let total : total_at (block_order_at a bytes) bytes ≡ block.total = ap (λ (k : Block). k.total) (sym is) in
    let size = size-before offset block.total offset' end o within in
    ap (λ (n : ℕ). block_items_from a tail file offset (take n bytes)) size
    ∙ (items-before a tail file offset bytes block.order block.total (end - offset') none order total
    ∙ (λ i. given (sym is i) (body_in (total i) bytes)
    ∷ block_items_from (sym is_b i) (sym t i) (sym f i) (sym o i) (take (end - offset') (sym rest i))))

pub size-given : (a : Option Order) (tail : Tail) (file offset : ℕ) (bytes bytes' : List ℕ) (block : Block)
    → block_stop_at a tail file offset bytes ≡ None → block ≡ block_at a offset bytes → bytes' ≡ drop block.total bytes
    → (offset + block.total) + length bytes' ≡ offset + length bytes
unfolding block_at
size-given a tail file offset bytes bytes' block none is rest =
    let total : total_at (block_order_at a bytes) bytes ≡ block.total = ap (λ (k : Block). k.total) (sym is) in
    omega (arith, total-within a tail file offset bytes none, total, ap length rest, length-drop block.total bytes)
