-- More bytes after a whole block, or after one that is refused, make no difference.
use Rattle.std.proofs.Common.{◌≡◌, ℕ, ◌-◌, ◌≤◌, List, ◌++◌, length, take, drop, Option, Some, None}
use Rattle.std.proofs.Common.{refl, sym, ap, ◌∙◌, arith, length-append, length-drop}
use Rattle.std.proofs.lemmas.Bool.Decides.{nat_tests}
use Rattle.std.proofs.lemmas.List.{drop-append-le, take-append-le}
use Rattle.cap_bytes.specs.declared.faults.Rule.{Rule}
use Rattle.cap_bytes.specs.declared.faults.Rule.TheVariants.{Cut}
use Rattle.cap_bytes.specs.declared.numbers.Order.{Order}
use Rattle.cap_bytes.proofs.Spelling.{number-append, number-drop_append}
use Rattle.cap_blocks.proofs.Behind.{body_fault-append}
use Rattle.cap_blocks.proofs.Faults.{FieldsFit-from_header, block_fault-body, block_fault-header}
use Rattle.cap_blocks.proofs.Faults.{header_fault-append, order_at-append, total-least, total-section}
use Rattle.cap_blocks.specs.Split.{block_fault, block_header_fault, block_order_at, body_at, body_fault}
use Rattle.cap_blocks.specs.Split.{body_in, fields_fault, first_fault, first_of_rules, kind_at, total_at}

module _ (section : Option Order) (offset : ℕ) (xs ys : List ℕ) where
  -- the first block's own condition is told by 4 bytes
  first-append : 4 ≤ length xs → first_fault section (xs ++ ys) ≡ first_fault section xs
  unfolding first_fault
  first-append h = grind (arith, nat_tests, number-append, length-append)

  first-long : (rule : Rule) → first_fault section xs ≡ Some rule → (rule ≡ Cut → ⊥) → 4 ≤ length xs
  unfolding first_fault
  first-long rule is other = grind (arith, nat_tests)

  fields-long : (order : Order) (rule : Rule) → fields_fault order offset xs ≡ Some rule → (rule ≡ Cut → ⊥)
      → 12 ≤ length xs
  unfolding fields_fault
  fields-long order rule is other = grind (arith, nat_tests)

  header-by : (first : Option Rule) (rule : Rule) → first_fault section xs ≡ first
      → first_of_rules first (fields_fault (block_order_at section xs) offset xs) ≡ Some rule → (rule ≡ Cut → ⊥)
      → block_header_fault section offset (xs ++ ys) ≡ Some rule
  header-by (Some first) rule there is other =
      let same : first ≡ rule = grind arith in
      let told = there ∙ ap Some same in
      rw (first-append (first-long rule told other), told) refl
  header-by None rule there is other =
      header_fault-append section offset xs ys (fields-long (block_order_at section xs) rule is other)
      ∙ (ap (λ (o : Option Rule). first_of_rules o (fields_fault (block_order_at section xs) offset xs)) there ∙ is)

  -- a header that is refused for its content
  pub header-refused : (rule : Rule) → block_header_fault section offset xs ≡ Some rule → (rule ≡ Cut → ⊥)
      → block_header_fault section offset (xs ++ ys) ≡ Some rule
  header-refused rule is other = header-by (first_fault section xs) rule refl is other

  -- a header that isn't
  pub header-there : block_header_fault section offset xs ≡ None → block_header_fault section offset (xs ++ ys) ≡ None
  header-there is =
      header_fault-append section offset xs ys (FieldsFit-from_header section offset xs is).head ∙ is

  pub total-there : block_header_fault section offset xs ≡ None
      → total_at (block_order_at section (xs ++ ys)) (xs ++ ys) ≡ total_at (block_order_at section xs) xs
  total-there is =
      let f = FieldsFit-from_header section offset xs is in
      ap (λ (o : Order). total_at o (xs ++ ys)) (order_at-append section xs ys f.head)
      ∙ number-drop_append (block_order_at section xs) 4 4 xs ys (omega (arith, f.head))

  -- a block that is there whole
  pub body-there : block_header_fault section offset xs ≡ None → total_at (block_order_at section xs) xs ≤ length xs
      → body_fault (block_order_at section (xs ++ ys)) (xs ++ ys) ≡ body_fault (block_order_at section xs) xs
  body-there is whole =
      let f = FieldsFit-from_header section offset xs is in
      let order = block_order_at section xs in
      ap (λ (o : Order). body_fault o (xs ++ ys)) (order_at-append section xs ys f.head)
      ∙ body_fault-append order xs ys (total-least (kind_at order xs) (total_at order xs) f.allowed) whole
      (total-section (kind_at order xs) (total_at order xs) f.allowed)

  pub lent-there : block_header_fault section offset xs ≡ None → total_at (block_order_at section xs) xs ≤ length xs
      → body_at section (xs ++ ys) ≡ body_at section xs
  lent-there is whole =
      let f = FieldsFit-from_header section offset xs is in
      let total = total_at (block_order_at section xs) xs in
      let least = total-least (kind_at (block_order_at section xs) xs) total f.allowed in
      ap (λ (n : ℕ). body_in n (xs ++ ys)) (total-there is)
      ∙ (ap (take (total - 12)) (drop-append-le 8 xs ys (omega (arith, f.head)))
      ∙ take-append-le (total - 12) (drop 8 xs) ys (omega (arith, length-drop 8 xs, whole, least)))

  -- a body that is refused is there whole, unless rule 3 says that it isn't
  body-long : (order : Order) (rule : Rule) → body_fault order xs ≡ Some rule → (rule ≡ Cut → ⊥)
      → total_at order xs ≤ length xs
  unfolding body_fault
  body-long order rule is other = grind (arith, nat_tests)

  by-header : (header : Option Rule) (rule : Rule) → block_header_fault section offset xs ≡ header
      → block_fault section offset xs ≡ Some rule → (rule ≡ Cut → ⊥) → block_fault section offset (xs ++ ys) ≡ Some rule
  by-header (Some first) rule there is other =
      let same : Some first ≡ Some rule = sym (block_fault-header section offset xs first there) ∙ is in
      block_fault-header section offset (xs ++ ys) rule (header-refused rule (there ∙ same) other)
  by-header None rule there is other =
      let body : body_fault (block_order_at section xs) xs ≡ Some rule =
      sym (block_fault-body section offset xs (body_fault (block_order_at section xs) xs) there refl) ∙ is in
      block_fault-body section offset (xs ++ ys) (Some rule) (header-there there)
      (body-there there (body-long (block_order_at section xs) rule body other) ∙ body)

  pub block-refused : (rule : Rule) → block_fault section offset xs ≡ Some rule → (rule ≡ Cut → ⊥)
      → block_fault section offset (xs ++ ys) ≡ Some rule
  block-refused rule is other = by-header (block_header_fault section offset xs) rule refl is other
