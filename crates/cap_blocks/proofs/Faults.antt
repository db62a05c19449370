-- When the bytes at a place are refused.
use Rattle.std.proofs.Common.{◌≡◌, ℕ, ◌+◌, ◌^◌, ◌≤◌, ◌<◌, List, ◌++◌, length, drop, Option, Some, None, is_some, true}
use Rattle.std.proofs.Common.{false, not, refl, arith, length-append, ◌&&◌}
use Rattle.std.proofs.lemmas.Bool.Decides.{nat_tests}
use Rattle.cap_bytes.specs.Number.{number}
use Rattle.cap_bytes.specs.declared.faults.Rule.{Rule}
use Rattle.cap_bytes.specs.declared.faults.Rule.TheVariants.{Cut, BlockLength, OrderMagic, FileLimit}
use Rattle.cap_bytes.specs.declared.faults.Tail.{Tail}
use Rattle.cap_bytes.specs.declared.numbers.Order.{Order}
use Rattle.cap_bytes.proofs.Items.{stop_where-whole, no_fault}
use Rattle.cap_bytes.proofs.Spelling.{number-append, number-drop_append}
use Rattle.cap_blocks.specs.Grammar.{section_kind, is_total, is_known_kind}
use Rattle.cap_blocks.specs.Split.{kind_at, total_at, is_section, is_ordered, block_order_at, first_of_rules}
use Rattle.cap_blocks.specs.Split.{first_fault}
use Rattle.cap_blocks.specs.Split.{fields_fault, block_header_fault, body_fault, block_fault, block_at, block_stop_at}

-- what a total length that a kind allows is
pub total-least : (kind total : ℕ) → is_total kind total ≡ true → 12 ≤ total
unfolding is_total
total-least kind total allowed = grind (arith, nat_tests)

pub total-section : (kind total : ℕ) → is_total kind total ≡ true → kind ≡ section_kind → 28 ≤ total
unfolding is_total
total-section kind total allowed is = grind (arith, nat_tests)

pub total-known : (kind total : ℕ) → is_total kind total ≡ true → is_known_kind kind ≡ true → total ≤ 524288
unfolding is_total
total-known kind total allowed known = let e = rw known at allowed in grind (arith, nat_tests)

-- none of the conditions is met that the first 12 bytes tell
pub record FieldsFit (order : Order) (offset : ℕ) (bytes : List ℕ) : Type 0 where
  pub head : 12 ≤ length bytes
  pub ordered : (is_section bytes && not (is_ordered order bytes)) ≡ false
  pub allowed : is_total (kind_at order bytes) (total_at order bytes) ≡ true
  pub limit : offset + total_at order bytes ≤ 2 ^ 40

pub fields_fault-short : (order : Order) (offset : ℕ) (bytes : List ℕ) → length bytes < 12
    → fields_fault order offset bytes ≡ Some Cut
unfolding fields_fault
fields_fault-short order offset bytes short = grind (arith, nat_tests)

pub fields_fault-unordered : (order : Order) (offset : ℕ) (bytes : List ℕ) → 12 ≤ length bytes
    → (is_section bytes && not (is_ordered order bytes)) ≡ true → fields_fault order offset bytes ≡ Some OrderMagic
unfolding fields_fault
fields_fault-unordered order offset bytes head unordered = rw unordered (grind (arith, nat_tests))

pub fields_fault-length : (order : Order) (offset : ℕ) (bytes : List ℕ) → 12 ≤ length bytes
    → (is_section bytes && not (is_ordered order bytes)) ≡ false
    → is_total (kind_at order bytes) (total_at order bytes) ≡ false → fields_fault order offset bytes ≡ Some BlockLength
unfolding fields_fault
fields_fault-length order offset bytes head ordered other = rw (ordered, other) (grind (arith, nat_tests))

pub fields_fault-limit : (order : Order) (offset : ℕ) (bytes : List ℕ) → 12 ≤ length bytes
    → (is_section bytes && not (is_ordered order bytes)) ≡ false
    → is_total (kind_at order bytes) (total_at order bytes) ≡ true
    → 2 ^ 40 < offset + total_at order bytes → fields_fault order offset bytes ≡ Some FileLimit
unfolding fields_fault
fields_fault-limit order offset bytes head ordered allowed past = rw (ordered, allowed) (grind (arith, nat_tests))

pub fields_fault-fits : (order : Order) (offset : ℕ) (bytes : List ℕ) → FieldsFit order offset bytes
    → fields_fault order offset bytes ≡ None
unfolding fields_fault
fields_fault-fits order offset bytes f = grind arith

pub FieldsFit-from_none : (order : Order) (offset : ℕ) (bytes : List ℕ) → fields_fault order offset bytes ≡ None
    → FieldsFit order offset bytes
unfolding fields_fault
FieldsFit-from_none order offset bytes h = grind arith

-- the conditions of a first block come before those of its first 12 bytes
pub header_fault-fields : (section : Option Order) (offset : ℕ) (bytes : List ℕ) → first_fault section bytes ≡ None
    → block_header_fault section offset bytes ≡ fields_fault (block_order_at section bytes) offset bytes
header_fault-fields section offset bytes is = rw is refl

-- the first 12 bytes aren't cut if they are there
fields-not_cut : (order : Order) (offset : ℕ) (bytes : List ℕ) → 12 ≤ length bytes
    → fields_fault order offset bytes ≡ Some Cut → ⊥
unfolding fields_fault
fields-not_cut order offset bytes head cut = grind (arith, nat_tests)

first-not_cut : (section : Option Order) (bytes : List ℕ) → 12 ≤ length bytes → first_fault section bytes ≡ Some Cut
    → ⊥
unfolding first_fault
first-not_cut section bytes head cut = grind (arith, nat_tests)

either-not_cut : (a b : Option Rule) → (a ≡ Some Cut → ⊥) → (b ≡ Some Cut → ⊥) → first_of_rules a b ≡ Some Cut → ⊥
either-not_cut a b one other cut = grind arith

pub header-not_cut : (section : Option Order) (offset : ℕ) (bytes : List ℕ) → 12 ≤ length bytes
    → block_header_fault section offset bytes ≡ Some Cut → ⊥
header-not_cut section offset bytes head cut =
    either-not_cut (first_fault section bytes) (fields_fault (block_order_at section bytes) offset bytes)
    (first-not_cut section bytes head) (fields-not_cut (block_order_at section bytes) offset bytes head) cut

-- a first block that isn't refused so is a section header
pub first_fault-section : (bytes : List ℕ) → first_fault None bytes ≡ None → is_section bytes ≡ true
unfolding first_fault
first_fault-section bytes h = grind (arith, nat_tests)

-- if neither of two conditions is met
pub or_else-none : (a b : Option Rule) → first_of_rules a b ≡ None → (a ≡ None) × (b ≡ None)
or_else-none a b h = grind arith

pub FieldsFit-from_header : (section : Option Order) (offset : ℕ) (bytes : List ℕ)
    → block_header_fault section offset bytes ≡ None
    → FieldsFit (block_order_at section bytes) offset bytes
FieldsFit-from_header section offset bytes h = grind (arith, FieldsFit-from_none, or_else-none)

-- The first 12 bytes tell all of that.
order_same : (section : Option Order) (xs zs : List ℕ) → ((order : Order) → number order 4 zs ≡ number order 4 xs)
    → ((order : Order) → number order 4 (drop 8 zs) ≡ number order 4 (drop 8 xs))
    → block_order_at section zs ≡ block_order_at section xs
order_same section xs zs kind magic = grind arith

first_same : (section : Option Order) (xs zs : List ℕ) → 12 ≤ length xs → 12 ≤ length zs
    → ((order : Order) → number order 4 zs ≡ number order 4 xs) → first_fault section zs ≡ first_fault section xs
unfolding first_fault
first_same section xs zs long longer kind = grind (arith, nat_tests)

head_same : (order : Order) (offset : ℕ) (xs zs : List ℕ) → 12 ≤ length xs → 12 ≤ length zs
    → ((order : Order) → number order 4 zs ≡ number order 4 xs)
    → ((order : Order) → number order 4 (drop 4 zs) ≡ number order 4 (drop 4 xs))
    → ((order : Order) → number order 4 (drop 8 zs) ≡ number order 4 (drop 8 xs))
    → fields_fault order offset zs ≡ fields_fault order offset xs
unfolding fields_fault
head_same order offset xs zs long longer kind total magic = grind arith

pub order_at-append : (section : Option Order) (xs ys : List ℕ) → 12 ≤ length xs
    → block_order_at section (xs ++ ys) ≡ block_order_at section xs
order_at-append section xs ys h =
    order_same section xs (xs ++ ys) (λ order. number-append order 4 xs ys (omega arith))
    (λ order. number-drop_append order 4 8 xs ys (omega arith))

pub header_fault-append : (section : Option Order) (offset : ℕ) (xs ys : List ℕ) → 12 ≤ length xs
    → block_header_fault section offset (xs ++ ys) ≡ block_header_fault section offset xs
header_fault-append section offset xs ys h =
    let longer : 12 ≤ length (xs ++ ys) = omega (arith, length-append xs ys) in
    let kind = λ (order : Order). number-append order 4 xs ys (omega arith) in
    let total = λ (order : Order). number-drop_append order 4 4 xs ys (omega arith) in
    let magic = λ (order : Order). number-drop_append order 4 8 xs ys (omega arith) in
    rw (
      order_at-append section xs ys h,
      first_same section xs (xs ++ ys) h longer kind,
      head_same (block_order_at section xs) offset xs (xs ++ ys) h longer kind total magic,
    ) refl

pub block_at-append : (section : Option Order) (offset : ℕ) (xs ys : List ℕ) → 12 ≤ length xs
    → block_at section offset (xs ++ ys) ≡ block_at section offset xs
unfolding block_at
block_at-append section offset xs ys h = grind (arith, order_at-append, number-append, number-drop_append)

-- what ends the blocks, by the condition that is met
pub block_fault-header : (section : Option Order) (offset : ℕ) (bytes : List ℕ) (rule : Rule)
    → block_header_fault section offset bytes ≡ Some rule
    → block_fault section offset bytes ≡ Some rule
unfolding block_fault
block_fault-header section offset bytes rule is = rw is refl

pub block_fault-body : (section : Option Order) (offset : ℕ) (bytes : List ℕ) (fault : Option Rule)
    → block_header_fault section offset bytes ≡ None
    → body_fault (block_order_at section bytes) bytes ≡ fault → block_fault section offset bytes ≡ fault
unfolding block_fault
block_fault-body section offset bytes fault none is = rw (none, is) refl

-- nothing ends the blocks if a whole one stands
pub stop_at-whole : (section : Option Order) (tail : Tail) (file offset : ℕ) (bytes : List ℕ) → 0 < length bytes
    → block_fault section offset bytes ≡ None → block_stop_at section tail file offset bytes ≡ None
stop_at-whole section tail file offset bytes some is = search (stop_where-whole, is_some)

pub block_fault-from_none : (section : Option Order) (tail : Tail) (file offset : ℕ) (bytes : List ℕ)
    → block_stop_at section tail file offset bytes ≡ None → block_fault section offset bytes ≡ None
block_fault-from_none section tail file offset bytes h = search (no_fault, is_some)

pub faults-from_none : (section : Option Order) (offset : ℕ) (bytes : List ℕ) → block_fault section offset bytes ≡ None
    → (block_header_fault section offset bytes ≡ None) × (body_fault (block_order_at section bytes) bytes ≡ None)
unfolding block_fault
faults-from_none section offset bytes h = or_else-none (block_header_fault section offset bytes)
    (body_fault (block_order_at section bytes) bytes) h

pub FieldsFit-from_stop_at : (section : Option Order) (tail : Tail) (file offset : ℕ) (bytes : List ℕ)
    → block_stop_at section tail file offset bytes ≡ None → FieldsFit (block_order_at section bytes) offset bytes
FieldsFit-from_stop_at section tail file offset bytes h =
    FieldsFit-from_header section offset bytes (faults-from_none section offset bytes
    (block_fault-from_none section tail file offset bytes h)).0
