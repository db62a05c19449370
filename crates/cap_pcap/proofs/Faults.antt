-- When the bytes at a place are refused.
use Rattle.std.proofs.Common.{◌≡◌, ℕ, ◌+◌, ◌^◌, ◌≤◌, ◌<◌, List, ◌++◌, length, take, drop, Some, None, true, sym, ◌∙◌}
use Rattle.std.proofs.Common.{ap, arith, length-append, ◌||◌}
use Rattle.std.proofs.lemmas.List.{take-append-drop}
use Rattle.std.proofs.lemmas.Bool.Decides.{nat_tests}
use Rattle.cap_bytes.specs.Number.{number}
use Rattle.cap_bytes.specs.declared.faults.Rule.{Rule}
use Rattle.cap_bytes.specs.declared.faults.Rule.TheVariants.{Cut}
use Rattle.cap_bytes.specs.declared.faults.Tail.{Tail}
use Rattle.cap_bytes.specs.declared.numbers.Order.{Order}
use Rattle.cap_bytes.specs.declared.numbers.Order.TheVariants.{Big, Little}
use Rattle.cap_pcap.specs.Split.{is_magic, is_pcap_version, pcap_order_at, record_fault, captured_at, pcap_header_fault}
use Rattle.cap_pcap.specs.Split.{header_at}
use Rattle.cap_pcap.specs.Split.{record_stop_at}
use Rattle.cap_bytes.proofs.Spelling.{number-drop_append}
use Rattle.cap_bytes.proofs.Items.{stop_where-whole, no_fault}
use Rattle.cap_bytes.proofs.Spelling.{number-append}

-- no condition is met in a record's place
pub record Fits (order : Order) (offset : ℕ) (bytes : List ℕ) : Type 0 where
  pub head : 16 ≤ length bytes
  pub captured : captured_at order bytes ≤ 262144
  pub limit : offset + (16 + captured_at order bytes) ≤ 2 ^ 40
  pub whole : 16 + captured_at order bytes ≤ length bytes

pub Fits-from_none : (order : Order) (offset : ℕ) (bytes : List ℕ) → record_fault order offset bytes ≡ None
    → Fits order offset bytes
unfolding record_fault
Fits-from_none order offset bytes h = grind arith

pub record_fault-fits : (order : Order) (offset : ℕ) (bytes : List ℕ) → Fits order offset bytes
    → record_fault order offset bytes ≡ None
unfolding record_fault
record_fault-fits order offset bytes h = grind (arith, nat_tests)

-- the captured length stands in the first 16 bytes
pub captured_at-append : (order : Order) (xs ys : List ℕ) → 16 ≤ length xs
    → captured_at order (xs ++ ys) ≡ captured_at order xs
captured_at-append order xs ys h = number-drop_append order 4 8 xs ys (omega arith)

-- More bytes after make no difference to a condition that isn't rule 3.
head_there : (order : Order) (offset : ℕ) (xs : List ℕ) (rule : Rule) → record_fault order offset xs ≡ Some rule
    → (rule ≡ Cut → ⊥) → 16 ≤ length xs
unfolding record_fault
head_there order offset xs rule h other = grind (arith, nat_tests)

longer : (order : Order) (offset : ℕ) (xs zs : List ℕ) (rule : Rule) → record_fault order offset xs ≡ Some rule
    → (rule ≡ Cut → ⊥) → captured_at order zs ≡ captured_at order xs → length xs ≤ length zs
    → record_fault order offset zs ≡ Some rule
unfolding record_fault
longer order offset xs zs rule h other same more = grind (arith, nat_tests)

pub record_fault-append : (order : Order) (offset : ℕ) (xs ys : List ℕ) (rule : Rule)
    → record_fault order offset xs ≡ Some rule
    → (rule ≡ Cut → ⊥) → record_fault order offset (xs ++ ys) ≡ Some rule
record_fault-append order offset xs ys rule h other =
    longer order offset xs (xs ++ ys) rule h other
    (captured_at-append order xs ys (head_there order offset xs rule h other)) (omega (arith, length-append xs ys))

-- more bytes after a whole record make no difference
pub Fits-append : (order : Order) (offset : ℕ) (xs ys : List ℕ) → Fits order offset xs → Fits order offset (xs ++ ys)
Fits-append order offset xs ys f = grind (arith, captured_at-append, length-append)

-- fewer than 16 bytes, or fewer than the record takes
pub record_fault-short : (order : Order) (offset : ℕ) (bytes : List ℕ) → length bytes < 16
    → record_fault order offset bytes ≡ Some Cut
unfolding record_fault
record_fault-short order offset bytes h = grind (arith, nat_tests)

pub record_fault-cut : (order : Order) (offset : ℕ) (bytes : List ℕ) → 16 ≤ length bytes
    → captured_at order bytes ≤ 262144
    → offset + (16 + captured_at order bytes) ≤ 2 ^ 40 → length bytes < 16 + captured_at order bytes
    → record_fault order offset bytes ≡ Some Cut
unfolding record_fault
record_fault-cut order offset bytes head captured limit few = grind (arith, nat_tests)

-- if nothing ends the records, no condition is met
pub stop_at-fits : (order : Order) (tail : Tail) (file offset : ℕ) (bytes : List ℕ) → Fits order offset bytes
    → record_stop_at order tail file offset bytes ≡ None
stop_at-fits order tail file offset bytes f = grind (arith, stop_where-whole, record_fault-fits)

pub Fits-from_stop_at : (order : Order) (tail : Tail) (file offset : ℕ) (bytes : List ℕ)
    → record_stop_at order tail file offset bytes ≡ None → Fits order offset bytes
Fits-from_stop_at order tail file offset bytes h = search (Fits-from_none, no_fault)

-- The header is told by the first 24 bytes alone.
same_fault : (offset : ℕ) (xs zs : List ℕ) → 24 ≤ length xs → 24 ≤ length zs
    → ((order : Order) → number order 4 zs ≡ number order 4 xs)
    → ((order : Order) → number order 2 (drop 4 zs) ≡ number order 2 (drop 4 xs))
    → ((order : Order) → number order 2 (drop 6 zs) ≡ number order 2 (drop 6 xs))
    → pcap_header_fault offset zs ≡ pcap_header_fault offset xs
unfolding pcap_header_fault
same_fault offset xs zs long longer magic major minor = grind arith

same_header : (xs zs : List ℕ)
    → ((order : Order) → number order 4 zs ≡ number order 4 xs)
    → ((order : Order) → number order 4 (drop 16 zs) ≡ number order 4 (drop 16 xs))
    → ((order : Order) → number order 4 (drop 20 zs) ≡ number order 4 (drop 20 xs))
    → header_at zs ≡ header_at xs
unfolding header_at
same_header xs zs magic snaplen link = grind arith

-- more bytes after the header make no difference
pub header_fault-append : (offset : ℕ) (xs ys : List ℕ) → 24 ≤ length xs
    → pcap_header_fault offset (xs ++ ys) ≡ pcap_header_fault offset xs
header_fault-append offset xs ys h =
    same_fault offset xs (xs ++ ys) h (omega (arith, length-append xs ys))
    (λ order. number-append order 4 xs ys (omega arith))
    (λ order. number-drop_append order 2 4 xs ys (omega arith))
    (λ order. number-drop_append order 2 6 xs ys (omega arith))

pub header_at-append : (xs ys : List ℕ) → 24 ≤ length xs → header_at (xs ++ ys) ≡ header_at xs
header_at-append xs ys h =
    same_header xs (xs ++ ys)
    (λ order. number-append order 4 xs ys (omega arith))
    (λ order. number-drop_append order 4 16 xs ys (omega arith))
    (λ order. number-drop_append order 4 20 xs ys (omega arith))

-- the captured length of a longer list that begins with xs
pub captured_at-front : (order : Order) (xs zs : List ℕ) → 16 ≤ length xs → take (length xs) zs ≡ xs
    → captured_at order zs ≡ captured_at order xs
captured_at-front order xs zs h front =
    ap (captured_at order) (sym (ap (λ l. l ++ drop (length xs) zs) (sym front) ∙ take-append-drop (length xs) zs))
    ∙ captured_at-append order xs (drop (length xs) zs) h

-- no condition is met in the header's place
pub record FitsHeader (offset : ℕ) (bytes : List ℕ) : Type 0 where
  pub whole : 24 ≤ length bytes
  pub magic : (is_magic Big bytes || is_magic Little bytes) ≡ true
  pub version : is_pcap_version (pcap_order_at bytes) bytes ≡ true
  pub limit : offset + 24 ≤ 2 ^ 40

pub FitsHeader-from_none : (offset : ℕ) (bytes : List ℕ) → pcap_header_fault offset bytes ≡ None
    → FitsHeader offset bytes
unfolding pcap_header_fault
FitsHeader-from_none offset bytes h = record {
  whole = grind (arith, nat_tests);
  magic = grind (arith, nat_tests);
  version = grind (arith, nat_tests);
  limit = grind (arith, nat_tests);
}

pub header_fault-fits : (offset : ℕ) (bytes : List ℕ) → FitsHeader offset bytes → pcap_header_fault offset bytes ≡ None
unfolding pcap_header_fault
header_fault-fits offset bytes f = grind (arith, nat_tests)
