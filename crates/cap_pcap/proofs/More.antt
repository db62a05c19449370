-- More bytes after a header or a record, or after one that is refused, make no difference.
use Rattle.std.proofs.Common.{◌≡◌, ℕ, ◌≤◌, ◌<◌, List, ◌++◌, length, take, drop, Some, None}
use Rattle.std.proofs.Common.{ap, ◌∙◌, arith, length-append, length-drop, ◌⊎◌, inl, inr}
use Rattle.std.proofs.lemmas.Bool.Decides.{nat_tests}
use Rattle.std.proofs.lemmas.List.{drop-append-le, take-append-le}
use Rattle.cap_bytes.specs.Number.{number}
use Rattle.cap_bytes.specs.declared.faults.Rule.{Rule}
use Rattle.cap_bytes.specs.declared.faults.Rule.TheVariants.{Cut}
use Rattle.cap_bytes.specs.declared.numbers.Order.{Order}
use Rattle.cap_bytes.proofs.Spelling.{number-append, number-drop_append}
use Rattle.cap_time.specs.declared.stamps.Unit.{Unit as Fraction}
use Rattle.cap_pcap.proofs.Faults.{Fits, Fits-append, Fits-from_none, captured_at-append, header_at-append}
use Rattle.cap_pcap.proofs.Faults.{header_fault-append, record_fault-fits}
use Rattle.cap_pcap.specs.Split.{captured_at, header_at, pcap_header_fault, record_at, record_fault, record_frame_at}

-- a header that is refused for its content
magic-same : (offset : ℕ) (xs zs : List ℕ) (rule : Rule) → pcap_header_fault offset xs ≡ Some rule → (rule ≡ Cut → ⊥)
    → length xs < 24 → length xs ≤ length zs
    → (4 ≤ length xs → (order : Order) → number order 4 zs ≡ number order 4 xs)
    → pcap_header_fault offset zs ≡ Some rule
unfolding pcap_header_fault
magic-same offset xs zs rule is other short longer same = grind (arith, nat_tests)

header-by : (offset : ℕ) (xs ys : List ℕ) (rule : Rule) → pcap_header_fault offset xs ≡ Some rule → (rule ≡ Cut → ⊥)
    → (length xs < 24) ⊎ (24 ≤ length xs) → pcap_header_fault offset (xs ++ ys) ≡ Some rule
header-by offset xs ys rule is other (inl short) =
    magic-same offset xs (xs ++ ys) rule is other short (omega (arith, length-append xs ys))
    (λ four order. number-append order 4 xs ys four)
header-by offset xs ys rule is other (inr long) = header_fault-append offset xs ys long ∙ is

side : (n m : ℕ) → (n < m) ⊎ (m ≤ n)
side n m = grind (arith, nat_tests)

pub header-refused : (offset : ℕ) (xs ys : List ℕ) (rule : Rule) → pcap_header_fault offset xs ≡ Some rule
    → (rule ≡ Cut → ⊥) → pcap_header_fault offset (xs ++ ys) ≡ Some rule
header-refused offset xs ys rule is other = header-by offset xs ys rule is other (side (length xs) 24)

-- one that is there
header-long : (offset : ℕ) (xs : List ℕ) → pcap_header_fault offset xs ≡ None → 24 ≤ length xs
unfolding pcap_header_fault
header-long offset xs is = grind (arith, nat_tests)

pub header-there : (offset : ℕ) (xs ys : List ℕ) → pcap_header_fault offset xs ≡ None
    → (pcap_header_fault offset (xs ++ ys) ≡ None) × (header_at (xs ++ ys) ≡ header_at xs) × (24 ≤ length xs)
header-there offset xs ys is =
    let long = header-long offset xs is in
    (header_fault-append offset xs ys long ∙ is, header_at-append xs ys long, long)

-- a record that is there
pub record-there : (order : Order) (offset : ℕ) (xs ys : List ℕ) → record_fault order offset xs ≡ None
    → record_fault order offset (xs ++ ys) ≡ None
record-there order offset xs ys is =
    record_fault-fits order offset (xs ++ ys) (Fits-append order offset xs ys (Fits-from_none order offset xs is))

pub record-same : (order : Order) (unit : Fraction) (offset : ℕ) (xs ys : List ℕ) → 16 ≤ length xs
    → record_at order unit offset (xs ++ ys) ≡ record_at order unit offset xs
unfolding record_at
record-same order unit offset xs ys head = grind (arith, number-append, number-drop_append)

pub frame-same : (order : Order) (offset : ℕ) (xs ys : List ℕ) → Fits order offset xs
    → record_frame_at order (xs ++ ys) ≡ record_frame_at order xs
frame-same order offset xs ys f =
    ap (λ (n : ℕ). take n (drop 16 (xs ++ ys))) (captured_at-append order xs ys f.head)
    ∙ (ap (take (captured_at order xs)) (drop-append-le 16 xs ys f.head)
    ∙ take-append-le (captured_at order xs) (drop 16 xs) ys (omega (arith, length-drop 16 xs, f.whole)))
