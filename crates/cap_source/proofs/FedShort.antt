-- A header, a record or a block of which more bytes are wanted has at most 524,288: fewer are there.
use Rattle.std.proofs.Common.{◌≡◌, ℕ, ◌<◌, ◌||◌, not, true, List, length, Option, Some, None, is_some}
use Rattle.std.proofs.Common.{refl, sym, ap, ◌∙◌, arith}
use Rattle.std.proofs.lemmas.Bool.Decides.{nat_tests}
use Rattle.std.specs.Prelude.{Ok}
use Rattle.cap_blocks.proofs.Faults.{FieldsFit-from_header, first_fault-section, total-known}
use Rattle.cap_blocks.proofs.Spelling.{plain}
use Rattle.cap_blocks.specs.Grammar.{is_known_kind, section_kind}
use Rattle.cap_blocks.specs.Split.{AreBytes, block_at, block_fault, block_header_fault, block_order_at, body_fault}
use Rattle.cap_blocks.specs.Split.{fields_fault, first_fault, first_of_rules, is_section, kind_at, own_order, total_at}
use Rattle.cap_blocks.specs.declared.blocks.Block.{Block}
use Rattle.cap_blocks.specs.inner.Parsing.{ParsesBlockHeader}
use Rattle.cap_bytes.specs.Number.{number}
use Rattle.cap_bytes.specs.declared.faults.Rule.{Rule}
use Rattle.cap_bytes.specs.declared.faults.Rule.TheVariants.{Cut}
use Rattle.cap_bytes.specs.declared.numbers.Order.{Order}
use Rattle.cap_bytes.specs.declared.numbers.Order.TheVariants.{Big}
use Rattle.cap_pcap.specs.Split.{pcap_header_fault, record_fault}

pub header-few : (offset : ℕ) (b : List ℕ) → pcap_header_fault offset b ≡ Some Cut → length b < 524288
unfolding pcap_header_fault
header-few offset b is = grind (arith, nat_tests)

pub record-few : (order : Order) (offset : ℕ) (b : List ℕ) → record_fault order offset b ≡ Some Cut
    → length b < 524288
unfolding record_fault
record-few order offset b is = grind (arith, nat_tests)

first-few : (section : Option Order) (b : List ℕ) → first_fault section b ≡ Some Cut → length b < 524288
unfolding first_fault
first-few (Some order) b is = cc
first-few None b is = grind (arith, nat_tests)

fields-few : (order : Order) (offset : ℕ) (b : List ℕ) → fields_fault order offset b ≡ Some Cut → length b < 524288
unfolding fields_fault
fields-few order offset b is = grind (arith, nat_tests)

header-by : (section : Option Order) (offset : ℕ) (b : List ℕ) (first : Option Rule) → first_fault section b ≡ first
    → first_of_rules first (fields_fault (block_order_at section b) offset b) ≡ Some Cut → length b < 524288
header-by section offset b (Some rule) e is = first-few section b (e ∙ is)
header-by section offset b None e is = fields-few (block_order_at section b) offset b is

pub block-header-few : (section : Option Order) (offset : ℕ) (b : List ℕ)
    → block_header_fault section offset b ≡ Some Cut → length b < 524288
block-header-few section offset b is = header-by section offset b (first_fault section b) refl is

body-few : (order : Order) (b : List ℕ) → body_fault order b ≡ Some Cut → length b < total_at order b
unfolding body_fault
body-few order b is = grind (arith, nat_tests)

is-section : (b : List ℕ) → is_section b ≡ true → number Big 4 b ≡ section_kind
is-section b h = grind (arith, nat_tests)

-- a block that is read whole is of a known kind: the first of a file is a section header
known-by : (section : Option Order) (b : List ℕ) → AreBytes b → first_fault section b ≡ None
    → (is_known_kind (kind_at (block_order_at section b) b) || not (is_some section)) ≡ true
    → is_known_kind (kind_at (block_order_at section b) b) ≡ true
known-by (Some order) b bytes first h = grind arith
known-by None b bytes first h =
    ap is_known_kind ((plain b bytes).kinds Big (own_order b) (is-section b (first_fault-section b first)))

first-none : (first other : Option Rule) → first_of_rules first other ≡ None → first ≡ None
first-none first other h = grind arith

body-of : (section : Option Order) (offset : ℕ) (b : List ℕ) → block_header_fault section offset b ≡ None
    → block_fault section offset b ≡ Some Cut → body_fault (block_order_at section b) b ≡ Some Cut
unfolding block_fault
body-of section offset b none is = rw none at is

kind-of : (section : Option Order) (offset : ℕ) (b : List ℕ) (block : Block) → block ≡ block_at section offset b
    → block.kind ≡ kind_at (block_order_at section b) b
unfolding block_at
kind-of section offset b block is = ap (λ (k : Block). k.kind) is

pub whole-few : (section : Option Order) (offset : ℕ) (b : List ℕ) (block : Block) → AreBytes b
    → ParsesBlockHeader section offset b (Ok block) → (is_known_kind block.kind || not (is_some section)) ≡ true
    → block_fault section offset b ≡ Some Cut → length b < 524288
whole-few section offset b block bytes p read is =
    let order = block_order_at section b in
    let kind = kind-of section offset b block p.1 in
    let f = FieldsFit-from_header section offset b p.0 in
    let none = first-none (first_fault section b) (fields_fault order offset b) p.0 in
    let known = known-by section b bytes none (ap (λ (n : ℕ). is_known_kind n || not (is_some section)) (sym kind)
    ∙ read) in
    let most = total-known (kind_at order b) (total_at order b) f.allowed known in
    let few = body-few order b (body-of section offset b p.0 is) in
    omega (arith, most, few)
