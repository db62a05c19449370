-- Whole written pcapng files, read again.
use Rattle.std.proofs.Common.{◌≡◌, ℕ, ◌+◌, ◌≤◌, ◌<◌, ◌^◌, List, [], ◌∷◌, ◌++◌, length, true, Some, None, Ok, ap, ◌∙◌}
use Rattle.std.proofs.Common.{arith, append_assoc, length-append, if◌then◌else◌}
use Rattle.std.proofs.lemmas.Bool.{eq-eqb}
use Rattle.std.proofs.lemmas.Bool.Decides.{nat_tests}
use Rattle.cap_blocks.proofs.Again.{section_again-law}
use Rattle.cap_blocks.proofs.Parts.{length-section_body}
use Rattle.cap_blocks.specs.Grammar.{section_kind, section_body, section_bytes, interface_bytes, block_bytes}
use Rattle.cap_blocks.specs.inner.Laws.{block_of}
use Rattle.cap_blocks.specs.Split as blocks
use Rattle.cap_blocks.specs.Split.{is_section, BlockPiece}
use Rattle.cap_bytes.proofs.Spelling.{number-append, length-bytes_of}
use Rattle.cap_bytes.specs.Number.{number, bytes_of}
use Rattle.cap_bytes.specs.declared.faults.Tail.{Tail}
use Rattle.cap_bytes.specs.declared.numbers.Order.{Order}
use Rattle.cap_bytes.specs.declared.numbers.Order.TheVariants.{Big}
use Rattle.cap_source.specs.Items.{fresh, is_pcapng, items_of_blocks, first_in, items_from, file_items, first_from}
use Rattle.cap_source.specs.Items.{file_first}
use Rattle.cap_source.specs.Items.{interface_of, unless_refused}
use Rattle.cap_pcap.specs.Split as records
use Rattle.cap_source.specs.declared.contents.BlockContent.TheVariants as contents
use Rattle.cap_time.specs.declared.resolutions.Interface.{Interface}
use Rattle.cap_write.specs.Numbering.{Numbered}
use Rattle.cap_write.specs.Texts.{front_bytes, packets_bytes}
use Rattle.std.specs.Prelude.{FitsSigned}
use Rattle.std.specs.Int.{w64}
use Rattle.cap_laws.proofs.again.Again.{reached, items_in-given, first_in-given, items_in-interface, first_in-interface}
use Rattle.cap_laws.proofs.again.Again.{items_in-written, first_in-written}
use Rattle.cap_laws.proofs.again.Back.{content_in-section}
use Rattle.cap_laws.specs.again.Laws.{AllFit, AreNumbered, all_described, read_items}

kind_front : (order : Order) → number Big 4 (bytes_of order 4 section_kind) ≡ section_kind
unfolding number bytes_of
kind_front order = grind arith

four_parts : (a b c d e : List ℕ) → (((a ++ b) ++ c) ++ d) ++ e ≡ a ++ (b ++ (c ++ (d ++ e)))
four_parts a b c d e = simp append_assoc

section_front : (order : Order) (rest : List ℕ) → number Big 4 (section_bytes order ++ rest) ≡ section_kind
unfolding block_bytes
section_front order rest = grind (arith, four_parts, number-append, length-bytes_of, kind_front)

-- how long a section header is
pub length-section_bytes : (order : Order) → length (section_bytes order) ≡ 28
unfolding block_bytes
length-section_bytes order = search (length-append, length-bytes_of, length-section_body)

-- a text that begins with a section header is a pcapng file
is_pcapng-text : (order : Order) (rest : List ℕ) → is_pcapng (section_bytes order ++ rest) ≡ true
is_pcapng-text order rest = grind (arith, nat_tests, length-append, length-section_bytes, eq-eqb, section_front)

-- after a section header nothing is described
behind_section : (order : Order) (tail : Tail) (file : ℕ) (rest : List ℕ)
    → items_of_blocks file fresh (blocks.block_items_from None tail file 0 (section_bytes order ++ rest))
    ≡ items_of_blocks file (reached [] None) (blocks.block_items_from (Some order) tail file (0
    + length (section_bytes order)) rest)
behind_section order tail file rest =
    let piece : BlockPiece = record { order = order; kind = section_kind; body = section_body order } in
    ap (items_of_blocks file fresh) ((section_again-law None order).items tail file 0 rest
    (omega (arith, length-section_bytes order)))
    ∙ items_in-given file fresh (block_of 0 piece) (section_body order)
    (blocks.block_items_from (Some order) tail file (0 + length (section_bytes order)) rest) (Ok contents.Section)
    (content_in-section [] order (section_body order))

pub items-behind_section : (order : Order) (tail : Tail) (file : ℕ) (rest : List ℕ)
    → file_items tail file (section_bytes order ++ rest)
    ≡ items_of_blocks file (reached [] None) (blocks.block_items_from (Some order) tail file 28 rest)
unfolding items_from
items-behind_section order tail file rest = search
    (items_of_blocks, fresh, is_pcapng-text, behind_section, reached, length-section_bytes)

pub first-behind_section : (order : Order) (tail : Tail) (file : ℕ) (rest : List ℕ)
    → file_first tail file (section_bytes order ++ rest)
    ≡ first_in (reached [] None) (blocks.block_items_from (Some order) tail file 28 rest)
unfolding first_from
first-behind_section order tail file rest =
    let bytes = section_bytes order ++ rest in
    let piece : BlockPiece = record { order = order; kind = section_kind; body = section_body order } in
    ap (λ b. if b then first_in fresh (blocks.block_items_from None tail file 0 bytes)
    else unless_refused (records.pcap_header_fault 0 bytes) (interface_of (records.header_at bytes)))
    (is_pcapng-text order rest)
    ∙ (ap (first_in fresh) ((section_again-law None order).items tail file 0 rest
    (omega (arith, length-section_bytes order)))
    ∙ (first_in-given fresh (block_of 0 piece) (section_body order)
    (blocks.block_items_from (Some order) tail file (0 + length (section_bytes order)) rest) (Ok contents.Section)
    (content_in-section [] order (section_body order))
    ∙ ap (λ n. first_in (reached [] None) (blocks.block_items_from (Some order) tail file n rest))
    (omega (arith, length-section_bytes order))))

-- A merged file is read again: its packets are those that are written.
pub merged-again : (order : Order) (tail : Tail) (file : ℕ) (ns : List Numbered) → AreNumbered [] ns → AllFit ns
    → length (all_described [] ns) ≤ 1024
    → length (section_bytes order ++ packets_bytes order 0 ns) ≤ 2 ^ 40
    → file_items tail file (section_bytes order ++ packets_bytes order 0 ns) ≡ read_items order file 28 0 ns
merged-again order tail file ns numbered fit few limit =
    grind (arith, items-behind_section, items_in-written, length-append, length-section_bytes)

-- A file that is written after its first interface is read again, and so is that interface.
pub pcapng-again : (order : Order) (tail : Tail) (file : ℕ) (i : Interface) (ns : List Numbered) → i.link < 2 ^ 16
    → i.snaplen < 2 ^ 32 → FitsSigned w64 i.offset
    → AreNumbered (i ∷ []) ns → AllFit ns → length (all_described (i ∷ []) ns) ≤ 1024
    → length (front_bytes order (Some i) ++ packets_bytes order 1 ns) ≤ 2 ^ 40
    → (file_items tail file (front_bytes order (Some i) ++ packets_bytes order 1 ns)
    ≡ read_items order file (28 + length (interface_bytes order i)) 1 ns)
    × (file_first tail file (front_bytes order (Some i) ++ packets_bytes order 1 ns) ≡ Some i)
pcapng-again order tail file i ns link snaplen fits numbered fit few limit =
    grind (
      arith,
      append_assoc,
      length-append,
      length-section_bytes,
      items-behind_section,
      items_in-interface,
      reached,
      items_in-written,
      first-behind_section,
      first_in-interface,
      first_in-written,
    )
