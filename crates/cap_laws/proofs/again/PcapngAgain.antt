-- A file of either format, written as pcapng and read again.
use Rattle.std.proofs.Common.{◌≡◌, ◌==◌, ℕ, ◌+◌, ◌≤◌, ◌^◌, List, [], ◌∷◌, ◌++◌, length, Option, Some, None, refl, sym}
use Rattle.std.proofs.Common.{ap, ◌∙◌, subst, arith, append-nil, if◌then◌else◌}
use Rattle.std.specs.List.{AllByRecursion}
use Rattle.cap_blocks.specs.Split.{AreBytes}
use Rattle.cap_blocks.specs.Grammar.{section_bytes, interface_bytes}
use Rattle.cap_bytes.specs.declared.faults.Tail.{Tail}
use Rattle.cap_bytes.specs.declared.numbers.Order.{Order}
use Rattle.cap_blocks.proofs.Items.{items_from-none}
use Rattle.cap_source.proofs.Fields.{fields_fit-law}
use Rattle.cap_source.proofs.Frames.{frames_fit-law}
use Rattle.cap_source.specs.Feed.{Item, packet, refusal_of}
use Rattle.cap_source.specs.inner.Fields.{ItemFits}
use Rattle.cap_source.specs.Items.{file_items, file_first, first_in}
use Rattle.cap_time.specs.declared.resolutions.Interface.{Interface}
use Rattle.cap_write.specs.Numbering.{Origin, Origins, own, numbered, refusal_in}
use Rattle.cap_write.specs.Texts.{first_origins, packets_bytes, pcapng_bytes, merged_bytes}
use Rattle.cap_laws.proofs.again.Again.{reached}
use Rattle.cap_laws.proofs.again.Files.{pcapng-again, first-behind_section}
use Rattle.cap_laws.proofs.again.FirstInterface.{IsFirst, first-of, first-none}
use Rattle.cap_laws.proofs.again.Instances.{one_interface-law}
use Rattle.cap_laws.proofs.again.Measured.{numbered-measured}
use Rattle.cap_laws.proofs.again.MergedAgain.{IsNumbered-given, AllFit-given, all_described-given}
use Rattle.cap_laws.proofs.again.Renumbered.{numbered-again, refusal-again, refusal_of-again, InOrder-numbered}
use Rattle.cap_laws.proofs.again.Renumbered.{merged_again-law}
use Rattle.cap_laws.specs.again.Laws.{AllAlike, AllHave, PcapngAgain}

-- the interfaces of a file by their origins
abbrev of_instance : (ℕ → Interface) → Origin → Interface
of_instance given origin = given origin.1

have_all : (file : ℕ) (given : ℕ → Interface) (items : List Item) → AllAlike file given items
    → AllByRecursion ItemFits items → AllHave (of_instance given) items
have_all file given (packet meta frame ∷ items) alike fit = grind (arith, have_all file given items alike.2 fit.1)
have_all file given items alike fit = cc

-- the same, the first of them known
abbrev with_first : Interface → (ℕ → Interface) → Origin → Interface
with_first i given origin = if origin.1 == 0 then i else given origin.1

have_first : (file : ℕ) (i : Interface) (given : ℕ → Interface) (items : List Item) → AllAlike file given items
    → AllByRecursion (IsFirst i) items
    → AllByRecursion ItemFits items → AllHave (with_first i given) items
have_first file i given (packet meta frame ∷ items) alike first fit =
    grind (arith, have_first file i given items alike.2 first.1 fit.1)
have_first file i given items alike first fit = cc

-- What is read again of some packets that were numbered after some origins.
record IsReadAgain (origins others : Origins) (items again : List Item) : Type 0 where
  packets : numbered others again ≡ numbered origins items
  unrefused : refusal_in others again ≡ None
  complete : refusal_of again ≡ None

-- ---- a file without an interface

without_first : (order : Order) (tail tail_again : Tail) (file file_again : ℕ) (bytes : List ℕ) → AreBytes bytes
    → length (pcapng_bytes order file None (file_items tail file bytes)) ≤ 2 ^ 40
    → IsReadAgain (own []) (own []) (file_items tail file bytes)
    (file_items tail_again file_again (pcapng_bytes order file None (file_items tail file bytes)))
without_first order tail tail_again file file_again bytes are limit =
    let items = file_items tail file bytes in
    let alike = one_interface-law tail file bytes in
    let fit = fields_fit-law tail file bytes are in
    let same : pcapng_bytes order file None items ≡ merged_bytes order items =
    ap (λ front. front ++ packets_bytes order 0 (numbered (own []) items)) (append-nil (section_bytes order)) in
    let law = merged_again-law order tail_again file_again (of_instance alike.0) items
    (have_all file alike.0 items alike.1 fit)
    (subst (λ t. length t ≤ 2 ^ 40) same limit) in
    subst (λ t. IsReadAgain (own []) (own []) items (file_items tail_again file_again t)) (sym same)
    (record {
      packets = law.0 ∙ numbered-measured (own []) items (frames_fit-law tail file bytes);
      unrefused = law.1;
      complete = law.2;
    })

-- after a section header alone there is no interface
pub first-section : (order : Order) (tail : Tail) (file : ℕ) → file_first tail file (section_bytes order ++ []) ≡ None
unfolding first_in
first-section order tail file = search (first-behind_section, reached, items_from-none)

no_first : (order : Order) (tail tail_again : Tail) (file file_again : ℕ) (bytes : List ℕ)
    → file_first tail file bytes ≡ None
    → file_first tail_again file_again (pcapng_bytes order file None (file_items tail file bytes)) ≡ None
unfolding packets_bytes
no_first order tail tail_again file file_again bytes none = grind (arith, first-none, append-nil, first-section)

-- ---- one with an interface

behind_first : (order : Order) (tail tail_again : Tail) (file file_again : ℕ) (bytes : List ℕ) (i : Interface)
    → AreBytes bytes → file_first tail file bytes ≡ Some i
    → length (pcapng_bytes order file (Some i) (file_items tail file bytes)) ≤ 2 ^ 40
    → IsReadAgain (first_origins file (Some i)) (first_origins file_again (Some i)) (file_items tail file bytes)
    (file_items tail_again file_again (pcapng_bytes order file (Some i) (file_items tail file bytes)))
    × (file_first tail_again file_again (pcapng_bytes order file (Some i) (file_items tail file bytes)) ≡ Some i)
behind_first order tail tail_again file file_again bytes i are is limit =
    let items = file_items tail file bytes in
    let alike = one_interface-law tail file bytes in
    let fit = fields_fit-law tail file bytes are in
    let first = first-of tail file bytes i are is in
    let given = with_first i alike.0 in
    let have = have_first file i alike.0 items alike.1 first.packets fit in
    let origins = first_origins file (Some i) in
    let ns = numbered origins items in
    let in_order = InOrder-numbered origins items in
    let place = 28 + length (interface_bytes order i) in
    let both = pcapng-again order tail_again file_again i ns first.fits.link first.fits.snaplen first.fits.offset
    (IsNumbered-given given origins items have) (AllFit-given given origins items have)
    (all_described-given given origins items have (omega arith)) limit in
    let read = both.0 in (
      record {
        packets =
            ap (numbered (first_origins file_again (Some i))) read
            ∙ (numbered-again order file_again place 1 ns in_order
            ∙ numbered-measured origins items (frames_fit-law tail file bytes));
        unrefused = ap (refusal_in (first_origins file_again (Some i))) read
            ∙ refusal-again order file_again place 1 ns in_order;
        complete = ap refusal_of read ∙ refusal_of-again order file_again place 1 ns;
      },
      both.1,
    )

pub pcapng_again-law : PcapngAgain
pcapng_again-law order tail tail_again file file_again bytes are = by (file_first tail file bytes) refl
  where
    by : (first : Option Interface) → file_first tail file bytes ≡ first
        → (let items = file_items tail file bytes in
        let text = pcapng_bytes order file first items in
        let again = file_items tail_again file_again text in
        length text ≤ 2 ^ 40
        → (numbered (first_origins file_again first) again ≡ numbered (first_origins file first) items)
        × (refusal_in (first_origins file_again first) again ≡ None)
        × (refusal_of again ≡ None)
        × (file_first tail_again file_again text ≡ first))
    by None is limit =
        let read = without_first order tail tail_again file file_again bytes are limit in
        (read.packets, read.unrefused, read.complete, no_first order tail tail_again file file_again bytes is)
    by (Some i) is limit =
        let read = behind_first order tail tail_again file file_again bytes i are is limit in
        (read.0.packets, read.0.unrefused, read.0.complete, read.1)
