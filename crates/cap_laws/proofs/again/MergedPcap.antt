-- The run of any files, written as pcap, and as pcapng and then as pcap.
use Rattle.std.proofs.Common.{◌≡◌, ◌==◌, ℕ, ◌+◌, ◌≤◌, ◌^◌, ◌++◌, List, [], ◌∷◌, length, Option, Some, None, unwrap_or}
use Rattle.std.proofs.Common.{refl, sym, ap, ◌∙◌, subst, arith, length-append}
use Rattle.std.proofs.lemmas.Bool.{eq-eqb}
use Rattle.std.proofs.lemmas.Option.{none-some}
use Rattle.std.specs.Prelude.{slice_get}
use Rattle.cap_blocks.specs.Grammar.{interface_bytes, section_bytes}
use Rattle.cap_blocks.specs.Split as blocks
use Rattle.cap_blocks.specs.Split.{AreBytes}
use Rattle.cap_bytes.specs.declared.faults.Refusal.{Refusal}
use Rattle.cap_bytes.specs.declared.faults.Rule.{Rule}
use Rattle.cap_bytes.specs.declared.faults.Tail.{Tail}
use Rattle.cap_bytes.specs.declared.numbers.Order.{Order}
use Rattle.cap_merge.specs.Files.{run_of_files}
use Rattle.cap_pcap.specs.Grammar.{header_bytes}
use Rattle.cap_source.specs.Feed.{Item, packet, refused}
use Rattle.cap_source.specs.Items.{after, file_first, file_items, first_in}
use Rattle.cap_source.specs.declared.contents.BlockContent.TheVariants as contents
use Rattle.cap_source.specs.declared.packets.Meta.{Meta}
use Rattle.cap_time.specs.declared.resolutions.Interface.{Interface}
use Rattle.cap_time.specs.declared.stamps.Unit.{Unit as Fraction}
use Rattle.cap_write.proofs.Records.{fault_by}
use Rattle.cap_write.proofs.Units.{first-none, first-some, text-none, text-some}
use Rattle.cap_write.specs.Numbering.{Numbered, Origin, Origins, own, numbered, numbered_of, numbered_or, refusal_in}
use Rattle.cap_write.specs.Numbering.{refusal_or, with_origin, write_fault}
use Rattle.cap_write.specs.Pcap.{bare_refusal, first_in_unit, fraction_of, header_of, in_unit, packet_record}
use Rattle.cap_write.specs.Pcap.{pcap_bytes, pcap_refusal, records_bytes, records_refusal, time_bytes}
use Rattle.cap_write.specs.Pcap.{whole_time_in, written_record_fault}
use Rattle.cap_write.specs.PcapRun.{leading, run_bytes, run_refusal}
use Rattle.cap_write.specs.Texts.{merged_bytes, packet_part, packets_bytes, text_or}
use Rattle.cap_laws.proofs.again.Again.{first_in-interface, first_in-packet, packets_bytes-new, reached}
use Rattle.cap_laws.proofs.again.Back.{unnamed}
use Rattle.cap_laws.proofs.again.Files.{first-behind_section, length-section_bytes}
use Rattle.cap_laws.proofs.again.MergedFiles.{given_from, merge-law, run-has}
use Rattle.cap_laws.proofs.again.PcapngAgain.{first-section}
use Rattle.cap_laws.specs.again.Laws.{AllHave, NumbersFit, meta_again}
use Rattle.cap_laws.specs.again.Rounds.{MergedPcap, rule_of}

-- ---- the records of numbered packets

abbrev numbered_text : Order → Interface → List Numbered → List ℕ
numbered_text order first [] = []
numbered_text order first (n ∷ ns) =
    text_or (written_record_fault first (meta_again 0 0 n))
    (packet_record order first (meta_again 0 0 n) n.frame ++ numbered_text order first ns)

abbrev rule_or : Option Rule → Option Rule → Option Rule
rule_or (Some rule) rest = Some rule
rule_or None rest = rest

abbrev numbered_rule : Interface → List Numbered → Option Rule
numbered_rule first [] = None
numbered_rule first (n ∷ ns) = rule_or (written_record_fault first (meta_again 0 0 n)) (numbered_rule first ns)

-- a packet that isn't refused, and those after it
record Goes (origins : Origins) (meta : Meta) (items : List Item) : Type 0 where
  unrefused : write_fault origins meta ≡ None
  timed : meta.units ≡ Some (unwrap_or meta.units 0)
  rest : refusal_in (with_origin origins meta) items ≡ None

timed-by : (origins : Origins) (meta : Meta) → write_fault origins meta ≡ None
    → meta.units ≡ Some (unwrap_or meta.units 0)
unfolding write_fault
timed-by origins meta none = by meta.units refl
  where
    by : (units : Option ℕ) → meta.units ≡ units → meta.units ≡ Some (unwrap_or meta.units 0)
    by (Some units) is = is ∙ ap (λ u. Some (unwrap_or u 0)) (sym is)
    by None is = absurd (grind arith)

goes : (origins : Origins) (meta : Meta) (frame : List ℕ) (items : List Item)
    → refusal_in origins (packet meta frame ∷ items) ≡ None → Goes origins meta items
unfolding refusal_in
goes origins meta frame items none = by (write_fault origins meta) refl
  where
    by : (fault : Option Rule) → write_fault origins meta ≡ fault → Goes origins meta items
    by (Some rule) is = absurd (grind arith)
    by None is =
        record {
          unrefused = is;
          timed = timed-by origins meta is;
          rest = sym (ap (λ f. refusal_or f meta (refusal_in (with_origin origins meta) items)) is) ∙ none;
        }

never : {A : Type 0} (origins : Origins) (refusal : Refusal) (items : List Item)
    → refusal_in origins (refused refusal ∷ items) ≡ None → A
unfolding refusal_in
never origins refusal items none = absurd (none-some refusal (sym none))

fault-is : (first : Interface) (origins : Origins) (meta : Meta) (frame : List ℕ)
    → meta.units ≡ Some (unwrap_or meta.units 0)
    → written_record_fault first meta ≡ written_record_fault first (meta_again 0 0 (numbered_of origins meta frame))
unfolding written_record_fault
fault-is first origins meta frame timed =
    ap (λ units. fault_by units (meta.interface.link == first.link) (fraction_of first) meta.interface) timed

record-is : (order : Order) (first : Interface) (origins : Origins) (meta : Meta) (frame : List ℕ)
    → meta.units ≡ Some (unwrap_or meta.units 0)
    → packet_record order first meta frame ≡ packet_record order first
    (meta_again 0 0 (numbered_of origins meta frame)) frame
record-is order first origins meta frame timed =
    ap (λ units. time_bytes order (whole_time_in (fraction_of first) meta.interface units) meta.original frame) timed

numbered-more : (origins : Origins) (meta : Meta) (frame : List ℕ) (items : List Item)
    → write_fault origins meta ≡ None
    → numbered origins (packet meta frame ∷ items) ≡ numbered_of origins meta frame
    ∷ numbered (with_origin origins meta) items
unfolding numbered
numbered-more origins meta frame items none = ap
    (λ f. numbered_or f (numbered_of origins meta frame) (numbered (with_origin origins meta) items)) none

rule-more : (first : Interface) (meta : Meta) (frame : List ℕ) (items : List Item)
    → rule_of (records_refusal first (packet meta frame ∷ items))
    ≡ rule_or (written_record_fault first meta) (rule_of (records_refusal first items))
unfolding records_refusal
rule-more first meta frame items = grind arith

-- what is written of packets that aren't refused in pcapng, and the rule that refuses one, by their numbered forms
records-text : (order : Order) (first : Interface) (origins : Origins) (items : List Item)
    → refusal_in origins items ≡ None
    → records_bytes order first items ≡ numbered_text order first (numbered origins items)
unfolding records_bytes numbered
records-text order first origins [] none = refl
records-text order first origins (refused refusal ∷ items) none = never origins refusal items none
records-text order first origins (packet meta frame ∷ items) none =
    let g = goes origins meta frame items none in
    let later = records-text order first (with_origin origins meta) items g.rest in
    (λ i. text_or (fault-is first origins meta frame g.timed i)
    (record-is order first origins meta frame g.timed i ++ later i))
    ∙ ap (numbered_text order first) (sym (numbered-more origins meta frame items g.unrefused))

records-rule : (first : Interface) (origins : Origins) (items : List Item) → refusal_in origins items ≡ None
    → rule_of (records_refusal first items) ≡ numbered_rule first (numbered origins items)
unfolding records_refusal numbered
records-rule first origins [] none = refl
records-rule first origins (refused refusal ∷ items) none = never origins refusal items none
records-rule first origins (packet meta frame ∷ items) none =
    let g = goes origins meta frame items none in
    let later = records-rule first (with_origin origins meta) items g.rest in
    rule-more first meta frame items
    ∙ ((λ i. rule_or (fault-is first origins meta frame g.timed i) (later i))
    ∙ ap (numbered_rule first) (sym (numbered-more origins meta frame items g.unrefused)))

-- ---- the first interface of a merged file

first-merged : (order : Order) (tail : Tail) (file : ℕ) (n : Numbered) (ns : List Numbered) → n.number ≡ 0
    → NumbersFit n
    → length (section_bytes order ++ packets_bytes order 0 (n ∷ ns)) ≤ 2 ^ 40
    → file_first tail file (section_bytes order ++ packets_bytes order 0 (n ∷ ns)) ≡ Some n.interface
first-merged order tail file n ns zero fits limit =
    let i = n.interface in
    let behind = packets_bytes order 1 ns in
    let rest = packet_part order n ++ behind in
    let text : packets_bytes order 0 (n ∷ ns) ≡ interface_bytes order i ++ rest =
    packets_bytes-new order 0 n ns (eq-eqb n.number 0 zero) in
    let size = ap length text in
    let whole = length-append (section_bytes order) (packets_bytes order 0 (n ∷ ns)) in
    let parts = length-append (interface_bytes order i) rest in
    let last = length-append (packet_part order n) behind in
    first-behind_section order tail file (packets_bytes order 0 (n ∷ ns))
    ∙ (ap (λ t. first_in (reached [] None) (blocks.block_items_from (Some order) tail file 28 t)) text
    ∙ (first_in-interface order tail file 28 (reached [] None) i rest (omega arith) fits.link fits.snaplen fits.offset
    (omega (arith, limit, size, whole, parts, length-section_bytes order))
    ∙ first_in-packet order tail file (28 + length (interface_bytes order i))
    (after (reached [] None) (contents.Interface (unnamed i))) n behind
    (ap (slice_get (i ∷ [])) zero) (omega (arith, zero)) fits
    (omega (arith, limit, size, whole, parts, last, length-section_bytes order))))

-- ---- the law

none-left : (items : List Item) → refusal_in (own []) items ≡ None → numbered (own []) items ≡ [] → items ≡ []
none-left [] none is = refl
none-left (refused refusal ∷ items) none is = never (own []) refusal items none
none-left (packet meta frame ∷ items) none is =
    let g = goes (own []) meta frame items none in
    absurd (cons-none (sym (numbered-more (own []) meta frame items g.unrefused) ∙ is))
  where
    cons-none : {A : Type 0} {x : A} {xs : List A} → x ∷ xs ≡ [] → ⊥
    cons-none e = cc

abbrev Same : Option Fraction → Order → ℕ → Option Interface → List Item → List Item → Type 0
Same unit back file first items again =
    (pcap_bytes back (first_in_unit unit first) again ≡ run_bytes unit back items)
    × (rule_of (pcap_refusal file (first_in_unit unit first) again) ≡ rule_of (run_refusal unit items))

same-first : (unit : Option Fraction) (back : Order) (file : ℕ) (meta : Meta) (frame : List ℕ) (items again : List Item)
    → refusal_in (own []) (packet meta frame ∷ items) ≡ None
    → refusal_in (own []) again ≡ None → numbered (own []) again ≡ numbered (own []) (packet meta frame ∷ items)
    → Same unit back file (Some meta.interface) (packet meta frame ∷ items) again
same-first unit back file meta frame items again none none_again same =
    let i = in_unit unit meta.interface in
    let all = packet meta frame ∷ items in
    let g = goes (own []) meta frame items none in
    let header = header_bytes (header_of back i) in
    let records = records-text back i (own []) again none_again
    ∙ (ap (numbered_text back i) same ∙ sym (records-text back i (own []) all none)) in (
      text-some unit back meta.interface again
          ∙ (ap (λ t. header ++ t) records
          ∙ sym (ap (λ first. pcap_bytes back (first_in_unit unit first) all) (led g.timed)
          ∙ text-some unit back meta.interface all)),
      ap (λ first. rule_of (pcap_refusal file first again)) (first-some unit meta.interface)
          ∙ (records-rule i (own []) again none_again
          ∙ (ap (numbered_rule i) same ∙ sym (records-rule i (own []) all none))),
    )
  where
    led : meta.units ≡ Some (unwrap_or meta.units 0) → leading (packet meta frame ∷ items) ≡ Some meta.interface
    led timed = grind (arith, timed)

same-none : (unit : Option Fraction) (back : Order) (file : ℕ) (again : List Item) → again ≡ []
    → Same unit back file None [] again
same-none unit back file again is = (
  text-none unit back again ∙ sym (text-none unit back []),
  ap (λ first. rule_of (pcap_refusal file first again)) (first-none unit)
      ∙ ap (λ l. rule_of (Some (bare_refusal file l))) is,
)

same-by : (unit : Option Fraction) (order back : Order) (tail : Tail) (file : ℕ) (given : Origin → Interface)
    (items again : List Item)
    → AllHave given items
    → length (merged_bytes order items) ≤ 2 ^ 40 → refusal_in (own []) items ≡ None
    → refusal_in (own []) again ≡ None → numbered (own []) again ≡ numbered (own []) items
    → Same unit back file (file_first tail file (merged_bytes order items)) items again
unfolding numbered packets_bytes
same-by unit order back tail file given [] again have limit none none_again same =
    subst (λ first. Same unit back file first [] again) (sym (first-section order tail file))
    (same-none unit back file again (none-left again none_again same))
same-by unit order back tail file given (refused refusal ∷ items) again have limit none none_again same =
    never (own []) refusal items none
same-by unit order back tail file given (packet meta frame ∷ items) again have limit none none_again same =
    let g = goes (own []) meta frame items none in
    let all = packet meta frame ∷ items in
    let more = numbered-more (own []) meta frame items g.unrefused in
    let n = numbered_of (own []) meta frame in
    let ns = numbered (with_origin (own []) meta) items in
    let text : merged_bytes order all ≡ section_bytes order ++ packets_bytes order 0 (n ∷ ns) =
    ap (λ l. section_bytes order ++ packets_bytes order 0 l) more in
    let first = ap (file_first tail file) text ∙ first-merged order tail file n ns refl have.0.fits
    (subst (λ t. length t ≤ 2 ^ 40) text limit) in
    subst (λ f. Same unit back file f all again) (sym first)
    (same-first unit back file meta frame items again none none_again same)

pub merged-pcap : MergedPcap
merged-pcap order back unit tail tail_again file_again files are limit none =
    let items = run_of_files tail files in
    let law = merge-law order tail tail_again file_again files are limit in
    same-by unit order back tail_again file_again (given_from tail 1 files) items
    (file_items tail_again file_again (merged_bytes order items)) (run-has tail files are) limit none law.1 law.0
