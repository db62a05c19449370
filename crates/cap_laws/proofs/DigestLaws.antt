-- Lists of packets with the same canonical text, and files that are converted.
use Rattle.std.proofs.Common.{◌≡◌, ℕ, List, [], ◌∷◌, ◌++◌, length, map, Option, None, Some, refl, sym, ap}
use Rattle.std.proofs.Common.{◌∙◌, Bool, subst, arith, length-append}
use Rattle.std.proofs.lemmas.Option.{none-some}
use Rattle.std.specs.List.{AllByRecursion, AllZip}
use Rattle.std.specs.Option.{option_map}
use Rattle.cap_bytes.specs.declared.faults.Refusal.{Refusal}
use Rattle.cap_bytes.specs.declared.faults.Tail.{Tail}
use Rattle.cap_digest.proofs.Injective.{SameHead, head-bytes, head-some, text-alike}
use Rattle.cap_digest.proofs.Times.{canonical-same, same-canonical}
use Rattle.cap_digest.specs.Canonical.{canonical_form, canonical_text, canonical_head}
use Rattle.cap_digest.specs.DigestText.{digest_facts, digest_line, digest_text, whole_fields}
use Rattle.cap_bytes.specs.declared.faults.Tail.TheVariants.{Refuse}
use Rattle.cap_laws.proofs.NeverCut.{never-cut}
use Rattle.std.specs.Prelude.{false, is_some}
use Rattle.cap_laws.proofs.FileNumbers.{file-numbered}
use Rattle.cap_laws.proofs.Twins.{IsTwin, TwinItems, twins}
use Rattle.cap_laws.specs.Diffs.{SameExactly}
use Rattle.cap_laws.specs.Digests.{DigestOfConverted, FileTextLaw, SameAsDiff, TextLaw}
use Rattle.cap_laws.specs.again.Laws.{IsSamePacket, PcapAgain, PcapngAgain, SamePackets}
use Rattle.cap_laws.specs.again.Rounds.{in_file}
use Rattle.cap_print.specs.Facts.{line_in}
use Rattle.cap_print.specs.declared.forms.Form.{Form}
use Rattle.cap_source.proofs.Fields.{fields_fit-law}
use Rattle.cap_source.specs.Feed.{Item, packet, refused, refusal_of}
use Rattle.cap_source.specs.Items.{file_ending, file_first, file_items}
use Rattle.cap_source.specs.Times.{meta_time}
use Rattle.cap_source.specs.inner.Fields.{ItemFits}
use Rattle.cap_commands.specs.declared.counting.OutputFormat.TheVariants.{Pcap, Pcapng}
use Rattle.cap_source.specs.declared.packets.Meta.{Meta}
use Rattle.cap_time.specs.Stamp.{printed_of, stamp_in}
use Rattle.cap_time.specs.declared.resolutions.Interface.{Interface}
use Rattle.cap_time.specs.declared.stamps.Stamp.{Stamp}
use Rattle.cap_write.specs.Pcap.{first_in_unit, pcap_bytes}
use Rattle.cap_write.specs.Texts.{first_origins, pcapng_bytes}
use Rattle.sha2.specs.Sha256.{sha256}

-- ---- one packet after another

-- what stands before the captured bytes of two packets
same-head : (meta again : Meta) (frame frame_again : List ℕ) → IsSamePacket meta again frame frame_again
    → SameHead meta again
same-head meta again frame frame_again s =
    record {
      link = s.link;
      captured = s.captured;
      original = s.original;
      form = same-canonical (meta_time meta) (meta_time again) s.time;
    }

same-packet : (meta again : Meta) (frame frame_again : List ℕ) → SameHead meta again → frame ≡ frame_again
    → IsSamePacket meta again frame frame_again
same-packet meta again frame frame_again h same =
    record {
      link = h.link;
      time = canonical-same (meta_time meta) (meta_time again) h.form;
      captured = h.captured;
      original = h.original;
      frame = same;
    }

twin-packet : (meta again : Meta) (frame frame_again : List ℕ) → IsTwin meta again frame frame_again
    → IsSamePacket meta again frame frame_again
twin-packet meta again frame frame_again t =
    let times : meta_time meta ≡ meta_time again =
    λ i. option_map (λ units. stamp_in units (t.interface i)) (t.units i) in
    record {
      link = ap (λ (i : Interface). i.link) t.interface;
      time = canonical-same (meta_time meta) (meta_time again)
          (ap (λ (time : Option Stamp). canonical_form (option_map printed_of time)) times);
      captured = t.captured;
      original = t.original;
      frame = t.frame;
    }

-- ---- lists

never : {A : Type 0} (r : Refusal) (items : List Item) → refusal_of (refused r ∷ items) ≡ None → A
unfolding refusal_of
never r items none = absurd (none-some r (sym none))

behind : (meta : Meta) (frame : List ℕ) (items : List Item) → refusal_of (packet meta frame ∷ items) ≡ None
    → refusal_of items ≡ None
unfolding refusal_of
behind meta frame items none = none

twins-same : (xs ys : List Item) → AllZip TwinItems xs ys → AllZip SamePackets xs ys
twins-same [] [] h = tt
twins-same (packet m f ∷ xs) (packet n g ∷ ys) h = (twin-packet m n f g h.0, twins-same xs ys h.1)
twins-same [] (y ∷ ys) h = absurd h
twins-same (packet m f ∷ xs) [] h = absurd h
twins-same (packet m f ∷ xs) (refused r ∷ ys) h = absurd h.0
twins-same (refused r ∷ xs) [] h = absurd h
twins-same (refused r ∷ xs) (packet n g ∷ ys) h = absurd h.0
twins-same (refused r ∷ xs) (refused q ∷ ys) h = absurd h.0

-- What two lists of the same packets have alike.
record AreAlike (xs ys : List Item) : Type 0 where
  text : canonical_text xs ≡ canonical_text ys
  count : length xs ≡ length ys
  first : refusal_of xs ≡ None
  second : refusal_of ys ≡ None

same-alike : (xs ys : List Item) → AllZip SamePackets xs ys → AreAlike xs ys
unfolding canonical_text refusal_of
same-alike [] [] h = record { text = refl; count = refl; first = refl; second = refl }
same-alike (packet m f ∷ xs) (packet n g ∷ ys) h =
    let rest = same-alike xs ys h.1 in
    record {
      text = λ i. head-bytes m n (same-head m n f g h.0) i ++ h.0.frame i ++ rest.text i;
      count = omega (arith, rest.count);
      first = rest.first;
      second = rest.second;
    }
same-alike [] (y ∷ ys) h = absurd h
same-alike (packet m f ∷ xs) [] h = absurd h
same-alike (packet m f ∷ xs) (refused r ∷ ys) h = absurd h.0
same-alike (refused r ∷ xs) [] h = absurd h
same-alike (refused r ∷ xs) (y ∷ ys) h = absurd h.0

-- a packet's text isn't empty
some-text : (meta : Meta) (frame rest : List ℕ) → canonical_head meta ++ frame ++ rest ≡ [] → ⊥
some-text meta frame rest none =
    omega (
      arith,
      head-some meta,
      length-append (canonical_head meta ++ frame) rest,
      length-append (canonical_head meta) frame,
      ap length none,
    )

text-same : (xs ys : List Item) → AllByRecursion ItemFits xs → AllByRecursion ItemFits ys → refusal_of xs ≡ None
    → refusal_of ys ≡ None → canonical_text xs ≡ canonical_text ys → AllZip SamePackets xs ys
unfolding canonical_text
text-same [] [] p q a b same = tt
text-same (packet m f ∷ xs) (packet n g ∷ ys) p q a b same =
    let parts = text-alike m n f g (canonical_text xs) (canonical_text ys) p.0 q.0 same in (
      same-packet m n f g parts.0 parts.1,
      text-same xs ys p.1 q.1 (behind m f xs a) (behind n g ys b) parts.2,
    )
text-same [] (packet n g ∷ ys) p q a b same = absurd (some-text n g (canonical_text ys) (sym same))
text-same (packet m f ∷ xs) [] p q a b same = absurd (some-text m f (canonical_text xs) same)
text-same (refused r ∷ xs) ys p q a b same = never r xs a
text-same xs (refused r ∷ ys) p q a b same = never r ys b

pub text-law : TextLaw
text-law xs ys p q a b = (text-same xs ys p q a b, λ h. (same-alike xs ys h).text)

pub file_text-law : FileTextLaw
file_text-law tail tail_again file file_again bytes again are are_again a b =
    text-law (file_items tail file bytes) (file_items tail_again file_again again)
    (fields_fit-law tail file bytes are) (fields_fit-law tail_again file_again again are_again) a b

-- `diff` says the same
pub same_as_diff : SameExactly → SameAsDiff
same_as_diff exactly tail first second are are_second a b =
    let text = file_text-law tail tail 1 2 first second are are_second a b in
    let same = exactly tail first second in
    (λ h. same.1 (text.0 h), λ h. text.1 (same.0 h))

-- ---- lines

numbered-alike : (n : ℕ) (xs : List Item) → refusal_of xs ≡ None → AreAlike (map (in_file n) xs) xs
unfolding canonical_text refusal_of
numbered-alike n [] none = record { text = refl; count = refl; first = refl; second = refl }
numbered-alike n (packet m f ∷ xs) none =
    let rest = numbered-alike n xs none in
    record {
      text = ap (λ (l : List ℕ). canonical_head m ++ f ++ l) rest.text;
      count = omega (arith, rest.count);
      first = rest.first;
      second = rest.second;
    }
numbered-alike n (refused r ∷ xs) none = never r xs none

same-line : (form : Form) (number : ℕ) (was_cut : Bool) (xs ys : List Item) → AreAlike xs ys
    → digest_line form number xs was_cut ≡ digest_line form number ys was_cut
same-line form number was_cut xs ys a =
    λ i. line_in form (digest_facts number (whole_fields (Some (sha256 (a.text i))) (a.count i) was_cut))

-- the items of a file that isn't refused, under any number and under 1
alike-of : (tail : Tail) (number : ℕ) (bytes : List ℕ) → refusal_of (file_items tail 1 bytes) ≡ None
    → AreAlike (file_items tail number bytes) (file_items tail 1 bytes)
alike-of tail number bytes none =
    subst (λ (l : List Item). AreAlike l (file_items tail 1 bytes)) (sym (file-numbered tail number 1 bytes))
    (numbered-alike number (file_items tail 1 bytes) none)

-- two files with the same packets have the same line
same-files : (tail tail_again : Tail) (number : ℕ) (bytes again : List ℕ)
    → AllZip SamePackets (file_items tail 1 bytes) (file_items tail_again 1 again)
    → (refusal_of (file_items tail_again number again) ≡ None)
    × ((form : Form) (was_cut : Bool)
    → digest_line form number (file_items tail_again number again) was_cut
    ≡ digest_line form number (file_items tail number bytes) was_cut)
same-files tail tail_again number bytes again h =
    let xs = file_items tail 1 bytes in
    let ys = file_items tail_again 1 again in
    let alike = same-alike xs ys h in
    let one = alike-of tail number bytes alike.first in
    let other = alike-of tail_again number again alike.second in (
      other.first,
      λ form was_cut.
          same-line form number was_cut (file_items tail_again number again) ys other
          ∙ sym (same-line form number was_cut (file_items tail number bytes) xs one
          ∙ same-line form number was_cut xs ys alike),
    )

-- a file loses no end that is refused if it is cut
printed-line : (form : Form) (number : ℕ) (again : List ℕ)
    → digest_text form Refuse number again ≡ digest_line form number (file_items Refuse number again) false
printed-line form number again =
    ap (λ cut. digest_line form number (file_items Refuse number again) (is_some cut)) (never-cut number again)

-- both
both-lines : (tail tail_again : Tail) (number : ℕ) (bytes again : List ℕ)
    → AllZip SamePackets (file_items tail 1 bytes) (file_items tail_again 1 again)
    → AllZip SamePackets (file_items tail 1 bytes) (file_items Refuse 1 again)
    → (refusal_of (file_items tail_again number again) ≡ None)
    × ((form : Form) (was_cut : Bool)
    → digest_line form number (file_items tail_again number again) was_cut
    ≡ digest_line form number (file_items tail number bytes) was_cut)
    × ((form : Form)
    → digest_text form Refuse number again ≡ digest_line form number (file_items tail number bytes) false)
both-lines tail tail_again number bytes again h k =
    let one = same-files tail tail_again number bytes again h in
    let whole = same-files tail Refuse number bytes again k in (
      one.0,
      one.1,
      λ form. printed-line form number again ∙ whole.1 form false,
    )

pub converted-digest : PcapngAgain → PcapAgain → DigestOfConverted
converted-digest pcapng pcap Pcapng order tail tail_again bytes are none short number =
    let first = file_first tail 1 bytes in
    let items = file_items tail 1 bytes in
    let text = pcapng_bytes order 1 first items in
    let same : (tail_again : Tail) → AllZip SamePackets items (file_items tail_again 1 text) = λ tail_again.
    let again = pcapng order tail tail_again 1 1 bytes are short in
    twins-same items (file_items tail_again 1 text)
    (twins (first_origins 1 first) (first_origins 1 first) items (file_items tail_again 1 text) none again.1
    (sym again.0)) in
    both-lines tail tail_again number bytes text (same tail_again) (same Refuse)
converted-digest pcapng pcap (Pcap unit) order tail tail_again bytes are none short number =
    both-lines tail tail_again number bytes
    (pcap_bytes order (first_in_unit unit (file_first tail 1 bytes)) (file_items tail 1 bytes))
    ((pcap order unit tail tail_again 1 1 bytes are).1 none short)
    ((pcap order unit tail Refuse 1 1 bytes are).1 none short)
