-- What comes next of a pcap file.
use Rattle.std.proofs.Common.{◌≡◌, ◌≤◌, ◌+◌, ℕ, true, false, List, [], ◌∷◌, length, Option, Some, None, is_some}
use Rattle.std.proofs.Common.{IsSomeAnd, IsTrue, Ok, Err, not, refl, sym, ap, ◌∙◌, arith}
use Rattle.std.proofs.lemmas.List.{take_all}
use Rattle.cap_bytes.specs.declared.faults.Fault.TheVariants.{Refused}
use Rattle.cap_bytes.specs.declared.faults.Refusal.{Refusal}
use Rattle.cap_bytes.specs.declared.faults.Rule.{Rule}
use Rattle.cap_time.specs.declared.resolutions.Interface.{Interface}
use Rattle.cap_bytes.specs.Items.{IsEnd, PieceItem, cut_by, cut_of, given, stopped}
use Rattle.cap_bytes.specs.inner.Reach.{ReachesTo}
use Rattle.cap_bytes.specs.inner.Reader.{ReaderState, ReaderKeeps, GivesStop}
use Rattle.cap_bytes.proofs.Items.{rule_told}
use Rattle.cap_bytes.proofs.Parsing.{from_none, from_some}
use Rattle.cap_bytes.proofs.Reach.{ReachesTo-here}
use Rattle.cap_pcap.specs.inner.Reader.{records_to_come, GivesHeader, GivesRecord, HasHeader, ReadsHeader}
use Rattle.cap_pcap.specs.inner.Reader.{ReachesHeader}
use Rattle.cap_pcap.specs.inner.Reader.{ReachesRecord}
use Rattle.cap_pcap.specs.Split.{pcap_header_fault, header_at, record_fault}
use Rattle.cap_pcap.specs.declared.headers.PcapHeader.{PcapHeader}
use Rattle.cap_pcap.specs.declared.records.Record.{Record}
use Rattle.cap_bytes.specs.declared.stops.CutRest.{CutRest}
use Rattle.cap_bytes.specs.declared.stops.Stop.{Stop}
use Rattle.cap_bytes.specs.declared.stops.Stop.TheVariants as stops
use Rattle.cap_source.specs.Feed as feeds
use Rattle.cap_source.specs.Items.{SectionProgress, interface_of, meta_of, pcap_items, pcap_ending, pcap_ending_with}
use Rattle.cap_source.specs.inner.FileState.{pcap_state, noted_by, header_or, first_in_pcap, lent_length, part_of}
use Rattle.cap_source.specs.inner.FileState.{FileLearns, FileWaits}
use Rattle.cap_source.specs.inner.FileState.{ReadsTo, FileTakes, FileKeeps}
use Rattle.cap_source.specs.inner.PeekSlotView.{IsPrepared, with_record}
use Rattle.cap_source.specs.declared.packets.Meta.{Meta}
use Rattle.cap_source.specs.declared.readers.Peeked.TheVariants as peeks

pub known_header : (h : Option PcapHeader) (header : PcapHeader) (bytes : List ℕ) → h ≡ Some header
    → header_or h bytes ≡ header
known_header h header bytes is = rw is refl

known_first : (h : Option PcapHeader) (header : PcapHeader) (stop : Option Stop) (offset : ℕ) (bytes : List ℕ)
    → h ≡ Some header
    → first_in_pcap h stop offset bytes ≡ Some (interface_of header)
known_first h header stop offset bytes is = rw is refl

lent_size : (frame : Option (List ℕ)) (captured : ℕ) → IsSomeAnd frame (λ bytes. length bytes ≡ captured)
    → 0 + captured + 1 ≤ lent_length frame
lent_size None captured h = absurd h
lent_size (Some bytes) captured h = omega (arith, h)

part_whole : (bytes : List ℕ) (captured : ℕ) → length bytes ≡ captured → part_of (Some bytes) 0 captured ≡ bytes
part_whole bytes captured is = take_all captured bytes (omega (arith, is))

pub items_given : (m f g : ℕ) (h i j : Interface) (r : Record) (frame : Option (List ℕ))
    (old new : List (PieceItem Record))
    → m ≡ g → f ≡ g → h ≡ j → i ≡ j
    → IsSomeAnd frame (λ bytes. length bytes ≡ r.captured) → IsSomeAnd frame (λ bytes. old ≡ given r bytes ∷ new)
    → feeds.packet (meta_of m h r) (part_of frame 0 r.captured) ∷ pcap_items f i new ≡ pcap_items g j old
unfolding pcap_items
items_given m f g h i j r None old new mg fg hj ij size is = absurd size
items_given m f g h i j r (Some bytes) old new mg fg hj ij size is =
    rw (is, mg, fg, hj, ij, part_whole bytes r.captured size) refl

same_items : (f g : ℕ) (i j : Interface) (old new : List (PieceItem Record)) → f ≡ g → i ≡ j → new ≡ old
    → pcap_items f i new ≡ pcap_items g j old
same_items f g i j old new fg ij is = λ k. pcap_items (fg k) (ij k) (is k)

pub ending_given : (r : Record) (frame : Option (List ℕ)) (old new : List (PieceItem Record))
    → IsSomeAnd frame (λ bytes. old ≡ given r bytes ∷ new)
    → pcap_ending new ≡ pcap_ending old
unfolding pcap_ending
ending_given r None old new is = absurd is
ending_given r (Some bytes) old new is = rw is refl

pub none_stops : (stop : Option Stop) → stop ≡ None → is_some stop ≡ false
none_stops stop is = rw is refl

-- A record is given, whose packet comes next.
pub record_learned : (header : PcapHeader) (file : ℕ) (r : Record) (old new : ReaderState PcapHeader)
    (progress : SectionProgress)
    → file ≡ old.file → old.known ≡ Some header
    → GivesRecord header old r new → ReaderKeeps old new
    → (IsTrue old.told → IsSomeAnd new.lent (λ bytes. records_to_come old ≡ given r bytes ∷ records_to_come new))
    → FileLearns (pcap_state old progress) (peeks.Packet (meta_of file (interface_of header) r) 0)
    (pcap_state new progress)
record_learned header file r old new progress named known g k taken =
    let known_new : new.known ≡ Some header = g.gives.known_is ∙ known in
    record {
      is = record {
        file = named ∙ sym k.file;
        lent = lent_size new.lent r.captured g.frame;
        captured = g.captured;
        behind = omega (arith, g.offset, g.gives.next);
      };
      place = omega (arith, g.offset);
      free = ap not (none_stops new.stop g.gives.stop);
      goes = record { before = g.gives.goes.before; after = g.gives.goes.after; failed = g.gives.goes.failed };
      items = λ t.
          items_given file new.file old.file (interface_of header) (interface_of (header_or new.known new.coming))
          (interface_of (header_or old.known old.coming))
          r new.lent (records_to_come old) (records_to_come new) named k.file
          (ap interface_of (sym (known_header old.known header old.coming known)))
          (ap interface_of (known_header new.known header new.coming known_new
          ∙ sym (known_header old.known header old.coming known)))
          g.frame (taken t);
      ending = λ t. ending_given r new.lent (records_to_come old) (records_to_come new) (taken t);
      first = λ t. ap noted_by known_new ∙ sym (known_first old.known header old.stop old.offset old.coming known);
    }

stopped_again : (new : ReaderState PcapHeader) (stop : Stop) → new.stop ≡ Some stop
    → records_to_come new ≡ stopped stop ∷ []
stopped_again new stop is = rw is refl

no_items : (stop : Stop) (file : ℕ) (i : Interface) (items : List (PieceItem Record)) → IsEnd stop
    → items ≡ stopped stop ∷ [] → [] ≡ pcap_items file i items
unfolding pcap_items
no_items stops.End file i items h is = rw is refl
no_items (stops.Cut rest) file i items h is = rw is refl
no_items (stops.Refused refusal) file i items h is = absurd h

ending_stopped : (stop : Stop) (items : List (PieceItem Record)) → items ≡ stopped stop ∷ []
    → pcap_ending_with (cut_of stop) ≡ pcap_ending items
unfolding pcap_ending
ending_stopped stop items is = rw is refl

refused_items : (refusal : Refusal) (file : ℕ) (i : Interface) (items : List (PieceItem Record))
    → items ≡ stopped (stops.Refused refusal) ∷ []
    → feeds.refused refusal ∷ [] ≡ pcap_items file i items
unfolding pcap_items
refused_items refusal file i items is = rw is refl

-- The records end.
pub end_learned : (header : PcapHeader) (cut : Option CutRest) (stop : Stop) (old new : ReaderState PcapHeader)
    (progress : SectionProgress)
    → old.known ≡ Some header → old.stop ≡ None
    → IsEnd stop → GivesStop true (record_fault header.order old.offset old.coming) stop old new
    → cut ≡ cut_by new.stop → ReaderKeeps old new
    → (IsTrue old.told → records_to_come new ≡ records_to_come old)
    → FileLearns (pcap_state old progress) (peeks.End (pcap_ending_with cut)) (pcap_state new progress)
end_learned header cut stop old new progress known free ends g was k same =
    let at = from_none old.stop _ free g.first in
    let which : cut ≡ cut_of stop = was ∙ ap cut_by g.stop_is in
    record {
      is = record { file = refl; lent = omega arith; captured = omega arith; behind = omega arith };
      place = k.offset;
      free = refl;
      goes = record { before = at.goes.before; after = at.goes.after; failed = at.goes.failed };
      items = λ t. no_items stop old.file (interface_of (header_or old.known old.coming)) (records_to_come old) ends
          (sym (same t) ∙ stopped_again new stop g.stop_is);
      ending = λ t. ap pcap_ending_with which ∙ ending_stopped stop (records_to_come old) (sym (same t)
          ∙ stopped_again new stop g.stop_is);
      first = λ t. ap noted_by (at.known_same ∙ known)
          ∙ sym (known_first old.known header old.stop old.offset old.coming known);
    }

-- A rest is refused.
pub refusal_learned : (header : PcapHeader) (refusal : Refusal) (old new : ReaderState PcapHeader)
    (progress : SectionProgress)
    → old.known ≡ Some header → old.stop ≡ None
    → GivesStop true (record_fault header.order old.offset old.coming) (stops.Refused refusal) old new
    → ReaderKeeps old new
    → (IsTrue old.told → records_to_come old ≡ stopped (stops.Refused refusal) ∷ [])
    → FileLearns (pcap_state old progress) (peeks.Refused refusal (pcap_ending_with None)) (pcap_state new progress)
refusal_learned header refusal old new progress known free g k same =
    let at = from_none old.stop _ free g.first in
    record {
      is = record {
        file = at.is_stop.0 ∙ sym k.file;
        lent = omega arith;
        captured = omega arith;
        behind = omega arith;
      };
      place = k.offset;
      free = refl;
      goes = record { before = at.goes.before; after = at.goes.after; failed = at.goes.failed };
      items = λ t. refused_items refusal old.file (interface_of (header_or old.known old.coming))
          (records_to_come old) (same t);
      ending = λ t. ending_stopped (stops.Refused refusal) (records_to_come old) (same t);
      first = λ t. ap noted_by (at.known_same ∙ known)
          ∙ sym (known_first old.known header old.stop old.offset old.coming known);
    }

refused_first : (h : Option PcapHeader) (stop : Option Stop) (offset : ℕ) (bytes : List ℕ) (rule : Rule) → h ≡ None
    → stop ≡ None
    → pcap_header_fault offset bytes ≡ Some rule → None ≡ first_in_pcap h stop offset bytes
refused_first h stop offset bytes rule unknown free is = rw (unknown, free, is) refl

-- The file's header is refused.
pub header_refused : (refusal : Refusal) (old new : ReaderState PcapHeader) (p : SectionProgress) → old.stop ≡ None
    → GivesHeader old (Err (Refused refusal)) new → ReaderKeeps old new
    → (IsTrue old.told → records_to_come old ≡ stopped (stops.Refused refusal) ∷ [])
    → FileLearns (pcap_state old p) (peeks.Refused refusal (pcap_ending_with None)) (pcap_state new p)
header_refused refusal old new p free g k same =
    let at = from_none old.stop _ free g.0.first in
    record {
      is = record {
        file = at.is_stop.0 ∙ sym k.file;
        lent = omega arith;
        captured = omega arith;
        behind = omega arith;
      };
      place = k.offset;
      free = refl;
      goes = record { before = at.goes.before; after = at.goes.after; failed = at.goes.failed };
      items = λ t. refused_items refusal old.file (interface_of (header_or old.known old.coming))
          (records_to_come old) (same t);
      ending = λ t. ending_stopped (stops.Refused refusal) (records_to_come old) (same t);
      first = λ t. ap noted_by (at.known_same ∙ from_none old.stop _ free g.1)
          ∙ refused_first old.known old.stop old.offset old.coming refusal.rule (from_none old.stop _ free g.1) free
          (rule_told old.tail old.file old.offset old.coming (pcap_header_fault old.offset old.coming) refusal
          (at.told_stop t));
    }

new_header : (h : Option PcapHeader) (stop : Option Stop) (offset : ℕ) (bytes : List ℕ) (header : PcapHeader) → h ≡ None
    → stop ≡ None
    → pcap_header_fault offset bytes ≡ None → header ≡ header_at bytes
    → (header ≡ header_or h bytes) × (Some (interface_of header) ≡ first_in_pcap h stop offset bytes)
new_header h stop offset bytes header unknown free whole is = rw (unknown, free, whole, is) (refl, refl)

header_read : (header : PcapHeader) (known : Option PcapHeader) (old new : ReaderState PcapHeader) → old.known ≡ known
    → old.stop ≡ None → HasHeader header old new
    → IsTrue old.told → (header ≡ header_or old.known old.coming)
    × (Some (interface_of header) ≡ first_in_pcap old.known old.stop old.offset old.coming)
header_read header None old new is free h t =
    let first = from_none old.known (ReadsHeader header old new) is h.first in
    new_header old.known old.stop old.offset old.coming header is free (first.whole t) (first.header_is t)
header_read header (Some was) old new is free h t =
    let again = from_some old.known was (λ w. (header ≡ w) × (new ≡ old)) is h.again in (
      again.0 ∙ sym (known_header old.known was old.coming is),
      ap (λ x. Some (interface_of x)) again.0 ∙ sym (known_first old.known was old.stop old.offset old.coming is),
    )

header_failed : (header : PcapHeader) (known : Option PcapHeader) (old new : ReaderState PcapHeader) → old.known ≡ known
    → HasHeader header old new → new.failed ≡ old.failed
header_failed header None old new is h = (from_none old.known (ReadsHeader header old new) is h.first).gives.goes.failed
header_failed header (Some was) old new is h =
    ap (λ (s : ReaderState PcapHeader). s.failed) (from_some old.known was (λ w. (header ≡ w)
    × (new ≡ old)) is h.again).1

header_broken : (header : PcapHeader) (known : Option PcapHeader) (old new : ReaderState PcapHeader) → old.known ≡ known
    → HasHeader header old new → new.broken ≡ old.broken
header_broken header None old new is h = let first = from_none old.known (ReadsHeader header old new) is h.first in
    first.gives.goes.after ∙ sym first.gives.goes.before
header_broken header (Some was) old new is h =
    ap (λ (s : ReaderState PcapHeader). s.broken) (from_some old.known was (λ w. (header ≡ w)
    × (new ≡ old)) is h.again).1

pub header_free : (header : PcapHeader) (known : Option PcapHeader) (old new : ReaderState PcapHeader)
    → old.known ≡ known
    → old.stop ≡ None → HasHeader header old new → new.stop ≡ None
header_free header None old new is free h = (from_none old.known (ReadsHeader header old new) is h.first).gives.stop
header_free header (Some was) old new is free h =
    ap (λ (s : ReaderState PcapHeader). s.stop) (from_some old.known was (λ w. (header ≡ w)
    × (new ≡ old)) is h.again).1 ∙ free

-- The file's header is read, after which everything is to come as before.
pub header_waits : (header : PcapHeader) (old new : ReaderState PcapHeader) (p : SectionProgress) → old.stop ≡ None
    → HasHeader header old new → ReaderKeeps old new
    → (IsTrue old.told → records_to_come new ≡ records_to_come old) → FileWaits (pcap_state old p) (pcap_state new p)
header_waits header old new p free h k same = record {
  stops = none_stops new.stop (header_free header old.known old new refl free h);
  broken = header_broken header old.known old new refl h;
  failed = header_failed header old.known old new refl h;
  rest = λ t.
      let read = header_read header old.known old new refl free h t in
      record {
        items = same_items new.file old.file (interface_of (header_or new.known new.coming))
            (interface_of (header_or old.known old.coming))
            (records_to_come old) (records_to_come new) k.file
            (ap interface_of (known_header new.known header new.coming h.header_known ∙ read.0)) (same t);
        ending = ap pcap_ending (same t);
        first = known_first new.known header new.stop new.offset new.coming h.header_known ∙ read.1;
      };
}

pub pcap_keeps : (old new : ReaderState PcapHeader) (p : SectionProgress) → ReaderKeeps old new
    → FileKeeps (pcap_state old p) (pcap_state new p)
pcap_keeps old new p k = record {
  file = k.file;
  most = k.most;
  told = k.told;
  can_fail = k.can_fail;
  offset = k.offset;
  limit = λ h. k.limit;
  held = λ h. k.held;
  interfaces = λ h. h;
  counted = λ h. omega (arith, h, k.offset);
}

-- How far is read for a record, and for the header.
pub record_taken : (header : PcapHeader) (old new : ReaderState PcapHeader) (r : Record) (p : SectionProgress)
    → ReachesRecord header old (Ok (Some r)) new
    → new.offset ≡ old.offset + (16 + r.captured) → FileTakes (pcap_state old p) (pcap_state new p)
record_taken header old new r p h is = (omega (arith, is), rw is h)

header_by : (header : PcapHeader) (known : Option PcapHeader) (old new : ReaderState PcapHeader) → old.known ≡ known
    → HasHeader header old new
    → ReachesHeader old (Ok header) new → ReachesTo old.most new.offset old.read new.read
header_by header None old new is h reads =
    rw (from_none old.known (ReadsHeader header old new) is h.first).gives.next reads
header_by header (Some was) old new is h reads =
    rw (from_some old.known was (λ w. (header ≡ w) × (new ≡ old)) is h.again).1
    (ReachesTo-here old.most old.offset old.read)

pub header_reads : (header : PcapHeader) (old new : ReaderState PcapHeader) (p : SectionProgress)
    → HasHeader header old new
    → ReachesHeader old (Ok header) new
    → ReadsTo (pcap_state old p) (pcap_state new p)
header_reads header old new p h reads = header_by header old.known old new refl h reads

-- A packet of a file, with another record, is what that record tells.
pub recorded : (file : ℕ) (header : PcapHeader) (meta : Meta) (r : Record) → IsPrepared file (Some header) meta
    → with_record meta r ≡ meta_of file (interface_of header) r
recorded file header meta r p = ap (λ m. with_record m r) (sym p)

-- It has what that file's packets have in common, too.
pub recorded-of : (file : ℕ) (header : PcapHeader) (meta : Meta) (r : Record) → IsPrepared file (Some header) meta
    → IsPrepared file (Some header) (with_record meta r)
recorded-of file header meta r p = ap (λ m. with_record m r) p

-- What is kept stays prepared, as the file and its header do.
pub prepared-kept : (old new : ReaderState PcapHeader) (header : PcapHeader) (meta kept : Meta)
    → IsPrepared old.file (Some header) meta → new.file ≡ old.file → new.known ≡ Some header → kept ≡ meta
    → IsPrepared new.file new.known kept
prepared-kept old new header meta kept p file known same = rw (known, file, same) p
