-- What a look at the window makes of a reader, and what that does to the items to come.
use Rattle.std.proofs.Common.{◌≡◌, ℕ, ◌+◌, ◌≤◌, List, [], ◌∷◌, length, drop, Option, Some, None, Ok, IfSome, IsSomeAnd}
use Rattle.std.proofs.Common.{true, false, IsTrue, Result, refl, sym, ◌∙◌, ap, arith, add-zero, length-drop}
use Rattle.std.proofs.Common.{length-take-le}
use Rattle.std.proofs.lemmas.List.{take-append-le}
use Rattle.cap_bytes.specs.Items.{stop_where, given, stopped, items_by_stop}
use Rattle.cap_bytes.specs.inner.Reader.{ReaderState, ReaderKeeps}
use Rattle.cap_bytes.specs.inner.Reach.{ReachesTo}
use Rattle.cap_bytes.specs.inner.Window.{WindowState, WindowPasses, coming, read_to}
use Rattle.cap_bytes.specs.declared.faults.Fault.{Fault}
use Rattle.cap_bytes.specs.declared.faults.Rule.{Rule}
use Rattle.cap_bytes.specs.declared.faults.Tail.{Tail}
use Rattle.cap_bytes.specs.declared.stops.Stop.{Stop}
use Rattle.cap_bytes.proofs.Readers.{Stands, Stands-here, Stands-passed, Gives-seen, waits_kept, stop_kept}
use Rattle.cap_bytes.proofs.Readers as readers
use Rattle.cap_bytes.proofs.Reach.{ReachesTo-passed}
use Rattle.cap_bytes.proofs.Parsing.{coming-passed, from_none, from_some}
use Rattle.cap_pcap.specs.inner.Reader.{HasHeader, GivesHeader, packet_of, GivesRecord, GivesNextRecord, KeepsRecords}
use Rattle.cap_pcap.specs.inner.Reader.{ReachesHeader}
use Rattle.cap_pcap.specs.inner.Reader.{TakesRecord, record_items_at, records_to_come, shown_record_size, lent_frame}
use Rattle.cap_pcap.specs.inner.Reader.{record_reader_state, IsInOrder, MayGoOn}
use Rattle.cap_pcap.specs.inner.Parsing.{SeesPcapHeader, SeesRecord}
use Rattle.cap_pcap.specs.Split.{pcap_header_fault, header_at, record_fault, record_stop_at, record_at, record_frame_at}
use Rattle.cap_pcap.specs.Split.{pcap_file_items}
use Rattle.cap_pcap.specs.declared.headers.PcapHeader.{PcapHeader}
use Rattle.cap_pcap.specs.declared.records.Record.{Record}
use Rattle.cap_pcap.proofs.Faults.{FitsHeader-from_none}
use Rattle.cap_pcap.proofs.Items.{items_from-stop, items_from-record}
use Rattle.cap_pcap.proofs.Spelling.{SpellsHeader-at, Reads-spelled}

-- before there is a header, nothing is given
pub unread : (P : Option PcapHeader → Option ℕ → Option Stop → Type 0) (known : Option PcapHeader) (captured : Option ℕ)
    (stop : Option Stop)
    → known ≡ None → IsInOrder known captured stop → MayGoOn stop → P None None None → P known captured stop
unread P known captured stop none order free p = grind arith

-- what is true of a header that is known
pub for_known : (known : Option PcapHeader) (header : PcapHeader) (P : PcapHeader → Type 0) → known ≡ Some header
    → P header → IfSome known P
for_known known header P e p = grind arith

-- the header is seen, and passed
pub HasHeader-seen : (w v u : WindowState) (tail : Tail) (header : PcapHeader) → SeesPcapHeader header w v
    → WindowPasses 24 v u
    → HasHeader header (record_reader_state w tail None None None) (record_reader_state u tail (Some header) None None)
HasHeader-seen w v u tail header s p =
    let goes = s.shows.goes in
    record {
      may_go_on = tt;
      header_known = refl;
      again = tt;
      first = record {
        gives = Gives-seen (record_reader_state w tail None None None) w u (Stands-here w tail None) (Some header) 24
            0 None
            (record { before = goes.before; after = p.broken ∙ goes.after; failed = p.failed ∙ goes.failed })
            (omega (arith, p.offset, s.shows.offset)) (λ t. coming-passed 24 v u s.size p
            ∙ ap (drop 24) (s.shows.coming_same t));
        lent = refl;
        whole = λ t. rw add-zero (s.whole t);
        header_is = s.header_is;
        spelled = λ t. rw (s.header_is t) (SpellsHeader-at w.offset (coming w)
            (FitsHeader-from_none w.offset (coming w) (s.whole t)));
      };
    }

-- how far that was read
pub ReachesHeader-seen : (w v u : WindowState) (tail : Tail) (header : PcapHeader) → SeesPcapHeader header w v
    → WindowPasses 24 v u
    → ReachesTo w.most (w.offset + 24) (read_to w) (read_to v)
    → ReachesHeader (record_reader_state w tail None None None) (Ok header)
    (record_reader_state u tail (Some header) None None)
ReachesHeader-seen w v u tail header s p h = rw add-zero (ReachesTo-passed w.most (w.offset + 24) 24 w v u s.size p h)

-- a record is seen after the one that was given last
pub GivesRecord-seen : (header : PcapHeader) (w u v : WindowState) (tail : Tail) (known : Option PcapHeader)
    (captured : Option ℕ) (stop : Option Stop) (r : Record)
    → stop ≡ None → shown_record_size captured ≤ length w.shown → WindowPasses (shown_record_size captured) w u
    → SeesRecord header tail r u v
    → GivesRecord header (record_reader_state w tail known captured stop) r
    (record_reader_state v tail known (Some r.captured) stop)
GivesRecord-seen header w u v tail known captured stop r free within p s = record {
  gives = Gives-seen (record_reader_state w tail known captured stop) u v
      (Stands-passed w u tail known (shown_record_size captured) (lent_frame captured w.shown) stop free within p)
      known (16 + r.captured) (16 + r.captured) (lent_frame (Some r.captured) v.shown) s.shows.goes
      (ap (λ n. n + (16 + r.captured)) s.shows.offset)
      (λ t. ap (drop (16 + r.captured)) (s.shows.coming_same t));
  offset = s.offset ∙ p.offset;
  captured = s.captured;
  frame = length-take-le r.captured (drop 16 v.shown) (omega (arith, s.size, length-drop 16 v.shown));
  none = λ t. grind (arith, coming-passed);
  spelled = λ t. grind (arith, coming-passed, take-append-le);
}

-- the items of a file whose header is refused
header_ends : (a : Option PcapHeader) (tail : Tail) (file offset : ℕ) (bytes : List ℕ) (fault : Option Rule)
    (stop : Stop) → a ≡ None
    → pcap_header_fault offset bytes ≡ fault → stop_where false tail file offset bytes fault ≡ Some stop
    → record_items_at a tail file offset bytes ≡ stopped stop ∷ []
unfolding pcap_file_items stop_where
header_ends a tail file offset bytes fault stop unknown is h = grind arith

-- and of one whose header isn't
header_items : (s t : Option Stop) (a b : Option PcapHeader) (tail tail' : Tail) (file file' offset offset' : ℕ)
    (bytes bytes' : List ℕ) (header : PcapHeader)
    → s ≡ None → t ≡ None → a ≡ None → b ≡ Some header → tail' ≡ tail → file' ≡ file → offset' ≡ offset + 24
    → pcap_header_fault offset bytes ≡ None → header ≡ header_at bytes → bytes' ≡ drop 24 bytes
    → items_by_stop t (record_items_at b tail' file' offset' bytes')
    ≡ items_by_stop s (record_items_at a tail file offset bytes)
unfolding pcap_file_items
header_items s t a b tail tail' file file' offset offset' bytes bytes' header ss ts aa bb e f o whole is l = cc

-- the header leaves the items to come
header_kept : (old new : ReaderState PcapHeader) (header : PcapHeader) (known : Option PcapHeader) → old.known ≡ known
    → HasHeader header old new
    → ReaderKeeps old new → IsTrue old.told → records_to_come new ≡ records_to_come old
header_kept old new header known is h k t = grind (arith, from_some, from_none, header_items)

-- What `header` answers tells what it does to the items to come.
pub KeepsItems_header : (old new : ReaderState PcapHeader) (result : Result PcapHeader Fault)
    → GivesHeader old result new
    → ReaderKeeps old new → IsTrue old.told
    → KeepsRecords (records_to_come old) result (records_to_come new)
KeepsItems_header old new result h k t = grind (arith, header_kept, stop_kept, header_ends, from_none, waits_kept)

-- the items if something ends the records
ended_items : (a : Option PcapHeader) (header : PcapHeader) (tail : Tail) (file offset : ℕ) (bytes : List ℕ)
    → a ≡ Some header → (stop : Stop)
    → record_stop_at header.order tail file offset bytes ≡ Some stop
    → record_items_at a tail file offset bytes ≡ stopped stop ∷ []
ended_items a header tail file offset bytes known stop is =
    rw known (items_from-stop header tail file offset bytes stop is)

-- the items if a record stands
given_items : (s t : Option Stop) (a b : Option PcapHeader) (tail tail' : Tail) (file file' offset offset' : ℕ)
    (bytes bytes' : List ℕ) (header : PcapHeader) (r : Record) (frame : List ℕ)
    → s ≡ None → t ≡ None → a ≡ Some header → b ≡ a → tail' ≡ tail → file' ≡ file → offset' ≡ offset + (16 + r.captured)
    → record_stop_at header.order tail file offset bytes ≡ None → r ≡ record_at header.order header.unit offset bytes
    → frame ≡ record_frame_at header.order bytes
    → bytes' ≡ drop (16 + r.captured) bytes
    → items_by_stop s (record_items_at a tail file offset bytes) ≡ given r frame
    ∷ items_by_stop t (record_items_at b tail' file' offset' bytes')
unfolding record_at
given_items s t a b tail tail' file file' offset offset' bytes bytes' header r frame ss ts aa ba e f o none is frame_is
    l = grind (arith, items_from-record)

record_taken : (header : PcapHeader) (old new : ReaderState PcapHeader) (r : Record) (frame : Option (List ℕ))
    → new.lent ≡ frame → old.known ≡ Some header
    → GivesRecord header old r new → ReaderKeeps old new → IsTrue old.told
    → IsSomeAnd frame (λ bytes. records_to_come old ≡ given r bytes ∷ records_to_come new)
record_taken header old new r None is known g k t = absurd (rw is at g.frame)
record_taken header old new r (Some bytes) is known g k t =
    let size : length bytes ≡ r.captured = rw is at g.frame in
    let spelled = rw (is, ← size) at (g.spelled t) in
    let reads = Reads-spelled header.order header.unit old.offset (packet_of r bytes) old.coming spelled
    (omega (arith, size, g.gives.next, k.limit)) in
    given_items old.stop new.stop old.known new.known old.tail new.tail old.file new.file old.offset new.offset
    old.coming new.coming header r bytes
    g.gives.goes.stop g.gives.stop known g.gives.known_is k.tail k.file g.gives.next (g.none t)
    (let same : record_at header.order header.unit old.offset old.coming ≡ r = reads.record_is
    ∙ (rw (← g.offset, size) refl) in sym same)
    (sym reads.frame_is) (g.gives.coming_next t)

-- What `next_record` answers tells what it does to the items to come.
pub TakesItem_next : (header : PcapHeader) (old new : ReaderState PcapHeader) (result : Result (Option Record) Fault)
    → old.known ≡ Some header
    → GivesNextRecord header old result new → ReaderKeeps old new → IsTrue old.told
    → TakesRecord (records_to_come old) result new.lent (records_to_come new)
TakesItem_next header old new result known g k t =
    readers.TakesItem-next record_items_at true (record_fault header.order old.offset old.coming) old new
    (λ free. ended_items old.known header old.tail old.file old.offset old.coming known)
    (λ r. GivesRecord header old r new) (λ r. IsSomeAnd new.lent
    (λ bytes. records_to_come old ≡ given r bytes ∷ records_to_come new))
    262160 _ result
    (λ r h. record_taken header old new r new.lent refl known h k t) g k t

pub TakesItem_known : (header : PcapHeader) (old new : ReaderState PcapHeader) (result : Result (Option Record) Fault)
    → old.known ≡ Some header → IfSome old.known (λ h. GivesNextRecord h old result new) → ReaderKeeps old new
    → IsTrue old.told → TakesRecord (records_to_come old) result new.lent (records_to_come new)
TakesItem_known header old new result known g k t =
    TakesItem_next header old new result known
    (from_some old.known header (λ h. GivesNextRecord h old result new) known g) k t

-- The same of a record that was shown already.
pub TakesItem_shown : (header : PcapHeader) (old new : ReaderState PcapHeader) (found : Option Record)
    → old.known ≡ Some header
    → IfSome found (λ r. GivesNextRecord header old (Ok (Some r)) new) → ReaderKeeps old new → IsTrue old.told
    → IfSome found (λ r. TakesRecord (records_to_come old) (Ok (Some r)) new.lent (records_to_come new))
TakesItem_shown header old new None known g k t = tt
TakesItem_shown header old new (Some r) known g k t = TakesItem_next header old new (Ok (Some r)) known g k t
