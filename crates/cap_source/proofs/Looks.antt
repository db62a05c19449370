-- What the first four bytes tell, and the reader that is made by that.
use Rattle.std.proofs.Common.{◌≡◌, ◌≤◌, ◌+◌, ℕ, true, false, List, ◌++◌, length, None, IsTrue, Result, Ok, refl, sym}
use Rattle.std.proofs.Common.{ap, ◌∙◌, arith, nat_le, length-append}
use Rattle.std.proofs.lemmas.Bool.Decides.{nat_tests}
use Rattle.cap_bytes.proofs.Spelling.{number-append}
use Rattle.cap_bytes.specs.inner.Reach.{ReachesTo}
use Rattle.cap_bytes.specs.inner.Window.{WindowState, WindowShows, WindowKeeps, coming, read_to}
use Rattle.cap_bytes.specs.declared.faults.Fault.{Fault}
use Rattle.cap_bytes.specs.declared.faults.Tail.{Tail}
use Rattle.cap_pcap.specs.Split as records
use Rattle.cap_blocks.specs.Split as splits
use Rattle.cap_blocks.specs.Split.{is_section}
use Rattle.cap_source.specs.Items.{SectionProgress, interface_of, is_pcapng, items_of_blocks, ending_in, first_in}
use Rattle.cap_source.specs.Items.{pcap_items}
use Rattle.cap_source.specs.Items.{pcap_ending, unless_refused, items_from, ending_from, first_from}
use Rattle.cap_source.specs.inner.FileState.{FileKeeps, unread_state, FileWaits}
use Rattle.cap_source.specs.inner.Readers.{reader_file_state, reader_by, has_format, LooksAtWindow}
use Rattle.cap_bytes.specs.declared.formats.Format.{Format}
use Rattle.cap_source.specs.declared.readers.Reader.{Reader}
use Rattle.cap_source.specs.declared.readers.Reader.TheVariants as readers

le_true : (m n : ℕ) → m ≤ n → nat_le m n ≡ true
le_true m n h = grind (arith, nat_tests)

pcapng_shown : (xs ys : List ℕ) → 4 ≤ length xs → is_pcapng (xs ++ ys) ≡ is_section xs
pcapng_shown xs ys few = grind (arith, le_true, length-append, number-append)

-- the first four bytes that are shown tell the format
pub looks_at : (old new : WindowState) → WindowShows old new → 4 ≤ length new.shown → IsTrue old.told
    → is_pcapng (coming old) ≡ is_section new.shown
looks_at old new s few t = ap is_pcapng (sym (s.coming_same t)) ∙ pcapng_shown new.shown new.unread few

pcap_items_from : (tail : Tail) (f g : ℕ) (p : SectionProgress) (o q : ℕ) (old new : List ℕ) → f ≡ g → o ≡ q → new ≡ old
    → is_pcapng old ≡ false
    → pcap_items f (interface_of (records.header_at new)) (records.pcap_file_items tail f o new)
    ≡ items_from tail g p q old
unfolding items_from
pcap_items_from tail f g p o q old new fg oq is not = rw (fg, oq, is, not) refl

pcap_ending_from : (tail : Tail) (f g : ℕ) (p : SectionProgress) (o q : ℕ) (old new : List ℕ) → f ≡ g → o ≡ q
    → new ≡ old
    → is_pcapng old ≡ false
    → pcap_ending (records.pcap_file_items tail f o new) ≡ ending_from tail g p q old
unfolding ending_from
pcap_ending_from tail f g p o q old new fg oq is not = rw (fg, oq, is, not) refl

pcap_first_from : (tail : Tail) (g : ℕ) (p : SectionProgress) (o q : ℕ) (old new : List ℕ) → o ≡ q → new ≡ old
    → is_pcapng old ≡ false
    → unless_refused (records.pcap_header_fault o new) (interface_of (records.header_at new))
    ≡ first_from tail g p q old
unfolding first_from
pcap_first_from tail g p o q old new oq is not = rw (oq, is, not) refl

pcapng_items_from : (tail : Tail) (f g : ℕ) (p : SectionProgress) (o q : ℕ) (old new : List ℕ) → f ≡ g → o ≡ q
    → new ≡ old
    → is_pcapng old ≡ true
    → items_of_blocks f p (splits.block_items_from None tail f o new) ≡ items_from tail g p q old
unfolding items_from
pcapng_items_from tail f g p o q old new fg oq is there = rw (fg, oq, is, there) refl

pcapng_ending_from : (tail : Tail) (f g : ℕ) (p : SectionProgress) (o q : ℕ) (old new : List ℕ) → f ≡ g → o ≡ q
    → new ≡ old
    → is_pcapng old ≡ true
    → ending_in p (splits.block_items_from None tail f o new) ≡ ending_from tail g p q old
unfolding ending_from
pcapng_ending_from tail f g p o q old new fg oq is there = rw (fg, oq, is, there) refl

pcapng_first_from : (tail : Tail) (f g : ℕ) (p : SectionProgress) (o q : ℕ) (old new : List ℕ) → f ≡ g → o ≡ q
    → new ≡ old
    → is_pcapng old ≡ true
    → first_in p (splits.block_items_from None tail f o new) ≡ first_from tail g p q old
unfolding first_from
pcapng_first_from tail f g p o q old new fg oq is there = rw (fg, oq, is, there) refl

-- The reader that is made gives what the window did.
pub opened_waits : (R : Type 0) (w v : WindowState) (tail : Tail) (format : Format) (p : SectionProgress)
    → WindowShows w v → WindowKeeps w v
    → (IsTrue w.told → has_format format (coming w))
    → FileWaits (unread_state w tail p) (reader_file_state {R = R} (reader_by (readers.Unread v tail) format) p)
opened_waits R w v tail format p s k is = grind (
  arith,
  pcap_items_from,
  pcap_ending_from,
  pcap_first_from,
  pcapng_items_from,
  pcapng_ending_from,
  pcapng_first_from,
)

-- the same of what calls answered
pub opened_by : {R : Type 0} (old unread new : Reader R) (w v : WindowState) (tail : Tail) (format : Format)
    (p : SectionProgress)
    → old ≡ readers.Unread w tail → unread ≡ readers.Unread v tail → new ≡ reader_by unread format
    → LooksAtWindow w (Ok format) v → WindowKeeps w v → FileWaits (reader_file_state old p) (reader_file_state new p)
opened_by {R} old unread new w v tail format p is_old is_unread is_new s k = grind (arith, opened_waits)

-- what every look keeps
pub unread_keeps : (w v : WindowState) (tail : Tail) (p : SectionProgress) (result : Result Format Fault)
    → LooksAtWindow w result v → WindowKeeps w v
    → FileKeeps (unread_state w tail p) (unread_state v tail p)
unread_keeps w v tail p result h k = grind arith

pub opened_keeps : {R : Type 0} (old unread new : Reader R) (w v : WindowState) (tail : Tail) (format : Format)
    (p : SectionProgress)
    → old ≡ readers.Unread w tail → unread ≡ readers.Unread v tail → new ≡ reader_by unread format
    → LooksAtWindow w (Ok format) v → WindowKeeps w v → FileKeeps (reader_file_state old p) (reader_file_state new p)
opened_keeps {R} old unread new w v tail format p is_old is_unread is_new h k = grind arith

-- how far the first four bytes are read
pub opened_reads : {R : Type 0} (old unread new : Reader R) (w v : WindowState) (tail : Tail) (format : Format)
    (p : SectionProgress)
    → old ≡ readers.Unread w tail → unread ≡ readers.Unread v tail → new ≡ reader_by unread format
    → ReachesTo w.most (w.offset + 4) (read_to w) (read_to v)
    → ReachesTo (reader_file_state old p).most ((reader_file_state old p).offset
    + 4) (reader_file_state old p).read (reader_file_state new p).read
opened_reads {R} old unread new w v tail format p is_old is_unread is_new h = grind arith
