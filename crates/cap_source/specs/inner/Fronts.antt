-- A file of which a part was read, as it would be if it ended further on.
use Rattle.std.specs.Prelude.{◌≡◌, ◌+◌, ◌-◌, ◌≤◌, ℕ, List, [], ◌∷◌, length, take, Bool, true, false, IsTrue}
use Rattle.std.specs.Prelude.{Option, Some, None, is_some, Result, Ok, Err, ⊤, ◌⊎◌}
use Rattle.cap_bytes.specs.inner.Reader.{ReaderState}
use Rattle.cap_bytes.specs.inner.Window.{WindowState}
use Rattle.cap_bytes.specs.inner.Window as windows
use Rattle.cap_bytes.specs.declared.faults.Fault.{Fault}
use Rattle.cap_bytes.specs.declared.faults.Fault.TheVariants.{Refused, Read, Write, Memory}
use Rattle.cap_bytes.specs.declared.faults.Tail.{Tail}
use Rattle.cap_bytes.specs.declared.numbers.Order.{Order}
use Rattle.cap_blocks.specs.Split.{block_items_from}
use Rattle.cap_pcap.specs.inner.Reader.{record_items_at}
use Rattle.cap_pcap.specs.declared.headers.PcapHeader.{PcapHeader}
use Rattle.cap_source.specs.Feed.{Item, packet}
use Rattle.cap_source.specs.Items.{SectionProgress, ending_from, ending_in, ending_with, interface_of, items_from}
use Rattle.cap_source.specs.Items.{items_of_blocks, pcap_ending, pcap_ending_with, pcap_items}
use Rattle.cap_source.specs.declared.feeds.FileEnd.{FileEnd}
use Rattle.cap_source.specs.declared.feeds.Head.{Head}
use Rattle.cap_source.specs.declared.feeds.Head.TheVariants as heads
use Rattle.cap_source.specs.declared.packets.Meta.{Meta}
use Rattle.cap_source.specs.declared.readers.Peeked.{Peeked}
use Rattle.cap_source.specs.declared.readers.Reader.{Reader}
use Rattle.cap_source.specs.declared.readers.Reader.TheVariants as readers
use Rattle.cap_source.specs.inner.FileState.{IfTaken, header_or, items_from_next, next_frame}

-- A file of `size` bytes, if its device tells them, of which the next record or block begins at `offset`. If the file
-- ended at an offset further on, `items` would be those to come, and `ending` how it ends. `begun` says that its header
-- or its first block was read, and `so_far` is what it has up to `offset`, once its format is known. `lent` is what its
-- reader lends, and `broken` is where a read failed, once one has.
pub record Fronts : Type 0 where
  pub told : Bool
  pub broken : Option ℕ
  pub offset : ℕ
  pub size : ℕ
  pub lent : Option (List ℕ)
  pub begun : Bool
  pub so_far : Option FileEnd
  pub items : ℕ → List Item
  pub ending : ℕ → FileEnd

-- those of the bytes from `offset` on that stand before `end`
abbrev pub bytes_before : ℕ → ℕ → List ℕ → List ℕ
bytes_before end offset bytes = take (end - offset) bytes

-- a file of which nothing was read
abbrev pub unread_fronts : WindowState → Tail → SectionProgress → Fronts
unread_fronts window tail progress =
    record {
      told = window.told;
      broken = window.broken;
      offset = window.offset;
      size = window.offset + length (windows.coming window);
      lent = None;
      begun = false;
      so_far = None;
      items = λ end. items_from tail window.file progress window.offset
          (bytes_before end window.offset (windows.coming window));
      ending = λ end. ending_from tail window.file progress window.offset
          (bytes_before end window.offset (windows.coming window));
    }

-- the items of the records of some bytes, by the header that was read, or theirs
abbrev pub record_items_of : ℕ → Tail → Option PcapHeader → ℕ → List ℕ → List Item
record_items_of file tail known offset bytes =
    pcap_items file (interface_of (header_or known bytes)) (record_items_at known tail file offset bytes)

-- a pcap file
abbrev pub pcap_fronts : ReaderState PcapHeader → Fronts
pcap_fronts reader =
    record {
      told = reader.told;
      broken = reader.broken;
      offset = reader.offset;
      size = reader.offset + length reader.coming;
      lent = reader.lent;
      begun = is_some reader.known;
      so_far = Some (pcap_ending_with None);
      items = λ end. record_items_of reader.file reader.tail reader.known reader.offset
          (bytes_before end reader.offset reader.coming);
      ending = λ end. pcap_ending (record_items_at reader.known reader.tail reader.file reader.offset
          (bytes_before end reader.offset reader.coming));
    }

-- a pcapng file
abbrev pub pcapng_fronts : ReaderState Order → SectionProgress → Fronts
pcapng_fronts reader progress =
    record {
      told = reader.told;
      broken = reader.broken;
      offset = reader.offset;
      size = reader.offset + length reader.coming;
      lent = reader.lent;
      begun = is_some reader.known;
      so_far = Some (ending_with progress None);
      items = λ end. items_of_blocks reader.file progress (block_items_from reader.known reader.tail reader.file
          reader.offset (bytes_before end reader.offset reader.coming));
      ending = λ end. ending_in progress (block_items_from reader.known reader.tail reader.file reader.offset
          (bytes_before end reader.offset reader.coming));
    }

-- the reader that is on its way
abbrev pub moved_fronts : SectionProgress → Fronts
moved_fronts progress =
    record {
      told = true;
      broken = None;
      offset = 0;
      size = 0;
      lent = None;
      begun = false;
      so_far = None;
      items = λ end. [];
      ending = λ end. ending_with progress None;
    }

abbrev pub reader_fronts : {R : Type 0} → Reader R → SectionProgress → Fronts
reader_fronts (readers.Unread window tail) progress = unread_fronts window tail progress
reader_fronts (readers.Pcap reader) progress = pcap_fronts reader
reader_fronts (readers.Pcapng reader) progress = pcapng_fronts reader progress
reader_fronts readers.Moved progress = moved_fronts progress

-- A file that ended there would have what was read of it, and its header or its first block begins before that.
abbrev pub MayEnd : Fronts → ℕ → Type 0
MayEnd fronts end = (fronts.offset ≤ end) × (IsTrue fronts.begun ⊎ (fronts.offset + 4 ≤ end))

-- Its header, records or blocks were read, and so that comes next, if anything does. It has the same bytes.
pub record FrontsPass (old : Fronts) (next : Option Peeked) (new : Fronts) : Type 0 where
  pub size : new.size ≡ old.size
  pub broken : new.broken ≡ old.broken
  pub begun : IsTrue (is_some next) → IsTrue new.begun
  pub fresh : new.begun ≡ false → (old.begun ≡ false) × (new.offset ≡ old.offset)
  pub back : (end : ℕ) → MayEnd new end → MayEnd old end
  pub items : (end : ℕ) → MayEnd new end
      → old.items end ≡ items_from_next next (next_frame next new.lent) (new.items end)
  pub ending : (end : ℕ) → MayEnd new end → old.ending end ≡ new.ending end

-- A read fails in what begins at `offset`. If the file ended there, no item would be to come, and it would end with
-- what it has so far, and not in a rest that was cut; unless its header or its first block begins there.
pub record FrontsFail (old : Fronts) (offset : ℕ) (new : Fronts) : Type 0 where
  pub within : offset ≤ old.size
  pub fresh : new.begun ≡ false → (old.begun ≡ false) × (offset ≡ old.offset)
  pub back : IsTrue new.begun → MayEnd old offset
  pub items : IsTrue new.begun → old.items offset ≡ []
  pub so_far : IsTrue new.begun → new.so_far ≡ Some (old.ending offset)
  pub whole : IsTrue new.begun → (old.ending offset).ending.cut ≡ None

-- what a look at what comes next makes of them
abbrev pub FrontsAnswer : {A : Type 0} → Fronts → Result A Fault → Option Peeked → Fronts → Type 0
FrontsAnswer old (Ok x) next new = IfTaken next (FrontsPass old next new)
FrontsAnswer old (Err (Refused refusal)) next new = ⊤
FrontsAnswer old (Err (Read file offset)) next new = old.broken ≡ None → FrontsFail old offset new
FrontsAnswer old (Err Write) next new = ⊤
FrontsAnswer old (Err Memory) next new = ⊤

-- the same of what comes next as the feed says it
pub record FrontsGive (old : Fronts) (head : Option Head) (new : Fronts) : Type 0 where
  pub meta : Meta
  pub frame : List ℕ
  pub head_is : head ≡ Some (heads.Packet meta)
  pub size : new.size ≡ old.size
  pub broken : new.broken ≡ old.broken
  pub begun : IsTrue new.begun
  pub back : (end : ℕ) → new.offset ≤ end → MayEnd old end
  pub items : (end : ℕ) → new.offset ≤ end → old.items end ≡ packet meta frame ∷ new.items end
  pub ending : (end : ℕ) → new.offset ≤ end → old.ending end ≡ new.ending end

-- what asking whether a packet comes next makes of them
abbrev pub FrontsFind : Fronts → Result Bool Fault → Option Head → Fronts → Type 0
FrontsFind old (Ok true) head new = FrontsGive old head new
FrontsFind old (Ok false) head new = ⊤
FrontsFind old (Err (Refused refusal)) head new = ⊤
FrontsFind old (Err (Read file offset)) head new = old.broken ≡ None → FrontsFail old offset new
FrontsFind old (Err Write) head new = ⊤
FrontsFind old (Err Memory) head new = ⊤
