-- The packets of a pcap file, as they are numbered, read again and kept.
use Rattle.std.proofs.Common.{arith, ◌≡◌, ℕ, ◌+◌, List, [], ◌∷◌, length, Some, refl, ap}
use Rattle.cap_bytes.specs.declared.numbers.Order.{Order}
use Rattle.cap_pcap.specs.Grammar.{Packet, packet_size}
use Rattle.cap_pcap.specs.Split as records
use Rattle.cap_bytes.specs.declared.stops.Stop.{Stop}
use Rattle.cap_source.specs.Items.{pcap_items}
use Rattle.cap_time.specs.declared.resolutions.Interface.{Interface}
use Rattle.cap_source.specs.Feed.{refusal_of}
use Rattle.cap_write.specs.Numbering.{Origins, own, Numbered, numbered, refusal_in, write_fault}
use Rattle.cap_write.specs.Texts.{interface_part, packet_part, count_after}
use Rattle.cap_commands.specs.BlockText.{refusal_of_stop}
use Rattle.cap_laws.specs.again.Laws.{Kept, kept_packets, read_items, AreNumbered, all_described}

-- the packets of a pcap file as they are numbered after its one interface, and as they are kept
abbrev pub number_one : Interface → Packet → Numbered
number_one i p = record {
  number = 0;
  interface = i;
  units = p.units;
  captured = length p.frame;
  original =
      p.original;
  frame = p.frame;
}

abbrev pub number_all : Interface → List Packet → List Numbered
number_all i [] = []
number_all i (p ∷ ps) = number_one i p ∷ number_all i ps

abbrev pub keep_one : Interface → Packet → Kept
keep_one i p = record {
  interface = i;
  units = Some p.units;
  captured = length p.frame;
  original =
      p.original;
  frame = p.frame;
}

abbrev pub keep_all : Interface → List Packet → List Kept
keep_all i [] = []
keep_all i (p ∷ ps) = keep_one i p ∷ keep_all i ps

abbrev one_origin : ℕ → Origins
one_origin file = own ((file, 0) ∷ [])

-- what is written of them is all
pub numbered-packets : (file : ℕ) (i : Interface) (offset : ℕ) (ps : List Packet) (stop : Stop)
    → numbered (one_origin file) (pcap_items file i (records.record_items_with offset ps stop)) ≡ number_all i ps
unfolding numbered pcap_items write_fault
numbered-packets file i offset (p ∷ ps) stop = grind (arith, numbered-packets file i (offset + packet_size p) ps stop)
numbered-packets file i offset ps stop = grind arith

-- and nothing is refused but what ended them
pub refusal-packets : (file : ℕ) (i : Interface) (offset : ℕ) (ps : List Packet) (stop : Stop)
    → refusal_in (one_origin file) (pcap_items file i (records.record_items_with offset ps stop)) ≡ refusal_of_stop stop
unfolding refusal_in pcap_items write_fault
refusal-packets file i offset (p ∷ ps) stop = grind (arith, refusal-packets file i (offset + packet_size p) ps stop)
refusal-packets file i offset ps stop = grind arith

pub refusal_of-packets : (file : ℕ) (i : Interface) (offset : ℕ) (ps : List Packet) (stop : Stop)
    → refusal_of (pcap_items file i (records.record_items_with offset ps stop)) ≡ refusal_of_stop stop
unfolding refusal_of pcap_items
refusal_of-packets file i offset (p ∷ ps) stop = refusal_of-packets file i (offset + packet_size p) ps stop
refusal_of-packets file i offset ps stop = grind arith

pub kept-packets : (file : ℕ) (i : Interface) (offset : ℕ) (ps : List Packet) (stop : Stop)
    → kept_packets (pcap_items file i (records.record_items_with offset ps stop)) ≡ keep_all i ps
unfolding kept_packets pcap_items
kept-packets file i offset (p ∷ ps) stop = ap (λ l. keep_one i p ∷ l)
    (kept-packets file i (offset + packet_size p) ps stop)
kept-packets file i offset ps stop = grind arith

-- and as they are read again
pub kept-read : (order : Order) (file offset count : ℕ) (i : Interface) (ps : List Packet)
    → kept_packets (read_items order file offset count (number_all i ps)) ≡ keep_all i ps
unfolding kept_packets read_items
kept-read order file offset count i [] = refl
kept-read order file offset count i (p ∷ ps) =
    grind (
      arith,
      kept-read order file (offset + length (interface_part order count (number_one i p)) + length
          (packet_part order (number_one i p))) (count_after count (number_one i p)) i ps,
    )

-- they are numbered after their interface
pub IsNumbered-packets : (i : Interface) (ps : List Packet) → AreNumbered (i ∷ []) (number_all i ps)
IsNumbered-packets i [] = tt
IsNumbered-packets i (p ∷ ps) = ((λ is. refl), IsNumbered-packets i ps)

pub all_described-packets : (i : Interface) (ps : List Packet) → all_described (i ∷ []) (number_all i ps) ≡ i ∷ []
all_described-packets i [] = refl
all_described-packets i (p ∷ ps) = all_described-packets i ps
