-- What the bytes of a header or a record that isn't refused spell, and the other way round.
use Rattle.std.proofs.Common.{◌≡◌, ℕ, ◌+◌, ◌-◌, ◌*◌, ◌%◌, ◌^◌, ◌≤◌, List, length, take, drop, Bool, true, refl, sym}
use Rattle.std.proofs.Common.{◌∙◌, ap, arith, length-drop, length-take, length-take-le, ◌||◌}
use Rattle.std.proofs.lemmas.Bool.Decides.{nat_tests}
use Rattle.std.proofs.lemmas.List.{drop-take}
use Rattle.cap_bytes.specs.Number.{number}
use Rattle.cap_bytes.specs.declared.numbers.Order.{Order}
use Rattle.cap_bytes.specs.declared.numbers.Order.TheVariants.{Big, Little}
use Rattle.cap_time.specs.Unit.{in_second}
use Rattle.cap_time.specs.declared.stamps.Unit.{Unit as Fraction}
use Rattle.cap_pcap.specs.Grammar.{magic_of, SpellsHeader, Packet, packet_size, SpellsRecord}
use Rattle.cap_pcap.specs.inner.Reader.{packet_of}
use Rattle.cap_pcap.specs.Split.{is_magic, pcap_order_at, pcap_unit_at, header_at, captured_at, record_at}
use Rattle.cap_pcap.specs.Split.{record_frame_at}
use Rattle.cap_bytes.proofs.Spelling.{number-drop_take}
use Rattle.cap_pcap.proofs.Faults.{Fits, FitsHeader}

-- the magic of a header that isn't refused, in the order in which it reads
magic_there : (big little : Bool) (bytes : List ℕ) → is_magic Big bytes ≡ big → is_magic Little bytes ≡ little
    → (big || little) ≡ true
    → number (pcap_order_at bytes) 4 bytes ≡ magic_of (pcap_unit_at (pcap_order_at bytes) bytes)
magic_there big little bytes is_big is_little one = grind arith

-- a header that isn't refused is spelled by its bytes
pub SpellsHeader-at : (offset : ℕ) (bytes : List ℕ) → FitsHeader offset bytes
    → SpellsHeader (header_at bytes) (take 24 bytes)
unfolding header_at
SpellsHeader-at offset bytes f =
    let within = f.whole in
    let order = pcap_order_at bytes in
    record {
      size = length-take-le 24 bytes within;
      magic = number-drop_take order 4 0 24 bytes (omega arith) within ∙ magic_there _ _ bytes refl refl f.magic;
      major = number-drop_take order 2 4 24 bytes (omega arith) within
          ∙ (let v = f.version in grind (arith, nat_tests));
      minor = number-drop_take order 2 6 24 bytes (omega arith) within
          ∙ (let v = f.version in grind (arith, nat_tests));
      snaplen = sym (number-drop_take order 4 16 24 bytes (omega arith) within);
      link = ap (λ n. n % 65536) (sym (number-drop_take order 4 20 24 bytes (omega arith) within));
    }

-- a record that isn't refused is spelled by its bytes
pub SpellsRecord-at : (order : Order) (unit : Fraction) (offset : ℕ) (bytes : List ℕ) → Fits order offset bytes
    → SpellsRecord order unit (packet_of (record_at order unit offset bytes) (record_frame_at order bytes))
    (take (16 + captured_at order bytes) bytes)
unfolding record_at
SpellsRecord-at order unit offset bytes f =
    let size = 16 + captured_at order bytes in
    let within = f.whole in
    let frame_size : length (record_frame_at order bytes) ≡ captured_at order bytes =
    length-take-le (captured_at order bytes) (drop 16 bytes) (omega (arith, length-drop 16 bytes)) in
    record {
      size = omega (arith, length-take-le size bytes within);
      units =
          let seconds = number-drop_take order 4 0 size bytes (omega arith) within in
          let fraction = number-drop_take order 4 4 size bytes (omega arith) within in
          rw (seconds, fraction) refl;
      captured = number-drop_take order 4 8 size bytes (omega arith) within ∙ sym frame_size;
      original = sym (number-drop_take order 4 12 size bytes (omega arith) within);
      frame = sym (drop-take 16 (captured_at order bytes) bytes);
      limit = omega (arith, frame_size, f.captured);
    }

-- what is spelled at the front is what is read there
pub record Reads (order : Order) (unit : Fraction) (offset : ℕ) (packet : Packet) (bytes : List ℕ) : Type 0 where
  pub fits : Fits order offset bytes
  pub captured : captured_at order bytes ≡ length packet.frame
  pub record_is : record_at order unit offset bytes
      ≡ record { offset = offset; units = packet.units; captured = length packet.frame; original = packet.original }
  pub frame_is : record_frame_at order bytes ≡ packet.frame

pub Reads-spelled : (order : Order) (unit : Fraction) (offset : ℕ) (packet : Packet) (bytes : List ℕ)
    → SpellsRecord order unit packet (take (packet_size packet) bytes) → offset + packet_size packet ≤ 2 ^ 40
    → Reads order unit offset packet bytes
unfolding record_at
Reads-spelled order unit offset packet bytes s limit =
    let size = packet_size packet in
    let part = take size bytes in
    let frame_size : length packet.frame ≡ length part - 16 = ap length s.frame ∙ length-drop 16 part in
    let whole : length part ≡ size = omega (arith, s.size, frame_size) in
    let within : size ≤ length bytes = omega (arith, length-take size bytes, whole) in
    let seconds = number-drop_take order 4 0 size bytes (omega arith) within in
    let fraction = number-drop_take order 4 4 size bytes (omega arith) within in
    let captured : captured_at order bytes ≡ length packet.frame =
    sym (number-drop_take order 4 8 size bytes (omega arith) within) ∙ s.captured in
    let original : number order 4 (drop 12 bytes) ≡ packet.original =
    sym (number-drop_take order 4 12 size bytes (omega arith) within) ∙ sym s.original in
    let units : number order 4 bytes * in_second unit + number order 4 (drop 4 bytes) ≡ packet.units =
    rw (← seconds, ← fraction) (sym s.units) in
    record {
      fits = record {
        head = omega arith;
        captured = omega (arith, captured, s.limit);
        limit = omega (arith, captured);
        whole = omega (arith, captured);
      };
      captured = captured;
      record_is = rw (captured, original, units) refl;
      frame_is = rw captured (sym (drop-take 16 (length packet.frame) bytes) ∙ sym s.frame);
    }
