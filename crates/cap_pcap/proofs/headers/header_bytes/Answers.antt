use Rattle.std.proofs.Common.{[], replicate, refl, arith}
use Rattle.cap_pcap.proofs.Writing.{Begins-none, Begins-more, Begins-all}
use Rattle.cap_pcap.proofs.headers.header_bytes.Goals as goal

pub returns : goal.returns
returns c =
    let magic = Begins-more 24 0 4 [] _ (replicate 24 0) c.put_u32.new.bytes (Begins-none 24 (replicate 24 0) refl)
    (omega arith) c.put_u32.ensures.front c.put_u32.auto.bytes in
    let major = Begins-more 24 4 2 _ _ _ c.put_u16.new.bytes magic
    (omega arith) c.put_u16.ensures.front c.put_u16.auto.bytes in
    let minor = Begins-more 24 6 2 _ _ _ c.put_u16-2.new.bytes major
    (omega arith) c.put_u16-2.ensures.front c.put_u16-2.auto.bytes in
    let first = Begins-more 24 8 4 _ _ _ c.put_u32-2.new.bytes minor
    (omega arith) c.put_u32-2.ensures.front c.put_u32-2.auto.bytes in
    let second = Begins-more 24 12 4 _ _ _ c.put_u32-3.new.bytes first
    (omega arith) c.put_u32-3.ensures.front c.put_u32-3.auto.bytes in
    let snaplen = Begins-more 24 16 4 _ _ _ c.put_u32-4.new.bytes second
    (omega arith) c.put_u32-4.ensures.front c.put_u32-4.auto.bytes in
    let link = Begins-more 24 20 4 _ _ _ c.put_u32-5.new.bytes snaplen
    (omega arith) c.put_u32-5.ensures.front c.put_u32-5.auto.bytes in
    rw c.magic_number.ensures at (Begins-all 24 _ c.put_u32-5.new.bytes link)
