use Rattle.std.proofs.Common.{refl}
use Rattle.cap_bytes.proofs.Spelled.{spelled-over, spelled-in-front}
use Rattle.cap_bytes.specs.Number.{with_number, bytes_of}
use Rattle.cap_bytes.proofs.numbers.put_u32.Goals as goal

pub returns-in-Big-clause-bytes : goal.returns-in-Big-clause-bytes
unfolding with_number bytes_of
returns-in-Big-clause-bytes c =
    let part = c.split_at_mut-rest.ensures in
    rw c.in-Big.is (spelled-over 4 c.args.place c.args.bytes.now _ _ c.write_u32.new.buf _ part.front part.back
    c.write_u32.ensures)

pub returns-in-Big-clause-front : goal.returns-in-Big-clause-front
unfolding with_number bytes_of
returns-in-Big-clause-front c =
    let part = c.split_at_mut-rest.ensures in
    rw c.in-Big.is (spelled-in-front 4 c.args.place c.args.bytes.now _ _ c.write_u32.new.buf _ part.front part.back
    c.write_u32.ensures refl c.requires)

pub returns-in-Little-clause-bytes : goal.returns-in-Little-clause-bytes
unfolding with_number bytes_of
returns-in-Little-clause-bytes c =
    let part = c.split_at_mut-rest.ensures in
    rw c.in-Little.is (spelled-over 4 c.args.place c.args.bytes.now _ _ c.write_u32-in-Little.new.buf _ part.front
    part.back c.write_u32-in-Little.ensures)

pub returns-in-Little-clause-front : goal.returns-in-Little-clause-front
unfolding with_number bytes_of
returns-in-Little-clause-front c =
    let part = c.split_at_mut-rest.ensures in
    rw c.in-Little.is (spelled-in-front 4 c.args.place c.args.bytes.now _ _ c.write_u32-in-Little.new.buf _ part.front
    part.back c.write_u32-in-Little.ensures refl c.requires)
