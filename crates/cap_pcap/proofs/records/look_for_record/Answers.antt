use Rattle.std.proofs.Common.{true, arith}
use Rattle.std.proofs.lemmas.Result.{err_from_is_err_and}
use Rattle.cap_pcap.proofs.Faults.{record_fault-short}
use Rattle.cap_bytes.proofs.Reach.{Reaches-need, ReachesTo-need}
use Rattle.cap_pcap.proofs.Looking.{SeesStop-none, SeesStop-cut, SeesStop-broken, SeesStop-second, SeesRecord-second}
use Rattle.cap_pcap.proofs.Looking.{FailsBy-second, Reaches-second, ReachesTo-second}
use Rattle.cap_pcap.proofs.records.look_for_record.Goals as goal

pub returns-then-is_empty-clause-answer : goal.returns-then-is_empty-clause-answer
returns-then-is_empty-clause-answer g c = grind (arith, SeesStop-none)

pub returns-else-is_empty-clause-answer : goal.returns-else-is_empty-clause-answer
returns-else-is_empty-clause-answer g c = grind (arith, SeesStop-cut, record_fault-short)

pub returns-in-Err-clause-answer : goal.returns-in-Err-clause-answer
returns-in-Err-clause-answer g c =
    let n = rw c.if-not-branch.false at c.in_ok-need.ensures.answer in
    let e = rw (c.bytes-2.ensures, c.offset-offset.ensures.value) at c.in-Err.ensures in
    rw (c.by-in-Err.ensures, c.file-file.ensures, c.offset-offset.ensures.value, c.bytes-in-Err.ensures)
    (SeesStop-broken c.args.header c.args.tail c.args.window.now c.need.new.self c.in-Err.rule n.0
    (omega (arith, n.1)) e.0 e.1)

pub returns-in_err-need-2-clause-answer : goal.returns-in_err-need-2-clause-answer
returns-in_err-need-2-clause-answer g c = grind (arith, err_from_is_err_and, FailsBy-second)

pub returns-then-not-branch-2-clause-answer : goal.returns-then-not-branch-2-clause-answer
returns-then-not-branch-2-clause-answer g c =
    let n = rw c.if-not-branch.false at c.in_ok-need.ensures.answer in
    let m = rw c.if-not-branch-2.true at c.in_ok-need-2.ensures.answer in
    let e = rw c.bytes-2.ensures at c.in-Ok.ensures in
    rw (
      c.by-then-not-branch-2.ensures,
      c.file-file.ensures,
      c.offset-offset.ensures.value,
      c.bytes-then-not-branch-2.ensures,
    )
    (SeesStop-second c.args.header c.args.tail c.args.window.now c.need.new.self c.need-2.new.self c.in-Ok.size
    n.0 c.in_ok-need.ensures.keeps n.1 e.0 e.1 (omega (arith, e.2, n.0.offset, c.offset-offset.ensures.value)) m)

pub returns-clause-answer : goal.returns-clause-answer
returns-clause-answer g c =
    let n = rw c.if-not-branch.false at c.in_ok-need.ensures.answer in
    let m = rw c.if-not-branch-2.false at c.in_ok-need-2.ensures.answer in
    let e = rw c.bytes-2.ensures at c.in-Ok.ensures in
    rw (c.record_of.ensures, c.offset-offset.ensures.value, c.bytes-3.ensures)
    (SeesRecord-second c.args.header c.args.tail c.args.window.now c.need.new.self c.need-2.new.self c.in-Ok.size
    n.0 c.in_ok-need.ensures.keeps n.1 e.0 e.1 (omega (arith, e.2, n.0.offset, c.offset-offset.ensures.value)) m)

pub returns-in_err-need-clause-reaches : goal.returns-in_err-need-clause-reaches
returns-in_err-need-clause-reaches g c = grind (arith, err_from_is_err_and, Reaches-need)

pub returns-in_err-need-2-clause-reaches : goal.returns-in_err-need-2-clause-reaches
returns-in_err-need-2-clause-reaches g c = grind (arith, err_from_is_err_and, Reaches-second)

pub returns-clause-reaches : goal.returns-clause-reaches
returns-clause-reaches g c =
    let n = rw c.if-not-branch.false at c.in_ok-need.ensures.answer in
    let m = rw c.if-not-branch-2.false at c.in_ok-need-2.ensures.answer in
    let e = rw c.bytes-2.ensures at c.in-Ok.ensures in
    rw (c.record_of.ensures, c.offset-offset.ensures.value, c.bytes-3.ensures)
    (ReachesTo-second c.args.header c.args.tail c.args.window.now c.need.new.self c.need-2.new.self c.in-Ok.size
    n.0 c.in_ok-need.ensures.keeps n.1 e.0 e.1 m
    (ReachesTo-need 16 true c.args.window.now c.need.new.self n c.in_ok-need.ensures.same c.in_ok-need.ensures.asked)
    (ReachesTo-need c.in-Ok.size true c.need.new.self c.need-2.new.self m c.in_ok-need-2.ensures.same
    c.in_ok-need-2.ensures.asked))
