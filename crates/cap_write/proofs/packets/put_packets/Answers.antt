use Rattle.std.proofs.Common.{IsTrue, arith, Some, Ok, drop, subst, sym, rules, refl}
use Rattle.std.proofs.lemmas.Result.{err_from_is_err_and}
use Rattle.cap_source.proofs.Growing.{memory-found, memory-more, memory-here, at-unknown, at-packet}
use Rattle.cap_source.proofs.Onward.{Went-more, Went-none, Ends-none, Ends-more, Ends-end, Walks-end, Walks-fault}
use Rattle.cap_source.proofs.Walking.{GoesOn, Walking-more, Prints-fault, Prints-end}
use Rattle.cap_source.specs.inner.Walk.{GivesPacket, ShowsItem}
use Rattle.cap_write.proofs.Feeding.{plan_of, plan_of-is, plan_of-next, plan_of-refused}
use Rattle.cap_write.proofs.Peeking.{found-packet, found-item, found-end, found-fault, found-no-packet}
use Rattle.cap_write.proofs.Written.{Prints-one}
use Rattle.cap_write.specs.Numbering.{count_of, numbered_of, with_origin, write_fault}
use Rattle.cap_write.specs.Texts.{numbered_bytes, one_bytes}
use Rattle.cap_write.proofs.Starting.{Walking-none, Walking-writer, unwritten, captured-few}
use Rattle.cap_write.proofs.Writing.{WriterKeeps-behind}
use Rattle.cap_write.specs.inner.Interfaces.{origins_of}
use Rattle.cap_write.proofs.packets.put_packets.Goals as goal

pub returns-in_err-peek-clause-text : goal.returns-in_err-peek-clause-text
returns-in_err-peek-clause-text g c = λ t w.
    let p = err_from_is_err_and c.from_residual.result c.from_residual.ensures.1 in
    let i = c.loop-feed.invariant.walk in
    let origins = origins_of c.loop-feed.origins in
    let mid = g.F.PacketFeed.feed c.loop-feed.feed in
    let shown = g.F.PacketFeed.feed c.peek.new.self in
    let e = c.in_err-peek.ensures in
    rw (p.1, p.2) (Prints-fault (plan_of c.args.order origins) c.in_err-peek.field-0.0 _ _ _ _ mid shown
    (plan_of-is c.args.order origins) (i.text t) w (i.refusal_same t)
    (found-fault c.in_err-peek.field-0.0 mid shown (g.met.F.PacketFeed.lawful c.peek.new.self)
    (e.keeps.told (i.told t)) (e.items (i.told t)) e.answer))

pub returns-in_err-put_one-clause-text : goal.returns-in_err-put_one-clause-text
returns-in_err-put_one-clause-text g c = λ t w.
    let p = err_from_is_err_and c.from_residual-in_err-put_one.result c.from_residual-in_err-put_one.ensures.1 in
    let i = c.loop-feed.invariant.walk in
    let mid = g.F.PacketFeed.feed c.loop-feed.feed in
    let shown = g.F.PacketFeed.feed c.peek.new.self in
    let origins = origins_of c.loop-feed.origins in
    let meta = c.packet-meta.result.now in
    let e = c.in_ok-peek.ensures in
    let shows : ShowsItem mid (Ok (Some meta)) shown =
    found-item mid shown meta (g.met.F.PacketFeed.lawful c.peek.new.self) (e.keeps.told (i.told t))
    (e.items (i.told t)) c.packet-meta.ensures.packet in
    rw (p.1, p.2)
    (Prints-one (plan_of c.args.order origins) (plan_of c.args.order (with_origin origins meta))
    c.in_err-put_one.field-0.0 _ _ _ _ _
    meta shown.frame c.frame.result.now
    (λ f. numbered_bytes c.args.order (count_of origins) (numbered_of origins meta f))
    (write_fault origins meta) mid.items (drop 1 mid.items)
    (plan_of-refused c.args.order origins meta shown.frame)
    (plan_of-next c.args.order origins meta shown.frame) shows.1 c.frame.ensures.frame
    (i.text t) w (i.refusal_same t) (c.in_err-put_one.ensures.text (i.writer_told w)))

pub loop-feed-preserved : goal.loop-feed-preserved
loop-feed-preserved g c =
    let i = c.loop-feed.invariant in
    let mid = g.F.PacketFeed.feed c.loop-feed.feed in
    let shown = g.F.PacketFeed.feed c.peek.new.self in
    let new = g.F.PacketFeed.feed c.pass.new.self in
    let origins = origins_of c.loop-feed.origins in
    let meta = c.packet-meta.result.now in
    let f = c.in_ok-peek.ensures in
    let e = c.in_ok-put_one.ensures in
    let line = one_bytes c.args.order origins meta shown.frame in
    let gives : GivesPacket mid (Ok (Some meta)) shown =
    found-packet mid shown meta (rw c.if-branch.true at f.answer) c.packet-meta.ensures.packet in
    let shows : (IsTrue mid.told → ShowsItem mid (Ok (Some meta)) shown) = λ t.
    found-item mid shown meta (g.met.F.PacketFeed.lawful c.peek.new.self) (f.keeps.told t) (f.items t)
    c.packet-meta.ensures.packet in
    let goes : GoesOn (plan_of c.args.order origins) meta shown.frame line
    (plan_of c.args.order (origins_of c.put_one.new.origins)) =
    subst (λ n. GoesOn (plan_of c.args.order origins) meta shown.frame line (plan_of c.args.order n)) (sym e.origins.0)
    (plan_of-next c.args.order origins meta shown.frame e.origins.1) in
    record {
      limit = e.limit;
      went = Went-more (g.F.PacketFeed.feed c.args.feed.now) mid shown new meta i.went gives f.keeps
          c.pass.ensures.passes c.pass.ensures.keeps;
      ends = Ends-more (g.F.PacketFeed.feed c.args.feed.now) mid shown new meta i.ends i.went.keeps f.keeps shows
          c.pass.ensures.passes;
      walk =
          Walking-more _ _ _ _ mid shown new _ _ _ _ _ _ meta line
          i.walk f.keeps shows
          c.pass.ensures.keeps c.pass.ensures.passes.items goes
          (λ w. (rw c.frame.ensures.frame at (e.text w)).1)
          e.writer.told e.writer.cannot (search rules);
    }

pub returns-clause-text : goal.returns-clause-text
returns-clause-text g c = λ t w.
    let i = c.loop-feed.invariant.walk in
    let mid = g.F.PacketFeed.feed c.loop-feed.feed in
    let shown = g.F.PacketFeed.feed c.peek.new.self in
    let origins = origins_of c.loop-feed.origins in
    let e = c.in_ok-peek.ensures in
    Prints-end (plan_of c.args.order origins) _ _ _ _ mid shown (plan_of-is c.args.order origins) (i.text t) w
    (i.refusal_same t) (found-end mid shown (g.met.F.PacketFeed.lawful c.peek.new.self) (e.keeps.told (i.told t))
    (e.items (i.told t)) (rw c.if-branch.false at e.answer))

pub returns-clause-endings : goal.returns-clause-endings
returns-clause-endings g c =
    let i = c.loop-feed.invariant in
    let mid = g.F.PacketFeed.feed c.loop-feed.feed in
    let shown = g.F.PacketFeed.feed c.peek.new.self in
    let e = c.in_ok-peek.ensures in
    Ends-end _ _ _ i.ends i.went.keeps (λ t. found-end mid shown (g.met.F.PacketFeed.lawful c.peek.new.self)
    (e.keeps.told t) (e.items t) (rw c.if-branch.false at e.answer))

pub returns-in_err-peek-clause-walks : goal.returns-in_err-peek-clause-walks
returns-in_err-peek-clause-walks g c =
    let p = err_from_is_err_and c.from_residual.result c.from_residual.ensures.1 in
    rw (p.1, p.2) (Walks-fault _ _ _ c.in_err-peek.field-0.0 c.loop-feed.invariant.went
    (found-no-packet c.in_err-peek.field-0.0 _ _ c.in_err-peek.ensures.answer))

pub returns-in_err-peek-clause-keeps : goal.returns-in_err-peek-clause-keeps
returns-in_err-peek-clause-keeps g c = grind arith

pub returns-in_err-put_one-clause-walks : goal.returns-in_err-put_one-clause-walks
returns-in_err-put_one-clause-walks g c = grind arith

pub returns-in_err-put_one-clause-keeps : goal.returns-in_err-put_one-clause-keeps
returns-in_err-put_one-clause-keeps g c = grind arith

pub returns-clause-walks : goal.returns-clause-walks
returns-clause-walks g c =
    Walks-end _ _ _ c.loop-feed.invariant.went (rw c.if-branch.false at c.in_ok-peek.ensures.answer)

pub returns-clause-keeps : goal.returns-clause-keeps
returns-clause-keeps g c = grind arith

pub loop-feed-init : goal.loop-feed-init
loop-feed-init g c = record {
  limit = c.requires.limit;
  went = Went-none _;
  ends =
      Ends-none (g.F.PacketFeed.feed c.args.feed.now);
  walk = Walking-none _ _ _ _;
}

pub returns-in_err-peek-clause-writer : goal.returns-in_err-peek-clause-writer
returns-in_err-peek-clause-writer g c =
    let p = err_from_is_err_and c.from_residual.result c.from_residual.ensures.1 in
    rw (p.1, p.2) (Walking-writer _ _ _ _ _ _ _ (unwritten _ _ c.in_err-peek.field-0.0
    (found-no-packet c.in_err-peek.field-0.0 _ _ c.in_err-peek.ensures.answer)) c.loop-feed.invariant.walk)

pub returns-in_err-put_one-clause-writer : goal.returns-in_err-put_one-clause-writer
returns-in_err-put_one-clause-writer g c =
    let p = err_from_is_err_and c.from_residual-in_err-put_one.result c.from_residual-in_err-put_one.ensures.1 in
    rw (p.1, p.2) (WriterKeeps-behind _ _ _ _ (Walking-writer _ _ _ _ _ _ _ refl c.loop-feed.invariant.walk)
    c.in_err-put_one.ensures.writer)

pub returns-clause-writer : goal.returns-clause-writer
returns-clause-writer g c = Walking-writer _ _ _ _ _ _ _ refl c.loop-feed.invariant.walk

pub put_one-requires-clause-captured : goal.put_one-requires-clause-captured
put_one-requires-clause-captured g c =
    captured-few (g.F.PacketFeed.feed c.peek.new.self) c.packet-meta.result.now _ (g.met.F.PacketFeed.lawful _)
    c.packet-meta.ensures.packet c.frame.ensures.frame

pub returns-in_err-peek-clause-memory : goal.returns-in_err-peek-clause-memory
returns-in_err-peek-clause-memory g c =
    let p = err_from_is_err_and c.from_residual.result c.from_residual.ensures.1 in
    rw (p.1, p.2)
    (memory-more c.in_err-peek.field-0.0 _ _ (at-unknown (g.F.PacketFeed.feed c.peek.new.self).known)
    (memory-found c.in_err-peek.field-0.0 _ _ c.in_err-peek.ensures.answer))

pub returns-in_err-put_one-clause-memory : goal.returns-in_err-put_one-clause-memory
returns-in_err-put_one-clause-memory g c =
    let p = err_from_is_err_and c.from_residual-in_err-put_one.result c.from_residual-in_err-put_one.ensures.1 in
    rw (p.1, p.2)
    (memory-here c.in_err-put_one.field-0.0 _ (at-packet _ c.packet-meta.result.now c.packet-meta.ensures.packet))
