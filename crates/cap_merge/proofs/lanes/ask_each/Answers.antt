use Rattle.std.proofs.Common.{sym, add-one, length-set, arith, map}
use Rattle.std.proofs.lemmas.Result.{err_from_is_err_and}
use Rattle.cap_merge.specs.Parts.{parts}
use Rattle.cap_merge.proofs.Asking.{asked-init, asked-all, lanes-more, lanes-stop, length-parts, matches-there}
use Rattle.cap_merge.proofs.Asking.{agrees-set}
use Rattle.cap_merge.proofs.lanes.ask_each.Goals as goal

pub loop-i-init : goal.loop-i-init
loop-i-init g c = record {
  same_length = sym c.requires.alike;
  agrees = c.requires.agrees;
  asked = asked-init (parts c.args.lanes.now (map g.F.PacketFeed.feed c.args.feeds.now));
}

pub ask-requires : goal.ask-requires
ask-requires g c =
    matches-there g.F.PacketFeed.feed c.loop-i.lanes c.loop-i.feeds c.loop-i.i c.index-lanes-i.result
    c.index-feeds-i.result (omega arith) c.loop-i.invariant.same_length
    c.loop-i.invariant.agrees

pub loop-i-preserved : goal.loop-i-preserved
loop-i-preserved g c =
    record {
      same_length = simp length-set c.loop-i.invariant.same_length;
      agrees = agrees-set g.F.PacketFeed.feed c.loop-i.lanes c.loop-i.feeds c.loop-i.i c.ask.new.self c.ask.new.feed
          c.loop-i.invariant.agrees c.ask.ensures.agrees;
      asked = rw add-one (lanes-more g.F.PacketFeed.feed
          (parts c.args.lanes.now (map g.F.PacketFeed.feed c.args.feeds.now)) c.loop-i.lanes c.loop-i.feeds c.loop-i.i
          c.index-lanes-i.result c.ask.new.self c.index-feeds-i.result c.ask.new.feed c.loop-i.invariant.asked
          (omega arith) c.loop-i.invariant.same_length
          c.in_ok-ask.ensures.asks);
    }

pub returns : goal.returns
returns g c = grind (arith, length-parts, asked-all)

pub returns-in_err-ask : goal.returns-in_err-ask
returns-in_err-ask g c =
    let p = err_from_is_err_and c.from_residual.result c.from_residual.ensures.1 in
    rw (p.1, p.2)
    (record {
      asks = lanes-stop g.F.PacketFeed.feed (parts c.args.lanes.now (map g.F.PacketFeed.feed c.args.feeds.now))
          c.loop-i.lanes c.loop-i.feeds c.loop-i.i
          c.index-lanes-i.result c.ask.new.self c.index-feeds-i.result c.ask.new.feed c.in_err-ask.field-0.0
          c.loop-i.invariant.asked (omega arith)
          c.loop-i.invariant.same_length c.in_err-ask.ensures.asks;
      agrees = agrees-set g.F.PacketFeed.feed c.loop-i.lanes c.loop-i.feeds c.loop-i.i c.ask.new.self c.ask.new.feed
          c.loop-i.invariant.agrees c.ask.ensures.agrees;
    })
