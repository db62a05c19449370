use Rattle.std.proofs.Common.{refl, sym, subst, get_or, None}
use Rattle.cap_source.specs.Feed.{IsPacket}
use Rattle.cap_merge.specs.declared.lanes.Lane.{Lane}
use Rattle.cap_merge.proofs.Asking.{packet-there, passes-at, agrees-at, turns-at}
use Rattle.cap_merge.proofs.lanes.pass_at.Goals as goal

pub pass-requires : goal.pass-requires
pass-requires g c =
    let f = g.F.PacketFeed.feed in
    let ls = c.args.lanes.now.items in
    let fs = c.args.feeds.now.items in
    let y = c.index_mut.result.now in
    record {
      packet = subst (λ w. IsPacket (f w).known) (sym c.index_mut.ensures.value)
          (packet-there f ls fs c.args.place y c.requires.packet);
    }

pub returns-clause-passes : goal.returns-clause-passes
returns-clause-passes g c =
    let there = get_or c.deref_mut.result.now c.args.place c.index-deref_mut-place.result in
    let m : Lane = record { clock = there.clock; next = None } in
    passes-at g.F.PacketFeed.feed c.args.lanes.now.items c.deref_mut.result.now c.args.feeds.now.items c.args.place
    c.index-deref_mut-place.result m c.index_mut.result.now c.pass.new.self c.deref_mut.ensures.value
    c.index_mut.ensures.value c.requires.place c.requires.alike
    (record { lane = refl; passes = c.pass.ensures.passes; keeps = c.pass.ensures.keeps })

pub returns-clause-agrees : goal.returns-clause-agrees
returns-clause-agrees g c = search (agrees-at)

pub returns-clause-turns : goal.returns-clause-turns
returns-clause-turns g c = search (turns-at)
