use Rattle.std.proofs.Common.{◌∷◌, ◌+◌, length, sym, subst}
use Rattle.cap_class.specs.Taken.{events_of}
use Rattle.cap_join.specs.History.{flushes}
use Rattle.cap_join.specs.Joiners.{JoinerStandsFor}
use Rattle.cap_class.specs.Runs.{taken_of}
use Rattle.cap_write.proofs.LeavingOut.{OnOk-of, has-room, taken-datagram, taken-plain}
use Rattle.cap_write.specs.inner.LeftCounts.{StandsForTaken}
use Rattle.cap_write.proofs.datagrams.take_packet.Goals as goal

pub count_class-requires : goal.count_class-requires
count_class-requires c = has-room _ c.requires.taken.0 _ _ c.requires.taken.1 c.requires.last

pub count_datagram-requires : goal.count_datagram-requires
count_datagram-requires c = has-room _ c.requires.taken.0 _ _ c.requires.taken.1 c.requires.last

pub returns-in-Plain-clause-taken : goal.returns-in-Plain-clause-taken
returns-in-Plain-clause-taken c = λ xs h.
    let x = taken_of c.args.run in
    let j = c.args.joining.now.joiner in
    subst (StandsForTaken (x ∷ xs) (c.args.joining.now.place + 1) j) (sym c.count_class.ensures)
    (taken-plain x xs c.args.joining.now.place j j c.args.joining.now.left h c.in-Plain.class
    (sym (c.in-Plain.ensures.value c.args.run.clock.now (length xs))))

pub returns-in-Datagram-clause-taken : goal.returns-in-Datagram-clause-taken
returns-in-Datagram-clause-taken c = OnOk-of c.fill_complete.result _ (λ xs h.
    let x = taken_of c.args.run in
    let j = c.args.joining.now.joiner in
    subst (StandsForTaken (x ∷ xs) (c.args.joining.now.place + 1) c.flush.new.self) (sym c.count_datagram.ensures)
    (taken-datagram x xs c.args.joining.now.place j c.flush.new.self c.args.joining.now.left h c.in-Datagram.header
    c.in-Datagram.captured.now (sym (c.in-Datagram.ensures.value c.args.run.clock.now (length xs)))
    (subst (λ key. JoinerStandsFor c.flush.new.self (flushes key ∷ events_of xs)) c.key.ensures
    (c.flush.ensures.stands (events_of xs) h.joins))))
