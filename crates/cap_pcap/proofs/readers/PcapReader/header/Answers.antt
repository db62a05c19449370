use Rattle.std.proofs.Common.{Some, Ok, Err, rules}
use Rattle.cap_bytes.specs.declared.faults.Fault.TheVariants.{Refused}
use Rattle.cap_bytes.proofs.Parsing.{none_from}
use Rattle.cap_pcap.specs.inner.Reader.{HasHeader, ReachesHeader, record_reader_state}
use Rattle.cap_pcap.proofs.Reading.{unread, HasHeader-seen, ReachesHeader-seen, KeepsItems_header}
use Rattle.cap_pcap.proofs.readers.PcapReader.header.Goals as goal

pub returns-in-Ok-clause-answer : goal.returns-in-Ok-clause-answer
returns-in-Ok-clause-answer g c =
    let i = c.self.inside in
    rw (← c.self.view_is)
    (unread (λ known captured stop. HasHeader c.in-Ok.header (record_reader_state i.window i.tail known captured stop)
    (record_reader_state c.pass.new.self i.tail (Some c.in-Ok.header) captured stop))
    i.header i.captured i.stop (none_from i.header c.in_default.not-Some) c.self.invariant.in_order
    c.in_ok-refuse_again.ensures
    (HasHeader-seen i.window c.look_for_header.new.window c.pass.new.self i.tail c.in-Ok.header
    (rw c.in-Ok.is at c.in_ok-header.ensures.answer) c.pass.ensures.passes))

pub returns-in-Ok-clause-reaches : goal.returns-in-Ok-clause-reaches
returns-in-Ok-clause-reaches g c =
    let i = c.self.inside in
    rw (← c.self.view_is)
    (unread (λ known captured stop. ReachesHeader (record_reader_state i.window i.tail known captured stop)
    (Ok c.in-Ok.header)
    (record_reader_state c.pass.new.self i.tail (Some c.in-Ok.header) captured stop))
    i.header i.captured i.stop (none_from i.header c.in_default.not-Some) c.self.invariant.in_order
    c.in_ok-refuse_again.ensures
    (ReachesHeader-seen i.window c.look_for_header.new.window c.pass.new.self i.tail c.in-Ok.header
    (rw c.in-Ok.is at c.in_ok-header.ensures.answer) c.pass.ensures.passes
    c.in_ok-header.ensures.reaches))

pub returns-in-Ok-clause-keeps : goal.returns-in-Ok-clause-keeps
returns-in-Ok-clause-keeps g c = search rules

pub returns-in-Ok-clause-items : goal.returns-in-Ok-clause-items
returns-in-Ok-clause-items g c =
    KeepsItems_header c.args.self.now _ (Ok c.in-Ok.header) (returns-in-Ok-clause-answer g c)
    (returns-in-Ok-clause-keeps g c)

pub returns-in-Err-clause-answer : goal.returns-in-Err-clause-answer
returns-in-Err-clause-answer g c = search rules

pub returns-in-Err-clause-keeps : goal.returns-in-Err-clause-keeps
returns-in-Err-clause-keeps g c = search rules

pub returns-in-Err-clause-items : goal.returns-in-Err-clause-items
returns-in-Err-clause-items g c =
    KeepsItems_header c.args.self.now _ (Err (Refused c.in-Err.refusal)) (returns-in-Err-clause-answer g c)
    (returns-in-Err-clause-keeps g c)
