use Rattle.cap_source.proofs.Going.{FileKeeps-trans, Answers-behind, taken_behind}
use Rattle.cap_source.proofs.Fronts.{Fronts-answer}
use Rattle.cap_source.proofs.PcapFronts.{header-fault, header-passed}
use Rattle.cap_source.proofs.Pcaps.{header_reads, header_refused, header_waits, pcap_keeps}
use Rattle.cap_source.specs.inner.FileState.{pcap_state}
use Rattle.cap_source.specs.inner.Fronts.{pcap_fronts}
use Rattle.cap_source.specs.declared.readers.Peeked.TheVariants as peeks
use Rattle.cap_source.proofs.pcap.next_of_pcap.Goals as goal

pub returns-in-Ok-clause-answer : goal.returns-in-Ok-clause-answer
returns-in-Ok-clause-answer g c = λ p.
    Answers-behind (pcap_state c.args.reader.now p) (pcap_state c.header.new.self p)
    (pcap_state c.next_record_of.new.reader p) c.next_record_of.result c.next_record_of.new.known.next
    (header_waits c.in-Ok.header c.args.reader.now c.header.new.self p c.requires.free c.in-Ok.ensures.answer
    c.in-Ok.ensures.keeps c.in-Ok.ensures.items)
    (pcap_keeps c.args.reader.now c.header.new.self p c.in-Ok.ensures.keeps)
    (c.next_record_of.ensures.answer p)

pub returns-in-Ok-clause-keeps : goal.returns-in-Ok-clause-keeps
returns-in-Ok-clause-keeps g c = λ p.
    FileKeeps-trans (pcap_state c.args.reader.now p) (pcap_state c.header.new.self p)
    (pcap_state c.next_record_of.new.reader p)
    (pcap_keeps c.args.reader.now c.header.new.self p c.in-Ok.ensures.keeps)
    (c.next_record_of.ensures.keeps p)

pub returns-in-Err-Refused-clause-answer : goal.returns-in-Err-Refused-clause-answer
returns-in-Err-Refused-clause-answer g c = λ p.
    let e = rw c.in-Err-Refused.field-0-is at c.in-Err-Refused.ensures in (
      peeks.Refused c.in-Err-Refused.refusal c.ending_of_pcap.result,
      c.set_refused.ensures.next,
      rw c.ending_of_pcap.ensures
          (header_refused c.in-Err-Refused.refusal c.args.reader.now c.header.new.self p c.requires.free e.answer
          e.keeps (λ t. (e.items t).0)),
    )

pub returns-in-Ok-clause-reaches : goal.returns-in-Ok-clause-reaches
returns-in-Ok-clause-reaches g c = λ p.
    taken_behind (pcap_state c.args.reader.now p) (pcap_state c.header.new.self p)
    (pcap_state c.next_record_of.new.reader p) c.next_record_of.result c.next_record_of.new.known.next
    (pcap_keeps c.args.reader.now c.header.new.self p c.in-Ok.ensures.keeps)
    (header_reads c.in-Ok.header c.args.reader.now c.header.new.self p c.in-Ok.ensures.answer c.in-Ok.ensures.reaches)
    (c.next_record_of.ensures.reaches p)

pub returns-in-Err-Refused-clause-reaches : goal.returns-in-Err-Refused-clause-reaches
returns-in-Err-Refused-clause-reaches g c = λ p. rw c.set_refused.ensures.next tt

pub returns-in-Ok-clause-fronts : goal.returns-in-Ok-clause-fronts
returns-in-Ok-clause-fronts g c = λ told.
    Fronts-answer (pcap_fronts c.args.reader.now) (pcap_fronts c.header.new.self)
    (pcap_fronts c.next_record_of.new.reader) c.next_record_of.result c.next_record_of.new.known.next
    (header-passed c.in-Ok.header c.args.reader.now c.header.new.self c.in-Ok.ensures.keeps told
    c.in-Ok.ensures.answer)
    (c.next_record_of.ensures.fronts (c.in-Ok.ensures.keeps.told told))

pub returns-in-Err-Refused-clause-fronts : goal.returns-in-Err-Refused-clause-fronts
returns-in-Err-Refused-clause-fronts g c = λ told. rw c.set_refused.ensures.next tt

pub returns-in-Err-clause-fronts : goal.returns-in-Err-clause-fronts
returns-in-Err-clause-fronts g c = λ told.
    header-fault c.args.reader.now c.header.new.self c.in-Err.fault c.args.known.now.next c.in-Err.ensures.answer
