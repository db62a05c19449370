use Rattle.std.proofs.Common.{◌∙◌, Some, ap, refl, sym}
use Rattle.cap_source.specs.declared.readers.Peeked.TheVariants as peeks
use Rattle.cap_bytes.proofs.Parsing.{from_some}
use Rattle.cap_source.proofs.PcapFronts.{record-fault, record-passed}
use Rattle.cap_source.proofs.Pcaps.{prepared-kept, record_taken, record_learned, recorded, recorded-of, end_learned}
use Rattle.cap_source.proofs.Pcaps.{refusal_learned, pcap_keeps}
use Rattle.cap_source.specs.inner.PeekSlotView.{with_record}
use Rattle.cap_source.specs.Items.{interface_of, meta_of}
use Rattle.cap_source.proofs.pcap.next_record_of.Goals as goal

pub returns-in-Ok-Some-clause-answer : goal.returns-in-Ok-Some-clause-answer
returns-in-Ok-Some-clause-answer g c = λ progress.
    let e = rw c.in-Ok-Some.field-0-is at c.in-Ok-Some.ensures in
    let same = recorded c.file.result c.args.header c.set_common.new.self.meta c.in-Ok-Some.record
    (rw c.set_common.ensures.meta c.common_meta.ensures) in (
      peeks.Packet (meta_of c.file.result (interface_of c.args.header) c.in-Ok-Some.record) 0,
      c.set_record.ensures.packet ∙ ap (λ m. Some (peeks.Packet m 0)) same,
      record_learned c.args.header c.file.result c.in-Ok-Some.record c.args.reader.now
          c.next_record.new.self progress
          (c.file.ensures ∙ c.window.ensures.file) c.requires.header
          (from_some _ _ _ c.requires.header e.answer) e.keeps e.items,
    )

pub returns-in-Ok-None-clause-answer : goal.returns-in-Ok-None-clause-answer
returns-in-Ok-None-clause-answer g c = λ progress.
    let e = rw c.in-Ok-None.field-0-is at c.in-Ok-None.ensures in
    let answer = from_some _ _ _ c.requires.header e.answer in (
      peeks.End c.ending_of_pcap.result,
      c.set_end.ensures.next,
      rw c.ending_of_pcap.ensures
          (end_learned c.args.header c.cut.result answer.0 c.args.reader.now c.next_record.new.self progress
          c.requires.header c.requires.free answer.1 answer.2 c.cut.ensures e.keeps (λ t. (e.items t).3)),
    )

pub returns-in-Err-Refused-clause-answer : goal.returns-in-Err-Refused-clause-answer
returns-in-Err-Refused-clause-answer g c = λ progress.
    let e = rw c.in-Err-Refused.field-0-is at c.in-Err-Refused.ensures in
    let answer = from_some _ _ _ c.requires.header e.answer in (
      peeks.Refused c.in-Err-Refused.refusal c.ending_of_pcap-in-Err-Refused.result,
      c.set_refused.ensures.next,
      rw c.ending_of_pcap-in-Err-Refused.ensures
          (refusal_learned c.args.header c.in-Err-Refused.refusal c.args.reader.now c.next_record.new.self progress
          c.requires.header c.requires.free answer e.keeps (λ t. (e.items t).0)),
    )

pub returns-in-Ok-Some-clause-keeps : goal.returns-in-Ok-Some-clause-keeps
returns-in-Ok-Some-clause-keeps g c =
    λ p. pcap_keeps c.args.reader.now c.next_record.new.self p c.in-Ok-Some.ensures.keeps

pub returns-in-Ok-None-clause-keeps : goal.returns-in-Ok-None-clause-keeps
returns-in-Ok-None-clause-keeps g c =
    λ p. pcap_keeps c.args.reader.now c.next_record.new.self p c.in-Ok-None.ensures.keeps

pub returns-in-Err-Refused-clause-keeps : goal.returns-in-Err-Refused-clause-keeps
returns-in-Err-Refused-clause-keeps g c =
    λ p. pcap_keeps c.args.reader.now c.next_record.new.self p c.in-Err-Refused.ensures.keeps

pub returns-in-Ok-Some-clause-reaches : goal.returns-in-Ok-Some-clause-reaches
returns-in-Ok-Some-clause-reaches g c = λ progress.
    let e = rw c.in-Ok-Some.field-0-is at c.in-Ok-Some.ensures in
    rw c.set_record.ensures.packet
    (record_taken c.args.header c.args.reader.now c.next_record.new.self c.in-Ok-Some.record progress
    (from_some _ _ _ c.requires.header e.reaches) e.place)

pub returns-in-Ok-None-clause-reaches : goal.returns-in-Ok-None-clause-reaches
returns-in-Ok-None-clause-reaches g c = λ progress. rw c.set_end.ensures.next tt

pub returns-in-Err-Refused-clause-reaches : goal.returns-in-Err-Refused-clause-reaches
returns-in-Err-Refused-clause-reaches g c = λ progress. rw c.set_refused.ensures.next tt

pub returns-in-Ok-Some-clause-fronts : goal.returns-in-Ok-Some-clause-fronts
returns-in-Ok-Some-clause-fronts g c = λ told.
    let e = rw c.in-Ok-Some.field-0-is at c.in-Ok-Some.ensures in
    let same = recorded c.file.result c.args.header c.set_common.new.self.meta c.in-Ok-Some.record
    (rw c.set_common.ensures.meta c.common_meta.ensures) in
    rw (c.set_record.ensures.packet ∙ ap (λ m. Some (peeks.Packet m 0)) same)
    (record-passed c.args.header c.file.result c.in-Ok-Some.record c.args.reader.now c.next_record.new.self
    (c.file.ensures ∙ c.window.ensures.file) c.requires.header (from_some _ _ _ c.requires.header e.answer)
    e.keeps told (e.items told))

pub returns-in-Ok-None-clause-fronts : goal.returns-in-Ok-None-clause-fronts
returns-in-Ok-None-clause-fronts g c = λ told. rw c.set_end.ensures.next tt

pub returns-in-Err-Refused-clause-fronts : goal.returns-in-Err-Refused-clause-fronts
returns-in-Err-Refused-clause-fronts g c = λ told. rw c.set_refused.ensures.next tt

pub returns-in-Err-clause-fronts : goal.returns-in-Err-clause-fronts
returns-in-Err-clause-fronts g c = λ told.
    record-fault c.args.header c.args.reader.now c.next_record.new.self c.in-Err.fault c.set_common.new.self.next
    (from_some _ _ _ c.requires.header c.in-Err.ensures.answer)

pub returns-in-Ok-Some-clause-prepared : goal.returns-in-Ok-Some-clause-prepared
returns-in-Ok-Some-clause-prepared g c =
    let e = c.in-Ok-Some.ensures in
    prepared-kept c.args.reader.now c.next_record.new.self c.args.header
    (with_record c.set_common.new.self.meta c.in-Ok-Some.record) c.set_record.new.self.meta
    (recorded-of c.args.reader.now.file c.args.header c.set_common.new.self.meta c.in-Ok-Some.record
    (rw c.set_common.ensures.meta (rw (c.file.ensures ∙ c.window.ensures.file) at c.common_meta.ensures)))
    e.keeps.file (e.header ∙ c.requires.header) c.set_record.ensures.meta

pub returns-in-Ok-None-clause-prepared : goal.returns-in-Ok-None-clause-prepared
returns-in-Ok-None-clause-prepared g c =
    let e = c.in-Ok-None.ensures in
    prepared-kept c.args.reader.now c.next_record.new.self c.args.header c.set_common.new.self.meta
    c.set_end.new.self.meta
    (rw c.set_common.ensures.meta (rw (c.file.ensures ∙ c.window.ensures.file) at c.common_meta.ensures))
    e.keeps.file (e.header ∙ c.requires.header) c.set_end.ensures.meta

pub returns-in-Err-Refused-clause-prepared : goal.returns-in-Err-Refused-clause-prepared
returns-in-Err-Refused-clause-prepared g c =
    let e = c.in-Err-Refused.ensures in
    prepared-kept c.args.reader.now c.next_record.new.self c.args.header c.set_common.new.self.meta
    c.set_refused.new.self.meta
    (rw c.set_common.ensures.meta (rw (c.file.ensures ∙ c.window.ensures.file) at c.common_meta.ensures))
    e.keeps.file (e.header ∙ c.requires.header) c.set_refused.ensures.meta

pub returns-in-Err-clause-prepared : goal.returns-in-Err-clause-prepared
returns-in-Err-clause-prepared g c =
    let e = c.in-Err.ensures in
    prepared-kept c.args.reader.now c.next_record.new.self c.args.header c.set_common.new.self.meta
    c.set_common.new.self.meta
    (rw c.set_common.ensures.meta (rw (c.file.ensures ∙ c.window.ensures.file) at c.common_meta.ensures))
    e.keeps.file (e.header ∙ c.requires.header) refl
