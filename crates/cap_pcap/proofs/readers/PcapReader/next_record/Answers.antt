use Rattle.std.proofs.Common.{◌+◌, ◌<◌, true, Some, None, Ok, option_map, rules, sym, ap, ◌∙◌}
use Rattle.std.proofs.lemmas.Result.{err_from_is_err_and}
use Rattle.cap_bytes.proofs.Readers.{Stands-passed, GivesNext-stopped, GivesNext-failed, Reaches-given, Reaches-failed}
use Rattle.cap_bytes.proofs.Readers.{Reaches-stopped}
use Rattle.cap_bytes.proofs.Parsing.{none_from}
use Rattle.cap_bytes.specs.inner.Reach.{size_found}
use Rattle.cap_bytes.specs.inner.Reader.{ReaderState}
use Rattle.cap_bytes.specs.declared.stops.Stop.{Stop}
use Rattle.cap_pcap.specs.declared.headers.PcapHeader.{PcapHeader}
use Rattle.cap_pcap.specs.inner.Reader.{GivesRecord, record_size, record_reader_state, shown_record_size, lent_frame}
use Rattle.cap_pcap.specs.Split.{record_fault, captured_at}
use Rattle.cap_pcap.proofs.Reading.{GivesRecord-seen, TakesItem_known, for_known}
use Rattle.cap_pcap.proofs.readers.PcapReader.next_record.Goals as goal

pub returns-in_err-record-clause-answer : goal.returns-in_err-record-clause-answer
returns-in_err-record-clause-answer g c =
    let p = err_from_is_err_and c.from_residual.result c.from_residual.ensures.1 in
    let i = c.self.inside in
    let h = c.unwrap-header.result in
    let order = h.order in
    let old = record_reader_state i.window i.tail i.header i.captured i.stop in
    let at = Stands-passed i.window c.pass.new.self i.tail i.header (shown_record_size i.captured)
    (lent_frame i.captured i.window.shown) i.stop
    (none_from i.stop c.in_default.not-Some) c.self.invariant.within
    (rw c.size_given.ensures at c.pass.ensures.passes) in
    rw (← c.self.view_is, p.1, p.2)
    (for_known i.header h _ c.unwrap-header.ensures
    (GivesNext-failed old c.pass.new.self c.look_for_record.new.window at
    (λ r. GivesRecord h old r (record_reader_state c.look_for_record.new.window i.tail i.header None
    i.stop)) true
    (record_fault order) 262160
    (λ offset bytes room. room < 16 + captured_at order bytes) c.in_err-record.field-0.0
    c.in_err-record.ensures.answer))

pub returns-in-Ok-clause-answer : goal.returns-in-Ok-clause-answer
returns-in-Ok-clause-answer g c =
    let i = c.self.inside in
    let h = c.unwrap-header.result in
    rw (← c.self.view_is)
    (for_known i.header h _ c.unwrap-header.ensures
    (GivesRecord-seen h i.window c.pass.new.self c.look_for_record.new.window i.tail i.header i.captured
    i.stop c.in-Ok.record
    (none_from i.stop c.in_default.not-Some) c.self.invariant.within (rw c.size_given.ensures at c.pass.ensures.passes)
    (rw c.in-Ok.is at c.in_ok-record.ensures.answer)))

pub returns-in-Err-clause-answer : goal.returns-in-Err-clause-answer
returns-in-Err-clause-answer g c =
    let i = c.self.inside in
    let h = c.unwrap-header.result in
    let order = h.order in
    let old = record_reader_state i.window i.tail i.header i.captured i.stop in
    let at = Stands-passed i.window c.pass.new.self i.tail i.header (shown_record_size i.captured)
    (lent_frame i.captured i.window.shown) i.stop
    (none_from i.stop c.in_default.not-Some) c.self.invariant.within
    (rw c.size_given.ensures at c.pass.ensures.passes) in
    rw (← c.self.view_is, c.answer-in-Err.ensures)
    (for_known i.header h _ c.unwrap-header.ensures
    (GivesNext-stopped old c.pass.new.self c.look_for_record.new.window at (λ r. GivesRecord h old r _) true
    (record_fault order) 262160
    (λ offset bytes room. room < 16 + captured_at order bytes) c.in-Err.stop
    (rw c.in-Err.is at c.in_ok-record.ensures.answer)))

pub returns-in_err-record-clause-reaches : goal.returns-in_err-record-clause-reaches
returns-in_err-record-clause-reaches g c =
    let p = err_from_is_err_and c.from_residual.result c.from_residual.ensures.1 in
    let i = c.self.inside in
    let h = c.unwrap-header.result in
    let at = Stands-passed i.window c.pass.new.self i.tail i.header (shown_record_size i.captured)
    (lent_frame i.captured i.window.shown) i.stop
    (none_from i.stop c.in_default.not-Some) c.self.invariant.within
    (rw c.size_given.ensures at c.pass.ensures.passes) in
    rw (← c.self.view_is, p.1, p.2)
    (for_known i.header h _ c.unwrap-header.ensures
    (Reaches-failed (record_reader_state i.window i.tail i.header i.captured i.stop) c.pass.new.self
    c.look_for_record.new.window at
    (option_map record_size) (size_found {E = Stop} record_size)
    (λ offset bytes. 16 + captured_at h.order bytes) c.in_err-record.field-0.0
    c.in_err-record.ensures.reaches))

pub returns-in-Ok-clause-reaches : goal.returns-in-Ok-clause-reaches
returns-in-Ok-clause-reaches g c =
    let i = c.self.inside in
    let h = c.unwrap-header.result in
    let at = Stands-passed i.window c.pass.new.self i.tail i.header (shown_record_size i.captured)
    (lent_frame i.captured i.window.shown) i.stop
    (none_from i.stop c.in_default.not-Some) c.self.invariant.within
    (rw c.size_given.ensures at c.pass.ensures.passes) in
    rw (← c.self.view_is)
    (for_known i.header h _ c.unwrap-header.ensures
    (Reaches-given (record_reader_state i.window i.tail i.header i.captured i.stop) c.pass.new.self
    c.look_for_record.new.window at
    (record_size c.in-Ok.record) (rw c.in-Ok.is at c.in_ok-record.ensures.reaches)))

pub returns-in-Err-clause-reaches : goal.returns-in-Err-clause-reaches
returns-in-Err-clause-reaches g c =
    let i = c.self.inside in
    let h = c.unwrap-header.result in
    rw (← c.self.view_is, c.answer-in-Err.ensures)
    (for_known i.header h _ c.unwrap-header.ensures
    (Reaches-stopped record_size _ _ _ c.in-Err.stop))

pub returns-in-Ok-clause-keeps : goal.returns-in-Ok-clause-keeps
returns-in-Ok-clause-keeps g c = search rules

pub returns-in-Ok-clause-items : goal.returns-in-Ok-clause-items
returns-in-Ok-clause-items g c =
    let h = c.unwrap-header.result in
    TakesItem_known h c.args.self.now _ (Ok (Some c.in-Ok.record))
    (ap (λ (s : ReaderState PcapHeader). s.known) (sym c.self.view_is) ∙ c.unwrap-header.ensures)
    (returns-in-Ok-clause-answer g c) (returns-in-Ok-clause-keeps g c)

pub returns-in-Err-clause-keeps : goal.returns-in-Err-clause-keeps
returns-in-Err-clause-keeps g c = search rules

pub returns-in-Err-clause-items : goal.returns-in-Err-clause-items
returns-in-Err-clause-items g c =
    let h = c.unwrap-header.result in
    TakesItem_known h c.args.self.now _ c.answer-in-Err.result
    (ap (λ (s : ReaderState PcapHeader). s.known) (sym c.self.view_is) ∙ c.unwrap-header.ensures)
    (returns-in-Err-clause-answer g c) (returns-in-Err-clause-keeps g c)
