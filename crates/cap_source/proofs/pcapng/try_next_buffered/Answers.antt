use Rattle.std.proofs.Common.{◌∙◌, sym, unwrap_or, [], length}
use Rattle.cap_bytes.proofs.Parsing.{from_some}
use Rattle.cap_source.specs.Contents.{of_body}
use Rattle.cap_source.specs.inner.SectionState.{progress_of}
use Rattle.cap_source.specs.declared.contents.BlockContent.TheVariants as contents
use Rattle.cap_source.proofs.Blocks.{block_taken, block_stepped, block_kept, content_lent, enhanced_size}
use Rattle.cap_source.proofs.Blocks.{packet_shown}
use Rattle.cap_source.proofs.Commenting.{behind-packet}
use Rattle.cap_source.proofs.Fronts.{block-passed}
use Rattle.cap_source.proofs.Going.{none_of}
use Rattle.cap_source.proofs.pcapng.try_next_buffered.Goals as goal

pub enhanced_packet-said-requires : goal.enhanced_packet-said-requires
enhanced_packet-said-requires g c =
    enhanced_size c.in-Some.block.kind c.in-Some.block.total (length c.body.result.now) c.in-Some.ensures.answer.allowed
    (from_some _ _ _ c.body.ensures.body c.in-Some.ensures.answer.size) c.in-Some.ensures.kind

pub returns-in-Some-clause-answer : goal.returns-in-Some-clause-answer
returns-in-Some-clause-answer g c =
    let e = c.in-Some.ensures in
    let p = progress_of c.args.reached.now in
    packet_shown _ _ c.file-file.result p c.in-Some.block c.enhanced_packet-said.result c.set_packet.new.known.next
    c.set_packet.ensures
    (block_stepped c.file-file.result c.args.reader.now c.take_packet.new.self p p c.in-Some.block
    (of_body contents.Packet c.enhanced_packet-said.result)
    c.set_packet.new.known.next c.set_packet.ensures
    (behind-packet p c.in-Some.block (unwrap_or c.take_packet.new.self.lent []) c.enhanced_packet-said.result
    (none_of p.comments (sym c.is_some.ensures ∙ c.if-is_some.false)))
    (c.file-file.ensures ∙ c.window.ensures.window.file) e.answer e.keeps e.items
    (content_lent _ c.deref.result.now p.interfaces c.in-Some.block.kind c.in-Some.block.order
    c.take_packet.new.self.lent c.body.result.now
    c.enhanced_packet-said.ensures c.deref.ensures.value e.kind c.body.ensures.body))

pub returns-in-Some-clause-keeps : goal.returns-in-Some-clause-keeps
returns-in-Some-clause-keeps g c =
    let e = c.in-Some.ensures in
    let p = progress_of c.args.reached.now in
    block_kept c.args.reader.now c.take_packet.new.self p p c.in-Some.block
    (of_body contents.Packet c.enhanced_packet-said.result)
    (behind-packet p c.in-Some.block (unwrap_or c.take_packet.new.self.lent []) c.enhanced_packet-said.result
    (none_of p.comments (sym c.is_some.ensures ∙ c.if-is_some.false))) e.answer e.keeps
    (content_lent _ c.deref.result.now p.interfaces c.in-Some.block.kind c.in-Some.block.order
    c.take_packet.new.self.lent c.body.result.now
    c.enhanced_packet-said.ensures c.deref.ensures.value e.kind c.body.ensures.body)

pub returns-in-Some-clause-reaches : goal.returns-in-Some-clause-reaches
returns-in-Some-clause-reaches g c = λ taken.
    let p = progress_of c.args.reached.now in
    block_taken c.args.reader.now c.take_packet.new.self c.in-Some.block p p c.in-Some.ensures.answer
    c.in-Some.ensures.reaches

pub returns-in-Some-clause-fronts : goal.returns-in-Some-clause-fronts
returns-in-Some-clause-fronts g c = λ told taken.
    let e = c.in-Some.ensures in
    let p = progress_of c.args.reached.now in
    block-passed c.file-file.result c.args.reader.now c.take_packet.new.self p c.in-Some.block
    (c.file-file.ensures ∙ c.window.ensures.window.file) e.answer e.keeps told
    (of_body contents.Packet c.enhanced_packet-said.result) c.set_packet.new.known.next p
    (content_lent _ c.deref.result.now p.interfaces c.in-Some.block.kind c.in-Some.block.order
    c.take_packet.new.self.lent c.body.result.now
    c.enhanced_packet-said.ensures c.deref.ensures.value e.kind c.body.ensures.body)
    c.set_packet.ensures
    (behind-packet p c.in-Some.block (unwrap_or c.take_packet.new.self.lent []) c.enhanced_packet-said.result
    (none_of p.comments (sym c.is_some.ensures ∙ c.if-is_some.false)))
