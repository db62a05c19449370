use Rattle.std.proofs.Common.{◌∙◌, ap, unwrap_or, []}
use Rattle.cap_source.specs.Contents.{content_in}
use Rattle.cap_source.specs.inner.SectionState.{progress_of}
use Rattle.cap_source.proofs.Commenting.{behind_by, counted-limit, next_by}
use Rattle.cap_source.proofs.Going.{IfTaken-so}
use Rattle.cap_source.proofs.Blocks.{block_taken, block_stepped, block_kept, end_learned, refusal_kept}
use Rattle.cap_source.proofs.Fronts.{block-fault, block-passed}
use Rattle.cap_source.proofs.pcapng.take_block.Goals as goal

pub returns-in-Ok-Some-clause-answer : goal.returns-in-Ok-Some-clause-answer
returns-in-Ok-Some-clause-answer g c =
    let e = rw c.in-Ok-Some.field-0-is at c.in-Ok-Some.ensures in
    let block = c.in-Ok-Some.block in
    block_stepped c.file-file.result c.args.reader.now c.next_block.new.self (progress_of c.args.reached.now)
    (progress_of c.take_content.new.reached)
    block c.read_content-content.result c.take_content.new.known.next
    (next_by c.file-file.result (progress_of c.args.reached.now) block (unwrap_or c.next_block.new.self.lent [])
    c.read_content-content.result _ _ c.count_comments.ensures.comments c.take_content.ensures.next)
    (behind_by (progress_of c.args.reached.now) block (unwrap_or c.next_block.new.self.lent [])
    c.read_content-content.result _ _ c.count_comments.ensures.comments c.take_content.ensures.behind)
    (c.file-file.ensures ∙ c.window.ensures.window.file) e.answer e.keeps e.items
    (c.read_content-content.ensures
    ∙ ap (λ l. content_in l block.kind block.order (unwrap_or c.next_block.new.self.lent [])) c.deref.ensures.value)

pub returns-in-Ok-Some-clause-keeps : goal.returns-in-Ok-Some-clause-keeps
returns-in-Ok-Some-clause-keeps g c =
    let e = rw c.in-Ok-Some.field-0-is at c.in-Ok-Some.ensures in
    let block = c.in-Ok-Some.block in
    block_kept c.args.reader.now c.next_block.new.self (progress_of c.args.reached.now)
    (progress_of c.take_content.new.reached)
    block c.read_content-content.result
    (behind_by (progress_of c.args.reached.now) block (unwrap_or c.next_block.new.self.lent [])
    c.read_content-content.result _ _ c.count_comments.ensures.comments c.take_content.ensures.behind)
    e.answer e.keeps
    (c.read_content-content.ensures
    ∙ ap (λ l. content_in l block.kind block.order (unwrap_or c.next_block.new.self.lent [])) c.deref.ensures.value)

pub returns-in-Ok-None-clause-answer : goal.returns-in-Ok-None-clause-answer
returns-in-Ok-None-clause-answer g c =
    let e = rw c.in-Ok-None.field-0-is at c.in-Ok-None.ensures in
    rw (c.set_end.ensures.next, c.ending_of_blocks.ensures)
    (end_learned c.cut.result e.answer.0 c.args.reader.now c.next_block.new.self (progress_of c.args.reached.now)
    c.requires.free e.answer.1 e.answer.2 c.cut.ensures.cut e.keeps (λ t. (e.items t).3))

pub returns-in-Err-Refused-clause-answer : goal.returns-in-Err-Refused-clause-answer
returns-in-Err-Refused-clause-answer g c =
    let e = rw c.in-Err-Refused.field-0-is at c.in-Err-Refused.ensures in
    rw c.set_refused.ensures.next
    (refusal_kept c.in-Err-Refused.refusal c.ending_of_blocks-in-Err-Refused.result c.args.reader.now
    c.next_block.new.self (progress_of c.args.reached.now)
    c.ending_of_blocks-in-Err-Refused.ensures c.requires.free e.answer e.keeps (λ t. (e.items t).0))

pub returns-in-Ok-Some-clause-reaches : goal.returns-in-Ok-Some-clause-reaches
returns-in-Ok-Some-clause-reaches g c =
    let e = rw c.in-Ok-Some.field-0-is at c.in-Ok-Some.ensures in
    IfTaken-so c.take_content.new.known.next _
    (block_taken c.args.reader.now c.next_block.new.self c.in-Ok-Some.block (progress_of c.args.reached.now)
    (progress_of c.take_content.new.reached) e.answer e.reaches)

pub returns-in-Ok-None-clause-reaches : goal.returns-in-Ok-None-clause-reaches
returns-in-Ok-None-clause-reaches g c = rw c.set_end.ensures.next tt

pub returns-in-Err-Refused-clause-reaches : goal.returns-in-Err-Refused-clause-reaches
returns-in-Err-Refused-clause-reaches g c = rw c.set_refused.ensures.next tt

pub returns-in-Ok-Some-clause-fronts : goal.returns-in-Ok-Some-clause-fronts
returns-in-Ok-Some-clause-fronts g c = λ told.
    let e = rw c.in-Ok-Some.field-0-is at c.in-Ok-Some.ensures in
    let block = c.in-Ok-Some.block in
    block-passed c.file-file.result c.args.reader.now c.next_block.new.self (progress_of c.args.reached.now) block
    (c.file-file.ensures ∙ c.window.ensures.window.file) e.answer e.keeps told c.read_content-content.result
    c.take_content.new.known.next (progress_of c.take_content.new.reached)
    (c.read_content-content.ensures
    ∙ ap (λ l. content_in l block.kind block.order (unwrap_or c.next_block.new.self.lent [])) c.deref.ensures.value)
    (next_by c.file-file.result (progress_of c.args.reached.now) block (unwrap_or c.next_block.new.self.lent [])
    c.read_content-content.result _ _ c.count_comments.ensures.comments c.take_content.ensures.next)
    (behind_by (progress_of c.args.reached.now) block (unwrap_or c.next_block.new.self.lent [])
    c.read_content-content.result _ _ c.count_comments.ensures.comments c.take_content.ensures.behind)

pub returns-in-Ok-None-clause-fronts : goal.returns-in-Ok-None-clause-fronts
returns-in-Ok-None-clause-fronts g c = λ told. rw c.set_end.ensures.next tt

pub returns-in-Err-Refused-clause-fronts : goal.returns-in-Err-Refused-clause-fronts
returns-in-Err-Refused-clause-fronts g c = λ told. rw c.set_refused.ensures.next tt

pub returns-in-Err-clause-fronts : goal.returns-in-Err-clause-fronts
returns-in-Err-clause-fronts g c = λ told.
    block-fault c.args.reader.now c.next_block.new.self (progress_of c.args.reached.now) c.in-Err.fault
    c.args.known.now.next c.in-Err.ensures.answer

pub take_content-requires-clause-limit : goal.take_content-requires-clause-limit
take_content-requires-clause-limit g c =
    let e = rw c.in-Ok-Some.field-0-is at c.in-Ok-Some.ensures in
    counted-limit (progress_of c.args.reached.now) (progress_of c.count_comments.new.reached) c.in-Ok-Some.block
    c.next_block.new.self.lent c.read_content-content.result c.args.reader.now.offset c.next_block.new.self.offset
    c.count_comments.ensures.comments c.requires.counted e.answer.least e.answer.size e.answer.gives.next
    e.keeps.limit
