use Rattle.std.proofs.Common.{◌∙◌}
use Rattle.cap_source.proofs.Firsts.{knows, first_told, first_kept}
use Rattle.cap_source.specs.inner.FileState.{head_of}
use Rattle.cap_source.specs.inner.SectionState.{progress_of}
use Rattle.cap_source.specs.inner.Readers.{reader_file_state}
use Rattle.cap_source.proofs.captures.Capture.first.Goals as goal

pub returns-clause-answer : goal.returns-clause-answer
returns-clause-answer g c =
    let was = c.args.self.now in
    let old = reader_file_state was.reader (progress_of was.reached) in
    let new = reader_file_state c.learn.new.self.reader (progress_of c.learn.new.self.reached) in
    let tells = c.in_ok-learn.ensures.answer in
    let next = tells.0 in (
      head_of next,
      knows old new was.next.next c.learn.new.self.next.next next was.sound.whole tells.1 tells.2,
      λ t. c.noted_of.ensures ∙ first_told old c.learn.new.self.reader
          (progress_of c.learn.new.self.reached) was.next.next c.learn.new.self.next.next next c.learn.new.self.there
          tells.1
          tells.2 t,
    )

pub returns-clause-items : goal.returns-clause-items
returns-clause-items g c =
    let was = c.args.self.now in
    let old = reader_file_state was.reader (progress_of was.reached) in
    let new = reader_file_state c.learn.new.self.reader (progress_of c.learn.new.self.reached) in
    let tells = c.in_ok-learn.ensures.answer in
    λ t. first_kept old new was.next.next c.learn.new.self.next.next tells.0 tells.1 tells.2 t
