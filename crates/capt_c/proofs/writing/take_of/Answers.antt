use Rattle.std.proofs.Common.{Ok, refl, subst, sym}
use Rattle.capt_c.specs.Answers.{nowhere}
use Rattle.capt_c.specs.Texts.{Shown}
use Rattle.capt_c.specs.Writing.{TakenBy, state_of}
use Rattle.capt_c.proofs.writing.take_of.Goals as goal

pub returns-in-Writer : goal.returns-in-Writer
returns-in-Writer c =
    let is = sym c.status_of_result.ensures in
    let writer = c.in-Writer.writer in
    let later = c.show_written.new.writer in
    let text = c.show_written.new.text in
    rw c.in-Writer.is (
      subst (λ s. Shown writer.bytes.items (Ok tt) s nowhere text text.handle.kept.value) is
          c.show_written.ensures.shown,
      (later, refl, subst (λ s. TakenBy s (state_of writer) (state_of later)) is c.show_written.ensures.taken),
    )
