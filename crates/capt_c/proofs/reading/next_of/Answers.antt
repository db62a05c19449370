use Rattle.std.proofs.Common.{refl}
use Rattle.capt_c.proofs.reading.next_of.Goals as goal

pub returns-in-Capture : goal.returns-in-Capture
returns-in-Capture c =
    rw c.in-Capture.is (
      c.step.result,
      c.step.new.feed,
      c.status_and_place.ensures.status,
      c.status_and_place.ensures.place,
      refl,
      c.step.ensures.answer,
      c.step.ensures.keeps,
    )
