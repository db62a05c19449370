use Rattle.std.proofs.Common.{refl}
use Rattle.capt_c.proofs.reading.next_many_of.Goals as goal

pub returns-in-Capture : goal.returns-in-Capture
returns-in-Capture c =
    rw c.in-Capture.is (
      c.step_many.result,
      c.step_many.new.feed,
      c.status_and_place.ensures.status,
      c.status_and_place.ensures.place,
      refl,
      c.step_many.ensures.answer,
      c.step_many.ensures.keeps,
    )
