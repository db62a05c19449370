use Rattle.std.proofs.Common.{refl}
use Rattle.capt_c.proofs.reading.end_of.Goals as goal

pub returns-in-Capture : goal.returns-in-Capture
returns-in-Capture c =
    let told = c.end_of_capture.ensures.answer in
    rw c.in-Capture.is (told.0, c.end_of_capture.new.capture, refl, told.1, told.2, c.end_of_capture.ensures.keeps)
