use Rattle.std.proofs.Common.{refl}
use Rattle.std.specs.Fmt.{digits}
use Rattle.cap_time.specs.Code.{units_of_code}
use Rattle.cap_time.specs.Stamp.{stamp_cmp}
use Rattle.cap_time.specs.Time.{time_cmp, time_at}
use Rattle.cap_talks.specs.table.Conversations.{rows_of}
use Rattle.cap_talks.proofs.FrameLaws.{frame_law}
use Rattle.cap_talks.proofs.KeyLaws.{key_law}
use Rattle.cap_talks.proofs.SumLaws.{sum_law}
use Rattle.cap_talks.proofs.table.laws.talk_laws.Goals as goal

pub returns-clause-key : goal.returns-clause-key
returns-clause-key c = key_law

pub returns-clause-frames : goal.returns-clause-frames
returns-clause-frames c = frame_law

pub returns-clause-sums : goal.returns-clause-sums
returns-clause-sums c = sum_law

pub returns-clause-lines : goal.returns-clause-lines
unfolding units_of_code rows_of stamp_cmp time_cmp time_at digits
returns-clause-lines c = record { answered_line = refl; joined_line = refl; begun_line = refl; answered_object = refl }

pub returns-clause-limit : goal.returns-clause-limit
unfolding rows_of
returns-clause-limit c = record { second = refl; first = refl; below = refl }
