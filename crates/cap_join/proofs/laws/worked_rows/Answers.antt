use Rattle.std.proofs.Common.{refl}
use Rattle.cap_time.specs.Code.{units_of_code}
use Rattle.cap_time.specs.Stamp.{stamp_cmp, stamp_plus}
use Rattle.cap_time.specs.Time.{time_cmp, time_at}
use Rattle.cap_join.specs.ByteMap.{completes, joined_data}
use Rattle.cap_join.specs.History.{open_groups_after, step, group_of}
use Rattle.cap_join.proofs.laws.worked_rows.Goals as goal

pub returns-clause-overlap_map : goal.returns-clause-overlap_map
unfolding completes joined_data
returns-clause-overlap_map c = record { whole = refl; bytes = refl }

pub returns-clause-open_limit : goal.returns-clause-open_limit
unfolding open_groups_after step group_of completes
returns-clause-open_limit c = record { given_up = refl; first = refl; second = refl; third = refl; flushed = refl }

pub returns-clause-thirty_seconds : goal.returns-clause-thirty_seconds
unfolding units_of_code stamp_cmp stamp_plus time_cmp time_at
returns-clause-thirty_seconds c = record { at_thirty = refl; later = refl; without_clock = refl }
