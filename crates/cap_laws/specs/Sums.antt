-- The report over several files that have no IPv4 fragments is the sum of the reports over each file, whether it reads
-- IPv6 packets or not. With such fragments it isn't: those of one datagram may come in two files. Fragments of IPv6
-- aren't joined, so each is counted by itself. The report is the one by places (`InOrder.antt`).
use Rattle.std.specs.Prelude.{◌≡◌, ◌+◌, ℕ, List, [], ◌∷◌, Bool, true, false, map, Option, Some, None, not}
use Rattle.std.specs.Prelude.{if◌then◌else◌}
use Rattle.std.specs.List.{list_any, sum_by}
use Rattle.std.specs.Ordering.{is_gt}
use Rattle.cap_bytes.specs.declared.faults.Tail.{Tail}
use Rattle.cap_class.specs.Taken.{Classification, Taken, classify, datagram, fragment, plain}
use Rattle.cap_class.specs.declared.classes.Class.{Class}
use Rattle.cap_join.specs.Places.{times_given_up}
use Rattle.cap_laws.specs.InOrder.{classes_at, groups_at, marks_of, units_at}
use Rattle.cap_laws.specs.Totals.{TotalsAddUp}
use Rattle.cap_merge.specs.Files.{clocked_run, run_of_files}
use Rattle.cap_source.specs.Feed.{refusal_of}
use Rattle.cap_talks.specs.declared.table.rows.TalkKey.{TalkKey}
use Rattle.cap_talks.specs.declared.table.rows.TalkRow.{TalkRow}
use Rattle.cap_class.specs.Counting.{times}
use Rattle.cap_class.specs.Ipv6.{lone_class_for}
use Rattle.cap_talks.specs.table.Conversations.{row_of, units_of_talk}
use Rattle.cap_talks.specs.table.CountedUnits.{counted_in}
use Rattle.cap_class.specs.Runs.{taken_after}
use Rattle.cap_time.specs.Stamp.{stamp_cmp}
use Rattle.cap_time.specs.declared.stamps.Stamp.{Stamp}

-- whether a packet is a fragment of an IPv4 datagram, by itself
abbrev pub is_part : Classification → Bool
is_part (plain c) = false
is_part (datagram header captured) = false
is_part (fragment p) = true

-- how many of some packets are IPv4 fragments
abbrev pub parts_among : List Taken → ℕ
parts_among [] = 0
parts_among (x ∷ xs) = parts_among xs + (if is_part (classify 0 x) then 1 else 0)

-- the row of a conversation in the report over some packets, which reads IPv6 packets or not: that of no datagram, if
-- it has none there
abbrev pub row_among : Bool → TalkKey → List Taken → TalkRow
row_among reads key xs = row_of (units_of_talk key (units_at reads xs))

-- a time is there and isn't after another, or isn't before it
abbrev pub is_by : Stamp → Option Stamp → Bool
is_by until None = false
is_by until (Some time) = not (is_gt (stamp_cmp time until))

abbrev pub is_from : Stamp → Option Stamp → Bool
is_from since None = false
is_from since (Some time) = not (is_gt (stamp_cmp since time))

-- The counts of a row, in each direction, are the sums of those of several rows. Its first time is the least of theirs:
-- it isn't after another time exactly if one of theirs isn't; and its last time is the greatest of theirs.
pub record RowAddsUp (row : TalkRow) (rows : List TalkRow) : Type 0 where
  pub forward_frames : row.forward_frames ≡ sum_by (λ r. r.forward_frames) rows
  pub forward_bytes : row.forward_bytes ≡ sum_by (λ r. r.forward_bytes) rows
  pub backward_frames : row.backward_frames ≡ sum_by (λ r. r.backward_frames) rows
  pub backward_bytes : row.backward_bytes ≡ sum_by (λ r. r.backward_bytes) rows
  pub first : (time : Stamp) → is_by time row.first ≡ list_any (λ r. is_by time r.first) rows
  pub last : (time : Stamp) → is_from time row.last ≡ list_any (λ r. is_from time r.last) rows

-- All that the report over some packets counts, which reads IPv6 packets or not, is the sum of what the reports over
-- several lists of packets count: the line `total`, the packets of each class, the datagrams that were joined, the
-- groups that were given up, and the row of each conversation.
pub record ReportAddsUp (reads : Bool) (all : List Taken) (each : List (List Taken)) : Type 0 where
  pub totals : TotalsAddUp all each
  pub of_class : (c : Class) → times c (classes_at reads all) ≡ sum_by (λ xs. times c (classes_at reads xs)) each
  pub joined : counted_in (groups_at all) ≡ sum_by (λ xs. counted_in (groups_at xs)) each
  pub given_up : times_given_up (marks_of all) ≡ sum_by (λ xs. times_given_up (marks_of xs)) each
  pub rows : (key : TalkKey) → RowAddsUp (row_among reads key all) (map (row_among reads key) each)

-- If none of some files is refused, and none of their packets is an IPv4 fragment, the report over all of them is the
-- sum of the reports over each file alone, if all read IPv6 packets, and if none does.
abbrev pub ReportSums : Type 0
ReportSums =
    (reads : Bool) (tail : Tail) (files : List (List ℕ)) → refusal_of (run_of_files tail files) ≡ None
    → parts_among (taken_after [] (clocked_run tail files)) ≡ 0
    → ReportAddsUp reads (taken_after [] (clocked_run tail files))
    (map (λ bytes. taken_after [] (clocked_run tail (bytes ∷ []))) files)

-- If none of some packets is an IPv4 fragment, each has the class that it has in a report over it alone, if both read
-- IPv6 packets, and if neither does.
abbrev pub LoneClasses : Type 0
LoneClasses =
    (reads : Bool) (xs : List Taken) → parts_among xs ≡ 0
    → classes_at reads xs ≡ map (λ x. lone_class_for reads x.meta x.frame) xs
