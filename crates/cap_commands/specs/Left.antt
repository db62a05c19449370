-- What a command that writes a capture leaves out, or leaves as it was.
use Rattle.std.specs.Prelude.{◌≡◌, ℕ, zero, suc, ◌+◌, List, [], ◌∷◌, replicate, unwrap_or, Option, None, Bool}
use Rattle.std.specs.Prelude.{is_some, Result, Ok, Err}
use Rattle.cap_bytes.specs.declared.faults.Fault.{Fault}
use Rattle.cap_bytes.specs.declared.stops.CutRest.{CutRest}
use Rattle.cap_merge.specs.Run.{Clocked}
use Rattle.cap_source.specs.Feed.{Item}
use Rattle.cap_source.specs.declared.feeds.FileEnd.{FileEnd}
use Rattle.cap_class.specs.Runs.{taken_after}
use Rattle.cap_talks.specs.talks.CutRests.{rests_by_place}
use Rattle.cap_talks.specs.declared.talks.reports.ReportLeft.{ReportLeft}
use Rattle.cap_write.specs.LeftOut.{CountsLeftOut}
use Rattle.cap_commands.specs.declared.diff.CutEnds.{CutEnds}
use Rattle.cap_commands.specs.declared.left.DroppedInfo.{DroppedInfo}

-- what a call returns, without what it finds or leaves
abbrev pub done_of : {A : Type 0} → Result A Fault → Result Unit Fault
done_of (Ok found) = Ok tt
done_of (Err fault) = Err fault

-- nothing was left out, and nothing ran back
abbrev pub nothing_left : DroppedInfo
nothing_left =
    record {
      skipped = 0;
      secret_blocks = 0;
      name_blocks = 0;
      named = 0;
      comments = 0;
      ran_back = 0;
      cuts = replicate 32 None;
      left_out = None;
      not_ipv4 = None;
    }

-- the rests of files that were cut, at 32 places
abbrev pub only_cuts : List (Option CutRest) → DroppedInfo
only_cuts cuts = record nothing_left { cuts = cuts }

-- the rest of the only file, if it was cut
abbrev pub only_cut : Option CutRest → DroppedInfo
only_cut cut = only_cuts (cut ∷ replicate 31 None)

-- what a report leaves
abbrev pub left_of_report : ReportLeft → DroppedInfo
left_of_report left = record (only_cuts left.cuts) { not_ipv4 = left.not_ipv4 }

-- the rests of two files that are compared, if they were cut
abbrev pub both_cut : CutEnds → DroppedInfo
both_cut ends = record nothing_left { cuts = ends.first ∷ ends.second ∷ replicate 30 None }

-- the skipped blocks, those of secrets and of names among them, the named interfaces, the comments, if they were
-- counted, and the rest of the only file, which ended so
abbrev pub left_of_file : FileEnd → DroppedInfo
left_of_file end =
    record (only_cut end.ending.cut) {
      skipped = end.ending.skipped;
      secret_blocks = end.kinds.secrets;
      name_blocks = end.kinds.names;
      named = end.named;
      comments = unwrap_or end.comments 0;
    }

-- the sum of a count over the first files, so many of them, by how each ends
abbrev pub sum_of_files : (FileEnd → ℕ) → (ℕ → FileEnd) → ℕ → ℕ
sum_of_files count endings zero = 0
sum_of_files count endings (suc file) = sum_of_files count endings file + count (endings (suc file))

-- how many blocks were skipped of these, how many of them are blocks of secrets or of names, how many interfaces have a
-- name, and how many comments there are, if they were counted
abbrev pub skipped_in : (ℕ → FileEnd) → ℕ → ℕ
skipped_in endings count = sum_of_files (λ end. end.ending.skipped) endings count

abbrev pub secret_blocks_in : (ℕ → FileEnd) → ℕ → ℕ
secret_blocks_in endings count = sum_of_files (λ end. end.kinds.secrets) endings count

abbrev pub name_blocks_in : (ℕ → FileEnd) → ℕ → ℕ
name_blocks_in endings count = sum_of_files (λ end. end.kinds.names) endings count

abbrev pub named_in : (ℕ → FileEnd) → ℕ → ℕ
named_in endings count = sum_of_files (λ end. end.named) endings count

abbrev pub dropped_comments : (ℕ → FileEnd) → ℕ → ℕ
dropped_comments endings count = sum_of_files (λ end. unwrap_or end.comments 0) endings count

-- what isn't carried on of the first files, so many of them, by how each ends; the 32 places of cut rests that no file
-- has are empty, and packets of networks other than IPv4 aren't counted
pub record LeavesOut (endings : ℕ → FileEnd) (count : ℕ) (left : DroppedInfo) : Type 0 where
  pub skipped : left.skipped ≡ skipped_in endings count
  pub secrets : left.secret_blocks ≡ secret_blocks_in endings count
  pub names : left.name_blocks ≡ name_blocks_in endings count
  pub named : left.named ≡ named_in endings count
  pub comments : left.comments ≡ dropped_comments endings count
  pub cuts : left.cuts ≡ rests_by_place endings count
  pub networks : left.not_ipv4 ≡ None

-- the packets of a run that a join leaves out, by their class in a report of the run, if they are counted
pub record LeavesPackets (counts : Bool) (run : List (Clocked Item)) (left : DroppedInfo) : Type 0 where
  pub asked : is_some left.left_out ≡ counts
  pub packets : CountsLeftOut left.left_out (taken_after [] run)
