-- The line that tells which packets `join` leaves out.
use Rattle.std.specs.Prelude.{ℕ, ◌+◌, ◌==◌, List, [], ◌++◌, codes, decimal, Option, Some, None, if◌then◌else◌}
use Rattle.cap_commands.specs.declared.left.DroppedInfo.{DroppedInfo}
use Rattle.cap_class.specs.declared.counts.ClassCounts.{ClassCounts}
use Rattle.cap_tool.specs.declared.outcomes.Outcome.{Outcome}
use Rattle.cap_tool.specs.declared.outcomes.Outcome.TheVariants as outcomes
use Rattle.cap_write.specs.declared.left_out.LeftOut.{LeftOut}

-- the name of a class and its count, behind those of the classes before it, which count so many; nothing if it has none
abbrev pub class_text : ℕ → List ℕ → ℕ → List ℕ
class_text before name count =
    if count == 0 then [] else (if before == 0 then codes ": " else codes ", ") ++ name ++ decimal count

-- how many packets are left out: those of each class but the counted ones, and of these the truncated ones
abbrev pub unjoined_and_before : ClassCounts → ℕ
unjoined_and_before n = n.other_link + n.not_ipv4 + n.short + n.cut + n.bad + n.unjoined

abbrev pub packets_left_out : LeftOut → ℕ
packets_left_out left = unjoined_and_before left.classes + left.truncated

-- the classes that are left out, in the order of the report
abbrev pub classes_text : ClassCounts → List ℕ
classes_text n =
    class_text 0 (codes "other-link ") n.other_link
    ++ class_text n.other_link (codes "not-ipv4 ") n.not_ipv4
    ++ class_text (n.other_link + n.not_ipv4) (codes "short ") n.short
    ++ class_text (n.other_link + n.not_ipv4 + n.short) (codes "cut ") n.cut
    ++ class_text (n.other_link + n.not_ipv4 + n.short + n.cut) (codes "bad ") n.bad
    ++ class_text (n.other_link + n.not_ipv4 + n.short + n.cut + n.bad) (codes "unjoined ") n.unjoined

-- how many packets are left out
abbrev pub headline_text : ℕ → List ℕ
headline_text all = codes "left out: " ++ decimal all ++ (if all == 1 then codes " packet" else codes " packets")

-- The line: how many packets are left out, and how many of each class. There is none if none is.
abbrev pub left_packets_text : LeftOut → List ℕ
left_packets_text left =
    if packets_left_out left == 0 then [] else (
    headline_text (packets_left_out left) ++ classes_text left.classes
    ++ class_text (unjoined_and_before left.classes) (codes "truncated ") left.truncated ++ codes "\n")

-- the line, if packets were counted
abbrev pub left_out_text : Option LeftOut → List ℕ
left_out_text None = []
left_out_text (Some left) = left_packets_text left

-- and if all was done
abbrev pub left_out_told : Outcome → DroppedInfo → List ℕ
left_out_told outcomes.Done left = left_out_text left.left_out
left_out_told outcomes.Differ left = []
left_out_told outcomes.NotWhole left = []
left_out_told (outcomes.Line fault) left = []
left_out_told (outcomes.Fault fault) left = []
left_out_told (outcomes.Open file) left = []
left_out_told outcomes.List left = []
left_out_told (outcomes.ListLine line) left = []
left_out_told outcomes.Create left = []
