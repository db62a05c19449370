-- The report of a run by places: its classes and units, and what is printed of them, whether it reads IPv6 packets or
-- not. Groups are of IPv4 fragments alone.
use Rattle.std.specs.Prelude.{◌≡◌, ℕ, Bool, true, false, List, [], ◌∷◌, ◌++◌, map, length, take, Option, Some, None}
use Rattle.std.specs.Prelude.{if◌then◌else◌}
use Rattle.cap_bytes.specs.declared.faults.Refusal.{Refusal}
use Rattle.cap_time.specs.declared.stamps.Stamp.{Stamp}
use Rattle.cap_join.specs.declared.datagrams.Stamped.{Stamped}
use Rattle.cap_join.specs.Fragments.{Piece}
use Rattle.cap_join.specs.Frames.{is_before}
use Rattle.cap_join.specs.History.{Event, fragment_key, live_at, open_groups_after}
use Rattle.cap_talks.specs.table.CountedUnits.{counted_in, first_unit, given_up_in, is_limit_by, joined_in, listed}
use Rattle.cap_talks.specs.table.CountedUnits.{limit_refusal, unit_seen, units_for, whole_unit}
use Rattle.cap_talks.specs.declared.table.units.CountedUnit.{CountedUnit}
use Rattle.cap_join.specs.Joiners.{open_limit}
use Rattle.cap_join.specs.Places.{Mark, goes_on, group_by, latest_clock, marks, open_before, times_given_up}
use Rattle.cap_merge.specs.Parts.{item_time, is_refusal}
use Rattle.cap_merge.specs.Run.{Clocked, opened_track, run}
use Rattle.cap_print.specs.declared.forms.Form.{Form}
use Rattle.cap_source.specs.Feed.{Item, packet, refused}
use Rattle.cap_source.specs.declared.feeds.FileEnd.{FileEnd}
use Rattle.cap_class.specs.declared.classes.Class.{Class}
use Rattle.cap_class.specs.Classes.{classes_in}
use Rattle.cap_class.specs.Ipv6.{classes_seen, ipv6_read, report_classes}
use Rattle.cap_join.specs.Completed.{completed_pieces_at, if_complete}
use Rattle.cap_talks.specs.talks.InfoText.{or_else}
use Rattle.cap_class.specs.Runs.{taken_after, with_item}
use Rattle.cap_talks.specs.table.Conversations.{rows_of}
use Rattle.cap_talks.specs.table.TalkLines.{talk_texts_in}
use Rattle.cap_talks.specs.table.TopRows.{top_rows}
use Rattle.cap_talks.specs.talks.ReportText.{report_refusal_for, report_text_for, report_top_for}
use Rattle.cap_class.specs.Taken.{Taken, events_of, Classification, plain, datagram, fragment, classify, stamped_of}
use Rattle.cap_ipv6.specs.Read.{Reading}
use Rattle.cap_talks.specs.table.TakenText.{counts_for, files_part_in}

-- what is known of the fragments among some packets
abbrev pub marks_of : List Taken → List Mark
marks_of xs = marks open_limit (events_of xs)

-- the groups that were completed among some packets, by places
abbrev pub groups_at : List Taken → List (List Piece)
groups_at xs = completed_pieces_at (marks_of xs)

-- the classes of some packets, in a report that reads IPv6 packets or not, if the groups are those by places: an IPv6
-- fragment that is read is unjoined
abbrev pub classes_at : Bool → List Taken → List Class
classes_at false xs = classes_in (groups_at xs) xs
classes_at true xs = classes_seen (groups_at xs) xs

-- the unit that a packet of IPv4 completes, if its group is that by places
abbrev pub unit_by_places : Classification → Stamped → Option Stamp → List Event → Option CountedUnit
unit_by_places (plain c) stamped clock events = None
unit_by_places (datagram header captured) stamped clock events = whole_unit header captured stamped
unit_by_places (fragment p) stamped clock events =
    first_unit (if_complete (group_by clock p (goes_on (fragment_key p) (marks open_limit events))).pieces)

abbrev pub unit_after : List Taken → Taken → Option CountedUnit
unit_after xs x = unit_by_places (classify (length xs) x) (stamped_of (length xs) x.meta) x.clock (events_of xs)

-- the unit that a packet completes, in a report that reads IPv6 packets or not: a whole IPv6 datagram that is read is
-- one by itself
abbrev pub unit_after_for : Bool → List Taken → Taken → Option CountedUnit
unit_after_for false xs x = unit_after xs x
unit_after_for true xs x = unit_seen (ipv6_read x.meta x.frame) (stamped_of (length xs) x.meta) (unit_after xs x)

unfoldable pub units_at : Bool → List Taken → List CountedUnit
units_at reads [] = []
units_at reads (x ∷ xs) = units_at reads xs ++ listed (unit_after_for reads xs x)

-- The classes and the units of some packets, in a report that reads IPv6 packets or not; and in either report how many
-- datagrams were joined that count, how many groups were given up and which are open.
pub record IsByPlaces (xs : List Taken) : Type 0 where
  pub classes_are : (reads : Bool) → report_classes reads xs ≡ classes_at reads xs
  pub units_are : (reads : Bool) → units_for reads xs ≡ units_at reads xs
  pub joined : joined_in xs ≡ counted_in (groups_at xs)
  pub given_up : given_up_in xs ≡ times_given_up (marks_of xs)
  pub opens : (now : Option Stamp) → is_before now (latest_clock (events_of xs)) ≡ false
      → live_at now (open_groups_after open_limit (events_of xs)).opens ≡ open_before now (marks_of xs)

-- In every run all of these are those by places, after each of its items.
abbrev pub ByPlaces : Type 0
ByPlaces = (files : List (List Item)) (n : ℕ) → IsByPlaces
    (taken_after [] (take n (run item_time is_refusal (map opened_track files))))

-- An IPv6 packet leaves the groups as they are: so none of its fragments is in a group.
abbrev pub Ipv6Apart : Type 0
Ipv6Apart = (x : Taken) (xs : List Taken) (r : Reading) → ipv6_read x.meta x.frame ≡ Some r
    → marks_of (x ∷ xs) ≡ marks_of xs

-- all lines but those of the files and of the conversations, in a form, by places
abbrev pub counts_by_places : Bool → Form → List Taken → List ℕ
counts_by_places reads form xs = counts_for reads form xs (classes_at reads xs) (units_at reads xs)
    (counted_in (groups_at xs)) (times_given_up (marks_of xs))

-- the report of a run of `count` files with those endings, in a form, by places; it reads IPv6 packets or not
unfoldable pub text_by_places_in : Bool → Form → ℕ → (ℕ → FileEnd) → List (Clocked Item) → List ℕ
text_by_places_in reads form count endings run =
    let xs = taken_after [] run in
    files_part_in form count (Some endings) xs
    ++ (counts_by_places reads form xs ++ talk_texts_in form (rows_of (units_at reads xs)))

-- the same with the lines of the conversations with the most bytes alone, so many of them
unfoldable pub top_by_places_in : Bool → Form → ℕ → ℕ → (ℕ → FileEnd) → List (Clocked Item) → List ℕ
top_by_places_in reads form most count endings run =
    let xs = taken_after [] run in
    files_part_in form count (Some endings) xs
    ++ (counts_by_places reads form xs ++ talk_texts_in form (top_rows most (rows_of (units_at reads xs))))

-- the refusal of a packet that would open a conversation too many, and the one that ends a run
abbrev pub refusal_with : Bool → List Taken → Option Stamp → Item → Option Refusal
refusal_with reads xs clock (packet meta frame) =
    if is_limit_by (units_at reads xs) (unit_after_for reads xs (record { clock = clock; meta = meta; frame = frame }))
    then Some (limit_refusal meta) else None
refusal_with reads xs clock (refused refusal) = Some refusal

-- the first refusal of a run after those packets, by places
unfoldable pub refusal_by_places : Bool → List Taken → List (Clocked Item) → Option Refusal
refusal_by_places reads xs [] = None
refusal_by_places reads xs (x ∷ run) = or_else (refusal_with reads xs x.clock x.item)
    (refusal_by_places reads (with_item x.clock x.item xs) run)

-- The report of a run of files, which reads IPv6 packets or not, in either form, with the lines of all conversations or
-- of those with the most bytes, and the refusal that is returned instead, are those by places.
pub record ReportsByPlaces (count : ℕ) (endings : ℕ → FileEnd) (run : List (Clocked Item)) : Type 0 where
  pub text : (reads : Bool) (form : Form)
      → report_text_for reads form count endings run ≡ text_by_places_in reads form count endings run
  pub top : (reads : Bool) (form : Form) (most : ℕ)
      → report_top_for reads form most count endings run ≡ top_by_places_in reads form most count endings run
  pub refusal : (reads : Bool) → report_refusal_for reads run ≡ refusal_by_places reads [] run

abbrev pub ReportByPlaces : Type 0
ReportByPlaces =
    (count : ℕ) (endings : ℕ → FileEnd) (files : List (List Item))
    → ReportsByPlaces count endings (run item_time is_refusal (map opened_track files))
