-- What `capt diff` prints of two captures: whether they have the same packets, in whatever container, byte order and
-- units each of the two has them.
use Rattle.std.specs.Prelude.{ℕ, ◌+◌, ◌*◌, ◌/◌, ◌==◌, List, [], ◌∷◌, ◌++◌, codes, decimal, Bool, true, false, not, ◌||◌}
use Rattle.std.specs.Prelude.{◌≡◌, ◌&&◌, take, drop, Option, Some, None, is_some, Result, Ok, Err, if◌then◌else◌}
use Rattle.std.specs.Str.{bytes_eq}
use Rattle.cap_bytes.specs.Printing.{PrintsFront}
use Rattle.cap_bytes.specs.declared.faults.Fault.{Fault}
use Rattle.cap_bytes.specs.declared.faults.Fault.TheVariants.{Refused, Read, Write, Memory}
use Rattle.cap_bytes.specs.declared.faults.Refusal.{Refusal}
use Rattle.cap_bytes.specs.declared.faults.Tail.{Tail}
use Rattle.cap_bytes.specs.declared.stops.CutRest.{CutRest}
use Rattle.cap_print.specs.Facts.{Fact, begin_in, close_in, end_in, fact_in, fields_in, flag, flagged, line_in, named}
use Rattle.cap_print.specs.Facts.{number, one}
use Rattle.cap_print.specs.declared.forms.Form.{Form}
use Rattle.cap_print.specs.declared.forms.Form.TheVariants.{Json, Text}
use Rattle.cap_print.specs.declared.forms.TimeForm.TheVariants.{Exact}
use Rattle.cap_source.specs.Feed.{Item, packet, refused}
use Rattle.cap_source.specs.Items.{file_ending, file_items}
use Rattle.cap_source.specs.Times.{meta_time}
use Rattle.cap_source.specs.declared.packets.Meta.{Meta}
use Rattle.cap_time.specs.Stamp.{stamp_eq}
use Rattle.cap_time.specs.declared.stamps.Stamp.{Stamp}
use Rattle.cap_line.specs.declared.jobs.Ignored.{Ignored}
use Rattle.cap_commands.specs.ListText.{facts_showing}
use Rattle.cap_commands.specs.declared.diff.CutEnds.{CutEnds}
use Rattle.cap_commands.specs.declared.diff.DiffEnd.{DiffEnd}
use Rattle.cap_commands.specs.declared.diff.DiffOptions.{DiffOptions}
use Rattle.cap_commands.specs.declared.diff.Differences.{Differences}

-- A packet with its captured bytes.
pub record Compared : Type 0 where
  pub meta : Meta
  pub frame : List ℕ

-- two packets have the same exact time, or both have none
abbrev pub is_same_time : Option Stamp → Option Stamp → Bool
is_same_time None None = true
is_same_time None (Some other) = false
is_same_time (Some stamp) None = false
is_same_time (Some stamp) (Some other) = stamp_eq stamp other

-- nothing is ignored
abbrev pub nothing_ignored : Ignored
nothing_ignored = record { time = false; link = false; original = false }

-- the options of `diff` without any: nothing is ignored, and it prints text, with at most 16 bytes of each packet
abbrev pub default_options : DiffOptions
default_options = record { ignored = nothing_ignored; form = Text Exact; most = 16 }

-- in which of five things two packets differ: link type, exact time, captured length, original length, captured bytes
abbrev pub differences_of : Compared → Compared → Differences
differences_of a b =
    record {
      link = not (a.meta.interface.link == b.meta.interface.link);
      time = not (is_same_time (meta_time a.meta) (meta_time b.meta));
      captured = not (a.meta.captured == b.meta.captured);
      original = not (a.meta.original == b.meta.original);
      bytes = not (bytes_eq a.frame b.frame);
    }

-- the differences that count: those that aren't ignored
abbrev pub counted_differences : Ignored → Differences → Differences
counted_differences ignored it =
    record {
      link = not ignored.link && it.link;
      time = not ignored.time && it.time;
      captured = it.captured;
      original = not ignored.original && it.original;
      bytes = it.bytes;
    }

-- they differ in one of these at least
abbrev pub do_differ : Differences → Bool
do_differ it = it.link || it.time || it.captured || it.original || it.bytes

-- how many bytes two lists have in common at their beginning: the place, counted from 0, of the first byte that isn't
-- the same in both, or the length of the shorter list if the longer one begins with it
unfoldable pub first_difference : List ℕ → List ℕ → ℕ
first_difference [] ys = 0
first_difference (x ∷ xs) [] = 0
first_difference (x ∷ xs) (y ∷ ys) = if x == y then first_difference xs ys + 1 else 0

-- where two lists of bytes differ, if they do
abbrev pub place_of : List ℕ → List ℕ → Option ℕ
place_of xs ys = if bytes_eq xs ys then None else Some (first_difference xs ys)

-- where the captured bytes of two packets differ, if they do
abbrev pub data_place : Option Compared → Option Compared → Option ℕ
data_place (Some a) (Some b) = place_of a.frame b.frame
data_place (Some a) None = None
data_place None other = None

-- the first byte of the row of 16 bytes in which a place is; of no place, the first of all
abbrev pub row_start : Option ℕ → ℕ
row_start None = 0
row_start (Some place) = place / 16 * 16

-- What two captures are to each other: the same packets, so many; or which is the first, from number 1, that isn't the
-- same in both, with the packet of each, none if it has ended; or refused.
pub data Comparison : Type 0 where
  same_packets : ℕ → Comparison
  other_packet : ℕ → Option Compared → Option Compared → Comparison
  stopped_by : Refusal → Comparison

-- the comparison of two captures' items, after so many packets that are the same apart from what is ignored
unfoldable pub compared : Ignored → ℕ → List Item → List Item → Comparison
compared ignored n (refused r ∷ xs) ys = stopped_by r
compared ignored n (packet meta frame ∷ xs) (refused r ∷ ys) = stopped_by r
compared ignored n (packet meta frame ∷ xs) [] =
    other_packet (n + 1) (Some (record { meta = meta; frame = frame })) None
compared ignored n (packet meta frame ∷ xs) (packet other bytes ∷ ys) =
    (if do_differ (counted_differences ignored
    (differences_of (record { meta = meta; frame = frame }) (record { meta = other; frame = bytes })))
    then other_packet (n + 1) (Some (record { meta = meta; frame = frame }))
    (Some (record { meta = other; frame = bytes }))
    else compared ignored (n + 1) xs ys)
compared ignored n [] (refused r ∷ ys) = stopped_by r
compared ignored n [] [] = same_packets n
compared ignored n [] (packet other bytes ∷ ys) =
    other_packet (n + 1) None (Some (record { meta = other; frame = bytes }))

-- the comparison of two files of those bytes, which have the numbers 1 and 2
abbrev pub comparison_of : Ignored → Tail → List ℕ → List ℕ → Comparison
comparison_of ignored tail first second = compared ignored 0 (file_items tail 1 first) (file_items tail 2 second)

-- the words of which that is so
unfoldable pub chosen : List (Bool × List ℕ) → List (List ℕ)
chosen [] = []
chosen (word ∷ words) = if word.0 then word.1 ∷ chosen words else chosen words

-- the words of what differs, in this order
abbrev pub words_of : Differences → List (List ℕ)
words_of it = chosen
    ((it.link, codes "link") ∷ (it.time, codes "time") ∷ (it.captured, codes "captured")
    ∷ (it.original, codes "original") ∷ (it.bytes, codes "data") ∷ [])

-- in what two packets differ; of one whose counterpart is missing, that the other file has ended
abbrev pub difference_words : Ignored → Option Compared → Option Compared → List (List ℕ)
difference_words ignored (Some a) (Some b) = words_of (counted_differences ignored (differences_of a b))
difference_words ignored (Some a) None = codes "end" ∷ []
difference_words ignored None other = codes "end" ∷ []

-- words in text, each after a blank
abbrev pub spaced : List (List ℕ) → List ℕ
spaced [] = []
spaced (word ∷ words) = codes " " ++ word ++ spaced words

-- words in JSON, as strings with commas between them
abbrev pub quoted : List (List ℕ) → List ℕ
quoted [] = []
quoted (word ∷ []) = codes "\"" ++ word ++ codes "\""
quoted (word ∷ next ∷ words) = codes "\"" ++ word ++ codes "\"," ++ quoted (next ∷ words)

-- the rests that were cut and dropped of two files of those bytes, which have the numbers 1 and 2
abbrev pub cuts_of : Tail → List ℕ → List ℕ → CutEnds
cuts_of tail first second =
    record { first = (file_ending tail 1 first).ending.cut; second = (file_ending tail 2 second).ending.cut }

-- that a rest of a file was dropped, which is called so
abbrev pub cut_fact : List ℕ → List ℕ → Bool → Fact
cut_fact label key cut = record { label = label; key = key; value = flag cut }

-- the line of two captures with the same packets, so many, in a form, and whether a rest of each was dropped
abbrev pub same_line : Form → ℕ → CutEnds → List ℕ
same_line form n cuts = line_in form (record {
  kind = codes "same";
  fields =
      one (named (codes "packets") (number n))
      ∷ one (cut_fact (codes " cut A") (codes "cut_a") (is_some cuts.first))
      ∷ one (cut_fact (codes " cut B") (codes "cut_b") (is_some cuts.second)) ∷ [];
})

-- where the captured bytes differ, if they do, and then the rest of a line in a form
abbrev pub data_place_in : Form → Option ℕ → List ℕ → List ℕ
data_place_in form None rest = rest
data_place_in form (Some place) rest =
    fact_in form (record { label = codes " at "; key = codes "data_at"; value = number place }) rest

-- the first line of a difference in a form, at the packet of that number, with these words, the last of them `data` if
-- the captured bytes differ, and the place at which they do
abbrev pub difference_line : Form → ℕ → List (List ℕ) → Option ℕ → List ℕ
difference_line (Text times) n words place =
    codes "differ packet " ++ decimal n ++ spaced words ++ data_place_in (Text times) place (codes "\n")
difference_line (Json times) n words place =
    codes "{\"type\":\"differ\",\"packet\":" ++ decimal n ++ codes ",\"differs\":[" ++ quoted words
    ++ (codes "]" ++ data_place_in (Json times) place (codes "}\n"))

-- in JSON, from which byte on a packet's bytes are shown, if that isn't the first, and then the rest of the line
abbrev pub from_json : ℕ → List ℕ → List ℕ
from_json from rest = if from == 0 then rest else codes ",\"data_from\":" ++ decimal from ++ rest

-- what stands before a packet in a form, by the sign of its file and the byte from which on its bytes are shown
abbrev pub before_side : Form → List ℕ → ℕ → List ℕ
before_side (Text times) sign from = sign ++ codes " "
before_side (Json times) sign from =
    codes "{\"type\":\"side\",\"side\":\"" ++ sign ++ (codes "\"" ++ from_json from (codes ",\"packet\":"))

-- the bytes of a packet that are shown: at most so many, from that byte on
abbrev pub shown_from : ℕ → ℕ → List ℕ → List ℕ
shown_from most from frame = take most (drop from frame)

-- the packet of that number in a form, as `list` prints it, with these of its bytes; in JSON its object ends the object
-- that it stands in
abbrev pub packet_side : Form → ℕ → Meta → List ℕ → List ℕ
packet_side form n meta shown = begin_in form (codes "packet")
    (fields_in form (facts_showing n meta shown).fields (close_in form (end_in form)))

-- that there is no packet
abbrev pub nothing_in : Form → List ℕ
nothing_in (Text times) = codes "end"
nothing_in (Json times) = codes "null"

-- that a file has ended, and whether a rest of it was dropped
abbrev pub no_side : Form → Bool → List ℕ
no_side form cut = nothing_in form ++ fact_in form (flagged (codes "cut") cut) (end_in form)

-- a packet in a form, with at most so many bytes from that byte on, or that its file has ended, cut or not
abbrev pub side_in : Form → ℕ → ℕ → ℕ → Bool → Option Compared → List ℕ
side_in form most n from cut None = no_side form cut
side_in form most n from cut (Some a) = packet_side form n a.meta (shown_from most from a.frame)

-- both packets in a form, each with its sign, with at most so many bytes from that byte on
abbrev pub sides_in : Form → ℕ → ℕ → ℕ → CutEnds → Option Compared → Option Compared → List ℕ
sides_in form most n from cuts a b =
    (before_side form (codes "-") from ++ side_in form most n from (is_some cuts.first) a)
    ++ (before_side form (codes "+") from ++ side_in form most n from (is_some cuts.second) b)

-- what is printed of a comparison of two files that end so, with these options: of packets whose captured bytes differ,
-- their bytes from the row on in which they do
abbrev pub diff_text_in : DiffOptions → CutEnds → Comparison → List ℕ
diff_text_in options cuts (same_packets n) = same_line options.form n cuts
diff_text_in options cuts (other_packet n a b) =
    difference_line options.form n (difference_words options.ignored a b) (data_place a b)
    ++ sides_in options.form options.most n (row_start (data_place a b)) cuts a b
diff_text_in options cuts (stopped_by refusal) = []

-- the refusal that is returned
abbrev pub diff_refusal : Comparison → Option Refusal
diff_refusal (same_packets n) = None
diff_refusal (other_packet n a b) = None
diff_refusal (stopped_by refusal) = Some refusal

-- whether the packets are the same
abbrev pub is_same : Comparison → Bool
is_same (same_packets n) = true
is_same (other_packet n a b) = false
is_same (stopped_by refusal) = false

-- the rest of a file that has ended where two files part: nothing is known of one that has a packet there
abbrev pub ended_rest : Option Compared → Option CutRest → Option CutRest
ended_rest None cut = cut
ended_rest (Some a) cut = None

-- the rests that are known of two files that end so, where they part
abbrev pub ended_rests : CutEnds → Comparison → CutEnds
ended_rests cuts (same_packets n) = cuts
ended_rests cuts (other_packet n a b) = record { first = ended_rest a cuts.first; second = ended_rest b cuts.second }
ended_rests cuts (stopped_by refusal) = record { first = None; second = None }

-- how the comparison of two files ends that end so
abbrev pub diff_end : CutEnds → Comparison → DiffEnd
diff_end cuts c = record { is_same = is_same c; cuts = ended_rests cuts c }

-- The comparison is printed with these options, and returned; or a refusal is returned, and nothing is printed then,
-- nor if a read failed or a growth was refused. If the writer failed, a prefix is printed.
abbrev pub TellsDiff : DiffOptions → CutEnds → Comparison → List ℕ → Result Bool Fault → List ℕ → Type 0
TellsDiff options cuts c old (Ok so) new =
    (diff_refusal c ≡ None) × (so ≡ is_same c) × (new ≡ old ++ diff_text_in options cuts c)
TellsDiff options cuts c old (Err (Refused r)) new = (diff_refusal c ≡ Some r) × (new ≡ old)
TellsDiff options cuts c old (Err (Read file offset)) new = new ≡ old
TellsDiff options cuts c old (Err Write) new =
    (diff_refusal c ≡ None) × PrintsFront (diff_text_in options cuts c) old new
TellsDiff options cuts c old (Err Memory) new = new ≡ old
