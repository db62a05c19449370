-- Runs whose packets have the same links, lengths, bytes and times, maybe in other forms, have the same report, but for
-- the forms of times.
use Rattle.std.proofs.lemmas.Bool.Decides.{nat_tests}
use Rattle.std.proofs.lemmas.Grind.{common_steps}
use Rattle.std.proofs.Common.{arith, ◌≡◌, ℕ, ◌+◌, ◌++◌, Bool, true, false, List, [], ◌∷◌, length, refl, sym, subst}
use Rattle.std.proofs.Common.{Option, Some, None}
use Rattle.std.proofs.lemmas.List.Elements.{length_all_zip}
use Rattle.std.specs.List.{AllZip}
use Rattle.std.specs.Option.{option_map_or}
use Rattle.std.specs.Prelude.{nat_lt, if◌then◌else◌}
use Rattle.cap_ip.specs.Header.{HeaderFields}
use Rattle.cap_join.specs.Completed.{if_complete}
use Rattle.cap_join.proofs.AlikeGroups.{if_complete-alike, zip-both}
use Rattle.cap_join.specs.inner.EqualClocks.{IsSameClock}
use Rattle.cap_join.specs.Fragments.{Piece, piece_of}
use Rattle.cap_join.specs.History.{Event, joined_pieces, open_groups_after}
use Rattle.cap_join.specs.Joiners.{open_limit}
use Rattle.cap_join.specs.declared.datagrams.Stamped.{Stamped}
use Rattle.cap_link.specs.Seen.{Carried, ipv4, other_link, not_ipv4, short, cut as ends}
use Rattle.cap_source.specs.Times.{meta_time}
use Rattle.cap_merge.specs.Run.{Clocked}
use Rattle.cap_source.specs.Feed.{Item, packet, refused}
use Rattle.cap_class.specs.Counting.{counts_of}
use Rattle.cap_class.specs.Classes.{class_by, class_in, class_of, classes, classes_in, group_class}
use Rattle.cap_class.specs.Classes.{groups_of, has_place}
use Rattle.cap_ipv6.specs.Read.{Reading}
use Rattle.cap_talks.specs.table.CountedUnits.{unit_by, unit_at, unit_seen, ipv6_unit, listed, is_limit_for, counted_in}
use Rattle.cap_class.specs.Runs.{with_item, taken_after}
use Rattle.cap_print.specs.Facts.{line_in}
use Rattle.cap_print.specs.declared.forms.Form.TheVariants.{Text}
use Rattle.cap_print.specs.declared.forms.TimeForm.TheVariants.{Exact}
use Rattle.cap_talks.specs.talks.ReportText.{refusal_here_for}
use Rattle.cap_talks.specs.table.TakenText.{frames_facts_for, taken_bytes, truncated_of, total_text}
use Rattle.cap_talks.specs.table.TakenText.{joined_text}
use Rattle.cap_talks.specs.table.TalkLines.{talks_text}
use Rattle.cap_talks.specs.table.Rows.{is_refused, talk_limit}
use Rattle.cap_class.specs.Taken.{Taken, Classification, plain, datagram, fragment, classify_at, classify}
use Rattle.cap_class.specs.Taken.{events_classified}
use Rattle.cap_class.specs.Taken.{events_of, stamped_of}
use Rattle.cap_talks.specs.table.Conversations.{talk_key, rows_of}
use Rattle.cap_class.specs.declared.classes.Class.TheVariants as class
use Rattle.cap_talks.specs.declared.table.units.CountedUnit.{CountedUnit}
use Rattle.cap_time.specs.declared.stamps.Stamp.{Stamp}
use Rattle.cap_laws.proofs.LikePieces.{IsLike, IsLikeFrame, Like, LikeEvent, data-like, events-groups, header-like}
use Rattle.cap_laws.proofs.LikePieces.{pieces-alike, place-like}
use Rattle.cap_laws.proofs.LikeUnits.{LikeUnit, LikeUnits, between, first_unit-like, key-like, refused-like, rows-like}
use Rattle.cap_laws.proofs.LikeUnits.{timed_frame-like}
use Rattle.cap_laws.specs.Forms.{BodyParts, IsSameTalk, SameButForms, counts_text}
use Rattle.cap_laws.specs.Reports.{Place, refusal_place_or, refused_after}
use Rattle.cap_class.specs.Ipv6.{class_seen, classes_seen, ipv6_read, report_classes}
use Rattle.cap_talks.specs.table.CountedUnits.{unit_for, units_for}
use Rattle.cap_talks.specs.table.TakenText.{body_for, counts_text_for}

-- Two packets have clocks of one time, and the same link, length, bytes and time, maybe in another form.
pub record IsLikeTaken (x y : Taken) : Type 0 where
  pub clock : IsSameClock x.clock y.clock
  pub link : x.meta.interface.link ≡ y.meta.interface.link
  pub time : IsSameClock (meta_time x.meta) (meta_time y.meta)
  pub original : x.meta.original ≡ y.meta.original
  pub frame : x.frame ≡ y.frame

abbrev LikeTaken : List Taken → List Taken → Type 0
LikeTaken = AllZip IsLikeTaken

-- two items of runs, which have those clocks, are such packets
abbrev pub LikeItems : Option Stamp → Option Stamp → Item → Item → Type 0
LikeItems c d (packet m f) (packet n g) = IsLikeTaken (record { clock = c; meta = m; frame = f })
    (record { clock = d; meta = n; frame = g })
LikeItems c d (packet m f) (refused r) = ⊥
LikeItems c d (refused q) (packet n g) = ⊥
LikeItems c d (refused q) (refused r) = ⊥

abbrev pub RunsLike : List (Clocked Item) → List (Clocked Item) → Type 0
RunsLike = AllZip (λ a b. LikeItems a.clock b.clock a.item b.item)

-- ---- what each packet is

abbrev LikeClassification : Classification → Classification → Type 0
LikeClassification (plain k) (plain l) = k ≡ l
LikeClassification (datagram h c) (datagram i d) = (h ≡ i) × (c ≡ d)
LikeClassification (fragment p) (fragment q) = IsLike p q
LikeClassification (plain k) (datagram i d) = ⊥
LikeClassification (plain k) (fragment q) = ⊥
LikeClassification (datagram h c) (plain l) = ⊥
LikeClassification (datagram h c) (fragment q) = ⊥
LikeClassification (fragment p) (plain l) = ⊥
LikeClassification (fragment p) (datagram i d) = ⊥

piece-like : (header : HeaderFields) (captured : List ℕ) (s t : Stamped) → IsLikeFrame s t
    → IsLike (piece_of header captured s) (piece_of header captured t)
unfolding piece_of
piece-like header captured s t h = record { header = refl; start = refl; more = refl; bytes = refl; stamped = h }

at-like : (c : Carried) (whole : Bool) (s t : Stamped) → IsLikeFrame s t
    → LikeClassification (classify_at c whole s) (classify_at c whole t)
at-like (ipv4 bytes) whole s t h = grind (arith, piece-like, common_steps, nat_tests)
at-like other_link whole s t h = refl
at-like not_ipv4 whole s t h = refl
at-like short whole s t h = refl
at-like ends whole s t h = refl

classify-like : (n m : ℕ) (x y : Taken) → n ≡ m → IsLikeTaken x y → LikeClassification (classify n x) (classify m y)
unfolding classify
classify-like n m x y e h = grind (arith, at-like)

taken-length : (xs ys : List Taken) → LikeTaken xs ys → length xs ≡ length ys
taken-length = length_all_zip IsLikeTaken

-- ---- the groups of fragments

events-with : (l k : Classification) (c d : Option Stamp) (es fs : List Event) → LikeClassification l k
    → IsSameClock c d
    → AllZip LikeEvent es fs
    → AllZip LikeEvent (events_classified l c es) (events_classified k d fs)
events-with l k c d es fs e t h = grind arith

events-like : (xs ys : List Taken) → LikeTaken xs ys → AllZip LikeEvent (events_of xs) (events_of ys)
unfolding events_of
events-like (x ∷ xs) (y ∷ ys) h = search (events-like xs ys h.1, events-with, classify-like, taken-length)
events-like xs ys h = grind arith

groups-like : (xs ys : List Taken) → LikeTaken xs ys → AllZip Like (groups_of xs) (groups_of ys)
groups-like xs ys h = (events-groups open_limit (events_of xs) (events_of ys) (events-like xs ys h)).completed

-- ---- classes

group-class : (ps qs : List Piece) → Like ps qs → group_class ps ≡ group_class qs
unfolding group_class
group-class ps qs h = grind (arith, data-like, header-like)

class-in : (gs ks : List (List Piece)) (n m : ℕ) → AllZip Like gs ks → n ≡ m → class_in gs n ≡ class_in ks m
class-in (g ∷ gs) (k ∷ ks) n m h e = grind (arith, class-in gs ks n m h.1 e, place-like, group-class)
class-in gs ks n m h e = grind arith

class-by : (gs ks : List (List Piece)) (l k : Classification) → AllZip Like gs ks → LikeClassification l k
    → class_by gs l ≡ class_by ks k
class-by gs ks l k h e = grind (arith, class-in)

classes-in : (gs ks : List (List Piece)) (xs ys : List Taken) → AllZip Like gs ks → LikeTaken xs ys
    → classes_in gs xs ≡ classes_in ks ys
classes-in gs ks (x ∷ xs) (y ∷ ys) g h = search (classes-in gs ks xs ys g h.1, class-by, classify-like, taken-length)
classes-in gs ks xs ys g h = grind arith

classes-like : (xs ys : List Taken) → LikeTaken xs ys → classes xs ≡ classes ys
unfolding classes
classes-like xs ys h = classes-in (groups_of xs) (groups_of ys) xs ys (groups-like xs ys h) h

counted-like : (gs ks : List (List Piece)) → AllZip Like gs ks → counted_in gs ≡ counted_in ks
counted-like (g ∷ gs) (k ∷ ks) h =
    λ i. (if Rattle.cap_class.specs.Counting.is_class class.Counted (group-class g k h.0 i) then 1 else 0) +
    counted-like gs ks h.1 i
counted-like gs ks h = grind arith

-- ---- units

unit-by : (l k : Classification) (s t : Stamped) (c d : Option Stamp) (es fs : List Event) → LikeClassification l k
    → IsLikeFrame s t
    → IsSameClock c d → AllZip LikeEvent es fs
    → LikeUnit (unit_by l s c es) (unit_by k t d fs)
unit-by (fragment p) (fragment q) s t c d es fs e f u h =
    let ps = joined_pieces c p (open_groups_after open_limit es) in
    let qs = joined_pieces d q (open_groups_after open_limit fs) in
    first_unit-like (if_complete ps) (if_complete qs)
    (if_complete-alike IsLike pieces-alike ps qs ((events-groups open_limit es fs h).joined c d p q u e))
unit-by l k s t c d es fs e f u h = grind arith

unit-at : (xs ys : List Taken) (x y : Taken) → LikeTaken xs ys → IsLikeTaken x y
    → LikeUnit (unit_at xs x) (unit_at ys y)
unfolding unit_at
unit-at xs ys x y h k = grind (arith, taken-length, unit-by, classify-like, events-like)

listed-like : (u v : Option CountedUnit) → LikeUnit u v → LikeUnits (listed u) (listed v)
listed-like u v h = grind arith

-- ---- where IPv6 packets are read

read-like : (x y : Taken) → IsLikeTaken x y → ipv6_read x.meta x.frame ≡ ipv6_read y.meta y.frame
unfolding ipv6_read
read-like x y h = grind arith

seen-like : (gs ks : List (List Piece)) (xs ys : List Taken) → AllZip Like gs ks → LikeTaken xs ys
    → classes_seen gs xs ≡ classes_seen ks ys
seen-like gs ks (x ∷ xs) (y ∷ ys) g h =
    λ i. class_seen (read-like x y h.0 i)
    (class-by gs ks (classify (length xs) x) (classify (length ys) y) g
    (classify-like (length xs) (length ys) x y (taken-length xs ys h.1) h.0) i)
    ∷ seen-like gs ks xs ys g h.1 i
seen-like gs ks xs ys g h = grind arith

classes-for : (reads : Bool) (xs ys : List Taken) → LikeTaken xs ys → report_classes reads xs ≡ report_classes reads ys
unfolding report_classes
classes-for false xs ys h = classes-like xs ys h
classes-for true xs ys h = seen-like (groups_of xs) (groups_of ys) xs ys (groups-like xs ys h) h

ipv6-like : (r : Reading) (s t : Stamped) → IsLikeFrame s t → LikeUnit (ipv6_unit r s) (ipv6_unit r t)
ipv6-like (Reading.datagram header captured) s t h = grind (arith, between, timed_frame-like)
ipv6-like r s t h = tt

unit_seen-like : (r : Option Reading) (s t : Stamped) (u v : Option CountedUnit) → IsLikeFrame s t → LikeUnit u v
    → LikeUnit (unit_seen r s u) (unit_seen r t v)
unit_seen-like None s t u v h k = k
unit_seen-like (Some r) s t u v h k = ipv6-like r s t h

stamped-like : (n m : ℕ) (x y : Taken) → n ≡ m → IsLikeTaken x y
    → IsLikeFrame (stamped_of n x.meta) (stamped_of m y.meta)
stamped-like n m x y e h = grind arith

unit-for : (reads : Bool) (xs ys : List Taken) (x y : Taken) → LikeTaken xs ys → IsLikeTaken x y
    → LikeUnit (unit_for reads xs x) (unit_for reads ys y)
unfolding unit_for
unit-for false xs ys x y h k = unit-at xs ys x y h k
unit-for true xs ys x y h k =
    subst (λ r. LikeUnit (unit_for true xs x) (unit_seen r (stamped_of (length ys) y.meta) (unit_at ys y)))
    (read-like x y k)
    (unit_seen-like (ipv6_read x.meta x.frame) (stamped_of (length xs) x.meta) (stamped_of (length ys) y.meta)
    (unit_at xs x) (unit_at ys y) (stamped-like (length xs) (length ys) x y (taken-length xs ys h) k)
    (unit-at xs ys x y h k))

units-like : (reads : Bool) (xs ys : List Taken) → LikeTaken xs ys → LikeUnits (units_for reads xs) (units_for reads ys)
unfolding units_for
units-like reads (x ∷ xs) (y ∷ ys) h =
    zip-both _ (units_for reads xs) (units_for reads ys) (listed (unit_for reads xs x)) (listed (unit_for reads ys y))
    (units-like reads xs ys h.1)
    (listed-like (unit_for reads xs x) (unit_for reads ys y) (unit-for reads xs ys x y h.1 h.0))
units-like reads xs ys h = grind arith

talks-like : (reads : Bool) (xs ys : List Taken) → LikeTaken xs ys
    → AllZip IsSameTalk (rows_of (units_for reads xs)) (rows_of (units_for reads ys))
talks-like reads xs ys h = rows-like (units_for reads xs) (units_for reads ys) (units-like reads xs ys h)

-- ---- the lines

bytes-like : (xs ys : List Taken) → LikeTaken xs ys → taken_bytes xs ≡ taken_bytes ys
bytes-like (x ∷ xs) (y ∷ ys) h = λ i. bytes-like xs ys h.1 i + h.0.original i
bytes-like xs ys h = grind arith

truncated-like : (xs ys : List Taken) → LikeTaken xs ys → truncated_of xs ≡ truncated_of ys
truncated-like (x ∷ xs) (y ∷ ys) h = λ i. truncated-like xs ys h.1 i +
    (if nat_lt (length (h.0.frame i)) (h.0.original i) then 1 else 0)
truncated-like xs ys h = grind arith

lines-like : (reads : Bool) (xs ys : List Taken) → LikeTaken xs ys → counts_text reads xs ≡ counts_text reads ys
lines-like reads xs ys h =
    let groups = events-groups open_limit (events_of xs) (events_of ys) (events-like xs ys h) in
    let rows = length_all_zip IsSameTalk (rows_of (units_for reads xs)) (rows_of (units_for reads ys))
    (talks-like reads xs ys h) in
    λ i. total_text (taken-length xs ys h i) (bytes-like xs ys h i) (truncated-like xs ys h i)
    ++ line_in (Text Exact) (frames_facts_for reads (counts_of (classes-for reads xs ys h i)))
    ++ joined_text (counted-like (groups_of xs) (groups_of ys) groups.completed i) (groups.given_up i)
    ++ talks_text (rows i)

pub body-parts : BodyParts
unfolding body_for counts_text_for
body-parts reads xs = refl

-- ---- refusals

limit-by : (reads : Bool) (xs ys : List Taken) (u v : Option CountedUnit) → LikeTaken xs ys → LikeUnit u v
    → option_map_or (λ unit. is_refused talk_limit (rows_of (units_for reads xs)) (talk_key unit)) u false
    ≡ option_map_or (λ unit. is_refused talk_limit (rows_of (units_for reads ys)) (talk_key unit)) v false
limit-by reads xs ys u v h k = grind (arith, refused-like, key-like, talks-like)

limit-like : (reads : Bool) (xs ys : List Taken) (x y : Taken) → LikeTaken xs ys → IsLikeTaken x y
    → is_limit_for reads xs x ≡ is_limit_for reads ys y
limit-like reads xs ys x y h k =
    limit-by reads xs ys (unit_for reads xs x) (unit_for reads ys y) h (unit-for reads xs ys x y h k)

refused-here : (reads : Bool) (c d : Option Stamp) (a b : Item) (xs ys : List Taken) (p q : Option Place)
    → LikeItems c d a b → LikeTaken xs ys → p ≡ q
    → refusal_place_or (length xs) (refusal_here_for reads xs c a) p
    ≡ refusal_place_or (length ys) (refusal_here_for reads ys d b) q
refused-here reads c d (packet m f) (packet n g) xs ys p q h k e = grind (arith, limit-like, taken-length)
refused-here reads c d a b xs ys p q h k e = grind arith

-- ---- runs

with-like : (c d : Option Stamp) (a b : Item) (xs ys : List Taken) → LikeItems c d a b → LikeTaken xs ys
    → LikeTaken (with_item c a xs) (with_item d b ys)
with-like c d a b xs ys h k = grind arith

taken-like : (as_ bs : List (Clocked Item)) (xs ys : List Taken) → RunsLike as_ bs → LikeTaken xs ys
    → LikeTaken (taken_after xs as_) (taken_after ys bs)
unfolding taken_after
taken-like (a ∷ as_) (b ∷ bs) xs ys h k = grind (
  arith,
  taken-like as_ bs (with_item a.clock a.item xs) (with_item b.clock b.item ys) h.1
      (with-like a.clock b.clock a.item b.item xs ys h.0 k),
)
taken-like as_ bs xs ys h k = grind arith

pub refusals-like : (reads : Bool) (as_ bs : List (Clocked Item)) (xs ys : List Taken) → RunsLike as_ bs
    → LikeTaken xs ys → refused_after reads xs as_ ≡ refused_after reads ys bs
unfolding refused_after
refusals-like reads (a ∷ as_) (b ∷ bs) xs ys h k =
    refused-here reads a.clock b.clock a.item b.item xs ys _ _ h.0 k
    (refusals-like reads as_ bs (with_item a.clock a.item xs) (with_item b.clock b.item ys) h.1
    (with-like a.clock b.clock a.item b.item xs ys h.0 k))
refusals-like reads as_ bs xs ys h k = grind arith

pub same-but-forms : (run again : List (Clocked Item)) → RunsLike run again → SameButForms run again
same-but-forms run again h =
    let taken = taken-like run again [] [] h tt in
    record {
      lines = λ reads. sym (lines-like reads (taken_after [] run) (taken_after [] again) taken);
      talks = λ reads. talks-like reads (taken_after [] run) (taken_after [] again) taken;
      refused = λ reads. sym (refusals-like reads run again [] [] h tt);
    }
