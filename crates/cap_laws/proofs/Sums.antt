-- Of packets that are no IPv4 fragments, the report is a sum over the packets, and so over the files, whether it reads
-- IPv6 packets or not.
use Rattle.std.proofs.Common.{◌≡◌, ◌+◌, ◌++◌, ℕ, List, [], ◌∷◌, map, Bool, true, false, Option, Some, None, refl, sym}
use Rattle.std.proofs.Common.{ap}
use Rattle.std.proofs.Common.{◌∙◌, arith, filter, length, option_map}
use Rattle.std.specs.Prelude.{if◌then◌else◌, not, ◌&&◌, ◌||◌, ◌==◌}
use Rattle.std.specs.List.{list_any, sum_by}
use Rattle.std.proofs.lemmas.List.Elements.{filter-append}
use Rattle.std.proofs.lemmas.List.Sums.{sum_by-cons}
use Rattle.cap_bytes.specs.declared.faults.Tail.{Tail}
use Rattle.cap_class.specs.Taken.{Classification, Taken, classify, classify_at, classify_by, classify_in, datagram}
use Rattle.cap_class.specs.Taken.{events_classified}
use Rattle.cap_class.specs.Taken.{events_of, fragment, plain, stamped_of, taken}
use Rattle.cap_class.specs.declared.classes.Class.{Class}
use Rattle.cap_ip.specs.Header.{HeaderFields}
use Rattle.cap_ip.specs.Read.{Reading, bad, cut, found, read_of}
use Rattle.cap_ip.specs.Transport.{transport_of}
use Rattle.cap_ip.specs.declared.headers.Fragment.{Fragment}
use Rattle.cap_ipv6.specs.Read as ipv6
use Rattle.cap_join.specs.Completed.{completed_pieces_at}
use Rattle.cap_join.specs.History.{Event}
use Rattle.cap_join.specs.Places.{marks, times_given_up}
use Rattle.cap_laws.specs.InOrder.{classes_at, groups_at, marks_of, unit_after, unit_after_for, unit_by_places}
use Rattle.cap_laws.specs.InOrder.{units_at}
use Rattle.cap_join.specs.Joiners.{open_limit}
use Rattle.cap_join.specs.declared.datagrams.Stamped.{Stamped}
use Rattle.cap_laws.proofs.RowTimes.{greatest-from, least-by}
use Rattle.cap_laws.proofs.Totals.{IsSum, adds_up, totals-law}
use Rattle.cap_laws.specs.Sums.{LoneClasses, ReportSums, is_by, is_from, is_part, parts_among}
use Rattle.cap_laws.specs.Sums.{row_among}
use Rattle.cap_laws.specs.again.Rounds.{in_file}
use Rattle.cap_link.specs.Links.{is_captured_whole, network_of}
use Rattle.cap_link.specs.Seen.{Carried}
use Rattle.cap_link.specs.Seen as carries
use Rattle.cap_merge.specs.Files.{clocked_run, run_of_files}
use Rattle.cap_merge.specs.Run.{Clocked}
use Rattle.cap_source.specs.Feed.{Item, packet, refused, refusal_of}
use Rattle.cap_source.specs.declared.packets.Meta.{Meta}
use Rattle.cap_talks.specs.declared.table.rows.TalkKey.{TalkKey}
use Rattle.cap_talks.specs.declared.table.rows.TalkRow.{TalkRow}
use Rattle.cap_talks.specs.declared.table.units.Address.TheVariants.{Ipv4, Ipv6}
use Rattle.cap_talks.specs.declared.table.units.CountedUnit.{CountedUnit}
use Rattle.cap_talks.specs.declared.table.units.Endpoint.{Endpoint}
use Rattle.cap_talks.specs.table.CountedUnits.{counted_in, listed, timed_frame, unit_of, unit_seen, whole_unit}
use Rattle.cap_class.specs.Counting.{is_class, times}
use Rattle.cap_class.specs.Classes.{class_by, classes_in, lone_class}
use Rattle.cap_class.specs.Ipv6.{class_seen, classes_seen, ipv6_read, lone_class_for}
use Rattle.cap_talks.specs.table.Conversations.{frame_time, frames_of, is_forward, same_talk, talk_key, units_bytes}
use Rattle.cap_talks.specs.table.Conversations.{units_of_talk}
use Rattle.cap_talks.specs.table.Units.{ends_of}
use Rattle.cap_time.specs.declared.stamps.Stamp.{Stamp}
use Rattle.cap_source.specs.Times.{meta_time}
use Rattle.cap_class.specs.Runs.{taken_after, with_item}

-- ---- what holds of packets that are no IPv4 fragments

-- what each of some packets adds, if it is no IPv4 fragment, and the sum
pub record IsSumOf (count : List Taken → ℕ) (adds : Item → ℕ) : Type 0 where
  pub sum : List Taken → ℕ
  pub is : IsSum sum adds
  pub same : (xs : List Taken) → parts_among xs ≡ 0 → count xs ≡ sum xs

-- what one packet is counted as
one_part : Item → ℕ
one_part (packet meta frame) = if is_part (classify 0 (taken None meta frame)) then 1 else 0
one_part (refused refusal) = 0

part_step : (x : Clocked Item) (i : Item) (xs : List Taken)
    → parts_among (with_item x.clock i xs) ≡ parts_among xs + one_part i
unfolding one_part classify
part_step x (packet meta frame) xs = refl
part_step x (refused refusal) xs = omega arith

part_numbered : (file : ℕ) (x : Item) → one_part (in_file file x) ≡ one_part x
unfolding one_part classify
part_numbered file (packet meta frame) = refl
part_numbered file (refused refusal) = refl

-- lists without fragments
same_sums : (f g : List Taken → ℕ) → ((xs : List Taken) → parts_among xs ≡ 0 → f xs ≡ g xs)
    → (each : List (List Taken)) → sum_by parts_among each ≡ 0 → sum_by f each ≡ sum_by g each
same_sums f g same [] none = refl
same_sums f g same (xs ∷ each) none =
    let sums = sum_by-cons parts_among xs each in
    sum_by-cons f xs each
    ∙ (λ i. same xs (omega (arith, none, sums)) i + same_sums f g same each (omega (arith, none, sums)) i)
    ∙ sym (sum_by-cons g xs each)

-- so a count that is a sum over packets which are no fragments adds up
of_files : (count : List Taken → ℕ) (adds : Item → ℕ) → IsSumOf count adds → (tail : Tail) (files : List (List ℕ))
    → refusal_of (run_of_files tail files) ≡ None
    → parts_among (taken_after [] (clocked_run tail files)) ≡ 0
    → count (taken_after [] (clocked_run tail files))
    ≡ sum_by count (map (λ bytes. taken_after [] (clocked_run tail (bytes ∷ []))) files)
of_files count adds it tail files none lone =
    let each = map (λ bytes. taken_after [] (clocked_run tail (bytes ∷ []))) files in
    let parts = adds_up parts_among one_part
    (record { none = refl; step = λ x. part_step x x.item; numbered = part_numbered }) tail files none in
    it.same (taken_after [] (clocked_run tail files)) lone
    ∙ adds_up it.sum adds it.is tail files none
    ∙ sym (same_sums count it.sum it.same each (sym parts ∙ lone))

-- ---- classes

-- the class of each packet alone
lone_classes : Bool → List Taken → List Class
lone_classes reads xs = map (λ x. lone_class_for reads x.meta x.frame) xs

-- a packet's class without groups is the same at every place
by-place : (o : Option Fragment) (h : HeaderFields) (captured : List ℕ) (s t : Stamped)
    → class_by [] (classify_by o h captured s) ≡ class_by [] (classify_by o h captured t)
by-place None h captured s t = refl
by-place (Some it) h captured s t = refl

in-place : (r : Reading) (s t : Stamped) → class_by [] (classify_in r s) ≡ class_by [] (classify_in r t)
in-place (found header captured) s t = by-place header.fragment header captured s t
in-place bad s t = refl
in-place cut s t = refl

carried-place : (k : Carried) (whole : Bool) (s t : Stamped)
    → class_by [] (classify_at k whole s) ≡ class_by [] (classify_at k whole t)
carried-place (carries.ipv4 bytes) whole s t = in-place (read_of bytes whole) s t
carried-place carries.other_link whole s t = refl
carried-place carries.not_ipv4 whole s t = refl
carried-place carries.short whole s t = refl
carried-place carries.cut whole s t = refl

lone-place : (n : ℕ) (clock : Option Stamp) (meta : Meta) (frame : List ℕ)
    → class_by [] (classify n (taken clock meta frame)) ≡ lone_class meta frame
unfolding classify lone_class
lone-place n clock meta frame =
    carried-place (network_of meta.interface.link frame meta.original) (is_captured_whole frame meta.original)
    (stamped_of n meta) (stamped_of 0 meta)

lone-in : (xs : List Taken) → classes_in [] xs ≡ map (λ x. lone_class x.meta x.frame) xs
lone-in [] = refl
lone-in (x ∷ xs) = λ i. lone-place (length xs) x.clock x.meta x.frame i ∷ lone-in xs i

lone-seen : (xs : List Taken) → classes_seen [] xs ≡ lone_classes true xs
unfolding lone_classes lone_class_for
lone-seen [] = refl
lone-seen (x ∷ xs) = λ i.
    class_seen (ipv6_read x.meta x.frame) (lone-place (length xs) x.clock x.meta x.frame i) ∷ lone-seen xs i

one_of_class : Bool → Class → Item → ℕ
one_of_class reads c (packet meta frame) = if is_class c (lone_class_for reads meta frame) then 1 else 0
one_of_class reads c (refused refusal) = 0

class_step : (reads : Bool) (c : Class) (x : Clocked Item) (i : Item) (xs : List Taken)
    → times c (lone_classes reads (with_item x.clock i xs)) ≡ times c (lone_classes reads xs) + one_of_class reads c i
unfolding lone_classes one_of_class
class_step reads c x (packet meta frame) xs = omega arith
class_step reads c x (refused refusal) xs = omega arith

class_numbered : (reads : Bool) (c : Class) (file : ℕ) (x : Item)
    → one_of_class reads c (in_file file x) ≡ one_of_class reads c x
unfolding one_of_class lone_class_for lone_class classify ipv6_read
class_numbered false c file (packet meta frame) = refl
class_numbered true c file (packet meta frame) = refl
class_numbered reads c file (refused refusal) = refl

-- ---- no groups

-- whether a packet is a fragment doesn't hang on its place
part-by : (o : Option Fragment) (h : HeaderFields) (captured : List ℕ) (s t : Stamped)
    → is_part (classify_by o h captured s) ≡ is_part (classify_by o h captured t)
part-by None h captured s t = refl
part-by (Some it) h captured s t = refl

part-in : (r : Reading) (s t : Stamped) → is_part (classify_in r s) ≡ is_part (classify_in r t)
part-in (found header captured) s t = part-by header.fragment header captured s t
part-in bad s t = refl
part-in cut s t = refl

part-carried : (k : Carried) (whole : Bool) (s t : Stamped)
    → is_part (classify_at k whole s) ≡ is_part (classify_at k whole t)
part-carried (carries.ipv4 bytes) whole s t = part-in (read_of bytes whole) s t
part-carried carries.other_link whole s t = refl
part-carried carries.not_ipv4 whole s t = refl
part-carried carries.short whole s t = refl
part-carried carries.cut whole s t = refl

not-one : (b : Bool) (n : ℕ) → n + (if b then 1 else 0) ≡ 0 → b ≡ false
not-one true n h = absurd (omega (arith, h))
not-one false n h = refl

-- the latest packet is no fragment, nor is one before it
no-part : (x : Taken) (xs : List Taken) → parts_among (x ∷ xs) ≡ 0 → is_part (classify (length xs) x) ≡ false
unfolding classify
no-part x xs none =
    part-carried (network_of x.meta.interface.link x.frame x.meta.original)
    (is_captured_whole x.frame x.meta.original) (stamped_of (length xs) x.meta) (stamped_of 0 x.meta)
    ∙ not-one (is_part (classify 0 x)) (parts_among xs) none

no-parts : (x : Taken) (xs : List Taken) → parts_among (x ∷ xs) ≡ 0 → parts_among xs ≡ 0
no-parts x xs none = omega (arith, none)

completed-same : (k : Classification) (clock : Option Stamp) (events : List Event) → is_part k ≡ false
    → completed_pieces_at (marks open_limit (events_classified k clock events))
    ≡ completed_pieces_at (marks open_limit events)
completed-same (plain c) clock events h = refl
completed-same (datagram header captured) clock events h = refl
completed-same (fragment p) clock events h = grind (arith, h)

no-groups : (xs : List Taken) → parts_among xs ≡ 0 → groups_at xs ≡ []
unfolding events_of
no-groups [] none = refl
no-groups (x ∷ xs) none =
    completed-same (classify (length xs) x) x.clock (events_of xs) (no-part x xs none)
    ∙ no-groups xs (no-parts x xs none)

given-same : (k : Classification) (clock : Option Stamp) (events : List Event) → is_part k ≡ false
    → times_given_up (marks open_limit (events_classified k clock events)) ≡ times_given_up (marks open_limit events)
given-same (plain c) clock events h = refl
given-same (datagram header captured) clock events h = refl
given-same (fragment p) clock events h = grind (arith, h)

none-given : (xs : List Taken) → parts_among xs ≡ 0 → times_given_up (marks_of xs) ≡ 0
unfolding events_of
none-given [] none = refl
none-given (x ∷ xs) none =
    given-same (classify (length xs) x) x.clock (events_of xs) (no-part x xs none)
    ∙ none-given xs (no-parts x xs none)

pub lone-law : LoneClasses
unfolding lone_classes lone_class_for
lone-law false xs none = ap (λ groups. classes_in groups xs) (no-groups xs none) ∙ lone-in xs
lone-law true xs none = ap (λ groups. classes_seen groups xs) (no-groups xs none) ∙ lone-seen xs

of_class : (reads : Bool) (c : Class) → IsSumOf (λ xs. times c (classes_at reads xs)) (one_of_class reads c)
unfolding lone_classes
of_class reads c =
    record {
      sum = λ xs. times c (lone_classes reads xs);
      is = record { none = refl; step = λ x. class_step reads c x x.item; numbered = class_numbered reads c };
      same = λ xs none. ap (times c) (lone-law reads xs none);
    }

-- nothing is joined or given up
nothing : (count : List Taken → ℕ) → ((xs : List Taken) → parts_among xs ≡ 0 → count xs ≡ 0)
    → IsSumOf count (λ item. 0)
nothing count none =
    record {
      sum = λ xs. 0;
      is = record { none = refl; step = λ x xs. refl; numbered = λ file x. refl };
      same = none;
    }

-- ---- rows

-- a sum over units
record Adds (total : List CountedUnit → ℕ) (each : CountedUnit → ℕ) : Type 0 where
  empty : total [] ≡ 0
  more : (unit : CountedUnit) (units : List CountedUnit) → total (unit ∷ units) ≡ each unit + total units

-- what a unit adds to a total over those of a conversation in a direction
of_unit : TalkKey → (CountedUnit → Bool) → (CountedUnit → ℕ) → Option CountedUnit → ℕ
of_unit key dir each None = 0
of_unit key dir each (Some unit) = if same_talk key (talk_key unit) && dir unit then each unit else 0

-- the unit of a packet that is no fragment
own_unit : Classification → Stamped → Option CountedUnit
own_unit (plain c) stamped = None
own_unit (datagram header captured) stamped = whole_unit header captured stamped
own_unit (fragment p) stamped = None

own-is : (k : Classification) (stamped : Stamped) (clock : Option Stamp) (events : List Event) → is_part k ≡ false
    → unit_by_places k stamped clock events ≡ own_unit k stamped
unfolding own_unit
own-is (plain c) stamped clock events h = refl
own-is (datagram header captured) stamped clock events h = refl
own-is (fragment p) stamped clock events h = grind (arith, h)

total-append : (total : List CountedUnit → ℕ) (each : CountedUnit → ℕ) → Adds total each
    → (us vs : List CountedUnit) → total (us ++ vs) ≡ total us + total vs
total-append total each adds [] vs = omega (arith, adds.empty)
total-append total each adds (u ∷ us) vs =
    omega (arith, adds.more u (us ++ vs), adds.more u us, total-append total each adds us vs)

-- a total over the units of a conversation in a direction
of_row : (List CountedUnit → ℕ) → (CountedUnit → Bool) → TalkKey → List CountedUnit → ℕ
of_row total dir key units = total (filter dir (units_of_talk key units))

single : (total : List CountedUnit → ℕ) (each : CountedUnit → ℕ) → Adds total each → (dir : CountedUnit → Bool)
    (key : TalkKey) (unit : CountedUnit) (b d : Bool) → same_talk key (talk_key unit) ≡ b → dir unit ≡ d
    → of_row total dir key (unit ∷ []) ≡ (if b && d then each unit else 0)
unfolding of_row
single total each adds dir key unit false d is so = rw is (adds.empty)
single total each adds dir key unit true false is so = rw (is, so) (adds.empty)
single total each adds dir key unit true true is so =
    rw (is, so) (omega (arith, adds.more unit [], adds.empty))

row-listed : (total : List CountedUnit → ℕ) (each : CountedUnit → ℕ) → Adds total each → (dir : CountedUnit → Bool)
    (key : TalkKey) (unit : Option CountedUnit) → of_row total dir key (listed unit) ≡ of_unit key dir each unit
unfolding of_row of_unit
row-listed total each adds dir key None = adds.empty
row-listed total each adds dir key (Some unit) =
    single total each adds dir key unit (same_talk key (talk_key unit)) (dir unit) refl refl

row-append : (total : List CountedUnit → ℕ) (each : CountedUnit → ℕ) → Adds total each → (dir : CountedUnit → Bool)
    (key : TalkKey) (us vs : List CountedUnit)
    → of_row total dir key (us ++ vs) ≡ of_row total dir key us + of_row total dir key vs
unfolding of_row
row-append total each adds dir key us vs =
    let own : CountedUnit → Bool = λ unit. same_talk key (talk_key unit) in
    ap (λ l. total (filter dir l)) (filter-append own us vs)
    ∙ ap total (filter-append dir (filter own us) (filter own vs))
    ∙ total-append total each adds (filter dir (filter own us)) (filter dir (filter own vs))

-- A function of units reads nothing of their places.
record ReadsNoPlace {A : Type 0} (f : CountedUnit → A) : Type 0 where
  same : (protocol bytes n m : ℕ) (meta : Meta) (ends : Endpoint × Endpoint)
      → f (unit_of protocol 1 bytes (timed_frame (Some (stamped_of n meta)))
      (timed_frame (Some (stamped_of n meta))) ends)
      ≡ f (unit_of protocol 1 bytes (timed_frame (Some (stamped_of m meta)))
      (timed_frame (Some (stamped_of m meta))) ends)

own-ends : (dir : CountedUnit → Bool) (each : CountedUnit → ℕ) → ReadsNoPlace dir → ReadsNoPlace each → (key : TalkKey)
    (protocol bytes n m : ℕ) (meta : Meta) (ends : Option (Endpoint × Endpoint))
    → of_unit key dir each (option_map (unit_of protocol 1 bytes (timed_frame (Some (stamped_of n meta)))
    (timed_frame (Some (stamped_of n meta)))) ends)
    ≡ of_unit key dir each (option_map (unit_of protocol 1 bytes (timed_frame (Some (stamped_of m meta)))
    (timed_frame (Some (stamped_of m meta)))) ends)
unfolding of_unit
own-ends dir each d e key protocol bytes n m meta None = refl
own-ends dir each d e key protocol bytes n m meta (Some ends) =
    λ i. if same_talk key (talk_key (unit_of protocol 1 bytes (timed_frame (Some (stamped_of n meta)))
    (timed_frame (Some (stamped_of n meta))) ends)) && d.same protocol bytes n m meta ends i
    then e.same protocol bytes n m meta ends i else 0

own-by : (dir : CountedUnit → Bool) (each : CountedUnit → ℕ) → ReadsNoPlace dir → ReadsNoPlace each → (key : TalkKey)
    (o : Option Fragment) (h : HeaderFields) (captured : List ℕ) (n m : ℕ) (meta : Meta)
    → of_unit key dir each (own_unit (classify_by o h captured (stamped_of n meta)) (stamped_of n meta))
    ≡ of_unit key dir each (own_unit (classify_by o h captured (stamped_of m meta)) (stamped_of m meta))
unfolding own_unit
own-by dir each d e key None h captured n m meta =
    own-ends dir each d e key h.key.protocol meta.original n m meta
    (ends_of (Ipv4 h.key.source) (Ipv4 h.key.destination) (transport_of h.key.protocol captured h.data_length))
own-by dir each d e key (Some it) h captured n m meta = refl

own-in : (dir : CountedUnit → Bool) (each : CountedUnit → ℕ) → ReadsNoPlace dir → ReadsNoPlace each → (key : TalkKey)
    (r : Reading) (n m : ℕ) (meta : Meta)
    → of_unit key dir each (own_unit (classify_in r (stamped_of n meta)) (stamped_of n meta))
    ≡ of_unit key dir each (own_unit (classify_in r (stamped_of m meta)) (stamped_of m meta))
unfolding own_unit
own-in dir each d e key (found header captured) n m meta =
    own-by dir each d e key header.fragment header captured n m meta
own-in dir each d e key bad n m meta = refl
own-in dir each d e key cut n m meta = refl

own-carried : (dir : CountedUnit → Bool) (each : CountedUnit → ℕ) → ReadsNoPlace dir → ReadsNoPlace each
    → (key : TalkKey) (k : Carried) (whole : Bool) (n m : ℕ) (meta : Meta)
    → of_unit key dir each (own_unit (classify_at k whole (stamped_of n meta)) (stamped_of n meta))
    ≡ of_unit key dir each (own_unit (classify_at k whole (stamped_of m meta)) (stamped_of m meta))
unfolding own_unit
own-carried dir each d e key (carries.ipv4 bytes) whole n m meta =
    own-in dir each d e key (read_of bytes whole) n m meta
own-carried dir each d e key carries.other_link whole n m meta = refl
own-carried dir each d e key carries.not_ipv4 whole n m meta = refl
own-carried dir each d e key carries.short whole n m meta = refl
own-carried dir each d e key carries.cut whole n m meta = refl

own-seen : (dir : CountedUnit → Bool) (each : CountedUnit → ℕ) → ReadsNoPlace dir → ReadsNoPlace each → (key : TalkKey)
    (o : Option ipv6.Reading) (u v : Option CountedUnit) (n m : ℕ) (meta : Meta)
    → of_unit key dir each u ≡ of_unit key dir each v
    → of_unit key dir each (unit_seen o (stamped_of n meta) u)
    ≡ of_unit key dir each (unit_seen o (stamped_of m meta) v)
own-seen dir each d e key None u v n m meta same = same
own-seen dir each d e key (Some (ipv6.datagram header captured)) u v n m meta same =
    own-ends dir each d e key header.protocol meta.original n m meta
    (ends_of (Ipv6 header.source) (Ipv6 header.destination)
    (transport_of header.protocol captured header.data_length))
own-seen dir each d e key (Some (ipv6.fragment f)) u v n m meta same = refl
own-seen dir each d e key (Some (ipv6.bad why)) u v n m meta same = refl
own-seen dir each d e key (Some (ipv6.cut why)) u v n m meta same = refl

-- the unit of a packet by itself, of IPv4 and in a report that reads IPv6 packets or not
lone_unit : Meta → List ℕ → Option CountedUnit
lone_unit meta frame = own_unit (classify 0 (taken None meta frame)) (stamped_of 0 meta)

lone_unit_for : Bool → Meta → List ℕ → Option CountedUnit
lone_unit_for false meta frame = lone_unit meta frame
lone_unit_for true meta frame = unit_seen (ipv6_read meta frame) (stamped_of 0 meta) (lone_unit meta frame)

-- what a packet adds by itself, and the sum over some
own_value : Bool → TalkKey → (CountedUnit → Bool) → (CountedUnit → ℕ) → Meta → List ℕ → ℕ
own_value reads key dir each meta frame = of_unit key dir each (lone_unit_for reads meta frame)

one_value : Bool → TalkKey → (CountedUnit → Bool) → (CountedUnit → ℕ) → Item → ℕ
one_value reads key dir each (packet meta frame) = own_value reads key dir each meta frame
one_value reads key dir each (refused refusal) = 0

own_values : Bool → TalkKey → (CountedUnit → Bool) → (CountedUnit → ℕ) → List Taken → ℕ
own_values reads key dir each [] = 0
own_values reads key dir each (x ∷ xs) =
    own_values reads key dir each xs + own_value reads key dir each x.meta x.frame

value_step : (reads : Bool) (key : TalkKey) (dir : CountedUnit → Bool) (each : CountedUnit → ℕ) (x : Clocked Item)
    (i : Item) (xs : List Taken)
    → own_values reads key dir each (with_item x.clock i xs)
    ≡ own_values reads key dir each xs + one_value reads key dir each i
unfolding own_values one_value
value_step reads key dir each x (packet meta frame) xs = refl
value_step reads key dir each x (refused refusal) xs = omega arith

value_numbered : (reads : Bool) (key : TalkKey) (dir : CountedUnit → Bool) (each : CountedUnit → ℕ) (file : ℕ)
    (x : Item) → one_value reads key dir each (in_file file x) ≡ one_value reads key dir each x
unfolding one_value own_value lone_unit_for lone_unit classify ipv6_read
value_numbered false key dir each file (packet meta frame) = refl
value_numbered true key dir each file (packet meta frame) = refl
value_numbered reads key dir each file (refused refusal) = refl

-- what the unit at a packet adds
at-ipv4 : (dir : CountedUnit → Bool) (each : CountedUnit → ℕ) → ReadsNoPlace dir → ReadsNoPlace each → (key : TalkKey)
    (x : Taken) (xs : List Taken) → parts_among (x ∷ xs) ≡ 0
    → of_unit key dir each (unit_after xs x) ≡ of_unit key dir each (lone_unit x.meta x.frame)
unfolding lone_unit classify
at-ipv4 dir each d e key x xs none =
    ap (of_unit key dir each)
    (own-is (classify (length xs) x) (stamped_of (length xs) x.meta) x.clock (events_of xs) (no-part x xs none))
    ∙ own-carried dir each d e key (network_of x.meta.interface.link x.frame x.meta.original)
    (is_captured_whole x.frame x.meta.original) (length xs) 0 x.meta

at-packet : (reads : Bool) (dir : CountedUnit → Bool) (each : CountedUnit → ℕ) → ReadsNoPlace dir → ReadsNoPlace each
    → (key : TalkKey) (x : Taken) (xs : List Taken) → parts_among (x ∷ xs) ≡ 0
    → of_unit key dir each (unit_after_for reads xs x) ≡ own_value reads key dir each x.meta x.frame
unfolding own_value lone_unit_for
at-packet false dir each d e key x xs none = at-ipv4 dir each d e key x xs none
at-packet true dir each d e key x xs none =
    own-seen dir each d e key (ipv6_read x.meta x.frame) (unit_after xs x) (lone_unit x.meta x.frame) (length xs) 0
    x.meta (at-ipv4 dir each d e key x xs none)

row-same : (reads : Bool) (total : List CountedUnit → ℕ) (each : CountedUnit → ℕ) (dir : CountedUnit → Bool)
    → Adds total each → ReadsNoPlace dir → ReadsNoPlace each → (key : TalkKey) (xs : List Taken) → parts_among xs ≡ 0
    → of_row total dir key (units_at reads xs) ≡ own_values reads key dir each xs
unfolding units_at own_values of_unit
row-same reads total each dir adds d e key [] none = row-listed total each adds dir key None
row-same reads total each dir adds d e key (x ∷ xs) none =
    row-append total each adds dir key (units_at reads xs) (listed (unit_after_for reads xs x))
    ∙ (λ i. row-same reads total each dir adds d e key xs (no-parts x xs none) i
    + (row-listed total each adds dir key (unit_after_for reads xs x)
    ∙ at-packet reads dir each d e key x xs none) i)

of_talk : (reads : Bool) (total : List CountedUnit → ℕ) (each : CountedUnit → ℕ) (dir : CountedUnit → Bool)
    → Adds total each → ReadsNoPlace dir → ReadsNoPlace each → (key : TalkKey)
    → IsSumOf (λ xs. of_row total dir key (units_at reads xs)) (one_value reads key dir each)
unfolding own_values
of_talk reads total each dir adds d e key =
    record {
      sum = own_values reads key dir each;
      is = record {
        none = refl;
        step = λ x. value_step reads key dir each x x.item;
        numbered = value_numbered reads key dir each;
      };
      same = row-same reads total each dir adds d e key;
    }

-- ---- times

-- the time of a frame doesn't hang on its place
time-of : (n m : ℕ) (time : Option Stamp)
    → frame_time (option_map (λ time. record { time = time; place = n }) time)
    ≡ frame_time (option_map (λ time. record { time = time; place = m }) time)
time-of n m None = refl
time-of n m (Some time) = refl

units-add : Adds length (λ unit. 1)
units-add = record { empty = refl; more = λ unit units. omega arith }

one-of-two : (a b : ℕ) → not (a + b == 0) ≡ (not (a == 0) || not (b == 0))
one-of-two a b = grind arith

-- a sum isn't 0 exactly if one of its terms isn't
any-of : (count : List Taken → ℕ) (each : List (List Taken))
    → not (sum_by count each == 0) ≡ list_any (λ xs. not (count xs == 0)) each
any-of count [] = refl
any-of count (xs ∷ each) =
    ap (λ n. not (n == 0)) (sum_by-cons count xs each)
    ∙ one-of-two (count xs) (sum_by count each)
    ∙ ap (λ b. not (count xs == 0) || b) (any-of count each)

any-rows : (p : TalkRow → Bool) (row : List Taken → TalkRow) (q : List Taken → Bool)
    → ((xs : List Taken) → p (row xs) ≡ q xs) → (each : List (List Taken))
    → list_any q each ≡ list_any p (map row each)
any-rows p row q is [] = refl
any-rows p row q is (xs ∷ each) = λ i. sym (is xs) i || any-rows p row q is each i

-- ---- the law

sum-rows : (f : TalkRow → ℕ) (row : List Taken → TalkRow) (each : List (List Taken))
    → sum_by (λ xs. f (row xs)) each ≡ sum_by f (map row each)
sum-rows f row [] = refl
sum-rows f row (xs ∷ each) =
    sum_by-cons (λ xs. f (row xs)) xs each ∙ ap (λ n. f (row xs) + n) (sum-rows f row each)
    ∙ sym (sum_by-cons f (row xs) (map row each))

frames-add : Adds frames_of (λ unit. unit.frames)
frames-add = record { empty = refl; more = λ unit units. refl }

bytes-add : Adds units_bytes (λ unit. unit.bytes)
bytes-add = record { empty = refl; more = λ unit units. refl }

-- the reports over each file
over_each : Tail → List (List ℕ) → List (List Taken)
over_each tail files = map (λ bytes. taken_after [] (clocked_run tail (bytes ∷ []))) files

-- a count of a row
count-rows : (reads : Bool) (f : TalkRow → ℕ) (total : List CountedUnit → ℕ) (value : CountedUnit → ℕ)
    (dir : CountedUnit → Bool) → Adds total value → ReadsNoPlace dir → ReadsNoPlace value → (key : TalkKey)
    → ((xs : List Taken) → f (row_among reads key xs) ≡ of_row total dir key (units_at reads xs))
    → (tail : Tail) (files : List (List ℕ)) → refusal_of (run_of_files tail files) ≡ None
    → parts_among (taken_after [] (clocked_run tail files)) ≡ 0
    → f (row_among reads key (taken_after [] (clocked_run tail files)))
    ≡ sum_by f (map (row_among reads key) (over_each tail files))
unfolding over_each
count-rows reads f total value dir adds d e key is tail files none lone =
    let row = of_talk reads total value dir adds d e key in
    of_files (λ xs. f (row_among reads key xs)) (one_value reads key dir value)
    (record { sum = row.sum; is = row.is; same = λ xs no. is xs ∙ row.same xs no }) tail files none lone
    ∙ sum-rows f (row_among reads key) (over_each tail files)

-- whether a row has a time, as one of its units has
time-rows : (reads : Bool) (q : TalkRow → Bool) (dir : CountedUnit → Bool) → ReadsNoPlace dir → (key : TalkKey)
    → ((xs : List Taken) → q (row_among reads key xs)
    ≡ not (length (filter dir (units_of_talk key (units_at reads xs))) == 0))
    → (tail : Tail) (files : List (List ℕ)) → refusal_of (run_of_files tail files) ≡ None
    → parts_among (taken_after [] (clocked_run tail files)) ≡ 0
    → q (row_among reads key (taken_after [] (clocked_run tail files)))
    ≡ list_any q (map (row_among reads key) (over_each tail files))
unfolding over_each of_row
time-rows reads q dir same key is tail files none lone =
    let each = over_each tail files in
    let count : List Taken → ℕ = λ xs. length (filter dir (units_of_talk key (units_at reads xs))) in
    let one : ReadsNoPlace (λ (unit : CountedUnit). 1) = record { same = λ p b n m meta ends. refl } in
    is (taken_after [] (clocked_run tail files))
    ∙ ap (λ n. not (n == 0)) (of_files count (one_value reads key dir (λ unit. 1))
    (of_talk reads length (λ unit. 1) dir units-add same one key) tail files none lone)
    ∙ any-of count each
    ∙ any-rows q (row_among reads key) (λ xs. not (count xs == 0)) is each

pub sums-law : ReportSums
unfolding of_row over_each
sums-law reads tail files none lone =
    let goes-forward : ReadsNoPlace is_forward = record { same = λ p b n m meta ends. refl } in
    let goes-back : ReadsNoPlace (λ unit. not (is_forward unit)) = record { same = λ p b n m meta ends. refl } in
    let in-frames : ReadsNoPlace (λ unit. unit.frames) = record { same = λ p b n m meta ends. refl } in
    let in-bytes : ReadsNoPlace (λ unit. unit.bytes) = record { same = λ p b n m meta ends. refl } in
    record {
      totals = totals-law tail files none;
      of_class = λ c. of_files (λ xs. times c (classes_at reads xs)) (one_of_class reads c) (of_class reads c) tail
          files none lone;
      joined = of_files (λ xs. counted_in (groups_at xs)) (λ item. 0)
          (nothing (λ xs. counted_in (groups_at xs)) (λ xs no. ap counted_in (no-groups xs no))) tail files none lone;
      given_up = of_files (λ xs. times_given_up (marks_of xs)) (λ item. 0)
          (nothing (λ xs. times_given_up (marks_of xs)) none-given) tail files none lone;
      rows = λ key. record {
        forward_frames = count-rows reads (λ r. r.forward_frames) frames_of _ is_forward frames-add goes-forward
            in-frames key (λ xs. refl) tail files none lone;
        forward_bytes = count-rows reads (λ r. r.forward_bytes) units_bytes _ is_forward bytes-add goes-forward
            in-bytes key (λ xs. refl) tail files none lone;
        backward_frames = count-rows reads (λ r. r.backward_frames) frames_of _ _ frames-add goes-back in-frames key
            (λ xs. refl) tail files none lone;
        backward_bytes = count-rows reads (λ r. r.backward_bytes) units_bytes _ _ bytes-add goes-back in-bytes key
            (λ xs. refl) tail files none lone;
        first = λ time. time-rows reads (λ r. is_by time r.first) (λ unit. is_by time (frame_time unit.first))
            (record { same = λ p b n m meta ends. ap (is_by time) (time-of n m (meta_time meta)) }) key
            (λ xs. least-by time (units_of_talk key (units_at reads xs))) tail files none lone;
        last = λ time. time-rows reads (λ r. is_from time r.last) (λ unit. is_from time (frame_time unit.last))
            (record { same = λ p b n m meta ends. ap (is_from time) (time-of n m (meta_time meta)) }) key
            (λ xs. greatest-from time (units_of_talk key (units_at reads xs))) tail files none lone;
      };
    }
