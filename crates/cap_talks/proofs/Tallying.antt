-- What a tally stands for, with one packet more.
use Rattle.std.proofs.Common.{◌≡◌, ℕ, ◌+◌, ◌≤◌, Bool, true, false, List, [], ◌∷◌, ◌++◌, length, refl, sym, ◌∙◌, ap}
use Rattle.std.proofs.Common.{subst, arith, Option, Some, None}
use Rattle.std.specs.Prelude.{if◌then◌else◌}
use Rattle.cap_ip.specs.Header.{HeaderFields}
use Rattle.cap_ip.specs.Transport.{transport_of}
use Rattle.cap_join.specs.ByteMap.{completes}
use Rattle.cap_join.specs.Fragments.{Piece}
use Rattle.cap_join.specs.inner.Groups.{IsDatagramOf}
use Rattle.cap_join.specs.History.{arrives, flushes, joined_pieces, open_groups_after}
use Rattle.cap_join.specs.Joiners.{JoinerState, open_limit}
use Rattle.cap_join.specs.Joiners as joiners
use Rattle.cap_join.specs.declared.datagrams.Datagram.{Datagram}
use Rattle.cap_talks.specs.table.Rows.{TalksState, is_refused, talk_limit}
use Rattle.cap_talks.specs.table.Rows as talks
use Rattle.cap_class.proofs.Moves.{Moves, class-of-group, counts-more, counts-moved, enough, events-are}
use Rattle.cap_class.proofs.Seen.{read-datagram, read-fragment, report-datagram, report-ipv6, report-kept, report-moves}
use Rattle.cap_class.proofs.Seen.{report-plain}
use Rattle.cap_class.specs.Ipv6.{ipv6_class, ipv6_read, read_in, report_classes}
use Rattle.cap_ipv6.specs.Read.{Reading}
use Rattle.cap_class.specs.Classes.{class_of, classes, datagram_class, group_class, groups_of}
use Rattle.cap_talks.specs.inner.table.Adding.{datagram_unit}
use Rattle.cap_join.specs.Completed.{completed_of}
use Rattle.cap_class.specs.Taken.{Taken, Classification, plain, datagram, fragment, classify, stamped_of}
use Rattle.cap_class.specs.Taken.{events_classified}
use Rattle.cap_class.specs.Taken.{events_of}
use Rattle.cap_class.specs.Counting.{counts_of, with_frames, with_group}
use Rattle.cap_talks.specs.inner.table.Tallies.{TallyState, TallyStands, counted_one}
use Rattle.cap_talks.specs.table.CountedUnits.{whole_unit, group_unit, first_unit, unit_by, unit_at, listed}
use Rattle.cap_talks.specs.table.CountedUnits.{ipv6_unit, unit_for, unit_seen, units_for}
use Rattle.cap_talks.specs.table.CountedUnits.{counted_in, joined_in}
use Rattle.cap_class.specs.declared.classes.Class.{Class}
use Rattle.cap_class.specs.declared.classes.Class.TheVariants as class
use Rattle.cap_class.specs.declared.counts.ClassCounts.{ClassCounts}

-- ---- by what a packet is

pub unit-is : (x : Taken) (xs : List Taken) (l : Classification) → classify (length xs) x ≡ l
    → unit_at xs x ≡ unit_by l (stamped_of (length xs) x.meta) x.clock (events_of xs)
unfolding unit_at
unit-is x xs l is = ap (λ (k : Classification). unit_by k (stamped_of (length xs) x.meta) x.clock (events_of xs)) is

-- the same of a packet that isn't read as one of IPv6
unit-unread : (reads : Bool) (x : Taken) (xs : List Taken) → read_in reads x ≡ None → unit_for reads xs x ≡ unit_at xs x
unfolding unit_for read_in
unit-unread false x xs none = refl
unit-unread true x xs none = ap (λ o. unit_seen o (stamped_of (length xs) x.meta) (unit_at xs x)) none

pub unit-seen : (reads : Bool) (x : Taken) (xs : List Taken) (l : Classification) → classify (length xs) x ≡ l
    → read_in reads x ≡ None
    → unit_for reads xs x ≡ unit_by l (stamped_of (length xs) x.meta) x.clock (events_of xs)
unit-seen reads x xs l is none = unit-unread reads x xs none ∙ unit-is x xs l is

-- and of one that is
pub unit-read : (reads : Bool) (x : Taken) (xs : List Taken) (r : Reading) → read_in reads x ≡ Some r
    → unit_for reads xs x ≡ ipv6_unit r (stamped_of (length xs) x.meta)
unfolding unit_for read_in
unit-read false x xs r some = absurd (clash some)
  where
    clash : ◌≡◌ {A = Option Reading} None (Some r) → ⊥
    clash e = cc
unit-read true x xs r some = ap (λ o. unit_seen o (stamped_of (length xs) x.meta) (unit_at xs x)) some

units-are : (reads : Bool) (x : Taken) (xs : List Taken)
    → units_for reads (x ∷ xs) ≡ units_for reads xs ++ listed (unit_for reads xs x)
unfolding units_for
units-are reads x xs = refl

joined-is : (x : Taken) (xs : List Taken) (l : Classification) → classify (length xs) x ≡ l
    → joined_in (x ∷ xs) ≡ counted_in (completed_of open_limit (events_classified l x.clock (events_of xs)))
joined-is x xs l is = ap (λ es. counted_in (completed_of open_limit es)) (events-are x xs l is)

append-none : {A : Type 0} (xs : List A) → xs ++ [] ≡ xs
append-none [] = refl
append-none (x ∷ xs) = ap (λ l. x ∷ l) (append-none xs)

-- what is read, where IPv6 packets are
pub read-is : (reads : Bool) (x : Taken) (o : Option Reading) → reads ≡ true → o ≡ ipv6_read x.meta x.frame
    → read_in reads x ≡ o
unfolding read_in
read-is reads x o on is = ap (λ (b : Bool). if b then ipv6_read x.meta x.frame else None) on ∙ sym is

-- ---- the state

abbrev pub state : Bool → ℕ → ClassCounts → ℕ → TalksState → JoinerState → Option Datagram → TallyState
state reads place counts joined talks joiner waiting =
    record {
      reads = reads;
      place = place;
      classes = counts;
      joined = joined;
      talks = talks;
      joiner = joiner;
      waiting = waiting;
    }

pub Stands-none : (reads : Bool) (t : TalksState) (j : JoinerState) → talks.TalksStandFor t []
    → joiners.JoinerStandsFor j []
    → (next : Option Taken)
    → TallyStands (state reads 0 (record {
      other_link = 0;
      not_ipv4 = 0;
      short = 0;
      cut = 0;
      bad = 0;
      unjoined = 0;
      counted
          = 0;
    })
    0 t j None) [] next
unfolding units_for events_of classes report_classes completed_of
Stands-none false t j h k next = record { place = refl; classes = refl; joined = refl; talks = h; joins = k }
Stands-none true t j h k next = record { place = refl; classes = refl; joined = refl; talks = h; joins = k }

module _ (reads : Bool) (place joined : ℕ) (counts : ClassCounts) (t : TalksState) (j : JoinerState) (xs : List Taken)
    (x : Taken) (h : TallyStands (state reads place counts joined t j None) xs (Some x)) where
  pub Stands-plain : (c : Class) → classify (length xs) x ≡ plain c → read_in reads x ≡ None → (next : Option Taken)
      → TallyStands (state reads (place + 1) (with_frames c 1 counts) joined t j None) (x ∷ xs) next
  Stands-plain c is none next = record {
    place = omega (arith, h.place);
    classes = ap (with_frames c 1) h.classes ∙ sym (counts-more c (report_classes reads xs))
        ∙ ap counts_of (sym (report-plain x xs reads c is none));
    joined = h.joined ∙ sym (joined-is x xs (plain c) is);
    talks = subst (talks.TalksStandFor t) (sym (units-are reads x xs
        ∙ ap (λ u. units_for reads xs ++ listed u) (unit-seen reads x xs (plain c) is none)
        ∙ append-none (units_for reads xs))) h.talks;
    joins = subst (joiners.JoinerStandsFor j) (sym (events-are x xs (plain c) is)) h.joins;
  }

  pub Stands-ipv6 : (c : Class) → classify (length xs) x ≡ plain c → (r : Reading) → read_in reads x ≡ Some r
      → (u : TalksState)
      → talks.TalksStandFor u (units_for reads xs ++ listed (ipv6_unit r (stamped_of (length xs) x.meta)))
      → (next : Option Taken)
      → TallyStands (state reads (place + 1) (with_frames (ipv6_class r) 1 counts) joined u j None) (x ∷ xs) next
  Stands-ipv6 c is r some u new next = record {
    place = omega (arith, h.place);
    classes = ap (with_frames (ipv6_class r) 1) h.classes ∙ sym (counts-more (ipv6_class r) (report_classes reads xs))
        ∙ ap counts_of (sym (report-ipv6 x xs reads c r is some));
    joined = h.joined ∙ sym (joined-is x xs (plain c) is);
    talks = subst (talks.TalksStandFor u) (sym (units-are reads x xs
        ∙ ap (λ o. units_for reads xs ++ listed o) (unit-read reads x xs r some))) new;
    joins = subst (joiners.JoinerStandsFor j) (sym (events-are x xs (plain c) is)) h.joins;
  }

  pub Stands-datagram : (header : HeaderFields) (captured : List ℕ) → classify (length xs) x ≡ datagram header captured
      → (u : TalksState) (k : JoinerState)
      → talks.TalksStandFor u (units_for reads xs ++ listed
      (whole_unit header captured (stamped_of (length xs) x.meta)))
      → joiners.JoinerStandsFor k (flushes header.key ∷ events_of xs)
      → (next : Option Taken)
      → TallyStands (state reads (place + 1)
      (with_frames (class_of (transport_of header.key.protocol captured header.data_length)) 1 counts) joined u k None)
      (x ∷ xs) next
  unfolding completed_of
  Stands-datagram header captured is u k new flushed next =
      let c = class_of (transport_of header.key.protocol captured header.data_length) in
      record {
        place = omega (arith, h.place);
        classes = ap (with_frames c 1) h.classes ∙ sym (counts-more c (report_classes reads xs))
            ∙ ap counts_of (sym (report-datagram x xs reads header captured is));
        joined = h.joined ∙ sym (joined-is x xs (datagram header captured) is);
        talks = subst (talks.TalksStandFor u) (sym (units-are reads x xs
            ∙ ap (λ o. units_for reads xs ++ listed o) (unit-seen reads x xs (datagram header captured) is
            (read-datagram x (length xs) reads header captured is)))) new;
        joins = subst (joiners.JoinerStandsFor k) (sym (events-are x xs (datagram header captured) is)) flushed;
      }

  pub Stands-kept : (p : Piece) → classify (length xs) x ≡ fragment p
      → completes (joined_pieces x.clock p (open_groups_after open_limit (events_of xs))) ≡ false → (k : JoinerState)
      → joiners.JoinerStandsFor k (arrives x.clock p ∷ events_of xs) → (next : Option Taken)
      → TallyStands (state reads (place + 1) (with_frames class.Unjoined 1 counts) joined t k None) (x ∷ xs) next
  unfolding completed_of
  Stands-kept p is none k put next = record {
    place = omega (arith, h.place);
    classes = ap (with_frames class.Unjoined 1) h.classes ∙ sym (counts-more class.Unjoined (report_classes reads xs))
        ∙ ap counts_of (sym (report-kept x xs reads p is none));
    joined =
        h.joined
        ∙ sym (joined-is x xs (fragment p) is
        ∙ ap (λ (b : Bool). counted_in
        ((if b then joined_pieces x.clock p (open_groups_after open_limit (events_of xs)) ∷ [] else [])
        ++ groups_of xs)) none);
    talks = subst (talks.TalksStandFor t)
        (sym (units-are reads x xs ∙ ap (λ o. units_for reads xs ++ listed o)
        (unit-seen reads x xs (fragment p) is (read-fragment x (length xs) reads p is)
        ∙ ap (λ (b : Bool). first_unit (if b then joined_pieces x.clock p (open_groups_after open_limit (events_of xs))
        ∷ [] else [])) none) ∙ append-none (units_for reads xs))) h.talks;
    joins = subst (joiners.JoinerStandsFor k) (sym (events-are x xs (fragment p) is)) put;
  }

  pub Stands-waiting : (p : Piece) → classify (length xs) x ≡ fragment p → (k : JoinerState) (d : Datagram)
      → joiners.JoinerStandsFor k (arrives x.clock p ∷ events_of xs)
      → completes (joined_pieces x.clock p (open_groups_after open_limit (events_of xs))) ≡ true
      → IsDatagramOf d (joined_pieces x.clock p (open_groups_after open_limit (events_of xs)))
      → TallyStands (state reads place counts joined t k (Some d)) xs (Some x)
  Stands-waiting p is k d put whole joins = record {
    place = h.place;
    classes = h.classes;
    joined = h.joined;
    talks = h.talks;
    joins = record {
      packet = x;
      is_next = refl;
      piece = p;
      is_fragment = is;
      stands = subst (joiners.JoinerStandsFor k) (sym (events-are x xs (fragment p) is)) put;
      whole = whole;
      datagram = joins;
    };
  }

-- ---- a joined datagram

pub unit-of-group : (ps : List Piece) (d : Datagram) → IsDatagramOf d ps → group_unit ps ≡ datagram_unit d
unfolding group_unit datagram_unit
unit-of-group ps d is = cc

module _ (reads : Bool) (place joined : ℕ) (counts : ClassCounts) (t : TalksState) (j : JoinerState) (d : Datagram)
    (xs : List Taken) (next : Option Taken)
    (h : TallyStands (state reads place counts joined t j (Some d)) xs next) where
  pub unit-waiting : unit_for reads xs h.joins.packet ≡ datagram_unit d
  unit-waiting =
      let ps = joined_pieces h.joins.packet.clock h.joins.piece (open_groups_after open_limit (events_of xs)) in
      unit-seen reads h.joins.packet xs (fragment h.joins.piece) h.joins.is_fragment
      (read-fragment h.joins.packet (length xs) reads h.joins.piece h.joins.is_fragment)
      ∙ ap (λ (b : Bool). first_unit (if b then ps ∷ [] else [])) h.joins.whole ∙ unit-of-group ps d h.joins.datagram

  moves : Moves (group_class (joined_pieces h.joins.packet.clock h.joins.piece
      (open_groups_after open_limit (events_of xs))))
      (length (joined_pieces h.joins.packet.clock h.joins.piece (open_groups_after open_limit (events_of xs))))
      (report_classes reads (h.joins.packet ∷ xs)) (report_classes reads xs)
  moves = report-moves reads h.joins.packet xs h.joins.piece h.joins.is_fragment h.joins.whole

  -- the fragments of a datagram that waits were unjoined, but the one that completed it
  pub enough-waiting : d.frames ≤ counts.unjoined + 1
  enough-waiting =
      let ps = joined_pieces h.joins.packet.clock h.joins.piece (open_groups_after open_limit (events_of xs)) in
      omega (
        arith,
        h.joins.datagram.frames,
        enough ps (length ps) (report_classes reads (h.joins.packet ∷ xs)) (report_classes reads xs) moves,
        ap (λ (n : ClassCounts). n.unjoined) h.classes,
      )

  pub Stands-joined : (u : TalksState) → talks.TalksStandFor u (units_for reads xs ++ listed (datagram_unit d))
      → (later : Option Taken)
      → TallyStands (state reads (place + 1) (with_group (datagram_class d) d.frames counts)
      (joined + counted_one (datagram_class d)) u j None) (h.joins.packet ∷ xs) later
  unfolding completed_of
  Stands-joined u new later =
      let x = h.joins.packet in
      let ps = joined_pieces x.clock h.joins.piece (open_groups_after open_limit (events_of xs)) in
      let k = class-of-group ps d h.joins.datagram in
      let is = h.joins.is_fragment in
      let added : counted_one (group_class ps) + joined_in xs ≡ joined + counted_one (datagram_class d) =
      omega (arith, ap counted_one k, h.joined) in
      record {
        place = omega (arith, h.place);
        classes = (λ i. with_group (sym k i) (h.joins.datagram.frames i) (h.classes i))
            ∙ sym (counts-moved ps (length ps) (report_classes reads (x ∷ xs)) (report_classes reads xs) moves);
        joined =
            sym (joined-is x xs (fragment h.joins.piece) is
            ∙ ap (λ (b : Bool). counted_in ((if b then ps ∷ [] else []) ++ groups_of xs)) h.joins.whole ∙ added);
        talks = subst (talks.TalksStandFor u) (sym (units-are reads x xs ∙ ap (λ o. units_for reads xs
            ++ listed o) unit-waiting)) new;
        joins = h.joins.stands;
      }
