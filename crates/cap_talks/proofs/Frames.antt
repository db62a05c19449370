-- The units of a run come in the packets that count.
use Rattle.std.proofs.Common.{◌≡◌, ℕ, ◌+◌, ◌≤◌, Bool, true, false, List, [], ◌∷◌, ◌++◌, length, refl, ap, ◌∙◌, arith}
use Rattle.std.proofs.Common.{Option, Some, None}
use Rattle.std.specs.Prelude.{if◌then◌else◌}
use Rattle.cap_ip.specs.Header.{HeaderFields}
use Rattle.cap_ip.specs.Transport.{transport_of}
use Rattle.cap_join.specs.ByteMap.{completes, joined_header}
use Rattle.cap_join.specs.Fragments.{Piece}
use Rattle.cap_join.specs.History.{joined_pieces, open_groups_after}
use Rattle.cap_join.specs.Joiners.{open_limit}
use Rattle.cap_join.specs.declared.datagrams.Stamped.{Stamped}
use Rattle.cap_talks.specs.table.Conversations.{frames_of}
use Rattle.cap_talks.specs.declared.table.units.CountedUnit.{CountedUnit}
use Rattle.cap_class.proofs.Recount.{some_of}
use Rattle.cap_class.proofs.Seen.{read-datagram, read-fragment, report-datagram, report-ipv6, report-kept, report-moves}
use Rattle.cap_class.proofs.Seen.{report-plain}
use Rattle.cap_class.specs.Ipv6.{ipv6_class, read_in, report_classes}
use Rattle.cap_class.specs.declared.classes.Class.{Class}
use Rattle.cap_ipv6.specs.Read.{Reading}
use Rattle.cap_talks.proofs.Tallying.{unit-read, unit-seen}
use Rattle.cap_class.specs.Counting.{times}
use Rattle.cap_class.specs.Classes.{class_of, group_class}
use Rattle.cap_class.specs.Taken.{Taken, Classification, plain, datagram, fragment, classify, events_of, stamped_of}
use Rattle.cap_talks.specs.table.CountedUnits.{whole_unit, group_unit, first_unit, unit_by, listed}
use Rattle.cap_talks.specs.table.CountedUnits.{ipv6_unit, units_for}
use Rattle.cap_class.specs.declared.classes.Class.TheVariants as class

-- a datagram is a unit if its class is that of those that count
frames_whole : (header : HeaderFields) (captured : List ℕ) (s : Stamped)
    → frames_of (listed (whole_unit header captured s))
    ≡ some_of class.Counted (class_of (transport_of header.key.protocol captured header.data_length)) 1
frames_whole header captured s = grind arith

frames_in : (ps : List Piece) (o : Option HeaderFields) → joined_header ps ≡ o
    → frames_of (listed (group_unit ps)) ≡ some_of class.Counted (group_class ps) (length ps)
unfolding group_unit group_class
frames_in ps o is = grind arith

frames_of-more : (us vs : List CountedUnit) → frames_of (us ++ vs) ≡ frames_of us + frames_of vs
frames_of-more [] vs = omega arith
frames_of-more (u ∷ us) vs = omega (arith, frames_of-more us vs)

-- an IPv6 packet is a unit of one frame if it counts
frames_ipv6 : (r : Reading) (s : Stamped)
    → frames_of (listed (ipv6_unit r s)) ≡ some_of class.Counted (ipv6_class r) 1
frames_ipv6 r s = grind arith

units-more : (reads : Bool) (x : Taken) (xs : List Taken) (l : Classification) → classify (length xs) x ≡ l
    → read_in reads x ≡ None
    → frames_of (units_for reads (x ∷ xs)) ≡ frames_of (units_for reads xs) + frames_of
    (listed (unit_by l (stamped_of (length xs) x.meta) x.clock (events_of xs)))
unfolding units_for
units-more reads x xs l is none =
    ap (λ o. frames_of (units_for reads xs ++ listed o)) (unit-seen reads x xs l is none)
    ∙ frames_of-more (units_for reads xs) (listed (unit_by l (stamped_of (length xs) x.meta) x.clock (events_of xs)))

units-read : (reads : Bool) (x : Taken) (xs : List Taken) (r : Reading) → read_in reads x ≡ Some r
    → frames_of (units_for reads (x ∷ xs))
    ≡ frames_of (units_for reads xs) + frames_of (listed (ipv6_unit r (stamped_of (length xs) x.meta)))
unfolding units_for
units-read reads x xs r some =
    ap (λ o. frames_of (units_for reads xs ++ listed o)) (unit-read reads x xs r some)
    ∙ frames_of-more (units_for reads xs) (listed (ipv6_unit r (stamped_of (length xs) x.meta)))

module _ (reads : Bool) (x : Taken) (xs : List Taken) where
  -- a packet of a class, by its IPv6 packet
  with_read : (c : Class) → classify (length xs) x ≡ plain c → (o : Option Reading) → read_in reads x ≡ o
      → frames_of (units_for reads xs) ≤ times class.Counted (report_classes reads xs)
      → frames_of (units_for reads (x ∷ xs)) ≤ times class.Counted (report_classes reads (x ∷ xs))
  with_read c is None none h =
      omega (
        arith,
        units-more reads x xs (plain c) is none,
        ap (times class.Counted) (report-plain x xs reads c is none),
        h,
      )
  with_read c is (Some r) some h = grind (
    arith,
    units-read reads x xs r some,
    ap (times class.Counted) (report-ipv6 x xs reads c r is some),
    frames_ipv6 r (stamped_of (length xs) x.meta),
    h,
  )

  with_look : (l : Classification) → classify (length xs) x ≡ l
      → frames_of (units_for reads xs) ≤ times class.Counted (report_classes reads xs)
      → frames_of (units_for reads (x ∷ xs)) ≤ times class.Counted (report_classes reads (x ∷ xs))
  with_look (plain c) is h = with_read c is (read_in reads x) refl h
  with_look (datagram header captured) is h = grind (
    arith,
    units-more reads x xs (datagram header captured) is (read-datagram x (length xs) reads header captured is),
    ap (times class.Counted) (report-datagram x xs reads header captured is),
    frames_whole header captured (stamped_of (length xs) x.meta),
    h,
  )
  with_look (fragment p) is h = by (completes joined) refl
    where
      joined : List Piece
      joined = joined_pieces x.clock p (open_groups_after open_limit (events_of xs))

      by : (b : Bool) → completes joined ≡ b
          → frames_of (units_for reads (x ∷ xs)) ≤ times class.Counted (report_classes reads (x ∷ xs))
      by true e =
          let none = ap (λ (b : Bool). frames_of (listed (first_unit (if b then joined ∷ [] else [])))) e in
          omega (
            arith,
            units-more reads x xs (fragment p) is (read-fragment x (length xs) reads p is),
            none,
            frames_in joined (joined_header joined) refl,
            report-moves reads x xs p is e class.Counted,
            h,
          )
      by false e =
          let none = ap (λ (b : Bool). frames_of (listed (first_unit (if b then joined ∷ [] else [])))) e in
          omega (
            arith,
            units-more reads x xs (fragment p) is (read-fragment x (length xs) reads p is),
            none,
            ap (times class.Counted) (report-kept x xs reads p is e),
            h,
          )

-- All frames of the units are packets that count.
pub frames-counted : (reads : Bool) (xs : List Taken)
    → frames_of (units_for reads xs) ≤ times class.Counted (report_classes reads xs)
unfolding units_for
frames-counted reads [] = omega arith
frames-counted reads (x ∷ xs) = with_look reads x xs (classify (length xs) x) refl (frames-counted reads xs)
