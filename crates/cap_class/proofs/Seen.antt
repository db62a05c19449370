-- What one packet more makes of the classes of those before it, in a report that reads IPv6 packets or not.
use Rattle.std.proofs.Common.{◌≡◌, ℕ, ◌+◌, Bool, true, false, List, [], ◌∷◌, ◌++◌, length, refl, sym, ap, ◌∙◌, arith}
use Rattle.std.proofs.Common.{subst, get_or, true≢false}
use Rattle.std.specs.Bool.{OnTrue}
use Rattle.std.specs.List.{AllByRecursion}
use Rattle.std.specs.Prelude.{Option, Some, None, is_some, if◌then◌else◌}
use Rattle.cap_ip.specs.Header.{HeaderFields}
use Rattle.cap_ip.specs.Transport.{transport_of}
use Rattle.cap_ipv6.specs.Read.{Reading}
use Rattle.cap_join.specs.ByteMap.{completes}
use Rattle.cap_join.specs.Completed.{completed_of}
use Rattle.cap_join.specs.Fragments.{Piece}
use Rattle.cap_join.specs.History.{joined_pieces, open_groups_after}
use Rattle.cap_join.specs.Joiners.{open_limit}
use Rattle.cap_class.proofs.Ipv6Packets.{ipv6-plain}
use Rattle.cap_class.proofs.Moves.{Moves, events-are}
use Rattle.cap_class.proofs.Recount.{some_of}
use Rattle.cap_class.proofs.Steps.{classes-completed, classes-datagram, classes-kept, classes-plain, one-class}
use Rattle.cap_class.proofs.Steps.{sum-length}
use Rattle.cap_class.specs.Classes.{class_by, class_of, classes, classes_in, group_class, groups_of}
use Rattle.cap_class.specs.Counting.{counts_of, is_class, sum_of, times}
use Rattle.cap_class.specs.Ipv6.{IsPlain, class_seen, classes_seen, ipv6_class, ipv6_read, read_in, report_classes}
use Rattle.cap_class.specs.Taken.{Classification, Taken, plain, datagram, fragment, classify, events_classified}
use Rattle.cap_class.specs.Taken.{events_of}
use Rattle.cap_class.specs.declared.classes.Class.{Class}
use Rattle.cap_class.specs.declared.classes.Class.TheVariants as class

-- ---- a packet that is read as IPv6 is neither a datagram nor a fragment of IPv4

by-read : (o : Option Reading) (l : Classification) → OnTrue (is_some o) (IsPlain l) → (r : Reading) → o ≡ Some r
    → IsPlain l
by-read None l h r is = absurd (clash is)
  where
    clash : ◌≡◌ {A = Option Reading} None (Some r) → ⊥
    clash e = cc
by-read (Some s) l h r is = h

plain-read : (x : Taken) (place : ℕ) (r : Reading) → ipv6_read x.meta x.frame ≡ Some r → IsPlain (classify place x)
plain-read x place r is =
    by-read (ipv6_read x.meta x.frame) (classify place x) (ipv6-plain x.clock place x.meta x.frame) r is

no-datagram : (header : HeaderFields) (captured : List ℕ) (l : Classification) → l ≡ datagram header captured
    → IsPlain l → ⊥
no-datagram header captured l is p = subst IsPlain is p

no-fragment : (p : Piece) (l : Classification) → l ≡ fragment p → IsPlain l → ⊥
no-fragment p l is q = subst IsPlain is q

none-or : (o : Option Reading) → ((r : Reading) → o ≡ Some r → ⊥) → o ≡ None
none-or None h = refl
none-or (Some r) h = absurd (h r refl)

module _ (x : Taken) (place : ℕ) where
  unread-datagram : (header : HeaderFields) (captured : List ℕ) → classify place x ≡ datagram header captured
      → ipv6_read x.meta x.frame ≡ None
  unread-datagram header captured is =
      none-or (ipv6_read x.meta x.frame) (λ r e. no-datagram header captured _ is (plain-read x place r e))

  unread-fragment : (p : Piece) → classify place x ≡ fragment p → ipv6_read x.meta x.frame ≡ None
  unread-fragment p is =
      none-or (ipv6_read x.meta x.frame) (λ r e. no-fragment p _ is (plain-read x place r e))

  pub read-datagram : (reads : Bool) (header : HeaderFields) (captured : List ℕ)
      → classify place x ≡ datagram header captured → read_in reads x ≡ None
  unfolding read_in
  read-datagram false header captured is = refl
  read-datagram true header captured is = unread-datagram header captured is

  pub read-fragment : (reads : Bool) (p : Piece) → classify place x ≡ fragment p → read_in reads x ≡ None
  unfolding read_in
  read-fragment false p is = refl
  read-fragment true p is = unread-fragment p is

-- ---- groups

groups-plain : (x : Taken) (xs : List Taken) (c : Class) → classify (length xs) x ≡ plain c
    → groups_of (x ∷ xs) ≡ groups_of xs
groups-plain x xs c is = ap (completed_of open_limit) (events-are x xs (plain c) is)

groups-datagram : (x : Taken) (xs : List Taken) (header : HeaderFields) (captured : List ℕ)
    → classify (length xs) x ≡ datagram header captured → groups_of (x ∷ xs) ≡ groups_of xs
unfolding completed_of
groups-datagram x xs header captured is =
    ap (completed_of open_limit) (events-are x xs (datagram header captured) is)

groups-kept : (x : Taken) (xs : List Taken) (p : Piece) → classify (length xs) x ≡ fragment p
    → completes (joined_pieces x.clock p (open_groups_after open_limit (events_of xs))) ≡ false
    → groups_of (x ∷ xs) ≡ groups_of xs
unfolding completed_of
groups-kept x xs p is none =
    ap (completed_of open_limit) (events-are x xs (fragment p) is)
    ∙ ap (λ (b : Bool). (if b then joined_pieces x.clock p (open_groups_after open_limit (events_of xs)) ∷ [] else [])
    ++ groups_of xs) none

-- ---- one packet more

-- the first of some classes
abbrev first-of : List Class → Class
first-of [] = class.OtherLink
first-of (c ∷ cs) = c

first-class : (x : Taken) (xs : List Taken)
    → first-of (classes (x ∷ xs)) ≡ class_by (groups_of (x ∷ xs)) (classify (length xs) x)
unfolding classes
first-class x xs = refl

seen-unread : (x : Taken) (xs : List Taken) (groups : List (List Piece)) (c : Class)
    → ipv6_read x.meta x.frame ≡ None → groups_of (x ∷ xs) ≡ groups → classes (x ∷ xs) ≡ c ∷ classes xs
    → classes_seen (groups_of (x ∷ xs)) (x ∷ xs) ≡ c ∷ classes_seen groups xs
seen-unread x xs groups c none same is =
    ap (λ o. class_seen o (class_by (groups_of (x ∷ xs)) (classify (length xs) x)) ∷ classes_seen (groups_of (x ∷ xs))
    xs)
    none
    ∙ ap (λ d. d ∷ classes_seen (groups_of (x ∷ xs)) xs) (sym (first-class x xs) ∙ ap first-of is)
    ∙ ap (λ gs. c ∷ classes_seen gs xs) same

module _ (x : Taken) (xs : List Taken) where
  pub report-plain : (reads : Bool) (c : Class) → classify (length xs) x ≡ plain c → read_in reads x ≡ None
      → report_classes reads (x ∷ xs) ≡ c ∷ report_classes reads xs
  unfolding report_classes read_in
  report-plain false c is none = classes-plain x xs c is
  report-plain true c is none =
      seen-unread x xs (groups_of xs) c none (groups-plain x xs c is) (classes-plain x xs c is)

  pub report-datagram : (reads : Bool) (header : HeaderFields) (captured : List ℕ)
      → classify (length xs) x ≡ datagram header captured
      → report_classes reads (x ∷ xs)
      ≡ class_of (transport_of header.key.protocol captured header.data_length) ∷ report_classes reads xs
  unfolding report_classes
  report-datagram false header captured is = classes-datagram x xs header captured is
  report-datagram true header captured is =
      seen-unread x xs (groups_of xs) (class_of (transport_of header.key.protocol captured header.data_length))
      (unread-datagram x (length xs) header captured is) (groups-datagram x xs header captured is)
      (classes-datagram x xs header captured is)

  pub report-kept : (reads : Bool) (p : Piece) → classify (length xs) x ≡ fragment p
      → completes (joined_pieces x.clock p (open_groups_after open_limit (events_of xs))) ≡ false
      → report_classes reads (x ∷ xs) ≡ class.Unjoined ∷ report_classes reads xs
  unfolding report_classes
  report-kept false p is none = classes-kept x xs p is none
  report-kept true p is none =
      seen-unread x xs (groups_of xs) class.Unjoined (unread-fragment x (length xs) p is) (groups-kept x xs p is none)
      (classes-kept x xs p is none)

  -- a packet of IPv6 that is read
  pub report-ipv6 : (reads : Bool) (c : Class) (r : Reading) → classify (length xs) x ≡ plain c
      → read_in reads x ≡ Some r → report_classes reads (x ∷ xs) ≡ ipv6_class r ∷ report_classes reads xs
  unfolding report_classes read_in
  report-ipv6 false c r is some = absurd (clash some)
    where
      clash : ◌≡◌ {A = Option Reading} None (Some r) → ⊥
      clash e = cc
  report-ipv6 true c r is some =
      ap (λ o. class_seen o (class_by (groups_of (x ∷ xs)) (classify (length xs) x))
      ∷ classes_seen (groups_of (x ∷ xs)) xs) some
      ∙ ap (λ gs. ipv6_class r ∷ classes_seen gs xs) (groups-plain x xs c is)

-- ---- a group that is completed

-- the classes that packets of IPv6 have if they aren't read, and if they are
abbrev classes_unread : List (List Piece) → List Taken → List Class
classes_unread groups [] = []
classes_unread groups (x ∷ xs) =
    (if is_some (ipv6_read x.meta x.frame) then class_by groups (classify (length xs) x) ∷ [] else [])
    ++ classes_unread groups xs

abbrev class_if : Option Reading → List Class
class_if None = []
class_if (Some r) = ipv6_class r ∷ []

abbrev ipv6_classes : List Taken → List Class
ipv6_classes [] = []
ipv6_classes (x ∷ xs) = class_if (ipv6_read x.meta x.frame) ++ ipv6_classes xs

times-append : (c : Class) (ks bs : List Class) → times c (ks ++ bs) ≡ times c ks + times c bs
times-append c [] bs = omega arith
times-append c (k ∷ ks) bs = omega (arith, times-append c ks bs)

-- those that are read have the one class in place of the other
balanced : (c : Class) (groups : List (List Piece)) (xs : List Taken)
    → times c (classes_seen groups xs) + times c (classes_unread groups xs)
    ≡ times c (classes_in groups xs) + times c (ipv6_classes xs)
balanced c groups [] = refl
balanced c groups (x ∷ xs) = by (ipv6_read x.meta x.frame) (class_by groups (classify (length xs) x))
    (balanced c groups xs)
  where
    by : (o : Option Reading) (k : Class)
        → times c (classes_seen groups xs) + times c (classes_unread groups xs)
        ≡ times c (classes_in groups xs) + times c (ipv6_classes xs)
        → times c (class_seen o k ∷ classes_seen groups xs)
        + times c ((if is_some o then k ∷ [] else []) ++ classes_unread groups xs)
        ≡ times c (k ∷ classes_in groups xs) + times c (class_if o ++ ipv6_classes xs)
    by None k h = omega (arith, h)
    by (Some r) k h = omega (arith, h)

-- whatever groups are completed
plain-class : (groups others : List (List Piece)) (l : Classification) → IsPlain l
    → class_by groups l ≡ class_by others l
plain-class groups others (plain c) p = refl
plain-class groups others (datagram header captured) p = absurd p
plain-class groups others (fragment piece) p = absurd p

unread-same : (groups others : List (List Piece)) (xs : List Taken)
    → classes_unread groups xs ≡ classes_unread others xs
unread-same groups others [] = refl
unread-same groups others (x ∷ xs) = by (ipv6_read x.meta x.frame) refl (unread-same groups others xs)
  where
    by : (o : Option Reading) → ipv6_read x.meta x.frame ≡ o → classes_unread groups xs ≡ classes_unread others xs
        → (if is_some o then class_by groups (classify (length xs) x) ∷ [] else []) ++ classes_unread groups xs
        ≡ (if is_some o then class_by others (classify (length xs) x) ∷ [] else []) ++ classes_unread others xs
    by None is rest = rest
    by (Some r) is rest = λ i. plain-class groups others (classify (length xs) x) (plain-read x (length xs) r is) i
        ∷ rest i

-- none of its fragments is of IPv6
unread-more : (groups : List (List Piece)) (x : Taken) (xs : List Taken) → ipv6_read x.meta x.frame ≡ None
    → classes_unread groups (x ∷ xs) ≡ classes_unread groups xs
unread-more groups x xs none =
    ap (λ o. (if is_some o then class_by groups (classify (length xs) x) ∷ [] else []) ++ classes_unread groups xs) none

ipv6-more : (x : Taken) (xs : List Taken) → ipv6_read x.meta x.frame ≡ None → ipv6_classes (x ∷ xs) ≡ ipv6_classes xs
ipv6-more x xs none = ap (λ o. class_if o ++ ipv6_classes xs) none

balanced-classes : (c : Class) (xs : List Taken)
    → times c (classes_seen (groups_of xs) xs) + times c (classes_unread (groups_of xs) xs)
    ≡ times c (classes xs) + times c (ipv6_classes xs)
unfolding classes
balanced-classes c xs = balanced c (groups_of xs) xs

pub report-moves : (reads : Bool) (x : Taken) (xs : List Taken) (p : Piece) → classify (length xs) x ≡ fragment p
    → completes (joined_pieces x.clock p (open_groups_after open_limit (events_of xs))) ≡ true
    → Moves (group_class (joined_pieces x.clock p (open_groups_after open_limit (events_of xs))))
    (length (joined_pieces x.clock p (open_groups_after open_limit (events_of xs))))
    (report_classes reads (x ∷ xs)) (report_classes reads xs)
unfolding report_classes
report-moves false x xs p is whole = classes-completed x xs p is whole
report-moves true x xs p is whole = λ c.
    let none = unread-fragment x (length xs) p is in
    let unread = ap (times c) (unread-more (groups_of (x ∷ xs)) x xs none
    ∙ unread-same (groups_of (x ∷ xs)) (groups_of xs) xs) in
    let six = ap (times c) (ipv6-more x xs none) in
    omega (arith, classes-completed x xs p is whole c, balanced-classes c (x ∷ xs), balanced-classes c xs, unread, six)

-- ---- one class each

seen-each : (groups : List (List Piece)) (xs : List Taken) → length (classes_seen groups xs) ≡ length xs
seen-each groups [] = refl
seen-each groups (x ∷ xs) = omega (arith, seen-each groups xs)

-- Each packet has one class, and the seven counts add up to the number of packets.
pub report-sum : (reads : Bool) (xs : List Taken) → sum_of (counts_of (report_classes reads xs)) ≡ length xs
unfolding report_classes
report-sum false xs = (one-class xs).sum
report-sum true xs = sum-length (classes_seen (groups_of xs) xs) ∙ seen-each (groups_of xs) xs

-- ---- packets without IPv6

seen-none : (groups : List (List Piece)) (xs : List Taken)
    → AllByRecursion (λ x. ipv6_read x.meta x.frame ≡ None) xs → classes_seen groups xs ≡ classes_in groups xs
seen-none groups [] none = refl
seen-none groups (x ∷ xs) none = λ i.
    class_seen (none.0 i) (class_by groups (classify (length xs) x)) ∷ seen-none groups xs none.1 i

pub report-none : (xs : List Taken) → AllByRecursion (λ x. ipv6_read x.meta x.frame ≡ None) xs
    → report_classes true xs ≡ report_classes false xs
unfolding report_classes classes
report-none xs none = seen-none (groups_of xs) xs none
