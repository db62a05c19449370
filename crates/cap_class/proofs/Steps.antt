-- What one packet more makes of the classes of those before it.
use Rattle.std.proofs.Common.{◌≡◌, ℕ, ◌+◌, ◌≤◌, Bool, true, false, List, [], ◌∷◌, ◌++◌, length, refl, sym, ◌∙◌, ap}
use Rattle.std.proofs.Common.{subst, arith}
use Rattle.std.specs.Prelude.{if◌then◌else◌, map}
use Rattle.cap_ip.specs.Header.{HeaderFields}
use Rattle.cap_ip.specs.Transport.{transport_of}
use Rattle.cap_join.specs.ByteMap.{completes}
use Rattle.cap_join.specs.Fragments.{Piece}
use Rattle.cap_join.specs.History.{arrives, joined_pieces, open_groups_after}
use Rattle.cap_join.specs.Joiners.{open_limit}
use Rattle.cap_join.proofs.Once.{once}
use Rattle.cap_class.proofs.Recount.{looks, here, hits, place_of, here_few, here_once, comes_here, present, hits_all}
use Rattle.cap_class.proofs.Recount.{unjoined, classes_looks, some_of, recount}
use Rattle.cap_class.specs.Counting.{counts_of}
use Rattle.cap_class.specs.Classes.{class_of, class_by, class_in, classes, classes_in, group_class}
use Rattle.cap_class.specs.Counting.{sum_of, times, OneClass}
use Rattle.cap_class.specs.Classes.{groups_of, has_place}
use Rattle.cap_join.specs.Completed.{completed_of, occurs, occurs_in}
use Rattle.cap_class.specs.Taken.{Taken, Classification, plain, datagram, fragment, classify, events_classified}
use Rattle.cap_class.specs.Taken.{events_of}
use Rattle.cap_class.specs.declared.classes.Class.{Class}
use Rattle.cap_class.specs.declared.classes.Class.TheVariants as class

-- by what the packet is
classes-are : (x : Taken) (xs : List Taken) (l : Classification) → classify (length xs) x ≡ l
    → classes (x ∷ xs) ≡ map (class_by (completed_of open_limit (events_classified l x.clock (events_of xs))))
    (l ∷ looks xs)
unfolding classes events_of
classes-are x xs l is = grind (arith, classes_looks, looks)

classes-before : (xs : List Taken) → classes xs ≡ map (class_by (groups_of xs)) (looks xs)
unfolding classes
classes-before xs = classes_looks (groups_of xs) xs

-- a packet of a class, or a whole datagram
pub classes-plain : (x : Taken) (xs : List Taken) (c : Class) → classify (length xs) x ≡ plain c
    → classes (x ∷ xs) ≡ c ∷ classes xs
classes-plain x xs c is = classes-are x xs (plain c) is ∙ ap (λ cs. c ∷ cs) (sym (classes-before xs))

pub classes-datagram : (x : Taken) (xs : List Taken) (header : HeaderFields) (captured : List ℕ)
    → classify (length xs) x ≡ datagram header captured
    → classes (x ∷ xs) ≡ class_of (transport_of header.key.protocol captured header.data_length) ∷ classes xs
unfolding completed_of
classes-datagram x xs header captured is =
    classes-are x xs (datagram header captured) is
    ∙ ap (λ cs. class_of (transport_of header.key.protocol captured header.data_length) ∷ cs) (sym (classes-before xs))

-- ---- fragments

module _ (x : Taken) (xs : List Taken) (p : Piece) (is : classify (length xs) x ≡ fragment p) where
  abbrev pub joined : List Piece
  joined = joined_pieces x.clock p (open_groups_after open_limit (events_of xs))

  before : (n : ℕ) → occurs_in n (groups_of xs) ≤ here n (looks xs)
  before n = omega (arith, once open_limit n (events_of xs), comes_here n xs)

  own : class_in (groups_of xs) p.stamped.place ≡ class.Unjoined
  own = grind (arith, unjoined, p, xs, here_few, is, place_of, x, before)

  -- one that completes no group
  pub classes-kept : completes joined ≡ false → classes (x ∷ xs) ≡ class.Unjoined ∷ classes xs
  unfolding completed_of
  classes-kept none =
      classes-are x xs (fragment p) is
      ∙ ap (λ (b : Bool). map (class_by ((if b then joined ∷ [] else []) ++ groups_of xs)) (fragment p ∷ looks xs)) none
      ∙ ap (λ c. c ∷ map (class_by (groups_of xs)) (looks xs)) own
      ∙ ap (λ cs. class.Unjoined ∷ cs) (sym (classes-before xs))

  here_now : (n : ℕ) → here n (fragment p ∷ looks xs) ≤ 1
  here_now n = subst (λ (l : Classification). here n (l ∷ looks xs) ≤ 1) is (here_once n (x ∷ xs))

  now : completes joined ≡ true → (n : ℕ) → occurs n joined + occurs_in n (groups_of xs)
      ≤ here n (fragment p ∷ looks xs)
  unfolding completed_of
  now whole n =
      let all = once open_limit n (arrives x.clock p ∷ events_of xs) in
      let groups = ap (λ (b : Bool). occurs_in n ((if b then joined ∷ [] else []) ++ groups_of xs)) whole in
      omega (arith, all, groups, comes_here n xs)

  fresh : completes joined ≡ true → (n : ℕ) → has_place n joined ≡ true → class_in (groups_of xs) n ≡ class.Unjoined
  fresh whole n has = unjoined n (groups_of xs) (omega (arith, now whole n, here_now n, present n joined has))

  -- one that completes its group: it is unjoined for a moment, and then all of the group have the datagram's class
  pub classes-completed : completes joined ≡ true → (c : Class)
      → times c (classes (x ∷ xs)) + some_of c class.Unjoined (length joined)
      ≡ times c (class.Unjoined ∷ classes xs) + some_of c (group_class joined) (length joined)
  unfolding completed_of
  classes-completed whole c =
      let ls = fragment p ∷ looks xs in
      let groups = groups_of xs in
      let all = hits_all joined ls (λ n. omega (arith, now whole n)) here_now in
      let moved = recount c joined groups ls (fresh whole) in
      let after : times c (classes (x ∷ xs)) ≡ times c (map (class_by (joined ∷ groups)) ls) =
      ap (times c) (classes-are x xs (fragment p) is
      ∙ ap (λ (b : Bool). map (class_by ((if b then joined ∷ [] else []) ++ groups)) ls) whole) in
      let old : times c (map (class_by groups) ls) ≡ times c (class.Unjoined ∷ classes xs) =
      ap (λ (k : Class). times c (k ∷ map (class_by groups) (looks xs))) own
      ∙ ap (λ (cs : List Class). times c (class.Unjoined ∷ cs)) (sym (classes-before xs)) in
      let left : some_of c class.Unjoined (hits joined ls) ≡ some_of c class.Unjoined (length joined) =
      ap (some_of c class.Unjoined) all in
      let right : some_of c (group_class joined) (hits joined ls) ≡ some_of c (group_class joined) (length joined) =
      ap (some_of c (group_class joined)) all in
      omega (arith, moved, after, old, left, right)

-- ---- one class each

sum-more : (k : Class) (cs : List Class) → sum_of (counts_of (k ∷ cs)) ≡ 1 + sum_of (counts_of cs)
sum-more k cs = grind arith

pub sum-length : (cs : List Class) → sum_of (counts_of cs) ≡ length cs
sum-length [] = refl
sum-length (k ∷ cs) = omega (arith, sum-more k cs, sum-length cs)

each_one : (groups : List (List Piece)) (xs : List Taken) → length (classes_in groups xs) ≡ length xs
each_one groups [] = refl
each_one groups (x ∷ xs) = omega (arith, each_one groups xs)

pub one-class : (xs : List Taken) → OneClass xs
unfolding classes
one-class xs = record { each = each_one (groups_of xs) xs; sum = sum-length (classes xs) ∙ each_one (groups_of xs) xs }
