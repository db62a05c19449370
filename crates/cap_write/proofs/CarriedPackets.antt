-- Each packet is left out, or in a written datagram.
use Rattle.std.proofs.Common.{◌≡◌, ℕ, ◌+◌, Bool, true, false, List, [], ◌∷◌, length, refl, ap, arith}
use Rattle.std.proofs.Common.{Option, Some, None}
use Rattle.std.specs.Prelude.{◌==◌, ◌&&◌, if◌then◌else◌, is_some}
use Rattle.cap_class.specs.Taken.{Taken, Classification, plain, datagram, fragment, classify, classify_at, classify_in}
use Rattle.cap_class.specs.Taken.{classify_by, events_of}
use Rattle.cap_class.specs.declared.classes.Class.{Class}
use Rattle.cap_class.specs.declared.classes.Class.TheVariants as class
use Rattle.cap_ip.specs.Header.{HeaderFields}
use Rattle.cap_ip.specs.Read.{Reading, found, bad, cut}
use Rattle.cap_ip.specs.Transport.{transport_of}
use Rattle.cap_ip.specs.declared.headers.Fragment.{Fragment}
use Rattle.cap_ip.specs.declared.transports.Transport.{Transport}
use Rattle.cap_join.specs.ByteMap.{completes, joined_header, joined_data}
use Rattle.cap_join.specs.Fragments.{Piece}
use Rattle.cap_join.specs.declared.datagrams.Stamped.{Stamped}
use Rattle.cap_link.specs.Seen.{Carried, ipv4, other_link, not_ipv4, short, cut as link_cut}
use Rattle.cap_class.proofs.Steps.{classes-plain, classes-datagram, classes-kept, classes-completed}
use Rattle.cap_class.specs.Counting.{is_class, times}
use Rattle.cap_class.specs.Classes.{class_of, classes, group_class}
use Rattle.cap_write.specs.Joined.{complete_of, completed, datagram_of, group_after, has_form, joined_of}
use Rattle.cap_write.specs.LeftOut.{LeftOutLaw, carried_in, is_truncated, left_out_of, packets_carried, truncated_in}

-- ---- which packets count

plain_by : (o : Option Fragment) (header : HeaderFields) (captured : List ℕ) (s : Stamped) (c : Class)
    → classify_by o header captured s ≡ plain c → is_class class.Counted c ≡ false
plain_by o header captured s c is = grind arith

plain_in : (r : Reading) (s : Stamped) (c : Class) → classify_in r s ≡ plain c → is_class class.Counted c ≡ false
plain_in (found header captured) s c is = plain_by header.fragment header captured s c is
plain_in bad s c is = grind arith
plain_in cut s c is = grind arith

plain_at : (k : Carried) (whole : Bool) (s : Stamped) (c : Class) → classify_at k whole s ≡ plain c
    → is_class class.Counted c ≡ false
plain_at (ipv4 bytes) whole s c is = plain_in _ s c is
plain_at other_link whole s c is = grind arith
plain_at not_ipv4 whole s c is = grind arith
plain_at short whole s c is = grind arith
plain_at link_cut whole s c is = grind arith

plain-uncounted : (place : ℕ) (x : Taken) (c : Class) → classify place x ≡ plain c → is_class class.Counted c ≡ false
unfolding classify
plain-uncounted place x c is = plain_at _ _ _ c is

form-counts : (t : Transport) → is_class class.Counted (class_of t) ≡ has_form t
form-counts t = grind arith

complete-some : (h : HeaderFields) (captured : List ℕ) (size : ℕ)
    → is_some (complete_of h captured size)
    ≡ (length captured == size) && has_form (transport_of h.key.protocol captured size)
unfolding complete_of
complete-some h captured size = grind arith

same-length : (n : ℕ) → (n == n) ≡ true
same-length n = grind arith

joined-some : (ps : List Piece) → completes ps ≡ true → is_some (joined_of ps) ≡ is_class class.Counted (group_class ps)
unfolding joined_of group_class
joined-some ps whole = by (joined_header ps) refl
  where
    by : (o : Option HeaderFields) → joined_header ps ≡ o
        → is_some (joined_of ps) ≡ is_class class.Counted (group_class ps)
    by None is = grind arith
    by (Some h) is =
        grind (
          arith,
          complete-some h (joined_data ps) (length (joined_data ps)),
          same-length (length (joined_data ps)),
          form-counts (transport_of h.key.protocol (joined_data ps) (length (joined_data ps))),
        )

joined-none : (ps : List Piece) → completes ps ≡ false → is_some (joined_of ps) ≡ false
unfolding joined_of
joined-none ps open_still = grind arith

-- ---- one packet more

-- how many packets the datagram came in that a packet completes, by what it is
abbrev carried_by : Classification → (Piece → List Piece) → ℕ
carried_by l group = if is_some (datagram_of l group) then packets_carried l group else 0

carried-more : (x : Taken) (xs : List Taken) (l : Classification) → classify (length xs) x ≡ l
    → carried_in (x ∷ xs) ≡ carried_by l (group_after x.clock (events_of xs)) + carried_in xs
unfolding completed
carried-more x xs l is = ap (λ k. carried_by k (group_after x.clock (events_of xs)) + carried_in xs) is

truncated-more : (x : Taken) (xs : List Taken) (l : Classification) → classify (length xs) x ≡ l
    → truncated_in (x ∷ xs) ≡ (if is_truncated l then 1 else 0) + truncated_in xs
truncated-more x xs l is = ap (λ (k : Classification). (if is_truncated k then 1 else 0) + truncated_in xs) is

abbrev Counts : List Taken → Type 0
Counts xs = times class.Counted (classes xs) ≡ carried_in xs + truncated_in xs

fragment-more : (x : Taken) (xs : List Taken) (p : Piece) → classify (length xs) x ≡ fragment p
    → (b : Bool) → completes (group_after x.clock (events_of xs) p) ≡ b → Counts xs → Counts (x ∷ xs)
fragment-more x xs p is true whole h =
    let ps = group_after x.clock (events_of xs) p in
    grind (
      arith,
      classes-completed x xs p is whole class.Counted,
      joined-some ps whole,
      carried-more x xs (fragment p) is,
      truncated-more x xs (fragment p) is,
    )
fragment-more x xs p is false kept h =
    grind (
      arith,
      ap (times class.Counted) (classes-kept x xs p is kept),
      joined-none (group_after x.clock (events_of xs) p) kept,
      carried-more x xs (fragment p) is,
      truncated-more x xs (fragment p) is,
    )

packet-more : (x : Taken) (xs : List Taken) (l : Classification) → classify (length xs) x ≡ l → Counts xs
    → Counts (x ∷ xs)
packet-more x xs (plain c) is h =
    grind (
      arith,
      ap (times class.Counted) (classes-plain x xs c is),
      plain-uncounted (length xs) x c is,
      carried-more x xs (plain c) is,
      truncated-more x xs (plain c) is,
    )
packet-more x xs (datagram header captured) is h =
    grind (
      arith,
      ap (times class.Counted) (classes-datagram x xs header captured is),
      form-counts (transport_of header.key.protocol captured header.data_length),
      complete-some header captured header.data_length,
      carried-more x xs (datagram header captured) is,
      truncated-more x xs (datagram header captured) is,
    )
packet-more x xs (fragment p) is h =
    fragment-more x xs p is (completes (group_after x.clock (events_of xs) p)) refl h

counts : (xs : List Taken) → Counts xs
unfolding classes
counts [] = refl
counts (x ∷ xs) = packet-more x xs (classify (length xs) x) refl (counts xs)

pub left-out-law : LeftOutLaw
unfolding left_out_of
left-out-law xs = counts xs
