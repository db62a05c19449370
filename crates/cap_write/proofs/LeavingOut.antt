-- What is counted of the packets that are left out, with one packet more.
use Rattle.std.proofs.Common.{◌≡◌, ℕ, ◌+◌, ◌≤◌, ◌<◌, ◌^◌, true, false, List, [], ◌∷◌, length, refl, sym, ◌∙◌, ap}
use Rattle.std.proofs.Common.{subst, arith, Option, Some, None, Result, Ok, Err}
use Rattle.std.specs.Prelude.{OnOk}
use Rattle.std.specs.Prelude.{if◌then◌else◌}
use Rattle.std.specs.Option.{option_map}
use Rattle.cap_class.specs.Taken.{Taken, Classification, plain, datagram, fragment, classify, events_of, stamped_of}
use Rattle.cap_class.specs.declared.classes.Class.{Class}
use Rattle.cap_class.specs.declared.classes.Class.TheVariants as class
use Rattle.cap_ip.specs.Header.{HeaderFields}
use Rattle.cap_ip.specs.Transport.{transport_of}
use Rattle.cap_join.specs.ByteMap.{completes}
use Rattle.cap_join.specs.Fragments.{Piece}
use Rattle.cap_join.specs.History.{arrives, flushes, joined_pieces, open_groups_after}
use Rattle.cap_join.specs.Joiners.{IsAnswer, JoinerState, JoinerStandsFor, open_limit}
use Rattle.cap_join.specs.inner.Groups.{IsDatagramOf}
use Rattle.cap_join.specs.declared.datagrams.Datagram.{Datagram}
use Rattle.cap_join.specs.declared.datagrams.Put.{Put}
use Rattle.cap_join.specs.declared.datagrams.Put.TheVariants as puts
use Rattle.cap_join.specs.declared.datagrams.Stamped.{Stamped}
use Rattle.cap_class.proofs.Moves.{kept-of, joined-of}
use Rattle.cap_class.proofs.Steps.{classes-plain, classes-datagram, classes-kept, classes-completed, one-class}
use Rattle.cap_class.proofs.Moves.{events-are, counts-more, counts-moved, enough, class-of-group}
use Rattle.cap_class.specs.Counting.{with_frames, with_group}
use Rattle.cap_class.specs.Counting.{counts_of, sum_of}
use Rattle.cap_class.specs.Classes.{class_of, classes}
use Rattle.cap_write.specs.LeftOut.{CountsLeftOut, is_truncated, left_out_of, truncated_in}
use Rattle.cap_write.specs.inner.LeftCounts.{HasRoom, MovesFew, StandsForTaken, with_class, with_datagram, with_joined}
use Rattle.cap_write.specs.declared.left_out.LeftOut.{LeftOut}

-- ---- room

truncated-few : (xs : List Taken) → truncated_in xs ≤ length xs
truncated-few [] = omega arith
truncated-few (x ∷ xs) = grind (arith, truncated-few xs)

room-of : (l : LeftOut) (xs : List Taken) → l ≡ left_out_of xs → length xs < 2 ^ 63
    → (sum_of l.classes + 1 < 2 ^ 64) × (l.truncated + 1 < 2 ^ 64)
unfolding left_out_of
room-of l xs is few = (
  omega (arith, ap (λ (n : LeftOut). sum_of n.classes) is, (one-class xs).sum, few),
  omega (arith, ap (λ (n : LeftOut). n.truncated) is, truncated-few xs, few),
)

-- as many packets are counted as came, so there is room for one more
pub has-room : (left : Option LeftOut) (xs : List Taken) (place : ℕ) (joiner : JoinerState)
    → StandsForTaken xs place joiner left → place < 2 ^ 63 → HasRoom left
has-room None xs place joiner h few = tt
has-room (Some l) xs place joiner h few = room-of l xs h.counts (omega (arith, h.here, few))

-- no packet was taken
pub taken-no-packet : (joiner : JoinerState) (left : Option LeftOut) → JoinerStandsFor joiner []
    → CountsLeftOut left [] → StandsForTaken [] 0 joiner left
unfolding events_of
taken-no-packet joiner left stands none = record { here = refl; joins = stands; counts = none }

-- ---- one packet more

truncated-more : (x : Taken) (xs : List Taken) (l : Classification) → classify (length xs) x ≡ l
    → truncated_in (x ∷ xs) ≡ (if is_truncated l then 1 else 0) + truncated_in xs
truncated-more x xs l is = ap (λ (k : Classification). (if is_truncated k then 1 else 0) + truncated_in xs) is

truncated-same : (x : Taken) (xs : List Taken) (k : Classification) (l : LeftOut) → classify (length xs) x ≡ k
    → is_truncated k ≡ false → l ≡ left_out_of xs → l.truncated ≡ truncated_in (x ∷ xs)
unfolding left_out_of
truncated-same x xs k l is whole h = grind (arith, truncated-more x xs k is)

module _ (x : Taken) (xs : List Taken) where
  counts-plain : (left : Option LeftOut) (c : Class) → classify (length xs) x ≡ plain c → CountsLeftOut left xs
      → CountsLeftOut (option_map (with_class c) left) (x ∷ xs)
  unfolding left_out_of
  counts-plain None c is h = tt
  counts-plain (Some l) c is h = λ i. record {
    classes = (ap (λ (n : LeftOut). with_frames c 1 n.classes) h ∙ sym (counts-more c (classes xs))
        ∙ ap counts_of (sym (classes-plain x xs c is))) i;
    truncated = truncated-same x xs (plain c) l is refl h i;
  }

  counts-datagram : (left : Option LeftOut) (header : HeaderFields) (captured : List ℕ)
      → classify (length xs) x ≡ datagram header captured → CountsLeftOut left xs
      → CountsLeftOut (option_map (with_datagram header captured) left) (x ∷ xs)
  unfolding left_out_of
  counts-datagram None header captured is h = tt
  counts-datagram (Some l) header captured is h =
      let c = class_of (transport_of header.key.protocol captured header.data_length) in
      let more : (with_datagram header captured l).truncated ≡ truncated_in (x ∷ xs) =
      omega (arith, ap (λ (n : LeftOut). n.truncated) h, truncated-more x xs (datagram header captured) is) in
      λ i. record {
        classes = (ap (λ (n : LeftOut). with_frames c 1 n.classes) h ∙ sym (counts-more c (classes xs))
            ∙ ap counts_of (sym (classes-datagram x xs header captured is))) i;
        truncated = more i;
      }

  counts-kept : (left : Option LeftOut) (p : Piece) (is : classify (length xs) x ≡ fragment p)
      → completes (joined_pieces x.clock p (open_groups_after open_limit (events_of xs))) ≡ false
      → CountsLeftOut left xs → CountsLeftOut (option_map (with_class class.Unjoined) left) (x ∷ xs)
  unfolding left_out_of
  counts-kept None p is none h = tt
  counts-kept (Some l) p is none h = λ i. record {
    classes = (ap (λ (n : LeftOut). with_frames class.Unjoined 1 n.classes) h
        ∙ sym (counts-more class.Unjoined (classes xs)) ∙ ap counts_of (sym (classes-kept x xs p is none))) i;
    truncated = truncated-same x xs (fragment p) l is refl h i;
  }

  counts-joined : (left : Option LeftOut) (p : Piece) (is : classify (length xs) x ≡ fragment p) (d : Datagram)
      → completes (joined_pieces x.clock p (open_groups_after open_limit (events_of xs))) ≡ true
      → IsDatagramOf d (joined_pieces x.clock p (open_groups_after open_limit (events_of xs)))
      → CountsLeftOut left xs → CountsLeftOut (option_map (with_joined d) left) (x ∷ xs)
  unfolding left_out_of
  counts-joined None p is d whole joins h = tt
  counts-joined (Some l) p is d whole joins h =
      let ps = joined_pieces x.clock p (open_groups_after open_limit (events_of xs)) in
      let k = class-of-group ps d joins in
      let c = ap (λ (n : LeftOut). n.classes) h in
      λ i. record {
        classes = ((λ j. with_group (sym k j) (joins.frames j) (c j))
            ∙ sym (counts-moved ps (length ps) (classes (x ∷ xs)) (classes xs)
            (classes-completed x xs p is whole))) i;
        truncated = truncated-same x xs (fragment p) l is refl h i;
      }

  -- the fragments of a datagram were unjoined, but the one that completes it
  pub moves-few : (left : Option LeftOut) (p : Piece) (is : classify (length xs) x ≡ fragment p) (d : Datagram)
      → completes (joined_pieces x.clock p (open_groups_after open_limit (events_of xs))) ≡ true
      → IsDatagramOf d (joined_pieces x.clock p (open_groups_after open_limit (events_of xs)))
      → CountsLeftOut left xs → MovesFew d left
  unfolding left_out_of
  moves-few None p is d whole joins h = tt
  moves-few (Some l) p is d whole joins h =
      let ps = joined_pieces x.clock p (open_groups_after open_limit (events_of xs)) in
      omega (
        arith,
        joins.frames,
        enough ps (length ps) (classes (x ∷ xs)) (classes xs) (classes-completed x xs p is whole),
        ap (λ (n : LeftOut). n.classes.unjoined) h,
      )

  module _ (place : ℕ) (joiner new : JoinerState) (left : Option LeftOut)
      (h : StandsForTaken xs place joiner left) where
    pub taken-plain : (c : Class) → classify (length xs) x ≡ plain c
        → StandsForTaken (x ∷ xs) (place + 1) joiner (option_map (with_class c) left)
    taken-plain c is = record {
      here = omega (arith, h.here);
      joins = subst (JoinerStandsFor joiner) (sym (events-are x xs (plain c) is)) h.joins;
      counts = counts-plain left c is h.counts;
    }

    pub taken-datagram : (header : HeaderFields) (captured : List ℕ)
        → classify (length xs) x ≡ datagram header captured
        → JoinerStandsFor new (flushes header.key ∷ events_of xs)
        → StandsForTaken (x ∷ xs) (place + 1) new (option_map (with_datagram header captured) left)
    taken-datagram header captured is flushed = record {
      here = omega (arith, h.here);
      joins = subst (JoinerStandsFor new) (sym (events-are x xs (datagram header captured) is)) flushed;
      counts = counts-datagram left header captured is h.counts;
    }

    pub taken-kept : (p : Piece) → classify (length xs) x ≡ fragment p
        → completes (joined_pieces x.clock p (open_groups_after open_limit (events_of xs))) ≡ false
        → JoinerStandsFor new (arrives x.clock p ∷ events_of xs)
        → StandsForTaken (x ∷ xs) (place + 1) new (option_map (with_class class.Unjoined) left)
    taken-kept p is none put = record {
      here = omega (arith, h.here);
      joins = subst (JoinerStandsFor new) (sym (events-are x xs (fragment p) is)) put;
      counts = counts-kept left p is none h.counts;
    }

    pub taken-joined : (p : Piece) → classify (length xs) x ≡ fragment p → (d : Datagram)
        → completes (joined_pieces x.clock p (open_groups_after open_limit (events_of xs))) ≡ true
        → IsDatagramOf d (joined_pieces x.clock p (open_groups_after open_limit (events_of xs)))
        → JoinerStandsFor new (arrives x.clock p ∷ events_of xs)
        → StandsForTaken (x ∷ xs) (place + 1) new (option_map (with_joined d) left)
    taken-joined p is d whole joins put = record {
      here = omega (arith, h.here);
      joins = subst (JoinerStandsFor new) (sym (events-are x xs (fragment p) is)) put;
      counts = counts-joined left p is d whole joins h.counts;
    }

-- ---- a fragment, by what the joiner answered

module _ (x : Taken) (xs : List Taken) (place : ℕ) (joiner new : JoinerState) (left : Option LeftOut)
    (h : StandsForTaken xs place joiner left) (p : Stamped → Piece)
    (is : (n : ℕ) → classify n x ≡ fragment (p (stamped_of n x.meta))) (s : Stamped)
    (own : s ≡ stamped_of place x.meta) (put : Put) where
  -- the fragment that the joiner was given is the packet
  stamped : s ≡ stamped_of (length xs) x.meta
  stamped = own ∙ ap (λ n. stamped_of n x.meta) h.here

  pub taken-kept-at : put ≡ puts.Kept
      → IsAnswer put (joined_pieces x.clock (p s) (open_groups_after open_limit (events_of xs)))
      → JoinerStandsFor new (arrives x.clock (p s) ∷ events_of xs)
      → StandsForTaken (x ∷ xs) (place + 1) new (option_map (with_class class.Unjoined) left)
  taken-kept-at kept answer stands =
      let q = λ (t : Stamped). joined_pieces x.clock (p t) (open_groups_after open_limit (events_of xs)) in
      taken-kept x xs place joiner new left h (p (stamped_of (length xs) x.meta)) (is (length xs))
      (kept-of put (q (stamped_of (length xs) x.meta)) kept (subst (λ t. IsAnswer put (q t)) stamped answer))
      (subst (λ t. JoinerStandsFor new (arrives x.clock (p t) ∷ events_of xs)) stamped stands)

  pub taken-joined-at : (d : Datagram) → put ≡ puts.Joined d
      → IsAnswer put (joined_pieces x.clock (p s) (open_groups_after open_limit (events_of xs)))
      → JoinerStandsFor new (arrives x.clock (p s) ∷ events_of xs)
      → StandsForTaken (x ∷ xs) (place + 1) new (option_map (with_joined d) left)
  taken-joined-at d joins answer stands =
      let q = λ (t : Stamped). joined_pieces x.clock (p t) (open_groups_after open_limit (events_of xs)) in
      let both = joined-of put d (q (stamped_of (length xs) x.meta)) joins
      (subst (λ t. IsAnswer put (q t)) stamped answer) in
      taken-joined x xs place joiner new left h (p (stamped_of (length xs) x.meta)) (is (length xs)) d both.0 both.1
      (subst (λ t. JoinerStandsFor new (arrives x.clock (p t) ∷ events_of xs)) stamped stands)

  pub moves-few-at : (d : Datagram) → put ≡ puts.Joined d
      → IsAnswer put (joined_pieces x.clock (p s) (open_groups_after open_limit (events_of xs))) → MovesFew d left
  moves-few-at d joins answer =
      let q = λ (t : Stamped). joined_pieces x.clock (p t) (open_groups_after open_limit (events_of xs)) in
      let both = joined-of put d (q (stamped_of (length xs) x.meta)) joins
      (subst (λ t. IsAnswer put (q t)) stamped answer) in
      moves-few x xs left (p (stamped_of (length xs) x.meta)) (is (length xs)) d both.0 both.1 h.counts

-- ---- answers

-- what holds anyway
pub OnOk-of : {A E : Type 0} (result : Result A E) (P : Type 0) → P → OnOk result P
OnOk-of (Ok x) P h = h
OnOk-of (Err fault) P h = tt
