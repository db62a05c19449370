-- The groups by steps are the groups by places.
use Rattle.std.proofs.Common.{◌≡◌, ℕ, ◌+◌, ◌≤◌, ◌<◌, Bool, true, false, List, [], ◌∷◌, ◌++◌, length, refl, sym, ◌∙◌, ap}
use Rattle.std.proofs.Common.{subst, arith, ◌&&◌, not, Option, Some, None}
use Rattle.std.specs.Prelude.{nat_lt, ◌==◌, if◌then◌else◌}
use Rattle.std.proofs.lemmas.Bool.Decides.{nat_tests}
use Rattle.cap_time.specs.declared.stamps.Stamp.{Stamp}
use Rattle.cap_ip.specs.declared.headers.Key.{Key}
use Rattle.cap_join.specs.Fragments.{Piece}
use Rattle.cap_join.specs.ByteMap.{completes}
use Rattle.cap_join.specs.Frames.{is_before, is_too_old}
use Rattle.cap_join.specs.History.{Event, arrives, flushes, OpenGroup, OpenState, same_key, fragment_key}
use Rattle.cap_join.specs.History.{group_opened_by, with_piece}
use Rattle.cap_join.specs.History.{live_at, group_at, without, extended, trimmed, pieces_with, opens_with}
use Rattle.cap_join.specs.History.{gives_up_with, open_groups_after, step, joined_pieces}
use Rattle.cap_join.specs.Places.{Mark, fragment, whole, unless_given, goes_on, group_by, first_at, going_on, lowest}
use Rattle.cap_join.specs.Places.{given_up_at, mark_of, marks, one_if, times_given_up, latest_clock, next_place}
use Rattle.cap_join.specs.Places.{AreInOrder, Agree}
use Rattle.cap_join.proofs.Entries.{same_key-is, group_at-live}
use Rattle.cap_join.proofs.Steps.{live_at-extended, group_at-extended}
use Rattle.cap_join.proofs.OpenGroups.{before_later, same_key-sym, filter-push, filter-commute, live_at-later}
use Rattle.cap_join.proofs.OpenGroups.{group_at-filter-none, group_at-without-same, group_at-without-other}
use Rattle.cap_join.proofs.OpenGroups.{group_at-extended-other, group_at-extended-none, group_at-push-none}
use Rattle.cap_join.proofs.OpenGroups.{group_at-push-other, IsApart, Up, apart-filter, Up-wider, up-filter}
use Rattle.cap_join.proofs.OpenGroups.{apart-extended, up-extended, apart-push, up-push, up-found, group_at-live-old}
use Rattle.cap_join.proofs.OpenGroups.{gone, but_gone, but_none, trimmed-but, given_some}

-- ---- what goes on

abbrev pub live_option : Option Stamp → Option OpenGroup → Option OpenGroup
live_option now None = None
live_option now (Some g) = if is_too_old g.clock now then None else Some g

goes_on-key : (key : Key) (ms : List Mark) (g : OpenGroup) → goes_on key ms ≡ Some g → key ≡ g.key
goes_on-key key [] g h = cc
goes_on-key key (whole k ∷ ms) g h = grind (arith, goes_on-key key ms g)
goes_on-key key (fragment own q gave ∷ ms) g h = grind (arith, goes_on-key key ms g)

abbrev pub AreBelow : ℕ → List Mark → Type 0
AreBelow n [] = Unit {0}
AreBelow n (whole k ∷ ms) = AreBelow n ms
AreBelow n (fragment own g gave ∷ ms) = (own < n) × AreBelow n ms

AreBelow-wider : (n m : ℕ) (ms : List Mark) → n ≤ m → AreBelow n ms → AreBelow m ms
AreBelow-wider n m [] le h = tt
AreBelow-wider n m (whole k ∷ ms) le h = AreBelow-wider n m ms le h
AreBelow-wider n m (fragment own g gave ∷ ms) le h = let a : own < n = h.0 in
    (omega arith, AreBelow-wider n m ms le h.1)

-- what one more mark makes of the groups that go on, by what it makes of each key's
module _ (change : List OpenGroup → List OpenGroup) (none : change [] ≡ []) (each : (a b : List OpenGroup)
    → change (a ++ b) ≡ change a ++ change b) (new old : List Mark) (n : ℕ)
    (one : (own : ℕ) (key : Key) → own < n → first_at own (goes_on key new)
    ≡ change (first_at own (goes_on key old))) where
  pub going_on-change : (ms : List Mark) → AreBelow n ms → going_on new ms ≡ change (going_on old ms)
  going_on-change [] h = sym none
  going_on-change (whole k ∷ ms) h = going_on-change ms h
  going_on-change (fragment own g gave ∷ ms) h = grind (arith, going_on-change ms h.1)

-- ---- what a mark makes of a key's group

one_flush : (own : ℕ) (key k : Key) (o : Option OpenGroup) → ((g : OpenGroup) → o ≡ Some g → key ≡ g.key)
    → first_at own (if same_key key k then None else o) ≡ without k (first_at own o)
one_flush own key k o keyed = grind arith

-- a fragment that joins the group o
module _ (p : Piece) (o : OpenGroup) (ms : List Mark) (mine : o.key ≡ fragment_key p)
    (on : goes_on (fragment_key p) ms ≡ Some o)
    (n : ℕ) where
  here : (key : Key) → same_key key o.key ≡ true → goes_on key ms ≡ Some o
  here key e = ap (λ (k : Key). goes_on k ms) (same_key-is key o.key e ∙ mine) ∙ on

  self : same_key (fragment_key p) o.key ≡ true
  self = grind arith

  one_more : completes (p ∷ o.pieces) ≡ false → (own : ℕ) (key : Key) → own < n
      → first_at own (goes_on key (fragment n (with_piece p o) None ∷ ms)) ≡ extended p (first_at own (goes_on key ms))
  one_more done own key lt = joined (goes_on key ms) (goes_on-key key ms) (here key)
    where
      joined : (x : Option OpenGroup) → ((g : OpenGroup) → x ≡ Some g → key ≡ g.key)
          → (same_key key o.key ≡ true → x ≡ Some o)
          → first_at own (if same_key key o.key then (if completes (p ∷ o.pieces) then None else Some (with_piece p o))
          else unless_given None x) ≡ extended p (first_at own x)
      joined x keyed found = grind arith

  one_done : completes (p ∷ o.pieces) ≡ true → (own : ℕ) (key : Key) → own < n
      → first_at own (goes_on key (fragment n (with_piece p o) None ∷ ms))
      ≡ without (fragment_key p) (first_at own (goes_on key ms))
  one_done done own key lt = joined (goes_on key ms) (goes_on-key key ms) (here key)
    where
      joined : (x : Option OpenGroup) → ((g : OpenGroup) → x ≡ Some g → key ≡ g.key)
          → (same_key key o.key ≡ true → x ≡ Some o)
          → first_at own (if same_key key o.key then (if completes (p ∷ o.pieces) then None else Some (with_piece p o))
          else unless_given None x) ≡ without (fragment_key p) (first_at own x)
      joined x keyed found = grind arith

but_push : (gave : Option ℕ) (xs ys : List OpenGroup) → but_gone gave (xs ++ ys) ≡ but_gone gave xs ++ but_gone gave ys
but_push gave xs ys = filter-push (λ o. not (gone gave o.place)) xs ys

-- a fragment that opens a group
one_opened : (clock : Option Stamp) (p : Piece) (gave : Option ℕ) (ms : List Mark) → completes (p ∷ []) ≡ false
    → (own : ℕ) (key : Key) → own < p.stamped.place
    → first_at own (goes_on key (fragment p.stamped.place (group_opened_by clock p) gave ∷ ms))
    ≡ but_gone gave (without (fragment_key p) (first_at own (goes_on key ms)))
one_opened clock p gave ms done own key lt = new (goes_on key ms) (goes_on-key key ms)
  where
    new : (x : Option OpenGroup) → ((g : OpenGroup) → x ≡ Some g → key ≡ g.key)
        → first_at own (if same_key key (fragment_key p) then
        (if completes (p ∷ []) then None else Some (group_opened_by clock p))
        else unless_given gave x) ≡ but_gone gave (without (fragment_key p) (first_at own x))
    new None keyed = grind arith
    new (Some g) keyed = grind (arith, nat_tests, same_key-sym)

-- a group that was given up isn't found
but_found : (key : Key) (gave : Option ℕ) (os : List OpenGroup) → IsApart os
    → group_at key (but_gone gave os) ≡ unless_given gave (group_at key os)
but_found key (Some place) (o ∷ os) a = grind (arith, but_found key (Some place) os a.1)
but_found key gave os a = grind (arith, but_none)

without_absent : (key : Key) (os : List OpenGroup) → group_at key os ≡ None → without key os ≡ os
without_absent key [] h = refl
without_absent key (o ∷ os) h = grind (arith, without_absent key os)

append_none : (os : List OpenGroup) → os ++ [] ≡ os
append_none [] = refl
append_none (o ∷ os) = ap (λ (l : List OpenGroup). o ∷ l) (append_none os)

pub extended_push : (p : Piece) (xs ys : List OpenGroup) → extended p (xs ++ ys) ≡ extended p xs ++ extended p ys
extended_push p [] ys = refl
extended_push p (o ∷ xs) ys = ap (λ (l : List OpenGroup).
    (if same_key (fragment_key p) o.key then with_piece p o else o) ∷ l)
    (extended_push p xs ys)

-- ---- the induction

abbrev pub as_number : Bool → ℕ
as_number b = if b then 1 else 0

-- What holds of the open groups after some events, and of what is known by places: what is found at a clock from the
-- latest one on is what goes on and isn't too old.
pub record Holds (s : OpenState) (ms : List Mark) (c : Option Stamp) (n : ℕ) : Type 0 where
  pub apart : IsApart s.opens
  pub up : Up 0 n s.opens
  pub below : AreBelow n ms
  pub goes : (key : Key) (now : Option Stamp) → is_before now c ≡ false
      → group_at key (live_at now s.opens) ≡ live_option now (goes_on key ms)
  pub among : (now : Option Stamp) → is_before now c ≡ false → live_at now s.opens ≡ live_at now (going_on ms ms)
  pub given_up : s.given_up ≡ times_given_up ms

not_before : (c b a : Option Stamp) → is_before b c ≡ false → is_before a b ≡ false → is_before a c ≡ false
not_before c b a h k = grind (arith, before_later a c b)

pub Holds-none : Holds (record { opens = []; given_up = 0 }) [] None 0
Holds-none = record {
  apart = tt;
  up = tt;
  below = tt;
  goes = λ key now h. refl;
  among =
      λ now h. refl;
  given_up = refl;
}

module _ (s : OpenState) (ms : List Mark) (c : Option Stamp) (n : ℕ) (h : Holds s ms c n) where
  Holds-flush : (k : Key) → Holds (record { opens = without k s.opens; given_up = s.given_up }) (whole k ∷ ms) c n
  Holds-flush k = record {
    apart = apart-filter (λ o. not (same_key k o.key)) s.opens h.apart;
    up = up-filter (λ o. not (same_key k o.key)) 0 n s.opens h.up;
    below = h.below;
    goes = λ key now late. ap (group_at key) (commute now s.opens) ∙ found key now late (same_key key k) refl;
    among = λ now late.
        commute now s.opens ∙ ap (without k) (h.among now late) ∙ sym (commute now (going_on ms ms))
        ∙ ap (live_at now) (sym (going_on-change (without k) refl (filter-push (λ o. not (same_key k o.key)))
        (whole k ∷ ms) ms n
        (λ own key lt. one_flush own key k (goes_on key ms) (goes_on-key key ms)) ms h.below));
    given_up = h.given_up;
  }
    where
      commute : (now : Option Stamp) (os : List OpenGroup) → live_at now (without k os) ≡ without k (live_at now os)
      commute now os = filter-commute (λ o. not (is_too_old o.clock now)) (λ o. not (same_key k o.key)) os

      found : (key : Key) (now : Option Stamp) → is_before now c ≡ false → (b : Bool) → same_key key k ≡ b
          → group_at key (without k (live_at now s.opens))
          ≡ live_option now (if same_key key k then None else goes_on key ms)
      found key now late b e = grind (arith, group_at-without-same, group_at-without-other)

  -- a fragment at a clock that isn't below the latest
  module _ (clock : Option Stamp) (p : Piece) (later : is_before clock c ≡ false) (place : n ≤ p.stamped.place) where
    after : (now : Option Stamp) → is_before now clock ≡ false → is_before now c ≡ false
    after now late = not_before c clock now later late

    live_now : (now : Option Stamp) → is_before now clock ≡ false
        → live_at now (live_at clock s.opens) ≡ live_at now s.opens
    live_now now late = live_at-later clock now late s.opens

    apart0 : IsApart (live_at clock s.opens)
    apart0 = apart-filter (λ o. not (is_too_old o.clock clock)) s.opens h.apart

    up0 : Up 0 n (live_at clock s.opens)
    up0 = up-filter (λ o. not (is_too_old o.clock clock)) 0 n s.opens h.up

    -- it opens a group, and one may be given up for it
    Holds-opened : (gave : Option ℕ) → completes (p ∷ []) ≡ false
        → group_at (fragment_key p) (live_at clock s.opens) ≡ None
        → Holds (record {
          opens = but_gone gave (live_at clock s.opens) ++ group_opened_by clock p ∷ [];
          given_up = s.given_up + one_if gave;
        })
        (fragment p.stamped.place (group_opened_by clock p) gave ∷ ms) clock (p.stamped.place + 1)
    Holds-opened gave alone none = record {
      apart = apart-push (group_opened_by clock p) (but_gone gave (live_at clock s.opens)) absent
          (apart-filter (λ o. not (gone gave o.place)) (live_at clock s.opens) apart0);
      up = up-push 0 n (group_opened_by clock p) (but_gone gave (live_at clock s.opens)) (omega arith) place
          (up-filter (λ o. not (gone gave o.place)) 0 n (live_at clock s.opens) up0);
      below = (omega arith, AreBelow-wider n (p.stamped.place + 1) ms (omega arith) h.below);
      goes = λ key now late.
          ap (group_at key) (filter-push (λ o. not (is_too_old o.clock now)) (but_gone gave (live_at clock s.opens))
          (group_opened_by clock p ∷ []) ∙ ap (λ (l : List OpenGroup). l ++ live_at now (group_opened_by clock p ∷ []))
          (staying now late))
          ∙ found key now late (same_key key (fragment_key p)) refl (is_too_old clock now) refl;
      among = λ now late.
          filter-push (λ o. not (is_too_old o.clock now)) (but_gone gave (live_at clock s.opens))
          (group_opened_by clock p ∷ [])
          ∙ ap (λ (l : List OpenGroup). l ++ live_at now (group_opened_by clock p ∷ [])) (rest_among now late)
          ∙ sym (filter-push (λ o. not (is_too_old o.clock now))
          (but_gone gave (without (fragment_key p) (going_on ms ms)))
          (group_opened_by clock p ∷ []))
          ∙ sym (ap (live_at now) (λ i. changed i ++ newest i));
      given_up = ap (λ (x : ℕ). x + one_if gave) h.given_up;
    }
      where
        absent : group_at (fragment_key p) (but_gone gave (live_at clock s.opens)) ≡ None
        absent = group_at-filter-none (fragment_key p) (λ o. not (gone gave o.place)) (live_at clock s.opens) none

        -- what stays of the groups before
        staying : (now : Option Stamp) → is_before now clock ≡ false
            → live_at now (but_gone gave (live_at clock s.opens)) ≡ but_gone gave (live_at now s.opens)
        staying now late = filter-commute (λ o. not (is_too_old o.clock now)) (λ o. not (gone gave o.place))
            (live_at clock s.opens) ∙ ap (but_gone gave) (live_now now late)

        absent_now : (now : Option Stamp) → is_before now clock ≡ false
            → group_at (fragment_key p) (but_gone gave (live_at now s.opens)) ≡ None
        absent_now now late = ap (group_at (fragment_key p)) (sym (staying now late))
            ∙ group_at-filter-none (fragment_key p) (λ o. not (is_too_old o.clock now))
            (but_gone gave (live_at clock s.opens)) absent

        found : (key : Key) (now : Option Stamp) → is_before now clock ≡ false → (b : Bool)
            → same_key key (fragment_key p) ≡ b → (t : Bool) → is_too_old clock now ≡ t
            → group_at key (but_gone gave (live_at now s.opens) ++ live_at now (group_opened_by clock p ∷ []))
            ≡ live_option now (goes_on key (fragment p.stamped.place (group_opened_by clock p) gave ∷ ms))
        found key now late true e t old =
            grind (arith, but_gone, goes_on, same_key-is, absent_now, append_none, group_at-push-none)
        found key now late false e t old =
            grind (
              arith,
              append_none,
              group_at-push-other,
              but_found,
              apart-filter (λ o. not (is_too_old o.clock now)) s.opens h.apart,
              h.goes key now (after now late),
            )

        -- by places: the groups before, and this one
        changed : going_on (fragment p.stamped.place (group_opened_by clock p) gave ∷ ms) ms
            ≡ but_gone gave (without (fragment_key p) (going_on ms ms))
        changed = going_on-change (λ l. but_gone gave (without (fragment_key p) l)) refl
            (λ a b. ap (but_gone gave) (filter-push (λ o. not (same_key (fragment_key p) o.key)) a b)
            ∙ but_push gave (without (fragment_key p) a) (without (fragment_key p) b))
            (fragment p.stamped.place (group_opened_by clock p) gave ∷ ms) ms n
            (λ own key lt. one_opened clock p gave ms alone own key (omega arith)) ms h.below

        newest : (if p.stamped.place == p.stamped.place then first_at p.stamped.place
            (goes_on (fragment_key p) (fragment p.stamped.place (group_opened_by clock p) gave ∷ ms)) else [])
            ≡ group_opened_by clock p ∷ []
        newest = grind arith

        rest_among : (now : Option Stamp) → is_before now clock ≡ false
            → live_at now (but_gone gave (live_at clock s.opens))
            ≡ live_at now (but_gone gave (without (fragment_key p) (going_on ms ms)))
        rest_among now late =
            staying now late
            ∙ ap (but_gone gave) (sym (without_absent (fragment_key p) (live_at now s.opens)
            (ap (group_at (fragment_key p)) (sym (live_now now late))
            ∙ group_at-filter-none (fragment_key p) (λ o. not (is_too_old o.clock now)) (live_at clock s.opens) none))
            ∙ ap (without (fragment_key p)) (h.among now (after now late))
            ∙ filter-commute (λ o. not (same_key (fragment_key p) o.key)) (λ o. not (is_too_old o.clock now))
            (going_on ms ms))
            ∙ filter-commute (λ o. not (gone gave o.place)) (λ o. not (is_too_old o.clock now))
            (without (fragment_key p) (going_on ms ms))

    -- it joins the group o
    module _ (o : OpenGroup) (on : goes_on (fragment_key p) ms ≡ Some o)
        (found : group_at (fragment_key p) (live_at clock s.opens) ≡ Some o) where
      mine : o.key ≡ fragment_key p
      mine = sym (goes_on-key (fragment_key p) ms o on)

      not_first : (o.place == p.stamped.place) ≡ false
      not_first = (let low : (0 ≤ o.place) × (o.place < n) =
          up-found (fragment_key p) 0 n o (live_at clock s.opens) up0 found in grind (arith, nat_tests))

      below_more : AreBelow (p.stamped.place + 1) (fragment p.stamped.place (with_piece p o) None ∷ ms)
      below_more = (omega arith, AreBelow-wider n (p.stamped.place + 1) ms (omega arith) h.below)

      wider : AreBelow p.stamped.place ms
      wider = AreBelow-wider n p.stamped.place ms place h.below

      no_newest : (l : List OpenGroup)
          → l ++ (if (with_piece p o).place == p.stamped.place then first_at p.stamped.place
          (goes_on o.key (fragment p.stamped.place (with_piece p o) None ∷ ms)) else []) ≡ l
      no_newest l = ap (λ (b : Bool). l
          ++ (if b then first_at p.stamped.place (goes_on o.key (fragment p.stamped.place (with_piece p o) None ∷ ms))
          else [])) not_first ∙ append_none l

      -- and completes it
      Holds-done : completes (p ∷ o.pieces) ≡ true → Holds
          (record { opens = without (fragment_key p) (live_at clock s.opens); given_up = s.given_up + 0 })
          (fragment p.stamped.place (with_piece p o) None ∷ ms) clock (p.stamped.place + 1)
      Holds-done done = record {
        apart = apart-filter (λ o. not (same_key (fragment_key p) o.key)) (live_at clock s.opens) apart0;
        up = Up-wider 0 n 0 (p.stamped.place + 1) (without (fragment_key p) (live_at clock s.opens)) (omega arith)
            (omega arith) (up-filter (λ o. not (same_key (fragment_key p) o.key)) 0 n (live_at clock s.opens) up0);
        below = below_more;
        goes = λ key now late. ap (group_at key) (commute now late) ∙ by key now late (same_key key o.key) refl;
        among = λ now late.
            commute now late ∙ ap (without (fragment_key p)) (h.among now (after now late))
            ∙ filter-commute (λ o. not (same_key (fragment_key p) o.key)) (λ o. not (is_too_old o.clock now))
            (going_on ms ms)
            ∙ ap (live_at now) (sym (no_newest (going_on (fragment p.stamped.place (with_piece p o) None ∷ ms) ms)
            ∙ going_on-change (without (fragment_key p)) refl (filter-push (λ o. not (same_key (fragment_key p) o.key)))
            (fragment p.stamped.place (with_piece p o) None ∷ ms) ms p.stamped.place
            (one_done p o ms mine on p.stamped.place done) ms wider));
        given_up = ap (λ (x : ℕ). x + 0) h.given_up;
      }
        where
          commute : (now : Option Stamp) → is_before now clock ≡ false
              → live_at now (without (fragment_key p) (live_at clock s.opens))
              ≡ without (fragment_key p) (live_at now s.opens)
          commute now late = filter-commute (λ o. not (is_too_old o.clock now))
              (λ o. not (same_key (fragment_key p) o.key))
              (live_at clock s.opens) ∙ ap (without (fragment_key p)) (live_now now late)

          by : (key : Key) (now : Option Stamp) → is_before now clock ≡ false → (b : Bool) → same_key key o.key ≡ b
              → group_at key (without (fragment_key p) (live_at now s.opens))
              ≡ live_option now (goes_on key (fragment p.stamped.place (with_piece p o) None ∷ ms))
          by key now late true e = grind (arith, group_at-without-same, mine)
          by key now late false e = grind (arith, mine, h.goes key now (after now late), group_at-without-other)

      -- and doesn't complete it
      Holds-more : completes (p ∷ o.pieces) ≡ false → Holds
          (record { opens = extended p (live_at clock s.opens); given_up = s.given_up + 0 })
          (fragment p.stamped.place (with_piece p o) None ∷ ms) clock (p.stamped.place + 1)
      Holds-more done = record {
        apart = apart-extended p (live_at clock s.opens) apart0;
        up = Up-wider 0 n 0 (p.stamped.place + 1) (extended p (live_at clock s.opens)) (omega arith) (omega arith)
            (up-extended p 0 n (live_at clock s.opens) up0);
        below = below_more;
        goes = λ key now late. ap (group_at key) (live_at-extended now p (live_at clock s.opens))
            ∙ by key now late (same_key key o.key) refl;
        among = λ now late.
            live_at-extended now p (live_at clock s.opens)
            ∙ ap (extended p) (live_now now late ∙ h.among now (after now late))
            ∙ sym (live_at-extended now p (going_on ms ms))
            ∙ ap (live_at now) (sym (no_newest (going_on (fragment p.stamped.place (with_piece p o) None ∷ ms) ms)
            ∙ going_on-change (extended p) refl (extended_push p)
            (fragment p.stamped.place (with_piece p o) None ∷ ms) ms p.stamped.place
            (one_more p o ms mine on p.stamped.place done) ms wider));
        given_up = ap (λ (x : ℕ). x + 0) h.given_up;
      }
        where
          by : (key : Key) (now : Option Stamp) → is_before now clock ≡ false → (b : Bool) → same_key key o.key ≡ b
              → group_at key (extended p (live_at now (live_at clock s.opens)))
              ≡ live_option now (goes_on key (fragment p.stamped.place (with_piece p o) None ∷ ms))
          by key now late true e =
              ap (λ (k : Key). group_at k (extended p (live_at now (live_at clock s.opens))))
              (same_key-is key o.key e ∙ mine)
              ∙ old (is_too_old o.clock now) refl
              ∙ sym (ap (λ (b : Bool). live_option now
              (if b then (if completes (p ∷ o.pieces) then None else Some (with_piece p o)) else unless_given None
              (goes_on key ms))) e
              ∙ ap (λ (b : Bool). live_option now (if b then None else Some (with_piece p o))) done)
            where
              old : (t : Bool) → is_too_old o.clock now ≡ t → group_at (fragment_key p)
                  (extended p (live_at now (live_at clock s.opens))) ≡ live_option now (Some (with_piece p o))
              old true t =
                  group_at-extended-none (fragment_key p) p (live_at now (live_at clock s.opens))
                  (group_at-live-old (fragment_key p) now o (live_at clock s.opens) apart0 found t)
                  ∙ sym (ap (λ (b : Bool). if b then None else Some (with_piece p o)) t)
              old false t =
                  group_at-extended p o (live_at now (live_at clock s.opens))
                  (group_at-live (fragment_key p) now o (live_at clock s.opens) found (ap not t))
                  ∙ sym (ap (λ (b : Bool). if b then None else Some (with_piece p o)) t)
          by key now late false e =
              grind (arith, mine, h.goes key now (after now late), live_now now late, group_at-extended-other)

    itself : (p.stamped.place == p.stamped.place) ≡ true
    itself = grind arith

    -- what a fragment makes of the state and of what is known by places: it opens a group
    arrives_new : (limit : ℕ) → 0 < limit → completes (p ∷ []) ≡ false
        → group_at (fragment_key p) (live_at clock s.opens) ≡ None
        → group_by clock p (goes_on (fragment_key p) ms) ≡ group_opened_by clock p
        → Holds (record {
          opens = opens_with limit clock p (group_at (fragment_key p) (live_at clock s.opens)) (live_at clock s.opens);
          given_up = s.given_up + (if gives_up_with limit p (group_at (fragment_key p) (live_at clock s.opens))
              (live_at clock s.opens) then 1 else 0);
        }) (mark_of limit clock p ms ∷ ms) clock (p.stamped.place + 1)
    arrives_new limit some alone none group =
        let gave : Option ℕ = if not (nat_lt (length (live_at clock s.opens)) limit) then lowest
        (live_at clock s.opens) else None in
        let opens_is : but_gone gave (live_at clock s.opens) ++ group_opened_by clock p ∷ []
        ≡ opens_with limit clock p (group_at (fragment_key p) (live_at clock s.opens)) (live_at clock s.opens) =
        sym (ap (λ (x : Option OpenGroup). opens_with limit clock p x (live_at clock s.opens)) none
        ∙ ap (λ (b : Bool). if b then live_at clock s.opens else trimmed limit (live_at clock s.opens)
        ++ group_opened_by clock p ∷ []) alone
        ∙ ap (λ (l : List OpenGroup). l ++ group_opened_by clock p ∷ [])
        (trimmed-but limit 0 n (live_at clock s.opens) some up0)) in
        let count_is : one_if gave
        ≡ (if gives_up_with limit p (group_at (fragment_key p) (live_at clock s.opens))
        (live_at clock s.opens) then 1 else 0) =
        sym (ap (λ (x : Option OpenGroup). as_number (gives_up_with limit p x (live_at clock s.opens))) none
        ∙ ap (λ (b : Bool). as_number (not b && not (nat_lt (length (live_at clock s.opens)) limit))) alone
        ∙ given_some limit 0 n (live_at clock s.opens) some up0) in
        let mark_is : fragment p.stamped.place (group_opened_by clock p) gave ≡ mark_of limit clock p ms =
        sym (ap (λ (l : List OpenGroup). fragment p.stamped.place (group_by clock p (goes_on (fragment_key p) ms))
        (given_up_at limit p.stamped.place (group_by clock p (goes_on (fragment_key p) ms)) l))
        (sym (h.among clock later))
        ∙ ap (λ (g : OpenGroup). fragment p.stamped.place g
        (given_up_at limit p.stamped.place g (live_at clock s.opens))) group
        ∙ ap (λ (b : Bool). fragment p.stamped.place (group_opened_by clock p)
        (if b && not (nat_lt (length (live_at clock s.opens)) limit) then lowest
        (live_at clock s.opens) else None)) itself) in
        subst (λ (m : Mark). Holds (record {
          opens = opens_with limit clock p (group_at (fragment_key p) (live_at clock s.opens)) (live_at clock s.opens);
          given_up = s.given_up + (if gives_up_with limit p (group_at (fragment_key p) (live_at clock s.opens))
              (live_at clock s.opens) then 1 else 0);
        }) (m ∷ ms) clock (p.stamped.place + 1)) mark_is
        (subst (λ (x : ℕ). Holds
        (record {
          opens = opens_with limit clock p (group_at (fragment_key p) (live_at clock s.opens))
              (live_at clock s.opens);
          given_up = s.given_up + x;
        })
        (fragment p.stamped.place (group_opened_by clock p) gave ∷ ms) clock (p.stamped.place + 1)) count_is
        (subst (λ (l : List OpenGroup). Holds (record { opens = l; given_up = s.given_up + one_if gave })
        (fragment p.stamped.place (group_opened_by clock p) gave ∷ ms) clock (p.stamped.place + 1)) opens_is
        (Holds-opened gave alone none)))

    -- or it joins one
    arrives_more : (limit : ℕ) (o : OpenGroup) → goes_on (fragment_key p) ms ≡ Some o
        → group_at (fragment_key p) (live_at clock s.opens) ≡ Some o → is_too_old o.clock clock ≡ false
        → Holds (record {
          opens = opens_with limit clock p (group_at (fragment_key p) (live_at clock s.opens)) (live_at clock s.opens);
          given_up = s.given_up + (if gives_up_with limit p (group_at (fragment_key p) (live_at clock s.opens))
              (live_at clock s.opens) then 1 else 0);
        }) (mark_of limit clock p ms ∷ ms) clock (p.stamped.place + 1)
    arrives_more limit o on found fresh = grind (arith, goes_on, lowest, not_first, Holds-done, Holds-more)

    Holds-arrives : (limit : ℕ) → 0 < limit → completes (p ∷ []) ≡ false
        → Holds (record {
          opens = opens_with limit clock p (group_at (fragment_key p) (live_at clock s.opens)) (live_at clock s.opens);
          given_up = s.given_up + (if gives_up_with limit p (group_at (fragment_key p) (live_at clock s.opens))
              (live_at clock s.opens) then 1 else 0);
        }) (mark_of limit clock p ms ∷ ms) clock (p.stamped.place + 1)
    Holds-arrives limit some alone = grind (arith, arrives_new, arrives_more)

-- after any events in order
pub holds : (limit : ℕ) (es : List Event) → 0 < limit → AreInOrder es
    → Holds (open_groups_after limit es) (marks limit es) (latest_clock es) (next_place es)
unfolding open_groups_after step
holds limit [] some order = Holds-none
holds limit (arrives clock p ∷ es) some order = search (holds limit es some order.3, Holds-arrives)
holds limit (flushes key ∷ es) some order = search (holds limit es some order, Holds-flush)

same_pieces : (clock : Option Stamp) (p : Piece) (x : Option OpenGroup)
    → pieces_with p (live_option clock x) ≡ (group_by clock p x).pieces
same_pieces clock p x = grind arith

pub agree : (limit : ℕ) (es : List Event) → 0 < limit → AreInOrder es → Agree limit es
unfolding joined_pieces
agree limit es some order = grind (arith, holds limit es some order, holds, same_pieces)
