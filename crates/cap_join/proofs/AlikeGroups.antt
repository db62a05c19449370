-- What fragments make of the open groups, if they are alike, one by one, and their clocks are of the same times.
use Rattle.std.proofs.Common.{arith, ◌≡◌, ℕ, ◌+◌, Bool, false, List, [], ◌∷◌, ◌++◌, length, refl, ◌∙◌, ap, not}
use Rattle.std.proofs.Common.{true≢false, ◌&&◌, Option, Some, None}
use Rattle.std.proofs.lemmas.List.Elements.{length_all_zip, AllZip-push}
use Rattle.std.specs.Prelude.{nat_lt, nat_le, if◌then◌else◌, filter}
use Rattle.std.specs.List.{list_all, AllZip}
use Rattle.std.specs.Option.{option_cmp}
use Rattle.std.specs.Ordering.{is_lt}
use Rattle.std.specs.Cmp.{alike_right}
use Rattle.cap_time.specs.declared.stamps.Stamp.{Stamp}
use Rattle.cap_time.specs.Stamp.{stamp_cmp, stamp_plus}
use Rattle.cap_time.proofs.StampForms.{stamp_plus-alike}
use Rattle.cap_ip.specs.declared.headers.Key.{Key}
use Rattle.cap_join.specs.ByteMap.{completes}
use Rattle.cap_join.specs.Completed.{if_complete, completed_of}
use Rattle.cap_join.specs.inner.EqualClocks.{IsSameClock}
use Rattle.cap_join.specs.Fragments.{Piece}
use Rattle.cap_join.specs.Frames.{is_before, is_too_old, wait}
use Rattle.cap_join.specs.History.{Event, arrives, flushes, OpenGroup, OpenState, same_key, fragment_key}
use Rattle.cap_join.specs.History.{group_opened_by, with_piece}
use Rattle.cap_join.specs.History.{live_at, group_at, without, extended, without_oldest, trimmed, pieces_with}
use Rattle.cap_join.specs.History.{opens_with, gives_up_with, open_groups_after, step, joined_pieces}
use Rattle.cap_join.proofs.OpenGroups.{total}

-- ---- clocks

pub cmp_same : (a b c d : Option Stamp) → IsSameClock a b → IsSameClock c d
    → option_cmp stamp_cmp a c ≡ option_cmp stamp_cmp b d
cmp_same a b c d e f = total.congr a b c e ∙ alike_right total c d b f

pub before_same : (a b c d : Option Stamp) → IsSameClock a b → IsSameClock c d → is_before a c ≡ is_before b d
before_same a b c d e f = ap is_lt (cmp_same a b c d e f)

old_same : (a b c d : Option Stamp) → IsSameClock a b → IsSameClock c d → is_too_old a c ≡ is_too_old b d
old_same None None c d e f = refl
old_same None (Some b) c d e f = grind (arith, true≢false)
old_same (Some a) None c d e f = grind (arith, true≢false)
old_same (Some a) (Some b) c d e f = before_same (Some (stamp_plus a wait)) (Some (stamp_plus b wait)) c d
    (stamp_plus-alike a b wait e) f

-- ---- fragments that are alike

-- What is asked of fragments that are alike: they have the same header and the same place in the run, and complete a
-- datagram together.
pub record IsAlikeness (R : Piece → Piece → Type 0) : Type 0 where
  pub header : (p q : Piece) → R p q → p.header ≡ q.header
  pub place : (p q : Piece) → R p q → p.stamped.place ≡ q.stamped.place
  pub completes : (ps qs : List Piece) → AllZip R ps qs → completes ps ≡ completes qs

-- Two events are of fragments that are alike, at clocks of one time, or of one key.
abbrev pub IsAlikeEvent : (Piece → Piece → Type 0) → Event → Event → Type 0
IsAlikeEvent R (arrives clock p) (arrives other q) = IsSameClock clock other × R p q
IsAlikeEvent R (arrives clock p) (flushes key) = ⊥
IsAlikeEvent R (flushes key) (arrives clock p) = ⊥
IsAlikeEvent R (flushes key) (flushes other) = key ≡ other

-- Two open groups have fragments that are alike, and differ at most in the form of their clocks.
record IsSameGroup (R : Piece → Piece → Type 0) (o q : OpenGroup) : Type 0 where
  key : o.key ≡ q.key
  clock : IsSameClock o.clock q.clock
  place : o.place ≡ q.place
  pieces : AllZip R o.pieces q.pieces

abbrev Same : (Piece → Piece → Type 0) → List OpenGroup → List OpenGroup → Type 0
Same R = AllZip (IsSameGroup R)

abbrev SameOption : (Piece → Piece → Type 0) → Option OpenGroup → Option OpenGroup → Type 0
SameOption R None None = Unit {0}
SameOption R None (Some q) = ⊥
SameOption R (Some o) None = ⊥
SameOption R (Some o) (Some q) = IsSameGroup R o q

-- what a fragment makes of them
record SameStep (R : Piece → Piece → Type 0) (limit : ℕ) (c d : Option Stamp) (p r : Piece) (os qs : List OpenGroup)
    (g k : Option OpenGroup) : Type 0 where
  opens : Same R (opens_with limit c p g os) (opens_with limit d r k qs)
  gave : gives_up_with limit p g os ≡ gives_up_with limit r k qs
  joined : AllZip R (pieces_with p g) (pieces_with r k)

record SameState (R : Piece → Piece → Type 0) (s t : OpenState) : Type 0 where
  opens : Same R s.opens t.opens
  given_up : s.given_up ≡ t.given_up

-- one more fragment
record SameArrival (R : Piece → Piece → Type 0) (limit : ℕ) (c d : Option Stamp) (p r : Piece)
    (s t : OpenState) : Type 0 where
  state : SameState R (step limit (arrives c p) s) (step limit (arrives d r) t)
  joined : AllZip R (joined_pieces c p s) (joined_pieces d r t)

-- Two lists of events completed groups that are alike and gave up as many, and one more fragment joins groups that are
-- alike.
pub record AlikeGroups (R : Piece → Piece → Type 0) (limit : ℕ) (es fs : List Event) : Type 0 where
  pub completed : AllZip (AllZip R) (completed_of limit es) (completed_of limit fs)
  pub given_up : (open_groups_after limit es).given_up ≡ (open_groups_after limit fs).given_up
  pub joined : (clock other : Option Stamp) (p q : Piece) → IsSameClock clock other → R p q
      → AllZip R (joined_pieces clock p (open_groups_after limit es))
      (joined_pieces other q (open_groups_after limit fs))

pub zip-both : {A : Type 0} (R : A → A → Type 0) (xs ys us vs : List A) → AllZip R xs ys → AllZip R us vs
    → AllZip R (xs ++ us) (ys ++ vs)
zip-both R (x ∷ xs) (y ∷ ys) us vs h k = (h.0, zip-both R xs ys us vs h.1 k)
zip-both R xs ys us vs h k = grind arith

module _ (R : Piece → Piece → Type 0) (alike : IsAlikeness R) where
  -- ---- groups

  same-key : (p r : Piece) → R p r → fragment_key p ≡ fragment_key r
  same-key p r l = ap (λ header. header.key) (alike.header p r l)

  same-filter : (s t : OpenGroup → Bool) → ((o q : OpenGroup) → IsSameGroup R o q → s o ≡ t q)
      → (os qs : List OpenGroup) → Same R os qs → Same R (filter s os) (filter t qs)
  same-filter s t same (o ∷ os) (q ∷ qs) h = grind (arith, same-filter s t same os qs h.1)
  same-filter s t same os qs h = grind arith

  with_same : (p r : Piece) → R p r → (o q : OpenGroup) → IsSameGroup R o q
      → IsSameGroup R (if same_key (fragment_key p) o.key then with_piece p o else o)
      (if same_key (fragment_key r) q.key then with_piece r q else q)
  with_same p r l o q s = grind arith

  same-extended : (p r : Piece) → R p r → (os qs : List OpenGroup) → Same R os qs
      → Same R (extended p os) (extended r qs)
  same-extended p r l (o ∷ os) (q ∷ qs) h = (with_same p r l o q h.0, same-extended p r l os qs h.1)
  same-extended p r l os qs h = grind arith

  same-found : (key other : Key) → key ≡ other → (os qs : List OpenGroup) → Same R os qs
      → SameOption R (group_at key os) (group_at other qs)
  same-found key other f (o ∷ os) (q ∷ qs) h = grind (arith, same-found key other f os qs h.1)
  same-found key other f os qs h = grind arith

  lowest-same : (n : ℕ) (os qs : List OpenGroup) → Same R os qs
      → list_all (λ q. nat_le n q.place) os ≡ list_all (λ q. nat_le n q.place) qs
  lowest-same n (o ∷ os) (q ∷ qs) h = λ i. nat_le n (h.0.place i) && lowest-same n os qs h.1 i
  lowest-same n os qs h = grind arith

  same-trimmed : (limit : ℕ) (os qs : List OpenGroup) → Same R os qs → Same R (trimmed limit os) (trimmed limit qs)
  same-trimmed limit os qs h = by (nat_lt (length os) limit) (nat_lt (length qs) limit)
      (ap (λ (n : ℕ). nat_lt n limit) (length_all_zip (IsSameGroup R) os qs h))
    where
      by : (b c : Bool) → b ≡ c → Same R (if b then os else without_oldest os) (if c then qs else without_oldest qs)
      by false false e =
          same-filter (λ o. not (list_all (λ q. nat_le o.place q.place) os))
          (λ o. not (list_all (λ q. nat_le o.place q.place) qs))
          (λ o q s. ap not (ap (λ (n : ℕ). list_all (λ x. nat_le n x.place) os) s.place
          ∙ lowest-same q.place os qs h)) os qs h
      by b c e = grind (arith, true≢false)

  same-without : (key other : Key) → key ≡ other → (os qs : List OpenGroup) → Same R os qs
      → Same R (without key os) (without other qs)
  same-without key other e os qs h = same-filter (λ o. not (same_key key o.key)) (λ o. not (same_key other o.key))
      (λ o q s. λ i. not (same_key (e i) (s.key i))) os qs h

  same-live : (c d : Option Stamp) (os qs : List OpenGroup) → IsSameClock c d → Same R os qs
      → Same R (live_at c os) (live_at d qs)
  same-live c d os qs e h = grind (arith, same-filter, old_same)

  same-step : (limit : ℕ) (c d : Option Stamp) (p r : Piece) (os qs : List OpenGroup) → IsSameClock c d → R p r
      → Same R os qs → (g k : Option OpenGroup) → SameOption R g k
      → SameStep R limit c d p r os qs g k
  same-step limit c d p r os qs e l h None None s = record {
    opens = by (completes (p ∷ [])) (completes (r ∷ [])) (alike.completes (p ∷ []) (r ∷ []) (l, tt));
    gave = λ i. not (alike.completes (p ∷ []) (r ∷ []) (l, tt) i)
        && not (nat_lt (length_all_zip (IsSameGroup R) os qs h i) limit);
    joined = (l, tt);
  }
    where
      by : (b f : Bool) → b ≡ f → Same R (if b then os else trimmed limit os ++ group_opened_by c p ∷ [])
          (if f then qs else trimmed limit qs ++ group_opened_by d r ∷ [])
      by b f x = grind (arith, AllZip-push, same-trimmed, same-key, alike, true≢false)
  same-step limit c d p r os qs e l h None (Some k) s = absurd s
  same-step limit c d p r os qs e l h (Some g) None s = absurd s
  same-step limit c d p r os qs e l h (Some g) (Some k) s = record {
    opens = by (completes (p ∷ g.pieces)) (completes (r ∷ k.pieces))
        (alike.completes (p ∷ g.pieces) (r ∷ k.pieces) (l, s.pieces));
    gave = refl;
    joined = (l, s.pieces);
  }
    where
      by : (b f : Bool) → b ≡ f → Same R (if b then without (fragment_key p) os else extended p os)
          (if f then without (fragment_key r) qs else extended r qs)
      by b f x = grind (arith, same-without, same-key, true≢false, same-extended)

  -- ---- events

  arrival_same : (limit : ℕ) (c d : Option Stamp) (p r : Piece) (s t : OpenState) → IsSameClock c d → R p r
      → SameState R s t
      → SameArrival R limit c d p r s t
  unfolding step joined_pieces
  arrival_same limit c d p r s t e l h =
      let os = live_at c s.opens in
      let qs = live_at d t.opens in
      let live = same-live c d s.opens t.opens e h.opens in
      let found = same-found (fragment_key p) (fragment_key r) (same-key p r l) os qs live in
      let both = same-step limit c d p r os qs e l live (group_at (fragment_key p) os) (group_at (fragment_key r) qs)
      found in
      record {
        state = record { opens = both.opens; given_up = λ i. h.given_up i + (if both.gave i then 1 else 0) };
        joined = both.joined;
      }

  -- one more event
  step_same : (limit : ℕ) (e f : Event) (s t : OpenState) → IsAlikeEvent R e f → SameState R s t
      → SameState R (step limit e s) (step limit f t)
  unfolding step
  step_same limit (arrives c p) (arrives d q) s t same h = (arrival_same limit c d p q s t same.0 same.1 h).state
  step_same limit (flushes key) (flushes k) s t same h =
      record { opens = same-without key k same s.opens t.opens h.opens; given_up = h.given_up }
  step_same limit e f s t same h = grind arith

  same-state : (limit : ℕ) (es fs : List Event) → AllZip (IsAlikeEvent R) es fs
      → SameState R (open_groups_after limit es) (open_groups_after limit fs)
  unfolding open_groups_after
  same-state limit (e ∷ es) (f ∷ fs) h = step_same limit e f (open_groups_after limit es) (open_groups_after limit fs)
      h.0
      (same-state limit es fs h.1)
  same-state limit es fs h = grind arith

  same-joined : (limit : ℕ) (es fs : List Event) → AllZip (IsAlikeEvent R) es fs → (c d : Option Stamp) (p q : Piece)
      → IsSameClock c d → R p q
      → AllZip R (joined_pieces c p (open_groups_after limit es)) (joined_pieces d q (open_groups_after limit fs))
  same-joined limit es fs h c d p q e l =
      (arrival_same limit c d p q (open_groups_after limit es) (open_groups_after limit fs) e l
      (same-state limit es fs h)).joined

  pub if_complete-alike : (ps qs : List Piece) → AllZip R ps qs → AllZip (AllZip R) (if_complete ps) (if_complete qs)
  if_complete-alike ps qs h = grind arith

  same-completed : (limit : ℕ) (es fs : List Event) → AllZip (IsAlikeEvent R) es fs
      → AllZip (AllZip R) (completed_of limit es) (completed_of limit fs)
  unfolding completed_of
  same-completed limit (arrives c p ∷ es) (arrives d q ∷ fs) h =
      search (same-completed limit es fs h.1, zip-both, if_complete-alike, same-joined)
  same-completed limit (flushes key ∷ es) (flushes k ∷ fs) h = same-completed limit es fs h.1
  same-completed limit es fs h = grind arith

  -- Events that are alike, one by one, make groups that are alike.
  pub alike-groups : (limit : ℕ) (es fs : List Event) → AllZip (IsAlikeEvent R) es fs → AlikeGroups R limit es fs
  alike-groups limit es fs h =
      record {
        completed = same-completed limit es fs h;
        given_up = (same-state limit es fs h).given_up;
        joined = same-joined limit es fs h;
      }
