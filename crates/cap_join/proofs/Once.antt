-- No fragment is in two groups, open or completed; and the groups that were completed, by places.
use Rattle.std.proofs.lemmas.Bool.Decides.{nat_tests}
use Rattle.std.proofs.lemmas.Grind.{common_steps}
use Rattle.std.proofs.Common.{◌≡◌, ℕ, ◌+◌, ◌≤◌, Bool, true, List, [], ◌∷◌, ◌++◌, refl, sym, subst, arith, not, Option}
use Rattle.std.proofs.Common.{Some, None}
use Rattle.std.specs.Prelude.{if◌then◌else◌, filter}
use Rattle.cap_time.specs.declared.stamps.Stamp.{Stamp}
use Rattle.cap_ip.specs.declared.headers.Key.{Key}
use Rattle.cap_join.specs.Fragments.{Piece}
use Rattle.cap_join.specs.History.{Event, arrives, flushes, OpenGroup, same_key, fragment_key, with_piece, group_at}
use Rattle.cap_join.specs.History.{without}
use Rattle.cap_join.specs.History.{extended, pieces_with, opens_with, open_groups_after, step, joined_pieces}
use Rattle.cap_join.proofs.ByPlaces.{agree}
use Rattle.cap_join.proofs.Entries.{same_key-is}
use Rattle.cap_join.proofs.OpenGroups.{IsApart, apart-filter, apart-extended, apart-push, group_at-filter-none}
use Rattle.cap_join.specs.Completed.{if_complete, completed_of, CompletedLaw, one_at, occurs, occurs_open, occurs_in}
use Rattle.cap_join.specs.Completed.{OnceLaw}

-- ---- keys

-- the open groups have different keys
pub apart : (limit : ℕ) (es : List Event) → IsApart (open_groups_after limit es).opens
unfolding open_groups_after step
apart limit [] = tt
apart limit (x ∷ es) =
    grind (
      arith,
      apart limit es,
      apart-push,
      group_at-filter-none,
      apart-filter,
      apart-extended,
      common_steps,
      nat_tests,
      not,
    )

-- ---- how often a place occurs

fewer : (n : ℕ) (t : OpenGroup → Bool) (os : List OpenGroup) → occurs_open n (filter t os) ≤ occurs_open n os
fewer n t [] = omega arith
fewer n t (o ∷ os) = grind (arith, fewer n t os)

behind : (n : ℕ) (os qs : List OpenGroup) → occurs_open n (os ++ qs) ≡ occurs_open n os + occurs_open n qs
behind n [] qs = omega arith
behind n (o ∷ os) qs = omega (arith, behind n os qs)

-- a key's group goes with those of the key
taken_out : (n : ℕ) (key : Key) (o : OpenGroup) (os : List OpenGroup) → group_at key os ≡ Some o
    → occurs n o.pieces + occurs_open n (without key os) ≤ occurs_open n os
taken_out n key o [] is = cc
taken_out n key o (q ∷ os) is = grind (arith, taken_out n key o os, fewer)

untouched : (n : ℕ) (p : Piece) (os : List OpenGroup) → group_at (fragment_key p) os ≡ None
    → occurs_open n (extended p os) ≡ occurs_open n os
untouched n p [] is = refl
untouched n p (q ∷ os) is = grind (arith, untouched n p os)

-- a fragment is put into one group
put_once : (n : ℕ) (p : Piece) (os : List OpenGroup) → IsApart os
    → occurs_open n (extended p os) ≤ one_at p.stamped.place n + occurs_open n os
put_once n p [] h = omega arith
put_once n p (q ∷ os) h = by (same_key (fragment_key p) q.key) refl (put_once n p os h.1)
  where
    others : same_key (fragment_key p) q.key ≡ true → group_at (fragment_key p) os ≡ None
    others e = subst (λ (k : Key). group_at k os ≡ None) (sym (same_key-is (fragment_key p) q.key e)) h.0

    by : (b : Bool) → same_key (fragment_key p) q.key ≡ b
        → occurs_open n (extended p os) ≤ one_at p.stamped.place n + occurs_open n os
        → occurs_open n ((if b then with_piece p q else q) ∷ extended p os)
        ≤ one_at p.stamped.place n + occurs_open n (q ∷ os)
    by b e rest = grind (arith, untouched, others)

arrive_once : (n limit : ℕ) (clock : Option Stamp) (p : Piece) (os : List OpenGroup) → IsApart os
    → (g : Option OpenGroup) → group_at (fragment_key p) os ≡ g
    → occurs_open n (opens_with limit clock p g os) + occurs_in n (if_complete (pieces_with p g))
    ≤ one_at p.stamped.place n + occurs_open n os
arrive_once n limit clock p os h g is = grind (arith, behind, fewer, taken_out, put_once)

in_behind : (n : ℕ) (xs ys : List (List Piece)) → occurs_in n (xs ++ ys) ≡ occurs_in n xs + occurs_in n ys
in_behind n [] ys = omega arith
in_behind n (x ∷ xs) ys = omega (arith, in_behind n xs ys)

pub once : OnceLaw
unfolding open_groups_after step completed_of joined_pieces
once limit n [] = omega arith
once limit n (x ∷ es) = grind (arith, once limit n es, not, fewer, in_behind, arrive_once, apart-filter, apart)

-- ---- by places

pub completed : CompletedLaw
unfolding completed_of
completed limit [] some order = refl
completed limit (arrives clock p ∷ es) some order = grind (arith, completed limit es some order.3, agree)
completed limit (flushes key ∷ es) some order = completed limit es some order
