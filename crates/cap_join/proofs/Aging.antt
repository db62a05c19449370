-- Deadlines of open groups, and groups in the order of their clocks, under what a step does to the table.
use Rattle.std.proofs.Common.{arith, ◌≡◌, Bool, true, false, List, [], ◌∷◌, ◌++◌, refl, sym, ◌∙◌, ap, cond, not, Option}
use Rattle.std.proofs.Common.{Some, None, append_assoc, lit<}
use Rattle.std.specs.Prelude.{IsSome, remove, if◌then◌else◌}
use Rattle.std.specs.Ordering.{is_lt, is_gt, ordering_reverse}
use Rattle.std.specs.declared.cmp.Ordering.{Ordering}
use Rattle.std.specs.Map.{lookup, set_value, remove_entry}
use Rattle.cap_ip.specs.declared.headers.Key.{Key}
use Rattle.cap_time.specs.declared.stamps.Stamp.{Stamp}
use Rattle.cap_time.specs.Clock.{earlier}
use Rattle.cap_time.specs.Stamp.{stamp_cmp, stamp_plus}
use Rattle.cap_time.specs.inner.Orderings.{not_after}
use Rattle.cap_time.specs.inner.StampLaws.{stamp_cmp_total}
use Rattle.cap_time.proofs.StampForms.{stamp_cmp_itself, stamp_upto_turned, stamp_upto_trans, stamp_cmp-later}
use Rattle.cap_join.specs.Frames.{wait, is_too_old}
use Rattle.cap_join.specs.inner.Groups.{GroupState}
use Rattle.cap_join.specs.Joiners.{Entry}
use Rattle.cap_join.specs.inner.Ages.{deadline_of, is_past, latest_of, is_in_turn, NoneOld, IsDeadline}
use Rattle.cap_join.specs.inner.Ages.{AreInTurn}
use Rattle.cap_join.specs.inner.Ages.{IsUpTo, AreUpTo}
use Rattle.cap_join.specs.inner.Tables.{live_entries}

back : (r : Ordering) → is_gt r ≡ false → is_lt (ordering_reverse r) ≡ false
back r h = grind arith

-- a time from another on isn't before what that one isn't before
from_on : (x y n : Stamp) → is_gt (stamp_cmp x y) ≡ false → is_lt (stamp_cmp x n) ≡ false
    → is_lt (stamp_cmp y n) ≡ false
from_on x y n upto late =
    ap is_lt (stamp_cmp_total.antisymm y n) ∙ back (stamp_cmp n y)
    (stamp_upto_trans n x y (stamp_upto_turned x n late) upto)

-- if the earlier of two deadlines isn't past, neither is
earlier-first : (a b now : Option Stamp) → is_past (earlier a b) now ≡ false → is_past a now ≡ false
earlier-first (Some a) (Some b) (Some n) h = by (is_lt (stamp_cmp b a)) refl h
  where
    by : (t : Bool) → is_lt (stamp_cmp b a) ≡ t → is_past (if t then Some b else Some a) (Some n) ≡ false
        → is_past (Some a) (Some n) ≡ false
    by true is p = from_on b a n (not_after (stamp_cmp b a) is) p
    by false is p = p
earlier-first a b now h = cc

earlier-second : (a b now : Option Stamp) → is_past (earlier a b) now ≡ false → is_past b now ≡ false
earlier-second (Some a) (Some b) (Some n) h = by (is_lt (stamp_cmp b a)) refl h
  where
    by : (t : Bool) → is_lt (stamp_cmp b a) ≡ t → is_past (if t then Some b else Some a) (Some n) ≡ false
        → is_past (Some b) (Some n) ≡ false
    by true is p = p
    by false is p = from_on a b n (stamp_upto_turned b a is) p
earlier-second a b now h = cc

-- if none is too old all stay
pub live-all : (now : Option Stamp) (es : List Entry) → NoneOld now es → live_entries now es ≡ es
live-all now [] h = refl
live-all now (e ∷ es) h = cc (live-all now es h.1)

-- a group with one more fragment
NoneOld-set_value : (test : Key → Bool) (now : Option Stamp) (before after : GroupState) (es : List Entry)
    → lookup test es ≡ Some before → after.clock ≡ before.clock
    → NoneOld now es → NoneOld now (set_value test es after)
NoneOld-set_value test now before after [] found same h = h
NoneOld-set_value test now before after (e ∷ es) found same h =
    grind (arith, NoneOld-set_value test now before after es)

NoneOld-remove_entry : (test : Key → Bool) (now : Option Stamp) (es : List Entry) → NoneOld now es
    → NoneOld now (remove_entry test es)
NoneOld-remove_entry test now [] h = h
NoneOld-remove_entry test now (e ∷ es) h = grind (arith, NoneOld-remove_entry test now es h.1)

NoneOld-push : (now : Option Stamp) (es : List Entry) (e : Entry) → NoneOld now es → is_too_old e.1.clock now ≡ false
    → NoneOld now (es ++ e ∷ [])
NoneOld-push now [] e h fresh = (fresh, tt)
NoneOld-push now (x ∷ es) e h fresh = (h.0, NoneOld-push now es e h.1 fresh)

pub NoneOld-append : (now : Option Stamp) (es rest : List Entry) → NoneOld now es → NoneOld now rest
    → NoneOld now (es ++ rest)
NoneOld-append now [] rest h k = k
NoneOld-append now (e ∷ es) rest h k = (h.0, NoneOld-append now es rest h.1 k)

-- what holds of a table under one more fragment of a group
module _ (test : Key → Bool) (before after : GroupState) (same : after.clock ≡ before.clock) where
  pub AreInTurn-set_value : (es : List Entry) → lookup test es ≡ Some before → AreInTurn es
      → AreInTurn (set_value test es after)
  AreInTurn-set_value [] found h = h
  AreInTurn-set_value (e ∷ es) found h = by (test e.0) found (λ f. AreInTurn-set_value es f h.1)
    where
      by : (b : Bool) → cond b (Some e.1) (lookup test es) ≡ Some before
          → (lookup test es ≡ Some before → AreInTurn (set_value test es after))
          → AreInTurn (cond b ((e.0, after) ∷ es) (e ∷ set_value test es after))
      by b f rest = grind (arith, NoneOld-set_value)

  pub AreUpTo-set_value : (latest : Option Stamp) (es : List Entry) → lookup test es ≡ Some before → AreUpTo latest es
      → AreUpTo latest (set_value test es after)
  AreUpTo-set_value latest [] found h = h
  AreUpTo-set_value latest (e ∷ es) found h = grind (arith, AreUpTo-set_value latest es)

  pub IsDeadline-set_value : (deadline : Option Stamp) (es : List Entry) → lookup test es ≡ Some before
      → IsDeadline deadline es → IsDeadline deadline (set_value test es after)
  IsDeadline-set_value deadline es found h = λ now p. NoneOld-set_value test now before after es found same (h now p)

-- a group is taken out
module _ (test : Key → Bool) where
  pub AreInTurn-remove_entry : (es : List Entry) → AreInTurn es → AreInTurn (remove_entry test es)
  AreInTurn-remove_entry [] h = h
  AreInTurn-remove_entry (e ∷ es) h = grind (arith, AreInTurn-remove_entry es h.1, NoneOld-remove_entry)

  pub AreUpTo-remove_entry : (latest : Option Stamp) (es : List Entry) → AreUpTo latest es
      → AreUpTo latest (remove_entry test es)
  AreUpTo-remove_entry latest [] h = h
  AreUpTo-remove_entry latest (e ∷ es) h = grind (arith, AreUpTo-remove_entry latest es h.1)

  pub IsDeadline-remove_entry : (deadline : Option Stamp) (es : List Entry) → IsDeadline deadline es
      → IsDeadline deadline (remove_entry test es)
  IsDeadline-remove_entry deadline es h = λ now p. NoneOld-remove_entry test now es (h now p)

-- the first is
pub AreInTurn-first : (es : List Entry) → AreInTurn es → AreInTurn (remove es 0)
AreInTurn-first es h = grind arith

pub AreUpTo-first : (latest : Option Stamp) (es : List Entry) → AreUpTo latest es → AreUpTo latest (remove es 0)
AreUpTo-first latest es h = grind arith

pub IsDeadline-first : (deadline : Option Stamp) (es : List Entry) → IsDeadline deadline es
    → IsDeadline deadline (remove es 0)
IsDeadline-first deadline es h = grind arith

-- those that aren't too old
pub AreInTurn-live : (now : Option Stamp) (es : List Entry) → AreInTurn es → AreInTurn (live_entries now es)
AreInTurn-live now [] h = h
AreInTurn-live now (e ∷ es) h = by (is_too_old e.1.clock now) (AreInTurn-live now es h.1)
  where
    stays : (at : Option Stamp) (es : List Entry) → NoneOld at es → NoneOld at (live_entries now es)
    stays at [] h = h
    stays at (x ∷ xs) h = grind (arith, stays at xs h.1)

    by : (b : Bool) → AreInTurn (live_entries now es)
        → AreInTurn (cond (not b) (e ∷ live_entries now es) (live_entries now es))
    by b rest = grind (arith, stays)

pub AreUpTo-live : (latest now : Option Stamp) (es : List Entry) → AreUpTo latest es
    → AreUpTo latest (live_entries now es)
AreUpTo-live latest now [] h = h
AreUpTo-live latest now (e ∷ es) h = grind (arith, AreUpTo-live latest now es h.1)

-- a group is opened
later : (latest : Option Stamp) (c : Stamp) (k now : Option Stamp) → IsUpTo (Some (stamp_plus c wait)) latest
    → is_in_turn latest (deadline_of k) ≡ true
    → is_too_old (Some c) now ≡ false → is_too_old k now ≡ false
later (Some l) c (Some k) (Some n) upto turn fresh =
    from_on l (stamp_plus k wait) n (stamp_upto_turned (stamp_plus k wait) l
    (flipped (is_lt (stamp_cmp (stamp_plus k wait) l)) turn)) (from_on (stamp_plus c wait) l n upto fresh)
  where
    flipped : (b : Bool) → not b ≡ true → b ≡ false
    flipped b h = grind arith
later latest c k now upto turn fresh = grind arith

pub AreInTurn-push : (latest : Option Stamp) (es : List Entry) (e : Entry)
    → is_in_turn latest (deadline_of e.1.clock) ≡ true → AreUpTo latest es → AreInTurn es → AreInTurn (es ++ e ∷ [])
AreInTurn-push latest [] e turn upto h = grind arith
AreInTurn-push latest (x ∷ es) e turn upto h =
    grind (arith, AreInTurn-push latest es e turn upto.1 h.1, NoneOld-push, later)

itself : (d : Stamp) → is_gt (stamp_cmp d d) ≡ false
itself d = ap is_gt (stamp_cmp_itself d)

pub AreUpTo-push : (latest : Option Stamp) (es : List Entry) (e : Entry)
    → is_in_turn latest (deadline_of e.1.clock) ≡ true → AreUpTo latest es
    → AreUpTo (latest_of latest (deadline_of e.1.clock)) (es ++ e ∷ [])
AreUpTo-push latest [] e turn h = grind (arith, itself)
AreUpTo-push latest (x ∷ es) e turn h =
    grind (arith, AreUpTo-push latest es e turn h.1, stamp_upto_trans, stamp_upto_turned)

pub IsDeadline-push : (deadline : Option Stamp) (es : List Entry) (e : Entry) → IsDeadline deadline es
    → IsDeadline (earlier deadline (deadline_of e.1.clock)) (es ++ e ∷ [])
IsDeadline-push deadline es e h = grind (arith, NoneOld-push, earlier-first, earlier-second)

-- a group isn't too old at the clock at which it is opened
pub new-fresh : (clock : Option Stamp) → is_too_old clock clock ≡ false
new-fresh None = refl
new-fresh (Some c) =
    ap is_lt (stamp_cmp_total.antisymm (stamp_plus c wait) c)
    ∙ ap (λ (r : Ordering). is_lt (ordering_reverse r)) (stamp_cmp-later c wait (lit< tt))

-- What a look along a table knows: none before what is left is too old.
pub record Looked (now : Option Stamp) (es left : List Entry) : Type 0 where
  pub seen : List Entry
  pub split : es ≡ seen ++ left
  pub none : NoneOld now seen

pub Looked-more : (now : Option Stamp) (es : List Entry) (e : Entry) (left : List Entry)
    → is_too_old e.1.clock now ≡ false → Looked now es (e ∷ left) → Looked now es left
Looked-more now es e left fresh l = record {
  seen = l.seen ++ e ∷ [];
  split = l.split ∙ sym (append_assoc l.seen (e ∷ []) left);
  none = NoneOld-push now l.seen e l.none fresh;
}

turn_behind : (seen left : List Entry) → AreInTurn (seen ++ left) → AreInTurn left
turn_behind [] left h = h
turn_behind (e ∷ seen) left h = turn_behind seen left h.1

-- if the groups are in order, none after one that isn't too old is
pub Looked-turn : (now : Option Stamp) (es : List Entry) (e : Entry) (left : List Entry) → AreInTurn es
    → IsSome e.1.clock → is_too_old e.1.clock now ≡ false → Looked now es (e ∷ left) → NoneOld now es
Looked-turn now es e left turn some fresh l = grind (arith, turn_behind, NoneOld-append)

-- If a deadline isn't past and no group of some is too old, none of the table is.
abbrev pub Leaves : Option Stamp → List Entry → List Entry → Type 0
Leaves deadline left es = (now : Option Stamp) → is_past deadline now ≡ false → NoneOld now left → NoneOld now es

-- one more group was looked at
pub Leaves-more : (deadline : Option Stamp) (e : Entry) (left es : List Entry) → Leaves deadline (e ∷ left) es
    → Leaves (earlier deadline (deadline_of e.1.clock)) left es
Leaves-more deadline e left es h = grind (arith, earlier-first, earlier-second)

-- if the groups are in order, no more need be
pub Leaves-turn : (deadline : Option Stamp) (e : Entry) (left es : List Entry) → IsSome e.1.clock → AreInTurn (e ∷ left)
    → Leaves deadline (e ∷ left) es → IsDeadline (earlier deadline (deadline_of e.1.clock)) es
Leaves-turn deadline e left es some turn h = grind (arith, earlier-second, earlier-first)
