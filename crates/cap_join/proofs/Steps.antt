-- The table of open groups under one more fragment or a flush.
use Rattle.std.proofs.Common.{◌≡◌, ℕ, ◌+◌, ◌≤◌, ◌<◌, Bool, true, List, [], ◌∷◌, ◌++◌, refl, sym, ◌∙◌, ap, subst, arith}
use Rattle.std.proofs.Common.{cond, ◌&&◌, not, Option, Some, None}
use Rattle.std.specs.Prelude.{nat_le, filter, remove}
use Rattle.std.specs.List.{list_all, IsDistinct}
use Rattle.std.specs.Map.{keys_of, lookup, set_value, remove_entry}
use Rattle.std.proofs.lemmas.Bool.Decides.{nat_tests}
use Rattle.std.proofs.lemmas.Map.Keys.{IsDistinct-tail}
use Rattle.cap_ip.specs.declared.headers.Key.{Key}
use Rattle.cap_time.specs.declared.stamps.Stamp.{Stamp}
use Rattle.cap_join.specs.Fragments.{Piece}
use Rattle.cap_join.specs.inner.Groups.{GroupState, IsGroupOf}
use Rattle.cap_join.specs.History.{OpenGroup, same_key, fragment_key, with_piece, live_at, group_at, without, extended}
use Rattle.cap_join.specs.History.{without_oldest}
use Rattle.cap_join.specs.Joiners.{Entry, IsEntryOf, AreEntriesOf, Rises}
use Rattle.cap_join.specs.inner.Tables.{entry_at}
use Rattle.cap_join.proofs.Entries.{alone, key_test}

-- without a group of its key a fragment changes no group
extended-none : (p : Piece) (es : List Entry) (os : List OpenGroup) → AreEntriesOf es os
    → entry_at (fragment_key p) es ≡ None
    → AreEntriesOf es (extended p os)
extended-none p (e ∷ es) (o ∷ os) h none = by (same_key (fragment_key p) e.0) (key_test (fragment_key p) e o h.0) none
    (extended-none p es os h.1)
  where
    by : (b : Bool) → same_key (fragment_key p) o.key ≡ b → cond b (Some e.1) (entry_at (fragment_key p) es) ≡ None
        → (entry_at (fragment_key p) es ≡ None → AreEntriesOf es (extended p os))
        → AreEntriesOf (e ∷ es) (extended p (o ∷ os))
    by b is n rest = grind arith
extended-none p es os h none = grind arith

-- a fragment that is put into the group of its key
pub AreEntriesOf-put : (p : Piece) (before after : GroupState) (es : List Entry) (os : List OpenGroup)
    → AreEntriesOf es os → IsDistinct same_key (keys_of es)
    → entry_at (fragment_key p) es ≡ Some before → ((ps : List Piece) → IsGroupOf before ps → IsGroupOf after (p ∷ ps))
    → after.clock ≡ before.clock → after.place ≡ before.place
    → AreEntriesOf (set_value (same_key (fragment_key p)) es after) (extended p os)
AreEntriesOf-put p before after (e ∷ es) (o ∷ os) h apart was group clock place =
    by (same_key (fragment_key p) e.0) (key_test (fragment_key p) e o h.0) (alone (fragment_key p) e es apart) was
    (λ was. AreEntriesOf-put p before after es os h.1
    (IsDistinct-tail same_key e.0 (keys_of es) apart) was group clock place)
  where
    by : (b : Bool) → same_key (fragment_key p) o.key ≡ b → (b ≡ true → entry_at (fragment_key p) es ≡ None)
        → cond b (Some e.1) (entry_at (fragment_key p) es) ≡ Some before
        → (entry_at (fragment_key p) es ≡ Some before → AreEntriesOf (set_value (same_key (fragment_key p)) es after)
        (extended p os))
        → AreEntriesOf (cond b ((
          e.0,
          after,
        ) ∷ es) (e ∷ set_value (same_key (fragment_key p)) es after)) (extended p (o ∷ os))
    by b is lone n rest = grind (arith, extended-none)
AreEntriesOf-put p before after es os h apart was group clock place = grind arith

-- a fragment changes no clock, so that the same groups are too old
pub live_at-extended : (now : Option Stamp) (p : Piece) (os : List OpenGroup)
    → live_at now (extended p os) ≡ extended p (live_at now os)
live_at-extended now p [] = refl
live_at-extended now p (o ∷ os) = grind (arith, live_at-extended now p os)

-- nor any key
pub without-extended : (p : Piece) (os : List OpenGroup)
    → without (fragment_key p) (extended p os) ≡ without (fragment_key p) os
without-extended p [] = refl
without-extended p (o ∷ os) = grind (arith, without-extended p os)

-- the group of its key has it
pub group_at-extended : (p : Piece) (o : OpenGroup) (os : List OpenGroup) → group_at (fragment_key p) os ≡ Some o
    → group_at (fragment_key p) (extended p os) ≡ Some (with_piece p o)
group_at-extended p o [] h = cc
group_at-extended p o (q ∷ os) h = grind (arith, group_at-extended p o os)

-- a key without an entry is taken from no group
without-none : (key : Key) (es : List Entry) (os : List OpenGroup) → AreEntriesOf es os → entry_at key es ≡ None
    → AreEntriesOf es (without key os)
without-none key (e ∷ es) (o ∷ os) h none = grind (arith, without-none key es os h.1)
without-none key es os h none = grind arith

-- a key that is taken out
pub AreEntriesOf-without : (key : Key) (es : List Entry) (os : List OpenGroup) → AreEntriesOf es os
    → IsDistinct same_key (keys_of es)
    → AreEntriesOf (remove_entry (same_key key) es) (without key os)
AreEntriesOf-without key (e ∷ es) (o ∷ os) h apart =
    by (same_key key e.0) (key_test key e o h.0) (alone key e es apart)
    (AreEntriesOf-without key es os h.1 (IsDistinct-tail same_key e.0 (keys_of es) apart))
  where
    by : (b : Bool) → same_key key o.key ≡ b → (b ≡ true → entry_at key es ≡ None)
        → AreEntriesOf (remove_entry (same_key key) es) (without key os)
        → AreEntriesOf (cond b es (e ∷ remove_entry (same_key key) es)) (without key (o ∷ os))
    by b is lone rest = grind (arith, without-none)
AreEntriesOf-without key es os h apart = grind arith

pub AreEntriesOf-push : (es : List Entry) (os : List OpenGroup) (e : Entry) (o : OpenGroup) → AreEntriesOf es os
    → IsEntryOf e o → AreEntriesOf (es ++ e ∷ []) (os ++ o ∷ [])
AreEntriesOf-push (f ∷ es) (q ∷ os) e o h k = (h.0, AreEntriesOf-push es os e o h.1 k)
AreEntriesOf-push es os e o h k = grind arith

-- places that rise
pub Rises-wider : (low high lower higher : ℕ) (es : List Entry) → lower ≤ low → high ≤ higher → Rises low high es
    → Rises lower higher es
Rises-wider low high lower higher [] p q h = tt
Rises-wider low high lower higher (e ∷ es) p q h =
    grind (arith, Rises-wider (e.1.place + 1) high (e.1.place + 1) higher es (omega arith) q h.3)

pub Rises-filter : (test : Entry → Bool) (low high : ℕ) (es : List Entry) → Rises low high es
    → Rises low high (filter test es)
Rises-filter test low high [] h = tt
Rises-filter test low high (e ∷ es) h = grind (arith, Rises-filter test (e.1.place + 1) high es h.3, Rises-wider)

pub Rises-set_value : (test : Key → Bool) (before after : GroupState) (low high higher : ℕ) (es : List Entry)
    → lookup test es ≡ Some before → after.place ≡ before.place
    → after.frames ≡ before.frames + 1 → high < higher → Rises low high es → Rises low higher (set_value test es after)
Rises-set_value test before after low high higher [] was place frames up h = tt
Rises-set_value test before after low high higher (e ∷ es) was place frames up h =
    by (test e.0) was (λ was. Rises-set_value test before after (e.1.place + 1) high higher es was place frames up h.3)
  where
    by : (b : Bool) → cond b (Some e.1) (lookup test es) ≡ Some before
        → (lookup test es ≡ Some before → Rises (e.1.place + 1) higher (set_value test es after))
        → Rises low higher (cond b ((e.0, after) ∷ es) (e ∷ set_value test es after))
    by b n rest = grind (arith, Rises-wider)

pub Rises-remove_entry : (test : Key → Bool) (low high : ℕ) (es : List Entry) → Rises low high es
    → Rises low high (remove_entry test es)
Rises-remove_entry test low high [] h = tt
Rises-remove_entry test low high (e ∷ es) h = grind
    (arith, Rises-remove_entry test (e.1.place + 1) high es h.3, Rises-wider)

pub Rises-push : (low high higher : ℕ) (es : List Entry) (e : Entry) → low ≤ high → e.1.place ≡ high
    → e.1.frames ≤ higher → high < higher → Rises low high es → Rises low higher (es ++ e ∷ [])
Rises-push low high higher [] e le at few up h = (omega arith, omega arith, few, tt)
Rises-push low high higher (f ∷ es) e le at few up h =
    grind (arith, Rises-push (f.1.place + 1) high higher es e (omega arith) at few up h.3)

pub Rises-first : (low high : ℕ) (es : List Entry) → Rises low high es → Rises low high (remove es 0)
Rises-first low high es h = grind (arith, Rises-wider)

-- if places rise, the oldest group is the first
all_above : (place low high : ℕ) (es : List Entry) (os : List OpenGroup) → place ≤ low → AreEntriesOf es os
    → Rises low high es → list_all (λ q. nat_le place q.place) os ≡ true
all_above place low high (e ∷ es) (o ∷ os) le h r =
    grind (arith, all_above place (e.1.place + 1) high es os (omega arith) h.1 r.3)
all_above place low high es os le h r = grind arith

others_stay : (first : OpenGroup) (all : List OpenGroup) (low high : ℕ) (es : List Entry) (os : List OpenGroup)
    → first.place < low → AreEntriesOf es os → Rises low high es
    → filter (λ o. not (nat_le o.place first.place && list_all (λ q. nat_le o.place q.place) all)) os ≡ os
others_stay first all low high (e ∷ es) (o ∷ os) lt h r =
    grind (arith, others_stay first all (e.1.place + 1) high es os (omega arith) h.1 r.3)
others_stay first all low high es os lt h r = grind arith

pub AreEntriesOf-oldest : (low high : ℕ) (es : List Entry) (os : List OpenGroup) → AreEntriesOf es os
    → Rises low high es → AreEntriesOf (remove es 0) (without_oldest os)
AreEntriesOf-oldest low high (e ∷ es) (o ∷ os) h r =
    let at : e.1.place ≡ o.place = h.0.place in
    let self : nat_le o.place o.place ≡ true = grind (arith, nat_tests) in
    let lowest : list_all (λ q. nat_le o.place q.place) (o ∷ os) ≡ true =
    (let rest = all_above o.place (e.1.place + 1) high es os (omega arith) h.1 r.3 in λ i. self i && rest i) in
    let rest = others_stay o os (e.1.place + 1) high es os (omega arith) h.1 r.3 in
    subst (AreEntriesOf es)
    (sym (ap (λ (b : Bool). cond (not b) (o ∷ filter
    (λ o'. not (list_all (λ q. nat_le o'.place q.place) (o ∷ os))) os)
    (filter (λ o'. not (list_all (λ q. nat_le o'.place q.place) (o ∷ os))) os)) lowest ∙ rest)) h.1
AreEntriesOf-oldest low high es os h r = grind arith
