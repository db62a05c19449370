-- Entries of the table and the open groups that they are, one by one, under what a step does to the table.
use Rattle.std.proofs.Common.{arith, ◌≡◌, suc, Bool, true, false, List, [], ◌∷◌, length, refl, sym, ◌∙◌, ap, subst}
use Rattle.std.proofs.Common.{cond, not, Option, Some, None}
use Rattle.std.specs.List.{AllByRecursion, IsDistinct}
use Rattle.std.specs.Map.{keys_of, lookup, set_value}
use Rattle.std.specs.Option.{option_map_or}
use Rattle.std.proofs.lemmas.Map.Keys.{IsDistinct-head, IsDistinct-tail}
use Rattle.cap_ip.specs.declared.headers.Key.{Key}
use Rattle.cap_time.specs.declared.stamps.Stamp.{Stamp}
use Rattle.cap_join.specs.Frames.{is_too_old}
use Rattle.cap_join.specs.inner.Groups.{GroupState, IsGroupOf}
use Rattle.cap_join.specs.History.{OpenGroup, same_key, live_at, group_at}
use Rattle.cap_join.specs.Joiners.{Entry, IsEntryOf, AreEntriesOf}
use Rattle.cap_join.specs.inner.Tables.{entry_at, live_entries, has_live}

-- a value that is written again
pub set_value-same : {K X : Type 0} (test : K → Bool) (es : List (K × X)) (w : X) → lookup test es ≡ Some w
    → set_value test es w ≡ es
set_value-same test [] w h = refl
set_value-same {K} {X} test (e ∷ es) w h = grind (arith, set_value-same test es w)

-- keys that name the same datagram are one
pub same_key-is : (a b : Key) → same_key a b ≡ true → a ≡ b
same_key-is a b h = grind arith

none_later : (k : Key) (es : List Entry) → AllByRecursion (λ y. same_key k y ≡ false) (keys_of es)
    → entry_at k es ≡ None
none_later k [] h = refl
none_later k (e ∷ es) h = ap (λ (b : Bool). cond b (Some e.1) (entry_at k es)) h.0 ∙ none_later k es h.1

-- after an entry of a key there is no other
pub alone : (key : Key) (e : Entry) (es : List Entry) → IsDistinct same_key (keys_of (e ∷ es)) → same_key key e.0 ≡ true
    → entry_at key es ≡ None
alone key e es apart h =
    subst (λ (k : Key). entry_at k es ≡ None) (sym (same_key-is key e.0 h))
    (none_later e.0 es (IsDistinct-head same_key e.0 (keys_of es) apart))

-- a test of keys reads the same of an entry and of its group
pub key_test : (key : Key) (e : Entry) (o : OpenGroup) → IsEntryOf e o → same_key key o.key ≡ same_key key e.0
key_test key e o h = ap (same_key key) (sym h.key)

pub lengths : (es : List Entry) (os : List OpenGroup) → AreEntriesOf es os → length es ≡ length os
lengths (e ∷ es) (o ∷ os) h = ap suc (lengths es os h.1)
lengths es os h = grind arith

-- A key's group, which an entry's is.
pub record Found (key : Key) (s : GroupState) (os : List OpenGroup) : Type 0 where
  pub open_group : OpenGroup
  pub found : group_at key os ≡ Some open_group
  pub clock : s.clock ≡ open_group.clock
  pub group : IsGroupOf s open_group.pieces

pub group_at-some : (key : Key) (s : GroupState) (es : List Entry) (os : List OpenGroup) → AreEntriesOf es os
    → entry_at key es ≡ Some s → Found key s os
group_at-some key s (e ∷ es) (o ∷ os) h some =
    by (same_key key e.0) (key_test key e o h.0) some (group_at-some key s es os h.1)
  where
    by : (b : Bool) → same_key key o.key ≡ b → cond b (Some e.1) (entry_at key es) ≡ Some s
        → (entry_at key es ≡ Some s → Found key s os) → Found key s (o ∷ os)
    by b is n rest = grind arith
group_at-some key s es os h some = grind arith

-- the entries that aren't too old are the groups that aren't
pub AreEntriesOf-live : (now : Option Stamp) (es : List Entry) (os : List OpenGroup) → AreEntriesOf es os
    → AreEntriesOf (live_entries now es) (live_at now os)
AreEntriesOf-live now (e ∷ es) (o ∷ os) h = grind (arith, AreEntriesOf-live now es os h.1)
AreEntriesOf-live now es os h = grind arith

-- a key's group is found among those that aren't too old, if it isn't
pub group_at-live : (key : Key) (now : Option Stamp) (o : OpenGroup) (os : List OpenGroup) → group_at key os ≡ Some o
    → not (is_too_old o.clock now) ≡ true
    → group_at key (live_at now os) ≡ Some o
group_at-live key now o [] h live = h
group_at-live key now o (q ∷ os) h live = grind (arith, group_at-live key now o os)

-- a key without a live entry has no live group
pub no_live : (key : Key) (now : Option Stamp) (es : List Entry) (os : List OpenGroup) → AreEntriesOf es os
    → IsDistinct same_key (keys_of es) → has_live key now es ≡ false
    → group_at key (live_at now os) ≡ None
no_live key now (e ∷ es) (o ∷ os) h apart none =
    by (same_key key e.0) (key_test key e o h.0) (alone key e es apart) none (not (is_too_old e.1.clock now))
    (ap (λ (c : Option Stamp). not (is_too_old c now)) (sym h.0.clock)) refl
    (no_live key now es os h.1 (IsDistinct-tail same_key e.0 (keys_of es) apart))
  where
    step : (b : Bool) → not (is_too_old o.clock now) ≡ b
        → live_at now (o ∷ os) ≡ cond b (o ∷ live_at now os) (live_at now os)
    step b is = ap (λ (c : Bool). cond c (o ∷ live_at now os) (live_at now os)) is

    by : (t : Bool) → same_key key o.key ≡ t → (t ≡ true → entry_at key es ≡ None)
        → option_map_or (λ s. not (is_too_old s.clock now)) (cond t (Some e.1) (entry_at key es)) false ≡ false
        → (b : Bool) → not (is_too_old o.clock now) ≡ b → not (is_too_old e.1.clock now) ≡ b
        → (has_live key now es ≡ false → group_at key (live_at now os) ≡ None)
        → group_at key (live_at now (o ∷ os)) ≡ None
    by t' t lone n b' b c rest = grind arith
no_live key now es os h apart none = grind arith

-- a live entry is a live group
pub live_group : (key : Key) (now : Option Stamp) (s : GroupState) (es : List Entry) (os : List OpenGroup)
    → AreEntriesOf es os → entry_at key es ≡ Some s → has_live key now es ≡ true
    → Found key s (live_at now os)
live_group key now s es os h some live = grind (
  arith,
  group_at-some key s es os h some,
  sym (ap (λ (o : Option GroupState). option_map_or (λ s. not (is_too_old s.clock now)) o false) some)
      ∙ live,
  group_at-some,
  group_at-live,
  not,
)
