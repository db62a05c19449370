-- Groups in a row of two: those without a clock that are set aside, and the rest.
use Rattle.std.proofs.Common.{◌≡◌, suc, ◌+◌, ◌≤◌, Bool, true, false, List, [], ◌∷◌, ◌++◌, length, refl, sym, ◌∙◌, ap}
use Rattle.std.proofs.Common.{subst, arith, cond, max, Option, Some, None, length-append, append_assoc, append-nil}
use Rattle.std.proofs.Common.{Result}
use Rattle.std.specs.Prelude.{IsSome, is_some, IfSome, IsSomeAnd, nat_eq, slice_get, drop, OnOk, OnErr, is_err, remove}
use Rattle.std.specs.List.{AllByRecursion, IsDistinct}
use Rattle.std.specs.Map.{keys_of, lookup, set_value, remove_entry}
use Rattle.std.proofs.lemmas.List.Elements.{filter-append}
use Rattle.std.proofs.lemmas.Map.Keys.{IsDistinct-head, IsDistinct-tail}
use Rattle.cap_ip.specs.declared.headers.Key.{Key}
use Rattle.cap_time.specs.declared.stamps.Stamp.{Stamp}
use Rattle.cap_join.specs.Fragments.{Piece}
use Rattle.cap_join.specs.Frames.{is_too_old}
use Rattle.cap_join.specs.inner.Groups.{GroupState}
use Rattle.cap_join.specs.History.{same_key}
use Rattle.cap_join.specs.Joiners.{Entry, most_bytes, spare_in}
use Rattle.cap_join.specs.inner.Ages.{NoneOld, IsDeadline, AreInTurn, AreTimeless}
use Rattle.cap_join.specs.inner.Tables.{entry_at, live_entries, PutsAt}
use Rattle.cap_join.proofs.Entries.{alone}
use Rattle.cap_join.proofs.Tabling.{itself, turned, live-expired}
use Rattle.cap_join.proofs.Aging.{live-all, NoneOld-append}

-- a key's group is in the one or in the other
module _ (test : Key → Bool) where
  pub lookup-left : (xs ys : List Entry) → is_some (lookup test xs) ≡ true → lookup test (xs ++ ys) ≡ lookup test xs
  lookup-left [] ys h = cc
  lookup-left (x ∷ xs) ys h = grind (arith, lookup-left xs ys)

  pub lookup-right : (xs ys : List Entry) → is_some (lookup test xs) ≡ false → lookup test (xs ++ ys) ≡ lookup test ys
  lookup-right [] ys h = refl
  lookup-right (x ∷ xs) ys h = grind (arith, lookup-right xs ys)

  pub set_value-left : (xs ys : List Entry) (t : GroupState) → is_some (lookup test xs) ≡ true
      → set_value test (xs ++ ys) t ≡ set_value test xs t ++ ys
  set_value-left [] ys t h = cc
  set_value-left (x ∷ xs) ys t h = grind (arith, set_value-left xs ys t)

  pub set_value-right : (xs ys : List Entry) (t : GroupState) → is_some (lookup test xs) ≡ false
      → set_value test (xs ++ ys) t ≡ xs ++ set_value test ys t
  set_value-right [] ys t h = refl
  set_value-right (x ∷ xs) ys t h = grind (arith, set_value-right xs ys t)

  pub remove_entry-left : (xs ys : List Entry) → is_some (lookup test xs) ≡ true
      → remove_entry test (xs ++ ys) ≡ remove_entry test xs ++ ys
  remove_entry-left [] ys h = cc
  remove_entry-left (x ∷ xs) ys h = grind (arith, remove_entry-left xs ys)

  pub remove_entry-right : (xs ys : List Entry) → is_some (lookup test xs) ≡ false
      → remove_entry test (xs ++ ys) ≡ xs ++ remove_entry test ys
  remove_entry-right [] ys h = refl
  remove_entry-right (x ∷ xs) ys h = grind (arith, remove_entry-right xs ys)

  pub removed-few : (es : List Entry) → length (remove_entry test es) ≤ length es
  removed-few [] = omega arith
  removed-few (e ∷ es) = grind (arith, removed-few es)

  pub remove_entry-none : (xs : List Entry) → is_some (lookup test xs) ≡ false → remove_entry test xs ≡ xs
  remove_entry-none [] h = refl
  remove_entry-none (x ∷ xs) h = grind (arith, remove_entry-none xs)

  -- what holds of groups without a clock
  pub timeless-found : (xs : List Entry) (s : GroupState) → AreTimeless xs → lookup test xs ≡ Some s → s.clock ≡ None
  timeless-found [] s h is = cc
  timeless-found (x ∷ xs) s h is = grind (arith, timeless-found xs s h.1)

  -- a group with a clock is of the rest
  pub aged-rest : (xs ys : List Entry) → AreTimeless xs → IfSome (lookup test (xs ++ ys)) (λ s. IsSome s.clock)
      → is_some (lookup test xs) ≡ false
  aged-rest [] ys h aged = refl
  aged-rest (x ∷ xs) ys h aged = grind (arith, aged-rest xs ys h.1)

  pub timeless-set : (xs : List Entry) (s t : GroupState) → AreTimeless xs → lookup test xs ≡ Some s → t.clock ≡ s.clock
      → AreTimeless (set_value test xs t)
  timeless-set [] s t h is same = h
  timeless-set (x ∷ xs) s t h is same = grind (arith, timeless-set xs s t h.1)

  pub timeless-removed : (xs : List Entry) → AreTimeless xs → AreTimeless (remove_entry test xs)
  timeless-removed [] h = h
  timeless-removed (x ∷ xs) h = grind (arith, timeless-removed xs h.1)

pub timeless-first : (xs : List Entry) → AreTimeless xs → AreTimeless (remove xs 0)
timeless-first xs h = grind arith

pub timeless-push : (xs : List Entry) (e : Entry) → AreTimeless xs → e.1.clock ≡ None → AreTimeless (xs ++ e ∷ [])
timeless-push [] e h is = (is, tt)
timeless-push (x ∷ xs) e h is = (h.0, timeless-push xs e h.1 is)

pub timeless-young : (now : Option Stamp) (xs : List Entry) → AreTimeless xs → NoneOld now xs
timeless-young now [] h = tt
timeless-young now (x ∷ xs) h = (ap (λ (c : Option Stamp). is_too_old c now) h.0, timeless-young now xs h.1)

-- groups that are too old are of the rest
pub live-rest : (now : Option Stamp) (xs ys : List Entry) → AreTimeless xs
    → live_entries now (xs ++ ys) ≡ xs ++ live_entries now ys
live-rest now xs ys h = grind (arith, filter-append, live-all, timeless-young)

pub IsDeadline-rest : (deadline : Option Stamp) (xs ys : List Entry) → AreTimeless xs → IsDeadline deadline ys
    → IsDeadline deadline (xs ++ ys)
IsDeadline-rest deadline xs ys h is = λ now past. NoneOld-append now xs ys (timeless-young now xs h) (is now past)

pub AreInTurn-rest : (xs ys : List Entry) → AreInTurn (xs ++ ys) → AreInTurn ys
AreInTurn-rest [] ys h = h
AreInTurn-rest (x ∷ xs) ys h = AreInTurn-rest xs ys h.1

pub unique-rest : (xs ys : List Entry) → IsDistinct same_key (keys_of (xs ++ ys)) → IsDistinct same_key (keys_of ys)
unique-rest [] ys h = h
unique-rest (x ∷ xs) ys h = unique-rest xs ys (IsDistinct-tail same_key x.0 (keys_of (xs ++ ys)) h)

pub most_bytes-both : (xs ys : List Entry) → most_bytes (xs ++ ys) ≡ max (most_bytes xs) (most_bytes ys)
most_bytes-both [] ys = omega arith
most_bytes-both (x ∷ xs) ys = omega (arith, most_bytes-both xs ys)

pub spare_in-both : (xs ys : List Entry) → spare_in (xs ++ ys) ≡ spare_in xs + spare_in ys
spare_in-both [] ys = omega arith
spare_in-both (x ∷ xs) ys = omega (arith, spare_in-both xs ys)

-- a put into either
pub PutsAt-left : (key : Key) (p : Piece) (xs ys new : List Entry) (complete : Bool) → is_some (entry_at key xs) ≡ true
    → PutsAt key p xs complete new → PutsAt key p (xs ++ ys) complete (new ++ ys)
PutsAt-left key p xs ys new complete h w = record {
  before = w.before;
  after = w.after;
  was = lookup-left (same_key key) xs ys h ∙ w.was;
  now = ap (λ (l : List Entry). l ++ ys) w.now ∙ sym (set_value-left (same_key key) xs ys w.after h);
  group = w.group;
  clock = w.clock;
  place = w.place;
  frames = w.frames;
  done = w.done;
}

pub PutsAt-right : (key : Key) (p : Piece) (xs ys new : List Entry) (complete : Bool)
    → is_some (entry_at key xs) ≡ false → PutsAt key p ys complete new → PutsAt key p (xs ++ ys) complete (xs ++ new)
PutsAt-right key p xs ys new complete h w = record {
  before = w.before;
  after = w.after;
  was = lookup-right (same_key key) xs ys h ∙ w.was;
  now = ap (λ (l : List Entry). xs ++ l) w.now ∙ sym (set_value-right (same_key key) xs ys w.after h);
  group = w.group;
  clock = w.clock;
  place = w.place;
  frames = w.frames;
  done = w.done;
}

-- what changes no key
pub keys_of-append : (xs ys : List Entry) → keys_of (xs ++ ys) ≡ keys_of xs ++ keys_of ys
keys_of-append [] ys = refl
keys_of-append (x ∷ xs) ys = ap (λ (l : List Key). x.0 ∷ l) (keys_of-append xs ys)

pub keys_of-length : (xs : List Entry) → length (keys_of xs) ≡ length xs
keys_of-length [] = refl
keys_of-length (x ∷ xs) = ap suc (keys_of-length xs)

pub keys-same : (xs ys vs ws : List Entry) → keys_of xs ≡ keys_of vs → keys_of ys ≡ keys_of ws
    → keys_of (xs ++ ys) ≡ keys_of (vs ++ ws)
keys-same xs ys vs ws p q = grind (arith, keys_of-append)

pub length-same : (xs ys : List Entry) → keys_of xs ≡ keys_of ys → length xs ≡ length ys
length-same xs ys h = sym (keys_of-length xs) ∙ ap (λ (l : List Key). length l) h ∙ keys_of-length ys

-- what holds of a list that was made, or stays as it was
pub made_cases : {A E : Type 0} (P : List Entry → Type 0) (old made new : List Entry) (r : Result A E)
    → OnOk r (new ≡ made) → OnErr r (new ≡ old) → P made → P old → P new
made_cases P old made new r ok err p q = grind arith

-- the first group is set aside
other : (k key : Key) (g : GroupState) (xs others : List Entry)
    → AllByRecursion (λ y. same_key k y ≡ false) (keys_of (xs ++ (key, g) ∷ others)) → same_key k key ≡ false
other k key g [] others h = h.0
other k key g (x ∷ xs) others h = other k key g xs others h.1

pub apart : (key : Key) (g : GroupState) (xs others : List Entry)
    → IsDistinct same_key (keys_of (xs ++ (key, g) ∷ others)) → is_some (entry_at key xs) ≡ false
apart key g [] others h = refl
apart key g (x ∷ xs) others h =
    let first : same_key x.0 key ≡ false = other x.0 key g xs others
    (IsDistinct-head same_key x.0 (keys_of (xs ++ (key, g) ∷ others)) h) in
    let rest = apart key g xs others (IsDistinct-tail same_key x.0 (keys_of (xs ++ (key, g) ∷ others)) h) in
    grind (arith, turned)

pub found_last : (key : Key) (g : GroupState) (xs : List Entry) → IsSome (entry_at key (xs ++ (key, g) ∷ []))
found_last key g [] = grind (arith, itself)
found_last key g (x ∷ xs) = grind (arith, found_last key g xs)

removed_last : (key : Key) (g : GroupState) → remove_entry (same_key key) ((key, g) ∷ []) ≡ []
removed_last key g = grind (arith, itself)

pub set_last : (key : Key) (g b : GroupState) (xs rest others mid new : List Entry)
    → IsDistinct same_key (keys_of (xs ++ rest)) → rest ≡ (key, g) ∷ others
    → mid ≡ remove_entry (same_key key) xs ++ (key, b) ∷ [] → new ≡ remove_entry (same_key key) mid ++ (key, g) ∷ []
    → new ≡ xs ++ (key, g) ∷ []
set_last key g b xs rest others mid new unique is first put =
    let test = same_key key in
    let none : is_some (entry_at key xs) ≡ false =
    apart key g xs others (subst (λ (l : List Entry). IsDistinct same_key (keys_of (xs ++ l))) is unique) in
    let placed : mid ≡ xs ++ (key, b) ∷ [] = first
    ∙ ap (λ (l : List Entry). l ++ (key, b) ∷ []) (remove_entry-none test xs none) in
    let out : remove_entry test mid ≡ xs = ap (remove_entry test) placed
    ∙ remove_entry-right test xs ((key, b) ∷ []) none ∙ ap (λ (l : List Entry). xs ++ l) (removed_last key b)
    ∙ append-nil xs in
    put ∙ ap (λ (l : List Entry). l ++ (key, g) ∷ []) out

-- a group is added to the rest
pub appended-rest : (key : Key) (g : GroupState) (xs ys : List Entry) → is_some (entry_at key xs) ≡ false
    → xs ++ (remove_entry (same_key key) ys ++ (key, g) ∷ []) ≡ remove_entry (same_key key) (xs ++ ys) ++ (key, g) ∷ []
appended-rest key g xs ys none = sym (append_assoc xs (remove_entry (same_key key) ys) ((key, g) ∷ []))
    ∙ ap (λ (l : List Entry). l ++ (key, g) ∷ []) (sym (remove_entry-right (same_key key) xs ys none))

pub appended-few : (key : Key) (g : GroupState) (es : List Entry)
    → length (remove_entry (same_key key) es ++ (key, g) ∷ []) ≤ length es + 1
appended-few key g es =
    omega (arith, length-append (remove_entry (same_key key) es) ((key, g) ∷ []), removed-few (same_key key) es)

-- the first of both is taken out
pub first-left : (xs ys : List Entry) → nat_eq (length xs) 0 ≡ false → remove xs 0 ++ ys ≡ remove (xs ++ ys) 0
first-left [] ys h = cc
first-left (x ∷ xs) ys h = refl

pub first-right : (xs ys : List Entry) → nat_eq (length xs) 0 ≡ true → xs ++ remove ys 0 ≡ remove (xs ++ ys) 0
first-right [] ys h = refl
first-right (x ∷ xs) ys h = grind arith

pub first-few : (es : List Entry) → length (remove es 0) ≤ length es
first-few [] = omega arith
first-few (e ∷ es) = omega arith

pub ok_now : {A E : Type 0} (r : Result A E) (P : Type 0) → is_err r ≡ false → OnOk r P → P
ok_now r P h ok = grind arith

-- the first entry is the one that is taken out
pub first_pair : (rest others : List Entry) (e f : Entry) (r : Option Entry) → rest ≡ f ∷ others → r ≡ slice_get rest 0
    → r ≡ Some e → e ≡ f
first_pair rest others e f r is first some = grind arith

pub first_left : (rest others : List Entry) (f : Entry) → rest ≡ f ∷ others → drop 1 rest ≡ others
first_left rest others f is = grind arith

pub moved_whole : (xs rest others new left : List Entry) (f : Entry) → rest ≡ f ∷ others → new ≡ xs ++ f ∷ []
    → left ≡ others → new ++ left ≡ xs ++ rest
moved_whole xs rest others new left f is made gone = grind (arith, append_assoc)

pub first_entry : (es : List Entry) (e : Entry) → Some e ≡ slice_get es 0 → es ≡ e ∷ drop 1 es
first_entry [] e h = cc
first_entry (x ∷ es) e h = grind arith

-- a group of the rest isn't set aside
pub apart_found : (key : Key) (xs ys : List Entry) → IsDistinct same_key (keys_of (xs ++ ys))
    → is_some (entry_at key ys) ≡ true → is_some (entry_at key xs) ≡ false
apart_found key [] ys h some = refl
apart_found key (x ∷ xs) ys h some =
    by (same_key key x.0) (alone key x (xs ++ ys) h)
    (apart_found key xs ys (IsDistinct-tail same_key x.0 (keys_of (xs ++ ys)) h) some)
  where
    by : (b : Bool) → (b ≡ true → entry_at key (xs ++ ys) ≡ None) → is_some (entry_at key xs) ≡ false
        → is_some (cond b (Some x.1) (entry_at key xs)) ≡ false
    by true none rest = grind (arith, none refl, lookup-right)
    by false none rest = rest

-- one that is too old is taken out
pub expired_whole : (key : Key) (now : Option Stamp) (xs ys : List Entry) → IsDistinct same_key (keys_of (xs ++ ys))
    → IsSomeAnd (entry_at key ys) (λ s. is_too_old s.clock now ≡ true)
    → xs ++ remove_entry (same_key key) ys ≡ remove_entry (same_key key) (xs ++ ys)
expired_whole key now xs ys h old =
    sym (remove_entry-right (same_key key) xs ys (apart_found key xs ys h (known (entry_at key ys) old)))
  where
    known : (o : Option GroupState) → IsSomeAnd o (λ s. is_too_old s.clock now ≡ true) → is_some o ≡ true
    known o h = grind arith

pub live-whole : (key : Key) (now : Option Stamp) (xs ys : List Entry) → AreTimeless xs
    → IsSomeAnd (entry_at key ys) (λ s. is_too_old s.clock now ≡ true)
    → live_entries now (xs ++ remove_entry (same_key key) ys) ≡ live_entries now (xs ++ ys)
live-whole key now xs ys h old =
    live-rest now xs (remove_entry (same_key key) ys) h
    ∙ ap (λ (l : List Entry). xs ++ l) (live-expired (same_key key) now ys old) ∙ sym (live-rest now xs ys h)

pub live-none : (now : Option Stamp) (xs ys : List Entry) → AreTimeless xs → NoneOld now ys
    → live_entries now (xs ++ ys) ≡ xs ++ ys
live-none now xs ys h none = live-rest now xs ys h ∙ ap (λ (l : List Entry). xs ++ l) (live-all now ys none)
