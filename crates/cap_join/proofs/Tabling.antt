-- The table of open groups: keys that stay apart, and one group taken out, added or given up.
use Rattle.std.proofs.Common.{◌≡◌, ℕ, ◌<◌, Bool, true, false, List, [], ◌∷◌, ◌++◌, length, refl, ◌∙◌, ap, subst, arith}
use Rattle.std.proofs.Common.{cond, not, Option, Some, None, Result, length-append}
use Rattle.std.specs.Prelude.{nat_lt, if◌then◌else◌, remove, drop, IfOk, OnErr, IsSomeAnd}
use Rattle.std.specs.List.{AllByRecursion, IsDistinct}
use Rattle.std.specs.Option.{option_map_or}
use Rattle.std.specs.Map.{keys_of, lookup, lookup_entry, set_value, remove_entry}
use Rattle.std.proofs.lemmas.List.{take_all}
use Rattle.std.proofs.lemmas.List.Elements.{filter-append}
use Rattle.std.proofs.lemmas.Map.Keys.{IsDistinct-head, IsDistinct-tail, IsDistinct-cons}
use Rattle.lru.specs.LruCache.{lru_cache, put_entries, demoted}
use Rattle.cap_ip.specs.declared.headers.Key.{Key}
use Rattle.cap_time.specs.declared.stamps.Stamp.{Stamp}
use Rattle.cap_join.specs.Fragments.{Piece}
use Rattle.cap_join.specs.Frames.{is_too_old}
use Rattle.cap_join.specs.inner.Groups.{GroupState}
use Rattle.cap_join.specs.History.{same_key}
use Rattle.cap_join.specs.Joiners.{Entry, open_limit}
use Rattle.cap_join.specs.inner.Tables.{entry_at, live_entries, has_live, PutsAt}
use Rattle.cap_join.proofs.Entries.{same_key-is, alone}
use Rattle.cap_join.proofs.Aging.{Looked}

-- a value that is written changes no key
pub keys_of-set_value : (test : Key → Bool) (es : List Entry) (s : GroupState)
    → keys_of (set_value test es s) ≡ keys_of es
keys_of-set_value test [] s = refl
keys_of-set_value test (e ∷ es) s = grind (arith, keys_of-set_value test es s)

-- what holds of a table holds of it after a put, which wrote one group or nothing
pub put_cases : {E : Type 0} (P : List Entry → Type 0) (key : Key) (p : Piece) (old new : List Entry)
    (r : Result Bool E) → IfOk r (λ complete. PutsAt key p old complete new) → OnErr r (new ≡ old)
    → ((complete : Bool) → PutsAt key p old complete new → P new) → P old → P new
put_cases P key p old new r ok err f h = grind arith

-- a group is taken out
AllByRecursion-remove_entry : (P : Key → Type 0) (test : Key → Bool) (es : List Entry) → AllByRecursion P (keys_of es)
    → AllByRecursion P (keys_of (remove_entry test es))
AllByRecursion-remove_entry P test [] h = h
AllByRecursion-remove_entry P test (e ∷ es) h = grind (arith, AllByRecursion-remove_entry P test es h.1)

pub IsDistinct-remove_entry : (test : Key → Bool) (es : List Entry) → IsDistinct same_key (keys_of es)
    → IsDistinct same_key (keys_of (remove_entry test es))
IsDistinct-remove_entry test [] h = h
IsDistinct-remove_entry test (e ∷ es) h = by (test e.0)
    (IsDistinct-remove_entry test es (IsDistinct-tail same_key e.0 (keys_of es) h))
  where
    by : (b : Bool) → IsDistinct same_key (keys_of (remove_entry test es))
        → IsDistinct same_key (keys_of (cond b es (e ∷ remove_entry test es)))
    by true rest = IsDistinct-tail same_key e.0 (keys_of es) h
    by false rest = IsDistinct-cons same_key e.0 (keys_of (remove_entry test es))
        (AllByRecursion-remove_entry (λ y. same_key e.0 y ≡ false) test es
        (IsDistinct-head same_key e.0 (keys_of es) h)) rest

-- and another is added with its key
pub turned : (a b : Key) → same_key a b ≡ false → same_key b a ≡ false
turned a b h = grind arith

NotOf : Key → List Entry → Type 0
NotOf key es = AllByRecursion (λ y. same_key y key ≡ false) (keys_of es)

none_left : (key : Key) (es : List Entry) → IsDistinct same_key (keys_of es)
    → NotOf key (remove_entry (same_key key) es)
unfolding NotOf
none_left key [] h = tt
none_left key (e ∷ es) h = by (same_key key e.0) refl (none_left key es (IsDistinct-tail same_key e.0 (keys_of es) h))
  where
    others : (es : List Entry) → AllByRecursion (λ y. same_key e.0 y ≡ false) (keys_of es) → same_key key e.0 ≡ true
        → AllByRecursion (λ y. same_key y key ≡ false) (keys_of es)
    others [] h is = h
    others (x ∷ xs) h is =
        (turned key x.0 (ap (λ (k : Key). same_key k x.0) (same_key-is key e.0 is) ∙ h.0), others xs h.1 is)

    by : (b : Bool) → same_key key e.0 ≡ b → NotOf key (remove_entry (same_key key) es)
        → NotOf key (cond b es (e ∷ remove_entry (same_key key) es))
    by b is rest = grind (arith, others, IsDistinct-head, turned)

IsDistinct-last : (key : Key) (s : GroupState) (es : List Entry) → NotOf key es → IsDistinct same_key (keys_of es)
    → IsDistinct same_key (keys_of (es ++ (key, s) ∷ []))
unfolding NotOf
IsDistinct-last key s [] h apart = IsDistinct-cons same_key key [] tt apart
IsDistinct-last key s (e ∷ es) h apart =
    IsDistinct-cons same_key e.0 (keys_of (es ++ (key, s) ∷ []))
    (more es (IsDistinct-head same_key e.0 (keys_of es) apart))
    (IsDistinct-last key s es h.1 (IsDistinct-tail same_key e.0 (keys_of es) apart))
  where
    more : (es : List Entry) → AllByRecursion (λ y. same_key e.0 y ≡ false) (keys_of es)
        → AllByRecursion (λ y. same_key e.0 y ≡ false) (keys_of (es ++ (key, s) ∷ []))
    more [] k = (h.0, tt)
    more (x ∷ xs) k = (k.0, more xs k.1)

pub IsDistinct-added : (key : Key) (s : GroupState) (es new : List Entry)
    → new ≡ remove_entry (same_key key) es ++ (key, s) ∷ [] → IsDistinct same_key (keys_of es)
    → IsDistinct same_key (keys_of new)
IsDistinct-added key s es new is apart = grind (arith, IsDistinct-last, none_left, IsDistinct-remove_entry)

pub IsDistinct-first : (es : List Entry) → IsDistinct same_key (keys_of es)
    → IsDistinct same_key (keys_of (remove es 0))
IsDistinct-first [] h = h
IsDistinct-first (e ∷ es) h = IsDistinct-tail same_key e.0 (keys_of es) h

pub drop-first : (es : List Entry) → drop 1 es ≡ remove es 0
drop-first es = cc

-- a group that is too old is taken out, or none
pub live-removed : (test : Key → Bool) (now : Option Stamp) (es : List Entry)
    → option_map_or (λ s. not (is_too_old s.clock now)) (lookup test es) false ≡ false
    → live_entries now (remove_entry test es) ≡ live_entries now es
live-removed test now [] h = refl
live-removed test now (e ∷ es) h = grind (arith, live-removed test now es)

pub live-expired : (test : Key → Bool) (now : Option Stamp) (es : List Entry)
    → IsSomeAnd (lookup test es) (λ s. is_too_old s.clock now ≡ true)
    → live_entries now (remove_entry test es) ≡ live_entries now es
live-expired test now es h = grind (arith, live-removed)

pub length-removed : (test : Key → Bool) (P : GroupState → Type 0) (es : List Entry) → IsSomeAnd (lookup test es) P
    → length (remove_entry test es) < length es
length-removed test P [] h = absurd h
length-removed test P (e ∷ es) h = grind (arith, length-removed test P es)

-- the group that a look reached is the one of its key
pub Looked-found : (now : Option Stamp) (es : List Entry) (e : Entry) (left : List Entry)
    → IsDistinct same_key (keys_of es) → Looked now es (e ∷ left) → entry_at e.0 es ≡ Some e.1
Looked-found now es e left apart l =
    ap (entry_at e.0) l.split ∙ found l.seen (subst (λ (x : List Entry). IsDistinct same_key (keys_of x)) l.split apart)
  where
    itself : (k : Key) → same_key k k ≡ true
    itself k = grind arith

    found : (seen : List Entry) → IsDistinct same_key (keys_of (seen ++ e ∷ left))
        → entry_at e.0 (seen ++ e ∷ left) ≡ Some e.1
    found [] h = ap (λ (b : Bool). cond b (Some e.1) (entry_at e.0 left)) (itself e.0)
    found (x ∷ xs) h = grind (
      arith,
      found xs (IsDistinct-tail same_key x.0 (keys_of (xs ++ e ∷ left)) h),
      IsDistinct-tail,
      cond,
      alone,
    )

-- a group that is put and goes last
pub itself : (k : Key) → same_key k k ≡ true
itself k = grind arith

unlisted : (test : Key → Bool) (es : List Entry) → lookup_entry test es ≡ None → remove_entry test es ≡ es
unlisted test [] h = refl
unlisted test (e ∷ es) h = grind (arith, unlisted test es)

listed : (test : Key → Bool) (es : List Entry) (x : Entry) → lookup_entry test es ≡ Some x → test x.0 ≡ true
listed test [] x h = cc
listed test (e ∷ es) x h = grind (arith, listed test es x)

moved : (test : Key → Bool) (k : Key) (s : GroupState) (rest : List Entry) → test k ≡ true
    → demoted test ((k, s) ∷ rest) ≡ rest ++ (k, s) ∷ []
moved test k s rest is = cc

pub added : (key : Key) (s : GroupState) (es : List Entry) (cap : ℕ) → length es < cap
    → demoted (same_key key) (put_entries same_key (lru_cache es cap) key s) ≡ remove_entry (same_key key) es
    ++ (key, s) ∷ []
added key s es cap room = grind (arith, moved, itself, take_all, unlisted, listed)

-- What adding a group first, dropping those that are too old and giving one up comes to.
pub record Opened (mid new : List Entry) (key : Key) (s : GroupState) (gave_up : Bool) : Type 0 where
  pub gave : gave_up ≡ not (nat_lt (length mid) open_limit)
  pub entries : new ≡ (if gave_up then remove mid 0 else mid) ++ (key, s) ∷ []

pub Opened-added : (key : Key) (s : GroupState) (now : Option Stamp) (es more live new : List Entry) (gave_up : Bool)
    → has_live key now es ≡ false → is_too_old s.clock now ≡ false
    → more ≡ remove_entry (same_key key) es ++ (key, s) ∷ [] → live ≡ live_entries now more
    → gave_up ≡ nat_lt open_limit (length live) → new ≡ (if gave_up then remove live 0 else live)
    → Opened (live_entries now es) new key s gave_up
Opened-added key s now es more live new gave_up is fresh more_is live_is gave new_is =
    grind (arith, filter-append, live-removed, length-append)
