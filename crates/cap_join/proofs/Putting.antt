-- What a fragment makes of the table: what `PutsFragment` says, case by case, and that it stays a table.
use Rattle.std.proofs.Common.{◌≡◌, ℕ, ◌+◌, ◌≤◌, ◌<◌, ◌^◌, Bool, true, false, List, [], ◌∷◌, ◌++◌, length, refl, sym}
use Rattle.std.proofs.Common.{◌∙◌, ap, subst, arith, not, true≢false, Option, Some, None, length-append}
use Rattle.std.specs.Prelude.{nat_lt, if◌then◌else◌, filter, remove, IsSomeAnd}
use Rattle.std.specs.List.{IsDistinct}
use Rattle.std.specs.Map.{keys_of, lookup, set_value, remove_entry}
use Rattle.cap_ip.specs.declared.headers.Key.{Key}
use Rattle.cap_time.specs.declared.stamps.Stamp.{Stamp}
use Rattle.cap_join.specs.declared.datagrams.Put.TheVariants.{Kept, Joined}
use Rattle.cap_join.specs.declared.datagrams.Datagram.{Datagram}
use Rattle.cap_join.specs.Fragments.{Piece}
use Rattle.cap_join.specs.ByteMap.{completes}
use Rattle.cap_join.specs.Frames.{is_too_old}
use Rattle.cap_join.specs.inner.Groups.{GroupState, IsGroupOf, IsDatagramOf}
use Rattle.cap_join.specs.History.{OpenGroup, same_key, fragment_key, group_opened_by, live_at, group_at, without}
use Rattle.cap_join.specs.History.{extended}
use Rattle.cap_join.specs.History.{without_oldest, trimmed, pieces_with, opens_with, gives_up_with}
use Rattle.cap_join.specs.Joiners.{Entry, IsEntryOf, AreEntriesOf, Rises, IsTable, open_limit}
use Rattle.cap_join.specs.inner.Tables.{entry_at, live_entries, has_live, PutsAt, PutsFragment}
use Rattle.cap_join.proofs.Entries.{lengths, live_group, no_live, AreEntriesOf-live, Found}
use Rattle.cap_join.proofs.Steps.{AreEntriesOf-put, live_at-extended, without-extended, AreEntriesOf-without}
use Rattle.cap_join.proofs.Steps.{AreEntriesOf-push, AreEntriesOf-oldest, Rises-wider, Rises-filter, Rises-set_value}
use Rattle.cap_join.proofs.Steps.{Rises-remove_entry, Rises-push, Rises-first}

-- lengths
filter_short : {X : Type 0} (test : X → Bool) (xs : List X) → length (filter test xs) ≤ length xs
filter_short test [] = omega arith
filter_short test (x ∷ xs) = grind (arith, filter_short test xs)

set_value_length : (test : Key → Bool) (es : List Entry) (s : GroupState) → length (set_value test es s) ≡ length es
set_value_length test [] s = refl
set_value_length test (e ∷ es) s = grind (arith, set_value_length test es s)

remove_entry_short : (test : Key → Bool) (es : List Entry) → length (remove_entry test es) ≤ length es
remove_entry_short test [] = omega arith
remove_entry_short test (e ∷ es) = grind (arith, remove_entry_short test es)

-- a group has no more frames than there are places below the bound
frames_below : (key : Key) (low high : ℕ) (es : List Entry) (s : GroupState) → Rises low high es
    → entry_at key es ≡ Some s → s.frames ≤ high
frames_below key low high [] s r h = cc
frames_below key low high (e ∷ es) s r h = grind (arith, frames_below key (e.1.place + 1) high es s r.3)

pub there : (key : Key) (now : Option Stamp) (high : ℕ) (es : List Entry) → IsTable high es → high < 2 ^ 63
    → has_live key now es ≡ true → IsSomeAnd (entry_at key es) (λ s. s.frames < 2 ^ 63)
there key now high es t few h = grind (arith, frames_below)

-- the group stays found
lookup-set_value : (test : Key → Bool) (es : List Entry) (before after : GroupState) → lookup test es ≡ Some before
    → lookup test (set_value test es after) ≡ Some after
lookup-set_value test [] before after h = cc
lookup-set_value test (e ∷ es) before after h = grind (arith, lookup-set_value test es before after)

entry_at-live : (key : Key) (now : Option Stamp) (s : GroupState) (es : List Entry) → entry_at key es ≡ Some s
    → not (is_too_old s.clock now) ≡ true → entry_at key (live_entries now es) ≡ Some s
entry_at-live key now s [] h live = h
entry_at-live key now s (e ∷ es) h live = grind (arith, entry_at-live key now s es)

-- the group with the fragment is the one that is found afterwards
pub found_after : (key : Key) (p : Piece) (now : Option Stamp) (es mid : List Entry) (complete : Bool)
    (a : PutsAt key p es complete mid) → has_live key now es ≡ true
    → entry_at key (live_entries now mid) ≡ Some a.after
found_after key p now es mid complete a live = grind (arith, entry_at-live, lookup-set_value)

module _ (clock : Option Stamp) (p : Piece) (es : List Entry) (apart : IsDistinct same_key (keys_of es))
    (os : List OpenGroup) (h : AreEntriesOf es os) where
  live : List OpenGroup
  live = live_at clock os

  -- what the group is that a fragment joins
  joins : (complete : Bool) (mid : List Entry) (a : PutsAt (fragment_key p) p es complete mid)
      → has_live (fragment_key p) clock es ≡ true → Found (fragment_key p) a.before (live_at clock os)
  joins complete mid a is = live_group (fragment_key p) clock a.before es os h a.was is

  entries_after : (complete : Bool) (mid : List Entry) (a : PutsAt (fragment_key p) p es complete mid)
      → AreEntriesOf (live_entries clock mid) (extended p (live_at clock os))
  entries_after complete mid a =
      subst (λ (l : List OpenGroup). AreEntriesOf (live_entries clock mid) l) (live_at-extended clock p os)
      (AreEntriesOf-live clock mid (extended p os)
      (subst (λ (l : List Entry). AreEntriesOf l (extended p os)) (sym a.now)
      (AreEntriesOf-put p a.before a.after es os h apart a.was a.group a.clock a.place)))

  -- the group isn't complete yet
  pub Puts-kept : (mid new : List Entry) → has_live (fragment_key p) clock es ≡ true
      → PutsAt (fragment_key p) p es false mid
      → new ≡ live_entries clock mid → PutsFragment clock p os Kept false new
  Puts-kept mid new is a new_is =
      let f = joins false mid a is in
      let done : false ≡ completes (p ∷ f.open_group.pieces) =
      a.done (p ∷ f.open_group.pieces) (a.group f.open_group.pieces f.group) in
      let after : opens_with open_limit clock p (group_at (fragment_key p) (live_at clock os)) (live_at clock os)
      ≡ extended p (live_at clock os) =
      ap (λ (g : Option OpenGroup). opens_with open_limit clock p g (live_at clock os)) f.found
      ∙ ap (λ (b : Bool). if b then without (fragment_key p) (live_at clock os) else extended p (live_at clock os))
      (sym done) in
      record {
        groups = subst (AreEntriesOf new) (sym after) (subst
            (λ (l : List Entry). AreEntriesOf l (extended p (live_at clock os))) (sym new_is)
            (entries_after false mid a));
        gives_up = sym (ap (λ (g : Option OpenGroup). gives_up_with open_limit p g (live_at clock os)) f.found);
        answers = ap (λ (g : Option OpenGroup). completes (pieces_with p g)) f.found ∙ sym done;
      }

  -- it is complete, and is taken out
  pub Puts-joined : (mid late new : List Entry) (s : GroupState) (d : Datagram)
      → has_live (fragment_key p) clock es ≡ true
      → PutsAt (fragment_key p) p es true mid → late ≡ live_entries clock mid
      → IsDistinct same_key (keys_of late) → Some s ≡ entry_at (fragment_key p) late
      → new ≡ remove_entry (same_key (fragment_key p)) late
      → ((ps : List Piece) → IsGroupOf s ps → completes ps ≡ true → IsDatagramOf d ps)
      → PutsFragment clock p os (Joined d) false new
  Puts-joined mid late new s d is a late_is late_apart taken new_is datagram =
      let f = joins true mid a is in
      let done : true ≡ completes (p ∷ f.open_group.pieces) =
      a.done (p ∷ f.open_group.pieces) (a.group f.open_group.pieces f.group) in
      let after : opens_with open_limit clock p (group_at (fragment_key p) (live_at clock os)) (live_at clock os)
      ≡ without (fragment_key p) (live_at clock os) =
      ap (λ (g : Option OpenGroup). opens_with open_limit clock p g (live_at clock os)) f.found
      ∙ ap (λ (b : Bool). if b then without (fragment_key p) (live_at clock os) else extended p (live_at clock os))
      (sym done) in
      let same : s ≡ a.after = some_is (taken ∙ ap (entry_at (fragment_key p)) late_is
      ∙ found_after (fragment_key p) p clock es mid true a is) in
      let group : IsGroupOf s (p ∷ f.open_group.pieces) =
      subst (λ (x : GroupState). IsGroupOf x (p ∷ f.open_group.pieces)) (sym same)
      (a.group f.open_group.pieces f.group) in
      let whole : completes (pieces_with p (group_at (fragment_key p) (live_at clock os))) ≡ true =
      ap (λ (g : Option OpenGroup). completes (pieces_with p g)) f.found ∙ sym done in
      let entries : AreEntriesOf late (extended p (live_at clock os)) =
      subst (λ (l : List Entry). AreEntriesOf l (extended p (live_at clock os))) (sym late_is)
      (entries_after true mid a) in
      record {
        groups = subst (AreEntriesOf new) (sym (after ∙ sym (without-extended p (live_at clock os))))
            (subst (λ (l : List Entry). AreEntriesOf l (without (fragment_key p) (extended p (live_at clock os))))
            (sym new_is) (AreEntriesOf-without (fragment_key p) late (extended p (live_at clock os)) entries
            late_apart));
        gives_up = sym (ap (λ (g : Option OpenGroup). gives_up_with open_limit p g (live_at clock os)) f.found);
        answers = (
          whole,
          subst (λ (g : Option OpenGroup). IsDatagramOf d (pieces_with p g)) (sym f.found)
              (datagram (p ∷ f.open_group.pieces) group (sym done)),
        );
      }
    where
      some_is : {x y : GroupState} → Some x ≡ Some y → x ≡ y
      some_is e = cc

  -- a fragment that is a whole datagram by itself
  pub Puts-alone : (new : List Entry) (d : Datagram) → has_live (fragment_key p) clock es ≡ false
      → completes (p ∷ []) ≡ true
      → IsDatagramOf d (p ∷ []) → new ≡ live_entries clock es → PutsFragment clock p os (Joined d) false new
  Puts-alone new d is done datagram new_is = grind (arith, no_live, AreEntriesOf-live)

  -- a fragment that opens a group
  pub Puts-opened : (mid late new : List Entry) (s : GroupState) (gave_up : Bool) (high : ℕ)
      → has_live (fragment_key p) clock es ≡ false → completes (p ∷ []) ≡ false → Rises 0 high es
      → IsGroupOf s (p ∷ []) → s.clock ≡ clock → s.place ≡ p.stamped.place
      → mid ≡ live_entries clock es → gave_up ≡ not (nat_lt (length mid) open_limit)
      → late ≡ (if gave_up then remove mid 0 else mid) → new ≡ late ++ (fragment_key p, s) ∷ []
      → PutsFragment clock p os Kept gave_up new
  Puts-opened mid late new s gave_up high is done rises group clock_is place_is mid_is gave_up_is late_is new_is =
      let none : group_at (fragment_key p) (live_at clock os)
      ≡ None = no_live (fragment_key p) clock es os h apart is in
      let after : opens_with open_limit clock p (group_at (fragment_key p) (live_at clock os)) (live_at clock os)
      ≡ trimmed open_limit (live_at clock os) ++ group_opened_by clock p ∷ [] =
      ap (λ (g : Option OpenGroup). opens_with open_limit clock p g (live_at clock os)) none
      ∙ ap (λ (b : Bool). if b then live_at clock os else trimmed open_limit (live_at clock os)
      ++ group_opened_by clock p
      ∷ []) done in
      let entries : AreEntriesOf mid (live_at clock os) =
      subst (λ (l : List Entry). AreEntriesOf l (live_at clock os)) (sym mid_is)
      (AreEntriesOf-live clock es os h) in
      let rising : Rises 0 high mid = subst (Rises 0 high) (sym mid_is)
      (Rises-filter (λ e. not (is_too_old e.1.clock clock)) 0 high es rises) in
      let size : length mid ≡ length (live_at clock os) = lengths mid (live_at clock os) entries in
      let test : gave_up ≡ not (nat_lt (length (live_at clock os)) open_limit) = gave_up_is
      ∙ ap (λ (n : ℕ). not (nat_lt n open_limit)) size in
      let trim : AreEntriesOf late (trimmed open_limit (live_at clock os)) =
      subst (λ (l : List Entry). AreEntriesOf l (trimmed open_limit (live_at clock os))) (sym late_is)
      (by mid (live_at clock os) entries rising gave_up (nat_lt (length (live_at clock os)) open_limit) test) in
      let entry : IsEntryOf (fragment_key p, s) (group_opened_by clock p) =
      record { key = refl; clock = clock_is; place = place_is; group = group } in
      record {
        groups = grind (arith, AreEntriesOf-push);
        gives_up = grind (arith, not);
        answers = ap (λ (g : Option OpenGroup). completes (pieces_with p g)) none ∙ done;
      }
    where
      by : (mid : List Entry) (gs : List OpenGroup) → AreEntriesOf mid gs → Rises 0 high mid → (gave_up test : Bool)
          → gave_up ≡ not test
          → AreEntriesOf (if gave_up then remove mid 0 else mid) (if test then gs else without_oldest gs)
      by mid gs entries rising true true e = absurd (true≢false e)
      by mid gs entries rising true false e = AreEntriesOf-oldest 0 high mid gs entries rising
      by mid gs entries rising false true e = entries
      by mid gs entries rising false false e = absurd (true≢false (sym e))

-- the table stays one
pub IsTable-put : (key : Key) (p : Piece) (now : Option Stamp) (high : ℕ) (es mid new : List Entry) (complete : Bool)
    → IsTable high es → PutsAt key p es complete mid
    → new ≡ live_entries now mid → IsDistinct same_key (keys_of new) → IsTable (high + 1) new
IsTable-put key p now high es mid new complete t a new_is unique =
    grind (arith, filter_short, set_value_length, Rises-filter, Rises-set_value)

pub IsTable-removed : (test : Key → Bool) (high : ℕ) (es new : List Entry) → IsTable high es
    → new ≡ remove_entry test es → IsDistinct same_key (keys_of new) → IsTable high new
IsTable-removed test high es new t new_is unique = grind (arith, remove_entry_short, Rises-remove_entry)

pub IsTable-live : (now : Option Stamp) (high : ℕ) (es new : List Entry) → IsTable high es → new ≡ live_entries now es
    → IsDistinct same_key (keys_of new) → IsTable (high + 1) new
IsTable-live now high es new t new_is unique = grind (arith, filter_short, Rises-wider, Rises-filter)

pub IsTable-opened : (now : Option Stamp) (key : Key) (high : ℕ) (s : GroupState) (es mid late new : List Entry)
    (gave_up : Bool) → IsTable high es → mid ≡ live_entries now es
    → gave_up ≡ not (nat_lt (length mid) open_limit) → late ≡ (if gave_up then remove mid 0 else mid)
    → new ≡ late ++ (key, s) ∷ []
    → s.place ≡ high → s.frames ≤ high + 1 → IsDistinct same_key (keys_of new) → IsTable (high + 1) new
IsTable-opened now key high s es mid late new gave_up t mid_is gave_up_is late_is new_is place frames unique =
    grind (arith, filter_short, Rises-filter, length-append, Rises-push, Rises-first)

pub IsTable-wider : (high higher : ℕ) (es : List Entry) → high ≤ higher → IsTable high es → IsTable higher es
IsTable-wider high higher es h t = record {
  unique = t.unique;
  few = t.few;
  rises =
      Rises-wider 0 high 0 higher es (omega arith) h t.rises;
}
