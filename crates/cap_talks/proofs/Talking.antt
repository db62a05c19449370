-- The rows of the conversations of some units, with one unit more.
use Rattle.std.proofs.lemmas.Bool.Decides.{nat_tests}
use Rattle.std.proofs.lemmas.Grind.{common_steps}
use Rattle.std.proofs.Common.{◌≡◌, ℕ, ◌+◌, Bool, true, false, cond, not, ◌&&◌, List, [], ◌∷◌, ◌++◌, filter, map, refl}
use Rattle.std.proofs.Common.{subst, sym, ap, ◌∙◌, true≢false, arith, Option, Some, append-nil}
use Rattle.std.specs.Map.{lookup}
use Rattle.indexmap.specs.IndexMap.{insert_entry}
use Rattle.std.proofs.lemmas.Bool.{eq-eqb}
use Rattle.cap_talks.proofs.FrameOrder.{least-more, greatest-more}
use Rattle.cap_talks.specs.table.Conversations.{Conversation, is_forward, backward, earlier_frame, later_frame}
use Rattle.cap_talks.specs.table.Conversations.{least_frame}
use Rattle.cap_talks.specs.table.Conversations.{greatest_frame, frame_time, place_or, talk_key, frames_of, units_bytes}
use Rattle.cap_talks.specs.table.Conversations.{row_of}
use Rattle.cap_talks.specs.table.Conversations.{same_end, same_talk, units_of_talk, keys_of, rows_of}
use Rattle.cap_talks.specs.inner.table.Keys.{same_talk-is}
use Rattle.cap_talks.specs.table.Rows.{row_frame, with_unit, or_empty, with_talk}
use Rattle.cap_talks.specs.declared.table.rows.TalkKey.{TalkKey}
use Rattle.cap_talks.specs.declared.table.rows.TalkRow.{TalkRow}
use Rattle.cap_talks.specs.declared.table.units.TimedFrame.{TimedFrame}
use Rattle.cap_talks.specs.declared.table.units.CountedUnit.{CountedUnit}
use Rattle.cap_talks.specs.declared.table.units.Endpoint.{Endpoint}

pub and_true : (x y : Bool) → x ≡ true → y ≡ true → (x && y) ≡ true
and_true x y h k = ap (λ b. b && y) h ∙ k

pub same_end-self : (a : Endpoint) → same_end a a ≡ true
same_end-self a = grind (arith, and_true, eq-eqb)

pub same_talk-self : (a : TalkKey) → same_talk a a ≡ true
same_talk-self a = grind arith

-- two keys that differ, the other way round
other_way : (a b : TalkKey) → same_talk a b ≡ false → same_talk b a ≡ false
other_way a b h = by (same_talk b a) refl
  where
    by : (t : Bool) → same_talk b a ≡ t → t ≡ false
    by false e = refl
    by true e =
        absurd (true≢false (sym (same_talk-self a)
        ∙ subst (λ k. same_talk a k ≡ false) (same_talk-is b a e) h))

-- Whether a key is among some keys.
abbrev has : TalkKey → List TalkKey → Bool
has k [] = false
has k (y ∷ ks) = cond (same_talk k y) true (has k ks)

abbrev Apart : List TalkKey → Type 0
Apart [] = Unit {0}
Apart (k ∷ ks) = (has k ks ≡ false) × Apart ks

-- the keys but one
abbrev but : TalkKey → List TalkKey → List TalkKey
but k ks = filter (λ key. not (same_talk k key)) ks

-- another key stays among them
has-but : (k x : TalkKey) (ks : List TalkKey) → same_talk k x ≡ false → has k (but x ks) ≡ has k ks
has-but k x [] h = refl
has-but k x (y ∷ ks) h = by (same_talk x y) refl (has-but k x ks h)
  where
    by : (t : Bool) → same_talk x y ≡ t → has k (but x ks) ≡ has k ks
        → has k (cond (not t) (y ∷ but x ks) (but x ks)) ≡ has k (y ∷ ks)
    by false is rest = ap (cond (same_talk k y) true) rest
    by true is rest =
        let differs : same_talk k y ≡ false = ap (same_talk k) (sym (same_talk-is x y is)) ∙ h in
        rest ∙ sym (ap (λ b. cond b true (has k ks)) differs)

has-gone : (k : TalkKey) (ks : List TalkKey) → has k (but k ks) ≡ false
has-gone k [] = refl
has-gone k (y ∷ ks) = grind (arith, has-gone k ks)

has_not-but : (k x : TalkKey) (ks : List TalkKey) → has k ks ≡ false → has k (but x ks) ≡ false
has_not-but k x [] h = refl
has_not-but k x (y ∷ ks) h = by (same_talk k y) refl h (same_talk x y) (has_not-but k x ks)
  where
    by : (s : Bool) → same_talk k y ≡ s → cond s true (has k ks) ≡ false → (t : Bool)
        → (has k ks ≡ false → has k (but x ks) ≡ false)
        → has k (cond (not t) (y ∷ but x ks) (but x ks)) ≡ false
    by s is n t rest = grind arith

Apart-but : (x : TalkKey) (ks : List TalkKey) → Apart ks → Apart (but x ks)
Apart-but x [] h = h
Apart-but x (y ∷ ks) h = grind (arith, Apart-but x ks h.1, has_not-but)

keys-apart : (units : List CountedUnit) → Apart (keys_of units)
keys-apart [] = tt
keys-apart (u ∷ units) = (
  has-gone (talk_key u) (keys_of units),
  Apart-but (talk_key u) (keys_of units) (keys-apart units),
)

filter-more : {X : Type 0} (test : X → Bool) (xs : List X) (x : X)
    → filter test (xs ++ x ∷ []) ≡ filter test xs ++ cond (test x) (x ∷ []) []
filter-more test [] x = refl
filter-more test (y ∷ xs) x = grind (arith, filter-more test xs x)

-- the conversations of one unit more
keys-more : (units : List CountedUnit) (u : CountedUnit)
    → keys_of (units ++ u ∷ []) ≡ cond (has (talk_key u) (keys_of units)) (keys_of units) (keys_of units
    ++ talk_key u ∷ [])
keys-more [] u = refl
keys-more (x ∷ units) u = by (same_talk k kx) refl (has k ks) refl (keys-more units u)
  where
    k : TalkKey
    k = talk_key u

    kx : TalkKey
    kx = talk_key x

    ks : List TalkKey
    ks = keys_of units

    more : List TalkKey
    more = keys_of (units ++ u ∷ [])

    by : (s : Bool) → same_talk k kx ≡ s → (h : Bool) → has k ks ≡ h → more ≡ cond (has k ks) ks (ks ++ k ∷ [])
        → kx ∷ but kx more ≡ cond (cond (same_talk k kx) true (has k (but kx ks))) (kx ∷ but kx ks)
        ((kx ∷ but kx ks) ++ k ∷ [])
    by true is h among rest =
        let gone : not (same_talk kx k) ≡ false = ap (λ y. not (same_talk y k)) (sym (same_talk-is k kx is))
        ∙ ap not (same_talk-self k) in
        let tail : but kx (ks ++ k ∷ []) ≡ but kx ks = filter-more (λ key. not (same_talk kx key)) ks k
        ∙ ap (λ b. but kx ks ++ cond b (k ∷ []) []) gone ∙ append-nil (but kx ks) in
        let left : (b : Bool) → but kx (cond b ks (ks ++ k ∷ [])) ≡ but kx ks = λ b. either b tail in
        ap (λ l. kx ∷ but kx l) rest ∙ ap (λ l. kx ∷ l) (left (has k ks))
        ∙ sym (ap (λ b. cond (cond b true (has k (but kx ks))) (kx ∷ but kx ks) ((kx ∷ but kx ks) ++ k ∷ [])) is)
      where
        either : (b : Bool) → but kx (ks ++ k ∷ []) ≡ but kx ks → but kx (cond b ks (ks ++ k ∷ [])) ≡ but kx ks
        either b e = grind arith
    by false is h among rest = grind (arith, other_way, filter-more, has-but)

-- a conversation that isn't among those of some units has none of them
no_units : (k : TalkKey) (units : List CountedUnit) → has k (keys_of units) ≡ false → units_of_talk k units ≡ []
no_units k [] h = refl
no_units k (x ∷ units) h = by (same_talk k (talk_key x)) refl h (no_units k units)
  where
    by : (s : Bool) → same_talk k (talk_key x) ≡ s → cond s true (has k (but (talk_key x) (keys_of units))) ≡ false
        → (has k (keys_of units) ≡ false → units_of_talk k units ≡ [])
        → cond s (x ∷ units_of_talk k units) (units_of_talk k units) ≡ []
    by s is n rest = grind (arith, has-but)

-- A row with one unit more.

pub frames-more : (units : List CountedUnit) (u : CountedUnit)
    → frames_of (units ++ u ∷ []) ≡ frames_of units + u.frames
frames-more [] u = omega arith
frames-more (x ∷ units) u = let e = frames-more units u in omega (arith, e)

pub bytes-more : (units : List CountedUnit) (u : CountedUnit) → units_bytes (units ++ u ∷ []) ≡ units_bytes units
    + u.bytes
bytes-more [] u = omega arith
bytes-more (x ∷ units) u = let e = bytes-more units u in omega (arith, e)

-- what is counted of the units that pass a test, with one more
tested-more : (count : List CountedUnit → ℕ) (one : CountedUnit → ℕ)
    → ((units : List CountedUnit) (u : CountedUnit) → count (units ++ u ∷ []) ≡ count units + one u)
    → (test : CountedUnit → Bool) (units : List CountedUnit) (u : CountedUnit)
    → count (filter test (units ++ u ∷ [])) ≡ cond (test u) (count (filter test units) + one u)
    (count (filter test units))
tested-more count one more test units u = grind (arith, filter-more, filter, append-nil)

turned : {X : Type 0} (t : Bool) (a b : X) → cond (not t) a b ≡ cond t b a
turned t a b = grind arith

-- of the units that go back
back-more : (count : List CountedUnit → ℕ) (one : CountedUnit → ℕ)
    → ((units : List CountedUnit) (u : CountedUnit) → count (units ++ u ∷ []) ≡ count units + one u)
    → (units : List CountedUnit) (u : CountedUnit)
    → count (backward (units ++ u ∷ [])) ≡ cond (is_forward u) (count (backward units)) (count (backward units) + one u)
back-more count one more units u = grind (arith, common_steps, nat_tests, tested-more, turned)

-- a row keeps its frames' times and places
kept : (f : Option TimedFrame) → row_frame (frame_time f) (place_or f 0) ≡ f
kept f = grind arith

earlier-place : (f g : Option TimedFrame) → place_or (earlier_frame f g) 0 ≡ place_or (earlier_frame f g) (place_or f 0)
earlier-place f g = grind arith

later-place : (f g : Option TimedFrame) → place_or (later_frame f g) 0 ≡ place_or (later_frame f g) (place_or f 0)
later-place f g = grind arith

row-more : (units : List CountedUnit) (u : CountedUnit) → row_of (units ++ u ∷ []) ≡ with_unit (row_of units) u
row-more units u =
    let least = least-more units u in
    let greatest = greatest-more units u in
    let first = least ∙ ap (λ f. earlier_frame f u.first) (sym (kept (least_frame units))) in
    let last = greatest ∙ ap (λ f. later_frame f u.last) (sym (kept (greatest_frame units))) in
    let first_place =
    ap (λ f. place_or f 0) least ∙ earlier-place (least_frame units) u.first
    ∙ ap (λ f. place_or (earlier_frame f u.first) (place_or (least_frame units) 0)) (sym (kept (least_frame units))) in
    let last_place =
    ap (λ f. place_or f 0) greatest ∙ later-place (greatest_frame units) u.last
    ∙ ap (λ f. place_or (later_frame f u.last) (place_or (greatest_frame units) 0))
    (sym (kept (greatest_frame units))) in
    λ i. record {
      forward_bytes = tested-more units_bytes (λ unit. unit.bytes) bytes-more is_forward units u i;
      backward_bytes = back-more units_bytes (λ unit. unit.bytes) bytes-more units u i;
      first = frame_time (first i);
      last = frame_time (last i);
      forward_frames = tested-more frames_of (λ unit. unit.frames) frames-more is_forward units u i;
      backward_frames = back-more frames_of (λ unit. unit.frames) frames-more units u i;
      first_place = first_place i;
      last_place = last_place i;
    }

-- the row of the unit's own conversation
own_row : (k : TalkKey) (units : List CountedUnit) (u : CountedUnit) → same_talk k (talk_key u) ≡ true
    → row_of (units_of_talk k (units ++ u ∷ [])) ≡ with_unit (row_of (units_of_talk k units)) u
own_row k units u is = grind (arith, filter-more, row-more)

-- and of another
other_row : (k : TalkKey) (units : List CountedUnit) (u : CountedUnit) → same_talk k (talk_key u) ≡ false
    → row_of (units_of_talk k (units ++ u ∷ [])) ≡ row_of (units_of_talk k units)
other_row k units u is = grind (arith, filter-more, append-nil)

-- Rows of some conversations.
abbrev rows_at : List CountedUnit → List TalkKey → List Conversation
rows_at units ks = map (λ key. (key, row_of (units_of_talk key units))) ks

-- a unit of no conversation among them
others_stay : (units : List CountedUnit) (u : CountedUnit) (ks : List TalkKey) → has (talk_key u) ks ≡ false
    → rows_at units ks ≡ rows_at (units ++ u ∷ []) ks
others_stay units u [] h = refl
others_stay units u (y ∷ ks) h = by (same_talk (talk_key u) y) refl h (others_stay units u ks)
  where
    by : (s : Bool) → same_talk (talk_key u) y ≡ s → cond s true (has (talk_key u) ks) ≡ false
        → (has (talk_key u) ks ≡ false → rows_at units ks ≡ rows_at (units ++ u ∷ []) ks)
        → rows_at units (y ∷ ks) ≡ rows_at (units ++ u ∷ []) (y ∷ ks)
    by s is n rest = grind (arith, other_row, other_way)

insert-present : (units : List CountedUnit) (u : CountedUnit) (ks : List TalkKey) → Apart ks
    → has (talk_key u) ks ≡ true
    → insert_entry same_talk (rows_at units ks) (talk_key u) (row_of (units_of_talk (talk_key u) (units ++ u ∷ [])))
    ≡ rows_at (units ++ u ∷ []) ks
insert-present units u [] apart h = absurd (true≢false (sym h))
insert-present units u (y ∷ ks) apart h = by (same_talk (talk_key u) y) refl h (insert-present units u ks apart.1)
  where
    w : TalkRow
    w = row_of (units_of_talk (talk_key u) (units ++ u ∷ []))

    by : (s : Bool) → same_talk (talk_key u) y ≡ s → cond s true (has (talk_key u) ks) ≡ true
        → (has (talk_key u) ks ≡ true → insert_entry same_talk (rows_at units ks) (talk_key u) w
        ≡ rows_at (units ++ u ∷ []) ks)
        → cond s ((y, w) ∷ rows_at units ks) ((y, row_of (units_of_talk y units))
        ∷ insert_entry same_talk (rows_at units ks) (talk_key u) w) ≡ rows_at (units ++ u ∷ []) (y ∷ ks)
    by true is n rest =
        let one = same_talk-is (talk_key u) y is in
        let absent : has (talk_key u) ks ≡ false = ap (λ k. has k ks) one ∙ apart.0 in
        let here : w ≡ row_of (units_of_talk y (units
        ++ u ∷ [])) = ap (λ k. row_of (units_of_talk k (units ++ u ∷ []))) one in
        let behind = others_stay units u ks absent in
        λ i. (y, here i) ∷ behind i
    by false is n rest = search (other_row, other_way)

insert-absent : (units : List CountedUnit) (u : CountedUnit) (ks : List TalkKey) → has (talk_key u) ks ≡ false
    → insert_entry same_talk (rows_at units ks) (talk_key u) (row_of (units_of_talk (talk_key u) (units ++ u ∷ [])))
    ≡ rows_at (units ++ u ∷ []) (ks ++ talk_key u ∷ [])
insert-absent units u [] h = refl
insert-absent units u (y ∷ ks) h = by (same_talk (talk_key u) y) refl h (insert-absent units u ks)
  where
    w : TalkRow
    w = row_of (units_of_talk (talk_key u) (units ++ u ∷ []))

    by : (s : Bool) → same_talk (talk_key u) y ≡ s → cond s true (has (talk_key u) ks) ≡ false
        → (has (talk_key u) ks ≡ false → insert_entry same_talk (rows_at units ks) (talk_key u) w
        ≡ rows_at (units ++ u ∷ []) (ks ++ talk_key u ∷ []))
        → cond s ((y, w) ∷ rows_at units ks) ((y, row_of (units_of_talk y units))
        ∷ insert_entry same_talk (rows_at units ks) (talk_key u) w)
        ≡ rows_at (units ++ u ∷ []) (y ∷ (ks ++ talk_key u ∷ []))
    by s is n rest = grind (arith, other_row, other_way)

-- the row that is found is the conversation's
found_row : (k : TalkKey) (units : List CountedUnit) (ks : List TalkKey)
    → (has k ks ≡ false → units_of_talk k units ≡ [])
    → or_empty (lookup (same_talk k) (rows_at units ks)) ≡ row_of (units_of_talk k units)
found_row k units [] none = ap row_of (sym (none refl))
found_row k units (y ∷ ks) none = by (same_talk k y) refl none (found_row k units ks)
  where
    by : (s : Bool) → same_talk k y ≡ s → (cond s true (has k ks) ≡ false → units_of_talk k units ≡ [])
        → ((has k ks ≡ false → units_of_talk k units ≡ []) → or_empty (lookup (same_talk k) (rows_at units ks))
        ≡ row_of (units_of_talk k units))
        → or_empty (cond s (Some (row_of (units_of_talk y units))) (lookup (same_talk k) (rows_at units ks)))
        ≡ row_of (units_of_talk k units)
    by true is n rest = ap (λ z. row_of (units_of_talk z units)) (sym (same_talk-is k y is))
    by false is n rest = rest n

-- the rows with one unit more are those of the units with it
pub rows-more : (units : List CountedUnit) (u : CountedUnit) → with_talk (rows_of units) u ≡ rows_of (units ++ u ∷ [])
unfolding rows_of
rows-more units u =
    ap (insert_entry same_talk (rows_at units ks) k)
    (ap (λ r. with_unit r u) (found_row k units ks (no_units k units)) ∙ sym (own_row k units u (same_talk-self k)))
    ∙ by (has k ks) refl
    ∙ sym (ap (rows_at (units ++ u ∷ [])) (keys-more units u))
  where
    k : TalkKey
    k = talk_key u

    ks : List TalkKey
    ks = keys_of units

    by : (h : Bool) → has k ks ≡ h → insert_entry same_talk (rows_at units ks) k (row_of (units_of_talk k (units
        ++ u ∷ [])))
        ≡ rows_at (units ++ u ∷ []) (cond (has k ks) ks (ks ++ k ∷ []))
    by h is = grind (arith, insert-present, keys-apart, insert-absent)
