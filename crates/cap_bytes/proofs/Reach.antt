-- How far a file is read for a piece of it.
use Rattle.std.proofs.Common.{◌≡◌, ℕ, ◌+◌, ◌≤◌, ◌<◌, length, Option, None, Bool, true, false, IsTrue, Ok, Err, sym, ap}
use Rattle.std.proofs.Common.{subst, length-drop, arith}
use Rattle.cap_bytes.specs.inner.Reach.{ReachesTo, Reaches}
use Rattle.cap_bytes.specs.inner.SourceState.{IsWithin}
use Rattle.cap_bytes.specs.inner.Window.{WindowState, WindowShows, Needs, WindowPasses, Skips, position, read_to}
use Rattle.cap_bytes.specs.declared.faults.Fault.{Fault}

IsWithin-behind : (most : Option ℕ) (k n count : ℕ) → IsWithin most n count → IsWithin most (k + n) (k + count)
IsWithin-behind most k n count h = grind arith

IsWithin-longer : (most : Option ℕ) (a b count : ℕ) → a ≤ b → IsWithin most a count → IsWithin most b count
IsWithin-longer most a b count less h = grind arith

-- nothing is read
pub ReachesTo-here : (most : Option ℕ) (end read : ℕ) → ReachesTo most end read read
ReachesTo-here most end read = grind arith

-- the input ends before the piece does
pub ReachesTo-ended : (most : Option ℕ) (end old new : ℕ) → old ≤ new → new < end → ReachesTo most end old new
ReachesTo-ended most end old new further few = grind arith

-- a look at the front of a piece, and then one at all of it
pub ReachesTo-later : (most : Option ℕ) (a b r s t : ℕ) → a ≤ b → ReachesTo most a r s → ReachesTo most b s t
    → ReachesTo most b r t
ReachesTo-later most a b r s t less p q = grind (arith, IsWithin-longer)

-- the same of two looks at a window
ReachesTo-moved : (most : Option ℕ) (offset end : ℕ) (a : WindowState) (r s : ℕ) → most ≡ a.most → offset ≡ a.offset
    → ReachesTo most (offset + end) r s
    → ReachesTo a.most (a.offset + end) r s
ReachesTo-moved most offset end a r s same at h = rw (same, at) at h

pub ReachesTo-looks : (n size : ℕ) (a b c : WindowState) → n ≤ size → b.most ≡ a.most → b.offset ≡ a.offset
    → ReachesTo a.most (a.offset + n) (read_to a) (read_to b)
    → ReachesTo b.most (b.offset + size) (read_to b) (read_to c)
    → ReachesTo a.most (a.offset + size) (read_to a) (read_to c)
ReachesTo-looks n size a b c less same at p q =
    ReachesTo-later a.most (a.offset + n) (a.offset + size) (read_to a) (read_to b) (read_to c) (omega arith) p
    (ReachesTo-moved b.most b.offset size a (read_to b) (read_to c) same at q)

-- n bytes are shown, or fewer come
pub ReachesTo-need : (n : ℕ) (there : Bool) (old new : WindowState) → Needs n old (Ok there) new
    → (n ≤ length old.shown → old.broken ≡ None → new ≡ old)
    → (length old.shown < n → IsWithin old.most n (length new.shown))
    → ReachesTo old.most (old.offset + n) (read_to old) (read_to new)
ReachesTo-need n there old new h same asked = by there h where
  from : WindowShows old new → ReachesTo old.most (old.offset + n) (read_to old) (read_to new)
  from s = (
    λ h. ap read_to (same (omega arith) s.goes.before),
    λ h. rw s.offset (IsWithin-behind old.most old.offset n (length new.shown) (asked (omega arith))),
  )

  by : (b : Bool) → Needs n old (Ok b) new → ReachesTo old.most (old.offset + n) (read_to old) (read_to new)
  by true h = from h.0
  by false h = from h.0

-- a read failed before they came
pub Reaches-need : {A : Type 0} (size : A → Option ℕ) (n wanted : ℕ) (old new : WindowState) (f : Fault)
    → (IsTrue old.told → n ≤ wanted)
    → Needs n old (Err f) new → Reaches size wanted (position old) (Err f) (read_to new)
Reaches-need size n wanted old new f few h = grind arith

-- the same in a second look
pub Reaches-later : {A B : Type 0} (size : A → Option ℕ) (found : B
    → Option ℕ) (wanted : ℕ) (a b : WindowState) (f : Fault)
    (read : ℕ) → WindowShows a b
    → (IsTrue a.told → IsTrue b.told) → Reaches found wanted (position b) (Err f) read
    → Reaches size wanted (position a) (Err f) read
Reaches-later size found wanted a b f read s told h = grind arith

-- n bytes are dropped, or all that come
pub ReachesTo-skip : (n : ℕ) (old new : WindowState) (all : Bool) → Skips n old (Ok all) new
    → (length old.shown < n → IsTrue all → IsWithin old.most 0 (length new.shown))
    → ReachesTo old.most (old.offset + n) (read_to old) (read_to new)
ReachesTo-skip n old new all d asked = grind (arith, length-drop)

-- what was shown is passed
pub read_to-passed : (n : ℕ) (old new : WindowState) → n ≤ length old.shown → WindowPasses n old new
    → read_to new ≡ read_to old
read_to-passed n old new within p = omega (arith, p.offset, ap length p.shown, length-drop n old.shown)

pub ReachesTo-passed : (most : Option ℕ) (end n : ℕ) (a b c : WindowState) → n ≤ length b.shown → WindowPasses n b c
    → ReachesTo most end (read_to a) (read_to b)
    → ReachesTo most end (read_to a) (read_to c)
ReachesTo-passed most end n a b c within p h =
    subst (λ r. ReachesTo most end (read_to a) r) (sym (read_to-passed n b c within p)) h
