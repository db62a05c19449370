-- What a read that failed of one feed is to the feeds as one.
use Rattle.std.proofs.Common.{◌≡◌, ◌≤◌, ℕ, suc, Bool, true, false, cond, List, [], ◌∷◌, ◌++◌, refl, ap, ◌∙◌, arith, inl}
use Rattle.std.proofs.Common.{inr, Option, Some, None}
use Rattle.std.specs.Prelude.{IfSome, is_some}
use Rattle.cap_bytes.specs.declared.faults.Fault.{Fault}
use Rattle.cap_bytes.specs.declared.faults.Fault.TheVariants.{Read, Memory}
use Rattle.cap_source.specs.declared.feeds.Head.{Head}
use Rattle.cap_merge.specs.Parts.{Part, has_file, are_known, broken_of, places_of, feeds_can_fail}
use Rattle.cap_merge.specs.inner.Merge.{LearnsBy, LaneStops, LearnsAll, StopsAt}
use Rattle.cap_merge.specs.inner.Sound.{AreFrom}

-- the file isn't before that of the first feed
stopped_from : (n file offset : ℕ) (ps qs : List Part) → AreFrom n qs → StopsAt (Read file offset) ps qs → n ≤ file
stopped_from n file offset (p ∷ ps) (q ∷ qs) a (inl s) = grind arith
stopped_from n file offset (p ∷ ps) (q ∷ qs) a (inr s) = omega (arith, stopped_from (suc n) file offset ps qs a.1 s.1)
stopped_from n file offset ps qs a s = grind arith

before_file : (n file : ℕ) (files : List ℕ) → files ≡ n ∷ [] → suc n ≤ file → (b : Bool)
    → has_file files file ≡ b → b ≡ false
before_file n file files is l b own = grind arith

learned-files : (p q : Part) (h : Option Head) → LearnsBy h p q → p.feed.files ≡ q.feed.files
learned-files p q h l = grind arith

-- the offset is the file's place then
pub stopped-place : (n file offset : ℕ) (ps qs : List Part) → AreFrom n qs → StopsAt (Read file offset) ps qs
    → offset ≡ places_of qs file
unfolding places_of
stopped-place n file offset (p ∷ ps) (q ∷ qs) a (inl s) = cc
stopped-place n file offset (p ∷ ps) (q ∷ qs) a (inr s) =
    rw (before_file n file q.feed.files a.0 (stopped_from (suc n) file offset ps qs a.1 s.1)
    (has_file q.feed.files file) refl)
    (stopped-place (suc n) file offset ps qs a.1 s.1)
stopped-place n file offset ps qs a s = grind arith

-- the device of the file can fail
pub stopped-can_fail : (n file offset : ℕ) (ps qs : List Part) → AreFrom n qs → StopsAt (Read file offset) ps qs
    → feeds_can_fail ps file ≡ true
unfolding feeds_can_fail
stopped-can_fail n file offset (p ∷ ps) (q ∷ qs) a (inl s) = grind arith
stopped-can_fail n file offset (p ∷ ps) (q ∷ qs) a (inr s) =
    rw (before_file n file p.feed.files (learned-files p q p.lane.head s.0 ∙ a.0)
    (stopped_from (suc n) file offset ps qs a.1 s.1) (has_file p.feed.files file) refl)
    (stopped-can_fail (suc n) file offset ps qs a.1 s.1)
stopped-can_fail n file offset ps qs a s = grind arith

pub known_by : (p q : Part) (h : Option Head) → p.lane.head ≡ h → LearnsBy h p q → is_some q.lane.head ≡ true
known_by p q h e l = grind arith

own_break : (h : Option Head) (rest own : Option Fault) → h ≡ None → cond (is_some h) rest own ≡ own
own_break h rest own is = rw is refl

-- a feed that was asked has no break
learned_break : (h : Option Head) (p q : Part) (P : Option Fault → Type 0) (rest : Option Fault) → LearnsBy h p q
    → P None → P rest → P (cond (is_some h) rest p.feed.broken)
learned_break h p q P rest l none r = grind arith

-- the same fault comes again
pub stopped-again : (file offset : ℕ) (ps qs : List Part) → StopsAt (Read file offset) ps qs
    → IfSome (broken_of ps) (λ first. Read file offset ≡ first)
unfolding broken_of
stopped-again file offset (p ∷ ps) (q ∷ qs) (inl s) = grind arith
stopped-again file offset (p ∷ ps) (q ∷ qs) (inr s) = grind (arith, stopped-again file offset ps qs s.1)
stopped-again file offset ps qs s = grind arith

-- if a feed has stopped, its break is that of all
own_stopped : (p q : Part) (fault : Fault) (rest : Option Fault) → LaneStops p fault q
    → cond (is_some q.lane.head) rest q.feed.broken ≡ q.feed.broken
own_stopped p q fault rest s = own_break q.lane.head rest q.feed.broken (ap (λ w. w.head) s.lane ∙ s.unknown)

pub stopped-broken : (file offset : ℕ) (ps qs : List Part) → StopsAt (Read file offset) ps qs
    → broken_of qs ≡ Some (Read file offset)
unfolding broken_of
stopped-broken file offset (p ∷ ps) (q ∷ qs) (inl s) = own_stopped p q (Read file offset) (broken_of qs) s.0
    ∙ s.0.gives.broken
stopped-broken file offset (p ∷ ps) (q ∷ qs) (inr s) =
    rw (known_by p q p.lane.head refl s.0) (stopped-broken file offset ps qs s.1)
stopped-broken file offset ps qs s = grind arith

-- no read has failed if all feeds tell what comes next
pub learned-whole : (ps qs : List Part) → LearnsAll ps qs → broken_of ps ≡ None
unfolding broken_of
learned-whole (p ∷ ps) (q ∷ qs) l = learned_break p.lane.head p q (λ w. w ≡ None) (broken_of ps) l.0 refl
    (learned-whole ps qs l.1)
learned-whole ps qs l = grind arith

-- nor if a growth was refused
pub waited-before : (ps qs : List Part) → StopsAt Memory ps qs → broken_of ps ≡ None
unfolding broken_of
waited-before (p ∷ ps) (q ∷ qs) (inl s) = own_break p.lane.head (broken_of ps) p.feed.broken s.0.unknown
    ∙ s.0.gives.goes.before
waited-before (p ∷ ps) (q ∷ qs) (inr s) = learned_break p.lane.head p q (λ w. w ≡ None) (broken_of ps) s.0 refl
    (waited-before ps qs s.1)
waited-before ps qs s = grind arith

pub waited-after : (ps qs : List Part) → StopsAt Memory ps qs → broken_of qs ≡ None
unfolding broken_of
waited-after (p ∷ ps) (q ∷ qs) (inl s) = own_stopped p q Memory (broken_of qs) s.0 ∙ s.0.gives.goes.after
waited-after (p ∷ ps) (q ∷ qs) (inr s) = rw (known_by p q p.lane.head refl s.0) (waited-after ps qs s.1)
waited-after ps qs s = grind arith

-- nor after a packet that is passed
pub passed-whole : (before after : List Part) (p q : Part) → are_known (before ++ (p ∷ after)) ≡ true
    → q.lane.head ≡ None → q.feed.broken ≡ None
    → broken_of (before ++ (q ∷ after)) ≡ None
unfolding broken_of
passed-whole [] after p q k unknown whole = own_break q.lane.head (broken_of after) q.feed.broken unknown ∙ whole
passed-whole (x ∷ before) after p q k unknown whole = grind (arith, passed-whole before after p q)
