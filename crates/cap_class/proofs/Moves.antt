-- What one packet more makes of the counts, by what it is.
use Rattle.std.proofs.Common.{◌≡◌, ℕ, ◌+◌, ◌≤◌, true, false, List, ◌∷◌, length, ap, subst, arith}
use Rattle.cap_ip.specs.declared.transports.Transport.{Transport}
use Rattle.cap_join.specs.ByteMap.{completes}
use Rattle.cap_join.specs.Fragments.{Piece}
use Rattle.cap_join.specs.Joiners.{IsAnswer}
use Rattle.cap_join.specs.declared.datagrams.Datagram.{Datagram}
use Rattle.cap_join.specs.declared.datagrams.Put.{Put}
use Rattle.cap_join.specs.declared.datagrams.Put.TheVariants as puts
use Rattle.cap_join.specs.inner.Groups.{IsDatagramOf}
use Rattle.cap_class.proofs.Recount.{some_of}
use Rattle.cap_class.specs.Classes.{class_of, datagram_class, group_class, joined_transport}
use Rattle.cap_class.specs.Counting.{counts_of, times, with_frames, with_group}
use Rattle.cap_class.specs.Taken.{Taken, Classification, classify, events_classified, events_of}
use Rattle.cap_class.specs.declared.classes.Class.{Class}
use Rattle.cap_class.specs.declared.classes.Class.TheVariants as class

pub events-are : (x : Taken) (xs : List Taken) (l : Classification) → classify (length xs) x ≡ l
    → events_of (x ∷ xs) ≡ events_classified l x.clock (events_of xs)
unfolding events_of
events-are x xs l is = ap (λ (k : Classification). events_classified k x.clock (events_of xs)) is

-- ---- counts

pub counts-more : (c : Class) (cs : List Class) → counts_of (c ∷ cs) ≡ with_frames c 1 (counts_of cs)
counts-more c cs = grind arith

-- what holds if a group of that many is completed
abbrev pub Moves : Class → ℕ → List Class → List Class → Type 0
Moves k n new old = (c : Class) → times c new + some_of c class.Unjoined n
    ≡ times c (class.Unjoined ∷ old) + some_of c k n

moved_by : (t : Transport) (n : ℕ) (new old : List Class) → Moves (class_of t) n new old
    → counts_of new ≡ with_group (class_of t) n (counts_of old)
moved_by t n new old h = grind arith

pub counts-moved : (ps : List Piece) (n : ℕ) (new old : List Class) → Moves (group_class ps) n new old
    → counts_of new ≡ with_group (group_class ps) n (counts_of old)
unfolding group_class
counts-moved ps n new old h = moved_by (joined_transport ps) n new old h

-- fragments are unjoined before they are moved
pub enough : (ps : List Piece) (n : ℕ) (new old : List Class) → Moves (group_class ps) n new old
    → n ≤ times class.Unjoined old + 1
unfolding group_class
enough ps n new old h = grind arith

-- ---- a joined datagram

pub class-of-group : (ps : List Piece) (d : Datagram) → IsDatagramOf d ps → group_class ps ≡ datagram_class d
unfolding group_class datagram_class
class-of-group ps d is = cc

-- ---- answers of a joiner

pub kept-of : (put : Put) (ps : List Piece) → put ≡ puts.Kept → IsAnswer put ps → completes ps ≡ false
kept-of put ps is h = subst (λ (q : Put). IsAnswer q ps) is h

pub joined-of : (put : Put) (d : Datagram) (ps : List Piece) → put ≡ puts.Joined d → IsAnswer put ps
    → (completes ps ≡ true) × IsDatagramOf d ps
joined-of put d ps is h = subst (λ (q : Put). IsAnswer q ps) is h
