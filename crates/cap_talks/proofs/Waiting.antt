-- What a joined datagram that waits for its conversation leaves room for.
use Rattle.std.proofs.Common.{◌≡◌, ℕ, ◌+◌, ◌≤◌, List, ◌∷◌, length, refl, ◌∙◌, ap, subst, arith, Option}
use Rattle.cap_join.proofs.Entries.{lengths}
use Rattle.cap_join.specs.Fragments.{Piece}
use Rattle.cap_join.specs.History.{Event, arrives, open_groups_after, step}
use Rattle.cap_join.specs.Joiners.{JoinerState, JoinerStandsFor, open_limit}
use Rattle.cap_join.specs.declared.datagrams.Datagram.{Datagram}
use Rattle.cap_talks.specs.table.CountedUnits.{given_up_in}
use Rattle.cap_class.specs.Taken.{Taken, fragment, classify, events_of, events_classified}
use Rattle.cap_talks.specs.inner.table.Tallies.{TallyState, WaitsFor, TallyStands, IsSoundTally, one_if_waiting}
use Rattle.cap_talks.proofs.LoneFragments.{no-lone}
use Rattle.cap_talks.proofs.Room.{few-open, waiting-room}

events-are : (x : Taken) (xs : List Taken) (p : Piece) → classify (length xs) x ≡ fragment p
    → events_of (x ∷ xs) ≡ arrives x.clock p ∷ events_of xs
unfolding events_of
events-are x xs p is = ap (λ l. events_classified l x.clock (events_of xs)) is

state-after : (limit : ℕ) (e : Event) (es : List Event)
    → open_groups_after limit (e ∷ es) ≡ step limit e (open_groups_after limit es)
unfolding open_groups_after
state-after limit e es = refl

-- the joiner after a datagram that waits: it has one group less, and has given none up
record Left (j : JoinerState) (xs : List Taken) : Type 0 where
  room : length j.groups + 1 ≤ open_limit
  given_up : j.given_up ≡ given_up_in xs

left-by : (d : Datagram) (j : JoinerState) (xs : List Taken) (next : Option Taken) → WaitsFor d j xs next → Left j xs
left-by d j xs next w =
    let es = events_of xs in
    let after = events-are w.packet xs w.piece w.is_fragment in
    let stands = subst (JoinerStandsFor j) after w.stands in
    let is = state-after open_limit (arrives w.packet.clock w.piece) es in
    let room = waiting-room open_limit w.packet.clock w.piece (open_groups_after open_limit es)
    (no-lone (length xs) w.packet w.piece w.is_fragment) w.whole in
    record {
      room = omega (
        arith,
        lengths j.groups _ stands.groups,
        ap (λ s. length s.opens) is,
        room.0,
        few-open open_limit es (omega arith),
      );
      given_up = stands.given_up ∙ ap (λ s. s.given_up) is ∙ room.1;
    }

pub groups-few : (t : TallyState) → IsSoundTally t → length t.joiner.groups + one_if_waiting t.waiting ≤ open_limit
groups-few t s = grind (arith, lengths, few-open, left-by)

-- the groups that were given up are those of the packets that were taken
pub given-up : (t : TallyState) (xs : List Taken) (next : Option Taken) → TallyStands t xs next
    → t.joiner.given_up ≡ given_up_in xs
given-up t xs next h = grind (arith, left-by)
