use Rattle.std.proofs.Common.{◌≡◌, Bool, false, subst, ◌∷◌, List, length, Some, Err, arith}
use Rattle.std.specs.Prelude.{OnOk, OnErr, Result, Ok, Option}
use Rattle.cap_talks.specs.inner.table.Looking.{is_plain_for}
use Rattle.cap_class.specs.Taken.{Taken}
use Rattle.cap_talks.specs.inner.table.Tallies.{TallyState, TallyStands, Looks}
use Rattle.cap_talks.specs.table.CountedUnits.{is_limit_for}
use Rattle.cap_talks.specs.declared.table.conversations.ConversationsFault.{ConversationsFault}
use Rattle.cap_talks.proofs.table.tallies.Tally.take_fragment.Goals as goal

-- a datagram that waited, of the packet
taken_on : (old mid new : TallyState) (x : Taken) (result : Result (Unit {0}) ConversationsFault)
    → ((xs : List Taken) → TallyStands old xs (Some x) → TallyStands mid xs (Some x))
    → OnOk result ((xs : List Taken) (y : Taken) → TallyStands mid xs (Some y) → (is_limit_for mid.reads xs y ≡ false)
    × ((next : Option Taken) → TallyStands new (y ∷ xs) next))
    → mid.reads ≡ old.reads → OnOk result (Looks old x false new)
taken_on old mid new x (Ok u) f h same = λ xs s.
    (subst (λ (b : Bool). is_limit_for b xs x ≡ false) same (h xs x (f xs s)).0, (h xs x (f xs s)).1)
taken_on old mid new x (Err e) f h same = tt

pub returns-then-branch-clause-stands : goal.returns-then-branch-clause-stands
returns-then-branch-clause-stands c =
    grind (
      arith,
      taken_on,
      c.if-branch.true,
      c.in_ok-put_fragment.ensures.looks,
      c.take_waiting.ensures.stands,
    )

-- a packet of which something is kept
kept_on : (old mid : TallyState) (x : Taken) (result : Result (Unit {0}) ConversationsFault)
    → ((xs : List Taken) → TallyStands old xs (Some x) → TallyStands mid xs (Some x))
    → OnErr result ((xs : List Taken) (y : Taken) → TallyStands mid xs (Some y)
    → is_plain_for mid.reads (length xs) y ≡ false)
    → mid.reads ≡ old.reads
    → OnErr result ((xs : List Taken) → TallyStands old xs (Some x) → is_plain_for old.reads (length xs) x ≡ false)
kept_on old mid x (Ok u) f h same = tt
kept_on old mid x (Err e) f h same = λ xs s.
    subst (λ (b : Bool). is_plain_for b (length xs) x ≡ false) same (h xs x (f xs s))

pub returns-then-branch-clause-grows : goal.returns-then-branch-clause-grows
returns-then-branch-clause-grows c =
    grind (arith, kept_on, c.if-branch.true, c.in_ok-put_fragment.ensures.looks, c.take_waiting.ensures.grows)
