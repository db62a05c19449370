-- A tournament of lanes: what it records about groups of lanes.
use Rattle.std.specs.Prelude.{◌≡◌, ◌<◌, ◌*◌, ◌/◌, ⊤, ℕ, List, length, get_or, Option, Some, None, if◌then◌else◌}
use Rattle.std.proofs.Props.{props}
use Rattle.std.specs.Coded.{Coded-set, coded_ℕ, coded_option}
use Rattle.std.specs.Ordering.{is_lt}
use Rattle.cap_time.specs.Clock.{clock_cmp}
use Rattle.cap_merge.specs.declared.tournament.Tournament.{Tournament}
use Rattle.cap_merge.specs.inner.First.{Turn, turn_at, first_from}

-- the place that comes first, where each place has an item: if both clocks are equal, the former
abbrev pub first_of_two : List Turn → Option ℕ → Option ℕ → Option ℕ
first_of_two turns None second = second
first_of_two turns (Some first) None = Some first
first_of_two turns (Some first) (Some second) =
    if is_lt (clock_cmp (turn_at turns second).clock (turn_at turns first).clock) then Some second else Some first

-- The places of the first in each group of `size` turns: group k begins at place k * size.
abbrev pub IsRound : List Turn → ℕ → List (Option ℕ) → Type 0
IsRound turns size firsts = (group : ℕ) → group < length firsts
    → get_or firsts group None ≡ first_from turns (group * size) size

-- The same for each group except one.
abbrev pub IsRoundBut : List Turn → ℕ → List (Option ℕ) → ℕ → Type 0
IsRoundBut turns size firsts but = (group : ℕ) → group < length firsts → (group ≡ but → ⊥)
    → get_or firsts group None ≡ first_from turns (group * size) size

-- The tournament has the first of each group.
pub record IsTournament (turns : List Turn) (t : Tournament) : Type 0 where
  pub ones : IsRound turns 1 t.ones
  pub twos : IsRound turns 2 t.twos
  pub fours : IsRound turns 4 t.fours
  pub eights : IsRound turns 8 t.eights
  pub sixteens : IsRound turns 16 t.sixteens

-- The tournament has the first of each group that the place isn't in.
pub record IsTournamentBut (turns : List Turn) (t : Tournament) (place : ℕ) : Type 0 where
  pub ones : IsRoundBut turns 1 t.ones place
  pub twos : IsRoundBut turns 2 t.twos (place / 2)
  pub fours : IsRoundBut turns 4 t.fours (place / 4)
  pub eights : IsRoundBut turns 8 t.eights (place / 8)
  pub sixteens : IsRoundBut turns 16 t.sixteens (place / 16)

-- If there are more than 4 turns and there is a place, the tournament has the first of each group that it isn't in.
abbrev pub IsSettled : List Turn → Tournament → Option ℕ → Type 0
IsSettled turns t None = ⊤
IsSettled turns t (Some place) = 4 < length turns → IsTournamentBut turns t place

place-prop : (a b : Option ℕ) → IsProp (a ≡ b)
place-prop a b = Coded-set (coded_option coded_ℕ) _ _

But-prop : (turns : List Turn) (t : Tournament) (place : ℕ) → IsProp (IsTournamentBut turns t place)
But-prop turns t place = hlevel (props, place-prop)

pub IsSettled-prop : (turns : List Turn) (t : Tournament) (place : Option ℕ) → IsProp (IsSettled turns t place)
IsSettled-prop turns t None = hlevel (props)
IsSettled-prop turns t (Some place) = hlevel (props, But-prop)
