-- The lines of a feed's packets, written one by one.
use Rattle.std.proofs.Common.{ℕ, ◌+◌, ◌≤◌, List, Bool, IsTrue, refl}
use Rattle.cap_bytes.proofs.Putting.{}
use Rattle.cap_bytes.specs.Device.{Writer}
use Rattle.cap_source.proofs.Onward.{Went}
use Rattle.cap_source.proofs.Walking.{Plan, IsPlan, GoesOn, Walking}
use Rattle.cap_source.specs.Feed.{Feed}
use Rattle.cap_source.specs.inner.Walk.{SameEndings}
use Rattle.cap_source.specs.declared.packets.Meta.{Meta}
use Rattle.cap_commands.specs.ListText.{list_lines}
use Rattle.cap_source.specs.Feed.{refusal_of}

-- what is to be written from the packet number n on, by what makes a packet's line
abbrev pub plan_of : (ℕ → Meta → List ℕ → List ℕ) → ℕ → Plan
plan_of line n = record { text = list_lines line n; refusal = refusal_of }

pub plan_of-is : (line : ℕ → Meta → List ℕ → List ℕ) (n : ℕ) → IsPlan (plan_of line n)
unfolding list_lines refusal_of
plan_of-is line n =
    record { text_none = refl; text_refused = λ r. refl; refusal_none = refl; refusal_refused = λ r. refl }

pub plan_of-next : (line : ℕ → Meta → List ℕ → List ℕ) (n : ℕ) (meta : Meta) (frame : List ℕ)
    → GoesOn (plan_of line n) meta frame (line n meta frame) (plan_of line (n + 1))
unfolding list_lines refusal_of
plan_of-next line n meta frame = record { text = λ items. refl; refusal = λ items. refl }

-- The lines before the number n of a feed that was `old` are written by a writer that was `from`.
pub record Listing (line : ℕ → Meta → List ℕ → List ℕ) (old new : Feed) (failed_old failed_new : Bool)
    (from to : Writer) (n : ℕ) : Type 0 where
  pub number : n + new.left ≤ 1 + old.left
  pub went : Went old new
  pub ends : IsTrue old.told → SameEndings old new
  pub walk : Walking (plan_of line 1) (plan_of line n) old new failed_old failed_new from to
