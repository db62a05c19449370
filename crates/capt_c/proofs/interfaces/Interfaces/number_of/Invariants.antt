use Rattle.std.proofs.Common.{◌≡◌, ◌≤◌, ◌<◌, ◌-◌, ℕ, false, length}
use Rattle.std.specs.Prelude.{get_or}
use Rattle.cap_time.specs.declared.resolutions.Interface.{Interface}
use Rattle.cap_write.specs.Numbering.{description_of, is_description}
use Rattle.capt_c.proofs.interfaces.Interfaces.number_of.Given as goal

-- none so far is the same
abbrev pub invariant-loop-number : goal.invariant-loop-number
invariant-loop-number l =
    (l.number ≤ length l.list) × ((k : ℕ) (d : Interface) → k < l.number
    → is_description (description_of l.interface) (description_of (get_or l.list k d)) ≡ false)

abbrev pub decreases-loop-number : goal.decreases-loop-number
decreases-loop-number l = length l.list - l.number
