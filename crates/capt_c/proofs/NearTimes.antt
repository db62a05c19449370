-- The time of an interface that counts from 1970 is that of its units alone.
use Rattle.std.proofs.Common.{◌≡◌, ℕ, ◌<◌, ◌/◌, ◌%◌, ◌^◌, ◌+ℤ◌, pos, to_z, w64, refl, ap, ◌∙◌, arith}
use Rattle.std.proofs.lemmas.Int.{to_z_pos}
use Rattle.cap_time.specs.Resolution.{units_of}
use Rattle.cap_time.specs.Stamp.{stamp_in, seconds_of, numerator_of, denominator_of}
use Rattle.cap_time.specs.Time.{floor_of, remainder_of}
use Rattle.cap_time.specs.declared.resolutions.Interface.{Interface}

units_alone : (units : ℕ) (interface : Interface) → interface.offset ≡ pos 0
    → pos (units / units_of interface.resolution) +ℤ pos 0 ≡ seconds_of (stamp_in units interface)
unfolding stamp_in floor_of remainder_of
units_alone units interface zero = rw zero (ap pos (omega arith))

pub near-seconds : (units seconds : ℕ) (interface : Interface) → interface.offset ≡ pos 0 → seconds < 2 ^ 63
    → seconds ≡ units / units_of interface.resolution
    → to_z w64 seconds +ℤ pos 0 ≡ seconds_of (stamp_in units interface)
near-seconds units seconds interface zero few is =
    ap (λ z. z +ℤ pos 0) (to_z_pos w64 seconds few ∙ ap pos is) ∙ units_alone units interface zero

-- a stamp's fraction is that of its units
pub fraction : (units : ℕ) (interface : Interface)
    → (numerator_of (stamp_in units interface) ≡ units % units_of interface.resolution)
    × (denominator_of (stamp_in units interface) ≡ units_of interface.resolution)
unfolding stamp_in
fraction units interface = (refl, refl)
