-- What contracts see of a `Unit`.
use Rattle.std.specs.Prelude.{ℕ}
use Rattle.cap_time.specs.declared.stamps.Unit.{Unit as Fraction}
use Rattle.cap_time.specs.declared.stamps.Unit.TheVariants.{Micro, Nano}

-- how many of them there are in a second
abbrev pub in_second : Fraction → ℕ
in_second Micro = 1_000_000
in_second Nano = 1_000_000_000
