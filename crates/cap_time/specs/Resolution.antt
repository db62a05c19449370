-- What contracts see of a `Resolution`.
use Rattle.std.specs.Prelude.{ℕ}
use Rattle.cap_time.specs.declared.resolutions.Resolution.{Resolution}
use Rattle.cap_time.specs.Code.{units_of_code}

-- its code
abbrev pub code_of : Resolution → ℕ
code_of resolution = resolution.code

-- its units in a second
abbrev pub units_of : Resolution → ℕ
units_of resolution = units_of_code resolution.code
