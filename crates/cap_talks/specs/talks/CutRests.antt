-- The rests of files that were cut, by the places of their files.
use Rattle.std.specs.Prelude.{ℕ, zero, suc, ◌-◌, List, [], ◌∷◌, ◌++◌, replicate, Option, None}
use Rattle.cap_bytes.specs.declared.stops.CutRest.{CutRest}
use Rattle.cap_source.specs.declared.feeds.FileEnd.{FileEnd}

-- the rests of the first files, so many of them, that were cut, by their places
abbrev pub rests_in : (ℕ → FileEnd) → ℕ → List (Option CutRest)
rests_in endings zero = []
rests_in endings (suc file) = rests_in endings file ++ (endings (suc file)).ending.cut ∷ []

-- the same at 32 places; a place that no file has is empty
abbrev pub rests_by_place : (ℕ → FileEnd) → ℕ → List (Option CutRest)
rests_by_place endings count = rests_in endings count ++ replicate (32 - count) None
