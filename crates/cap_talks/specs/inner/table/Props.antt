-- That files are numbered has one proof at most.
use Rattle.std.specs.Prelude.{◌≡◌, ℕ, List}
use Rattle.std.specs.Coded.{Coded-set, coded_ℕ, coded_list}
use Rattle.std.specs.List.{range_with_len}

pub IsNumbered-prop : (files : List ℕ) (count : ℕ) → IsProp (files ≡ range_with_len 1 count)
IsNumbered-prop files count = Coded-set (coded_list coded_ℕ) _ _
