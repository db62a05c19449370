-- The words of what differs, one by one.
use Rattle.std.specs.Prelude.{ℕ, List, [], ◌++◌, codes, Bool, if◌then◌else◌}

-- a word as a string if that is so, and a comma after it if another follows
abbrev pub quoted_if : Bool → List ℕ → Bool → List ℕ
quoted_if is_so word is_followed =
    if is_so then codes "\"" ++ (word ++ (codes "\"" ++ (if is_followed then codes "," else []))) else []
