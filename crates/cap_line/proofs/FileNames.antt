-- The names of files, as references and as texts.
use Rattle.std.proofs.Common.{◌≡◌, List, ℕ, [], ◌∷◌, Bool, false, not, Some, codes, map, refl, arith}
use Rattle.std.specs.Borrow.{Bor}
use Rattle.std.specs.List.{list_any}
use Rattle.std.specs.Str.{bytes_eq}
use Rattle.cap_line.specs.Jobs.{is_also_file}

-- a name is among the files
pub named_among : (name : List ℕ) (files : List (Bor (List ℕ)))
    → list_any (λ f. bytes_eq f.now name) files ≡ list_any (λ f. bytes_eq f name) (map (λ f. f.now) files)
named_among name [] = refl
named_among name (file ∷ files) = let rest = named_among name files in cc

-- an output other than standard output is a file if a file has its name
pub also_named : (out : List ℕ) (files : List (List ℕ)) (found : Bool) → false ≡ bytes_eq out (codes "-")
    → found ≡ list_any (λ f. bytes_eq f out) files → found ≡ is_also_file (Some out) files
also_named out files found other is = grind (arith, not)
