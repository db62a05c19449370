-- Readers of memory tell their bytes.
use Rattle.std.specs.Prelude.{List, [], ◌∷◌, true, IsTrue}
use Rattle.std.specs.List.{list_all}
use Rattle.std.proofs.Common.{refl}

pub all_told : {X : Type 0} (xs : List X) → IsTrue (list_all (λ _. true) xs)
all_told [] = refl
all_told (x ∷ xs) = all_told xs
