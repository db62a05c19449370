-- The words that named the files, by their numbers.
use Rattle.std.proofs.Common.{◌≡◌, ◌≤◌, ◌-◌, ℕ, suc, zero, List, length, map, Option, Some, None, option_map, refl, sym}
use Rattle.std.proofs.Common.{arith}
use Rattle.std.proofs.lemmas.Option.{slice_get-map, slice_get_past, slice_get_read}
use Rattle.std.specs.Borrow.{Bor}
use Rattle.std.specs.List.{slice_get}
use Rattle.std.specs.Slice.{IsItemAt}
use Rattle.cap_tool.specs.Objects.{path_of}

item_got : {X : Type 0} (xs : List X) (i : ℕ) (r : Option (Bor X)) → IsItemAt xs i r
    → option_map (λ x. x.now) r ≡ slice_get xs i
item_got xs i None is = sym (slice_get_past xs i is.3)
item_got xs i (Some x) is = sym (slice_get_read xs (length xs) i x.now refl is.3.0 (is.3.1 x.now))

-- the word at a place is that of the file whose number is one more
pub path_at : (paths : List (Bor (List ℕ))) (file place : ℕ) (found : Option (Bor (Bor (List ℕ)))) → 1 ≤ file
    → place ≡ file - 1 → IsItemAt paths place found
    → option_map (λ p. p.now) (option_map (λ p. p.now) found) ≡ path_of (map (λ p. p.now) paths) file
path_at paths zero place found some is at = absurd (omega arith)
path_at paths (suc n) place found some is at =
    let here : place ≡ n = omega arith in
    rw (item_got paths place found at, here, slice_get-map (λ p. p.now) paths n) refl
