-- Files that are checked, as a job has them.
use Rattle.std.proofs.Common.{◌≡◌, ℕ, Bool, true, false, List, [], ◌∷◌, map, Some, Ok, refl, ap, ◌∙◌, arith}
use Rattle.std.specs.Prelude.{◌&&◌}
use Rattle.std.specs.List.{list_all}
use Rattle.cap_commands.specs.Jobs.{opened_files, whole_by, whole_finding}

-- files that all tell their bytes
pub opened-are : {R : Type 0} (tells : R → Bool) (coming : R → List ℕ) (can_fail : R → Bool) (files : List R)
    → list_all tells files ≡ true
    → map (λ s. Some (record { told = tells s; bytes = coming s; can_fail = can_fail s })) files
    ≡ opened_files (map can_fail files) (map coming files)
opened-are tells coming can_fail [] t = refl
opened-are tells coming can_fail (s ∷ files) t =
    let both : (tells s ≡ true) × (list_all tells files ≡ true) = halves (tells s) (list_all tells files) t in
    ap (λ b. Some (record { told = b; bytes = coming s; can_fail = can_fail s })
    ∷ map (λ s. Some (record { told = tells s; bytes = coming s; can_fail = can_fail s })) files) both.0
    ∙ ap (λ l. Some (record { told = true; bytes = coming s; can_fail = can_fail s }) ∷ l)
    (opened-are tells coming can_fail files both.1)
  where
    halves : (a b : Bool) → (a && b) ≡ true → (a ≡ true) × (b ≡ true)
    halves a b h = (grind arith, grind arith)

-- what `check` returns by its finding is what it found
pub whole-is : (are_whole : Bool) → whole_by (Ok tt) (whole_finding are_whole) ≡ Ok are_whole
whole-is true = refl
whole-is false = refl
