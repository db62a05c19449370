-- Resolutions by their codes.
use Rattle.std.proofs.Common.{◌≡◌, ℕ, IsTrue, true, subst}
use Rattle.std.proofs.Math.Bool.{Bool-set}
use Rattle.cap_time.specs.Code.{is_allowed}
use Rattle.cap_time.specs.declared.resolutions.Resolution.{Resolution}

abbrev pub resolution_from : (code : ℕ) → IsTrue (is_allowed code) → Resolution
resolution_from code allowed = record { code = code; allowed = allowed }

same_from : (c d : ℕ) (p : IsTrue (is_allowed c)) (q : IsTrue (is_allowed d)) → c ≡ d
    → resolution_from c p ≡ resolution_from d q
same_from c d p q e =
    let along : (h : IsTrue (is_allowed d)) → resolution_from c p ≡ resolution_from d h =
    subst (λ (y : ℕ). (h : IsTrue (is_allowed y)) → resolution_from c p ≡ resolution_from y h) e
    (λ h i. resolution_from c (Bool-set (is_allowed c) true p h i)) in
    along q

-- A resolution is its code.
pub same_resolution : (r s : Resolution) → r.code ≡ s.code → r ≡ s
same_resolution r s e = same_from r.code s.code r.allowed s.allowed e
