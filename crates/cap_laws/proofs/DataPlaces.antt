-- The place at which captured bytes differ is the first at which they do.
use Rattle.std.proofs.Common.{◌≡◌, ◌≢◌, ℕ, ◌+◌, zero, suc, Bool, true, false, List, [], ◌∷◌, length, take, drop, get_or}
use Rattle.std.proofs.Common.{Some, None, refl, sym, ap, ◌∙◌, subst, arith}
use Rattle.std.proofs.lemmas.Bool.{false≢true}
use Rattle.std.proofs.lemmas.Bool.Decides.{Decides-eqb}
use Rattle.std.proofs.lemmas.Option.{none-some, same_Some}
use Rattle.std.proofs.lemmas.Slice.Eq.{bytes_eq-Decides}
use Rattle.std.specs.List.{slice_get}
use Rattle.std.specs.Prelude.{◌==◌, ◌↔◌, if◌then◌else◌}
use Rattle.std.specs.Str.{bytes_eq}
use Rattle.cap_commands.specs.DiffText.{first_difference}
use Rattle.cap_laws.specs.FirstDifferences.{DifferFirst, DifferencePlaced}

at-once : (xs ys : List ℕ) → DifferFirst xs ys zero → first_difference xs ys ≡ 0
unfolding first_difference
at-once [] ys d = refl
at-once (x ∷ xs) [] d = refl
at-once (x ∷ xs) (y ∷ ys) d = by (x == y) refl where
  by : (b : Bool) → (x == y) ≡ b → (if b then first_difference xs ys + 1 else 0) ≡ 0
  by true e = absurd (d.here (ap Some ((Decides-eqb x y).0 e)))
  by false e = refl

-- there is only one such place
only-place : (place : ℕ) (xs ys : List ℕ) → DifferFirst xs ys place → first_difference xs ys ≡ place
unfolding first_difference
only-place zero xs ys d = at-once xs ys d
only-place (suc n) [] [] d = absurd (d.here refl)
only-place (suc n) [] (y ∷ ys) d = absurd (omega (arith, ap length d.before))
only-place (suc n) (x ∷ xs) [] d = absurd (omega (arith, ap length d.before))
only-place (suc n) (x ∷ xs) (y ∷ ys) d =
    let same : x ≡ y = ap (λ (l : List ℕ). get_or l 0 0) d.before in
    let rest : take n xs ≡ take n ys = ap (drop 1) d.before in
    rw ((Decides-eqb x y).1 same) (omega (arith, only-place n xs ys (record { before = rest; here = d.here })))

-- and lists that aren't the same have it
first-place : (xs ys : List ℕ) → xs ≢ ys → DifferFirst xs ys (first_difference xs ys)
unfolding first_difference
first-place [] [] other = absurd (other refl)
first-place [] (y ∷ ys) other = record { before = refl; here = λ e. none-some y e }
first-place (x ∷ xs) [] other = record { before = refl; here = λ e. none-some x (sym e) }
first-place (x ∷ xs) (y ∷ ys) other =
    by (x == y) refl (λ (same : x ≡ y). first-place xs ys (λ is. other (λ i. same i ∷ is i))) where
      by : (b : Bool) → (x == y) ≡ b → ((x ≡ y) → DifferFirst xs ys (first_difference xs ys))
          → DifferFirst (x ∷ xs) (y ∷ ys) (if b then first_difference xs ys + 1 else 0)
      by false e rest =
          record { before = refl; here = λ is. false≢true (sym e ∙ (Decides-eqb x y).1 (same_Some _ _ is)) }
      by true e rest =
          let same = (Decides-eqb x y).0 e in
          let d = rest same in
          let there : DifferFirst (x ∷ xs) (y ∷ ys) (suc (first_difference xs ys)) =
          record { before = λ i. same i ∷ d.before i; here = d.here } in
          subst (λ (place : ℕ). DifferFirst (x ∷ xs) (y ∷ ys) place) (omega arith) there

placed-by : (xs ys : List ℕ) (place : ℕ) (b : Bool) → bytes_eq xs ys ≡ b
    → ((if b then None else Some (first_difference xs ys)) ≡ Some place) ↔ DifferFirst xs ys place
placed-by xs ys place true e = (
  λ is. absurd (none-some place is),
  λ d. absurd (d.here (ap (λ (l : List ℕ). slice_get l place) ((bytes_eq-Decides xs ys).0 e))),
)
placed-by xs ys place false e = (
  λ is. subst (λ (p : ℕ). DifferFirst xs ys p) (same_Some _ _ is)
      (first-place xs ys (λ same. false≢true (sym e ∙ (bytes_eq-Decides xs ys).1 same))),
  λ d. ap Some (only-place place xs ys d),
)

unplaced-by : (xs ys : List ℕ) (b : Bool) → bytes_eq xs ys ≡ b
    → ((if b then None else Some (first_difference xs ys)) ≡ None) ↔ (xs ≡ ys)
unplaced-by xs ys true e = (λ is. (bytes_eq-Decides xs ys).0 e, λ same. refl)
unplaced-by xs ys false e = (
  λ is. absurd (none-some _ (sym is)),
  λ same. absurd (false≢true (sym e ∙ (bytes_eq-Decides xs ys).1 same)),
)

pub difference-placed : DifferencePlaced
difference-placed a b = record {
  some = λ place. placed-by a.frame b.frame place _ refl;
  none = unplaced-by a.frame b.frame _ refl;
}
