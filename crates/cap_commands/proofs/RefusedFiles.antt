-- Files without those that are refused.
use Rattle.std.proofs.Common.{◌≡◌, ◌∙◌, ◌<◌, ◌+◌, ℕ, suc, zero, List, [], ◌∷◌, ◌++◌, length, map, drop, get_or}
use Rattle.std.proofs.Common.{Option, Some, None, true, false, refl, ap, sym, arith, append_assoc}
use Rattle.std.specs.Borrow.{Bor}
use Rattle.std.specs.Prelude.{is_some}
use Rattle.std.proofs.lemmas.List.{get_or-map, length-map, map-append}
use Rattle.cap_bytes.specs.declared.faults.Refusal.{Refusal}
use Rattle.cap_commands.specs.Skipping.{kept_of}

module _ {A : Type 0} where
  -- the file at a place is kept
  kept-here : (refusals : List (Option Refusal)) (xs : List A) (place : ℕ) (x : A) → place < length xs
      → length xs ≡ length refusals → is_some (get_or refusals place None) ≡ false
      → kept_of (drop place refusals) (drop place xs)
      ≡ get_or xs place x ∷ kept_of (drop (suc place) refusals) (drop (suc place) xs)
  kept-here [] [] place x within same is = absurd (omega (arith, within))
  kept-here [] (y ∷ xs) place x within same is = absurd (omega (arith, same))
  kept-here (r ∷ refusals) [] place x within same is = absurd (omega (arith, within))
  kept-here (None ∷ refusals) (y ∷ xs) zero x within same is = refl
  kept-here (Some r ∷ refusals) (y ∷ xs) zero x within same is = absurd (cc)
  kept-here (r ∷ refusals) (y ∷ xs) (suc place) x within same is =
      kept-here refusals xs place x (omega (arith, within)) (omega (arith, same)) is

  -- the file at a place is left out
  kept-past : (refusals : List (Option Refusal)) (xs : List A) (place : ℕ) → place < length xs
      → length xs ≡ length refusals → is_some (get_or refusals place None) ≡ true
      → kept_of (drop place refusals) (drop place xs) ≡ kept_of (drop (suc place) refusals) (drop (suc place) xs)
  kept-past [] [] place within same is = absurd (omega (arith, within))
  kept-past [] (y ∷ xs) place within same is = absurd (omega (arith, same))
  kept-past (r ∷ refusals) [] place within same is = absurd (omega (arith, within))
  kept-past (None ∷ refusals) (y ∷ xs) zero within same is = absurd (cc)
  kept-past (Some r ∷ refusals) (y ∷ xs) zero within same is = refl
  kept-past (r ∷ refusals) (y ∷ xs) (suc place) within same is =
      kept-past refusals xs place (omega (arith, within)) (omega (arith, same)) is

module _ (refusals : List (Option Refusal)) (names kept : List (Bor (List ℕ))) (place : ℕ) (all : List (List ℕ))
    (within : place < length names) (same : length names ≡ length refusals)
    (so_far : map (λ k. k.now) kept ++ kept_of (drop place refusals) (drop place (map (λ n. n.now) names)) ≡ all) where
  abbrev pub texts : List (List ℕ)
  texts = map (λ n. n.now) names

  same-texts : length texts ≡ length refusals
  same-texts = length-map names (λ n. n.now) ∙ same

  next : suc place ≡ place + 1
  next = omega arith

  -- the name at a place is added to those that are kept
  pub kept-pushed : (none : Bor (List ℕ)) (more : List (Bor (List ℕ)))
      → is_some (get_or refusals place None) ≡ false → more ≡ kept ++ get_or names place none ∷ []
      → map (λ k. k.now) more ++ kept_of (drop (place + 1) refusals) (drop (place + 1) texts) ≡ all
  kept-pushed none more is added =
      let rest = kept_of (drop (place + 1) refusals) (drop (place + 1) texts) in
      let name = get_or names place none in
      ap (λ l. map (λ k. k.now) l ++ rest) added
      ∙ (ap (λ l. l ++ rest) (map-append (λ k. k.now) kept (name ∷ []))
      ∙ (append_assoc (map (λ k. k.now) kept) (name.now ∷ []) rest
      ∙ (ap (λ n. map (λ k. k.now) kept ++ n ∷ rest) (sym (get_or-map (λ n. n.now) names place none [] within))
      ∙ (ap (λ l. map (λ k. k.now) kept ++ l)
      (sym (kept-here refusals texts place [] (omega (arith, within, length-map names (λ n. n.now))) same-texts is
      ∙ ap (λ n. get_or texts place [] ∷ kept_of (drop n refusals) (drop n texts)) next))
      ∙ so_far))))

  -- it isn't
  pub kept-passed : is_some (get_or refusals place None) ≡ true
      → map (λ k. k.now) kept ++ kept_of (drop (place + 1) refusals) (drop (place + 1) texts) ≡ all
  kept-passed is =
      ap (λ l. map (λ k. k.now) kept ++ l)
      (sym (kept-past refusals texts place (omega (arith, within, length-map names (λ n. n.now))) same-texts is
      ∙ ap (λ n. kept_of (drop n refusals) (drop n texts)) next))
      ∙ so_far
