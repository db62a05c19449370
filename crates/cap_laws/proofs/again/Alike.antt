-- Merging lists of items that are alike, each at its place, gives lists that are alike.
use Rattle.std.proofs.Common.{◌≡◌, List, [], ◌∷◌, refl, sym, ap, ◌∙◌, subst, Option}
use Rattle.std.specs.Prelude.{map}
use Rattle.std.specs.List.{AllZip, AllByRecursion}
use Rattle.cap_time.specs.declared.stamps.Stamp.{Stamp}
use Rattle.cap_merge.specs.Run.{Clocked, opened_track, merged}
use Rattle.cap_merge.specs.inner.Lists.{map-twice}
use Rattle.cap_merge.proofs.Rounds.{map_track, map_clocked, merged-mapped}

-- the items of some files, merged
abbrev pub merge_of : {A : Type 0} → (A → Option Stamp) → List (List A) → List A
merge_of time files = map (λ x. x.item) (merged time (map opened_track files))

-- Two items that are alike.
record Twin {A : Type 0} (P : A → A → Type 0) : Type 0 where
  one : A
  other : A
  alike : P one other

module _ {A : Type 0} (P : A → A → Type 0) (time : A → Option Stamp) (same : (x y : A) → P x y → time y ≡ time x) where
  twins : (xs ys : List A) → AllZip P xs ys → List (Twin P)
  twins [] [] h = []
  twins (x ∷ xs) (y ∷ ys) h = record { one = x; other = y; alike = h.0 } ∷ twins xs ys h.1
  twins xs ys h = absurd h

  twins-one : (xs ys : List A) (h : AllZip P xs ys) → map (λ t. t.one) (twins xs ys h) ≡ xs
  unfolding twins
  twins-one [] [] h = refl
  twins-one (x ∷ xs) (y ∷ ys) h = ap (λ zs. x ∷ zs) (twins-one xs ys h.1)
  twins-one xs ys h = absurd h

  twins-other : (xs ys : List A) (h : AllZip P xs ys) → map (λ t. t.other) (twins xs ys h) ≡ ys
  unfolding twins
  twins-other [] [] h = refl
  twins-other (x ∷ xs) (y ∷ ys) h = ap (λ zs. y ∷ zs) (twins-other xs ys h.1)
  twins-other xs ys h = absurd h

  twin_files : (fs gs : List (List A)) → AllZip (AllZip P) fs gs → List (List (Twin P))
  twin_files [] [] h = []
  twin_files (f ∷ fs) (g ∷ gs) h = twins f g h.0 ∷ twin_files fs gs h.1
  twin_files fs gs h = absurd h

  files-one : (fs gs : List (List A)) (h : AllZip (AllZip P) fs gs)
      → map (map_track (λ t. t.one)) (map opened_track (twin_files fs gs h)) ≡ map opened_track fs
  unfolding twin_files
  files-one [] [] h = refl
  files-one (f ∷ fs) (g ∷ gs) h = λ i. opened_track (twins-one f g h.0 i) ∷ files-one fs gs h.1 i
  files-one fs gs h = absurd h

  files-other : (fs gs : List (List A)) (h : AllZip (AllZip P) fs gs)
      → map (map_track (λ t. t.other)) (map opened_track (twin_files fs gs h)) ≡ map opened_track gs
  unfolding twin_files
  files-other [] [] h = refl
  files-other (f ∷ fs) (g ∷ gs) h = λ i. opened_track (twins-other f g h.0 i) ∷ files-other fs gs h.1 i
  files-other fs gs h = absurd h

  all-alike : (ts : List (Clocked (Twin P))) → AllZip P (map (λ x. x.item.one) ts) (map (λ x. x.item.other) ts)
  all-alike [] = tt
  all-alike (t ∷ ts) = (t.item.alike, all-alike ts)

  merge-one : (fs gs : List (List A)) (h : AllZip (AllZip P) fs gs)
      → map (λ x. x.item.one) (merged (λ t. time t.one) (map opened_track (twin_files fs gs h))) ≡ merge_of time fs
  merge-one fs gs h =
      sym (map-twice (λ x. x.item) (map_clocked (λ t. t.one))
      (merged (λ t. time t.one) (map opened_track (twin_files fs gs h))))
      ∙ ap (map (λ x. x.item))
      (sym (merged-mapped (λ t. time t.one) time (λ t. t.one) (λ t. refl) (map opened_track (twin_files fs gs h)))
      ∙ ap (merged time) (files-one fs gs h))

  merge-other : (fs gs : List (List A)) (h : AllZip (AllZip P) fs gs)
      → map (λ x. x.item.other) (merged (λ t. time t.one) (map opened_track (twin_files fs gs h))) ≡ merge_of time gs
  merge-other fs gs h =
      sym (map-twice (λ x. x.item) (map_clocked (λ t. t.other))
      (merged (λ t. time t.one) (map opened_track (twin_files fs gs h))))
      ∙ ap (map (λ x. x.item))
      (sym (merged-mapped (λ t. time t.one) time (λ t. t.other) (λ t. same t.one t.other t.alike)
      (map opened_track (twin_files fs gs h)))
      ∙ ap (merged time) (files-other fs gs h))

  -- Files that are alike, merged, give lists that are alike.
  pub merge-alike : (fs gs : List (List A)) → AllZip (AllZip P) fs gs → AllZip P (merge_of time fs) (merge_of time gs)
  merge-alike fs gs h =
      subst (λ (xs : List A). AllZip P xs (merge_of time gs)) (merge-one fs gs h)
      (subst (λ (ys : List A). AllZip P (map (λ x. x.item.one)
      (merged (λ t. time t.one) (map opened_track (twin_files fs gs h)))) ys) (merge-other fs gs h)
      (all-alike (merged (λ t. time t.one) (map opened_track (twin_files fs gs h)))))

-- ---- what is true of all items stays true of them merged

module _ {A : Type 0} (Q : A → Type 0) (time : A → Option Stamp) where
  both : (xs : List A) → AllByRecursion Q xs → AllZip (λ x y. Q x × (y ≡ x)) xs xs
  both [] h = tt
  both (x ∷ xs) h = ((h.0, refl), both xs h.1)

  files_both : (fs : List (List A)) → AllByRecursion (AllByRecursion Q) fs
      → AllZip (AllZip (λ x y. Q x × (y ≡ x))) fs fs
  files_both [] h = tt
  files_both (f ∷ fs) h = (both f h.0, files_both fs h.1)

  first_of : (xs ys : List A) → AllZip (λ x y. Q x × (y ≡ x)) xs ys → AllByRecursion Q xs
  first_of [] [] h = tt
  first_of (x ∷ xs) (y ∷ ys) h = (h.0.0, first_of xs ys h.1)
  first_of xs ys h = absurd h

  pub merge-all : (fs : List (List A)) → AllByRecursion (AllByRecursion Q) fs → AllByRecursion Q (merge_of time fs)
  merge-all fs h =
      first_of (merge_of time fs) (merge_of time fs)
      (merge-alike (λ x y. Q x × (y ≡ x)) time (λ x y e. ap time e.1) fs fs (files_both fs h))
