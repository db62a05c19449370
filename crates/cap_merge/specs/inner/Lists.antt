-- Lists and tests of their items.
use Rattle.std.proofs.Common.{◌≡◌, ℕ, Bool, true, false, List, [], ◌∷◌, ◌++◌, refl, sym, ap, arith}
use Rattle.std.specs.Prelude.{◌&&◌, ◌||◌, map}
use Rattle.std.specs.List.{AllByRecursion, list_all, list_any}
use Rattle.std.proofs.lemmas.Bool.{true≢false}

pub All-both : {A : Type 0} (P : A → Type 0) (xs ys : List A) → AllByRecursion P xs → AllByRecursion P ys
    → AllByRecursion P (xs ++ ys)
All-both P [] ys f g = g
All-both P (x ∷ xs) ys f g = (f.0, All-both P xs ys f.1 g)

pub All-implied : {A : Type 0} (P Q : A → Type 0) (xs : List A) → ((x : A) → P x → Q x) → AllByRecursion P xs
    → AllByRecursion Q xs
All-implied P Q [] f g = tt
All-implied P Q (x ∷ xs) f g = (f x g.0, All-implied P Q xs f g.1)

pub map-twice : {A B C : Type 0} (f : B → C) (g : A → B) (xs : List A) → map f (map g xs) ≡ map (λ x. f (g x)) xs
map-twice f g [] = refl
map-twice f g (x ∷ xs) = ap (λ ys. f (g x) ∷ ys) (map-twice f g xs)

pub all-front : {A : Type 0} (P : A → Type 0) (xs ys : List A) → AllByRecursion P (xs ++ ys) → AllByRecursion P xs
all-front P [] ys f = tt
all-front P (x ∷ xs) ys f = (f.0, all-front P xs ys f.1)

pub all-back : {A : Type 0} (P : A → Type 0) (xs ys : List A) → AllByRecursion P (xs ++ ys) → AllByRecursion P ys
all-back P [] ys f = f
all-back P (x ∷ xs) ys f = all-back P xs ys f.1

pub and-both : (a b : Bool) → (a && b) ≡ true → (a ≡ true) × (b ≡ true)
and-both a b e = grind arith

pub all-each : {A : Type 0} (p : A → Bool) (xs : List A) → list_all p xs ≡ true → AllByRecursion (λ x. p x ≡ true) xs
all-each p [] e = tt
all-each p (x ∷ xs) e = ((and-both (p x) (list_all p xs) e).0, all-each p xs (and-both (p x) (list_all p xs) e).1)

pub each-all : {A : Type 0} (p : A → Bool) (xs : List A) → AllByRecursion (λ x. p x ≡ true) xs → list_all p xs ≡ true
each-all p [] h = refl
each-all p (x ∷ xs) h = rw h.0 (each-all p xs h.1)

pub or-back : (a b : Bool) → b ≡ true → (a || b) ≡ true
or-back a b e = grind arith

pub any-back : (test : ℕ → Bool) (xs ys : List ℕ) → list_any test ys ≡ true → list_any test (xs ++ ys) ≡ true
any-back test [] ys e = e
any-back test (x ∷ xs) ys e = or-back (test x) (list_any test (xs ++ ys)) (any-back test xs ys e)

pub any-front : (test : ℕ → Bool) (xs ys : List ℕ) → list_any test xs ≡ true → list_any test (xs ++ ys) ≡ true
any-front test [] ys e = absurd (true≢false (sym e))
any-front test (x ∷ xs) ys e = first (test x) (list_any test xs) (list_any test (xs ++ ys)) e (any-front test xs ys)
  where
    first : (a b c : Bool) → (a || b) ≡ true → (b ≡ true → c ≡ true) → (a || c) ≡ true
    first true b c e f = refl
    first false b c e f = f e

pub and-none : (a b : Bool) → b ≡ false → (a && b) ≡ false
and-none a b e = grind arith
