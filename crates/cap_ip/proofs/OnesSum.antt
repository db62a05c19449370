-- Ones' complement sums by their plain sums.
use Rattle.std.specs.List.{AllByRecursion}
use Rattle.std.proofs.Common.{◌≡◌, ◌<◌, ◌≤◌, ◌+◌, ◌*◌, ◌/◌, ◌%◌, ℕ, List, [], ◌∷◌, length, drop, get_or, suc}
use Rattle.std.proofs.Common.{length-drop, subst, sym, refl, arith}
use Rattle.std.proofs.lemmas.List.{drop-drop}
use Rattle.cap_bytes.specs.Number.{number}
use Rattle.cap_bytes.specs.declared.numbers.Order.TheVariants.{Big}
use Rattle.cap_ip.specs.Checksum.{words, ones_add, ones_sum}

-- the plain sum of words
abbrev pub total : List ℕ → ℕ
total [] = 0
total (w ∷ ws) = w + total ws

-- a word that is a sum without its carries: the same modulo 65,535, and 0 for 0 alone
pub record IsFolded (sum word : ℕ) : Type 0 where
  pub carries : ℕ
  pub same : sum ≡ 65535 * carries + word
  pub fits : word ≤ 65535
  pub zero : word ≡ 0 → sum ≡ 0

pub IsFolded-unique : (sum a b : ℕ) → IsFolded sum a → IsFolded sum b → a ≡ b
IsFolded-unique sum a b f g = grind arith

-- one word more
pub IsFolded-add : (sum word w : ℕ) → IsFolded sum word → w ≤ 65535 → IsFolded (w + sum) (ones_add w word)
unfolding ones_add
IsFolded-add sum word w f fits = record {
  carries = f.carries + (w + word) / 65536;
  same = omega (arith, f.same, f.fits);
  fits = omega (arith, f.same, f.fits);
  zero = λ none. omega (arith, f.same, f.fits, f.zero);
}

-- two folds of a sum of at most ten words
pub IsFolded-folds : (sum : ℕ) → sum ≤ 655350 → IsFolded sum
    ((sum % 65536 + sum / 65536) % 65536 + (sum % 65536 + sum / 65536) / 65536)
IsFolded-folds sum few = record {
  carries = sum / 65536 + (sum % 65536 + sum / 65536) / 65536;
  same = omega arith;
  fits = omega arith;
  zero = λ none. omega arith;
}

-- every word is one of 16 bits
abbrev pub AreWords : List ℕ → Type 0
AreWords [] = Unit {0}
AreWords (w ∷ ws) = (w ≤ 65535) × AreWords ws

pub IsFolded-ones_sum : (ws : List ℕ) → AreWords ws → IsFolded (total ws) (ones_sum ws)
unfolding ones_sum
IsFolded-ones_sum [] fit = record { carries = 0; same = refl; fits = omega arith; zero = λ none. refl }
IsFolded-ones_sum (w ∷ ws) fit = IsFolded-add (total ws) (ones_sum ws) w (IsFolded-ones_sum ws fit.1) fit.0

-- the first word of some bytes
pub total-words : (bytes : List ℕ) → 2 ≤ length bytes
    → total (words bytes) ≡ number Big 2 bytes + total (words (drop 2 bytes))
unfolding words number
total-words bytes long = grind arith

pub total-words-end : (bytes : List ℕ) → length bytes ≡ 0 → total (words bytes) ≡ 0
unfolding words
total-words-end bytes none = grind arith

-- bytes spell words of 16 bits
pub AreWords-words : (bytes : List ℕ) → AllByRecursion (λ b. b < 256) bytes → AreWords (words bytes)
unfolding words number
AreWords-words (a ∷ b ∷ rest) fit = (omega (arith, fit.0, fit.1.0), AreWords-words rest fit.1.1)
AreWords-words bytes fit = cc

pub AllByRecursion-bytes : (bytes : List ℕ) → ((i : ℕ) → get_or bytes i 0 < 256) → AllByRecursion (λ b. b < 256) bytes
AllByRecursion-bytes [] fit = tt
AllByRecursion-bytes (b ∷ bytes) fit = (fit 0, AllByRecursion-bytes bytes (λ i. fit (suc i)))

-- two folds of the plain sum give the ones' complement sum, of at most ten words
pub ones_sum-folds : (bytes : List ℕ) → AllByRecursion (λ b. b < 256) bytes → (sum : ℕ) → sum ≡ total (words bytes)
    → sum ≤ 655350 → (sum % 65536 + sum / 65536) % 65536 + (sum % 65536 + sum / 65536) / 65536 ≡ ones_sum (words bytes)
ones_sum-folds bytes fit sum same few =
    let P : ℕ → Type 0 = λ n. IsFolded n (ones_sum (words bytes)) in
    IsFolded-unique sum _ _ (IsFolded-folds sum few)
    (subst P (sym same) (IsFolded-ones_sum (words bytes) (AreWords-words bytes fit)))

-- the word at a place, and those after it
pub total-words-from : (bytes : List ℕ) (i next : ℕ) → next ≡ i + 2 → next ≤ length bytes
    → total (words (drop i bytes)) ≡ number Big 2 (drop i bytes) + total (words (drop next bytes))
total-words-from bytes i next step long =
    let P : ℕ → Type 0 = λ n. total (words (drop i bytes))
    ≡ number Big 2 (drop i bytes) + total (words (drop n bytes)) in
    let seam = total-words (drop i bytes) (omega (arith, length-drop i bytes)) in
    subst P (sym step) (rw drop-drop at seam)
