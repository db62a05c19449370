-- A header with its checksum in place sums to all ones.
use Rattle.std.specs.List.{AllByRecursion}
use Rattle.std.proofs.Common.{◌≡◌, ◌<◌, ◌≤◌, ◌+◌, ◌-◌, ℕ, List, [], ◌∷◌, ◌++◌, length, All, subst, arith}
use Rattle.std.proofs.lemmas.List.Elements.{recursion_from_All}
use Rattle.cap_bytes.specs.Number.{number}
use Rattle.cap_ip.specs.Checksum.{words, ones_sum, checksum_of, checked, ChecksumLaw}
use Rattle.cap_ip.proofs.OnesSum.{total, IsFolded, IsFolded-unique, IsFolded-ones_sum, AreWords-words}

pub AllByRecursion-append : (P : ℕ → Type 0) (front back : List ℕ) → AllByRecursion P front → AllByRecursion P back
    → AllByRecursion P (front ++ back)
AllByRecursion-append P [] back f b = b
AllByRecursion-append P (x ∷ front) back f b = (f.0, AllByRecursion-append P front back f.1 b)

-- the plain sum of a header with a word in the checksum's place
pub total-checked : (front back : List ℕ) (word : ℕ) → length front ≡ 10
    → total (words (checked front word back)) ≡ total (words front) + word + total (words back)
unfolding checked words number
total-checked front back word long = grind arith

-- the bytes of such a header
pub AllByRecursion-checked : (front back : List ℕ) (word : ℕ) → word ≤ 65535 → AllByRecursion (λ b. b < 256) front
    → AllByRecursion (λ b. b < 256) back → AllByRecursion (λ b. b < 256) (checked front word back)
unfolding checked
AllByRecursion-checked front back word fits f b = grind (arith, AllByRecursion-append)

-- a sum without its carries and its complement
pub IsFolded-complement : (front back word : ℕ) → IsFolded (front + 0 + back) word
    → IsFolded (front + (65535 - word) + back) 65535
IsFolded-complement front back word f = grind arith

pub IsFolded-checked : (front back : List ℕ) (word : ℕ) → length front ≡ 10 → All (λ b. b < 256) front
    → All (λ b. b < 256) back → word ≤ 65535 → IsFolded (total (words front) + word + total (words back))
    (ones_sum (words (checked front word back)))
IsFolded-checked front back word long f b small =
    let P : ℕ → Type 0 = λ n. IsFolded n (ones_sum (words (checked front word back))) in
    let bytes = AllByRecursion-checked front back word small (recursion_from_All (λ x. x < 256) front f)
    (recursion_from_All (λ x. x < 256) back b) in
    subst P (total-checked front back word long) (IsFolded-ones_sum (words (checked front word back))
    (AreWords-words (checked front word back) bytes))

pub checksum-law : ChecksumLaw
unfolding checksum_of
checksum-law front back ten eight f b =
    let before = ones_sum (words (checked front 0 back)) in
    let with_zero = IsFolded-checked front back 0 ten f b (omega arith) in
    let with_word = IsFolded-checked front back (65535 - before) ten f b (omega arith) in
    IsFolded-unique _ _ 65535 with_word (IsFolded-complement (total (words front))
    (total (words back)) before with_zero)
