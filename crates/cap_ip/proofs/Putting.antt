-- A header whose numbers are put one after the other.
use Rattle.std.proofs.Common.{◌≡◌, ◌<◌, ◌/◌, ◌%◌, ℕ, [], ◌∷◌, ◌++◌, refl, arith}
use Rattle.cap_bytes.specs.Number.{bytes_of, with_number}
use Rattle.cap_bytes.specs.declared.numbers.Order.TheVariants.{Big}
use Rattle.cap_ip.specs.Checksum.{checked}

-- the total length, the identification, the checksum and the addresses are put between the single bytes
pub put-all : (first service time protocol total identification checksum source destination : ℕ) → checksum < 65536 →
    with_number Big 4 destination 16 (with_number Big 4 source 12 (with_number Big 2 checksum 10
    (with_number Big 2 identification 4 (with_number Big 2 total 2
    (first ∷ service ∷ 0 ∷ 0 ∷ 0 ∷ 0 ∷ 0 ∷ 0 ∷ time ∷ protocol ∷ 0 ∷ 0 ∷ 0 ∷ 0 ∷ 0 ∷ 0 ∷ 0 ∷ 0 ∷ 0 ∷ 0 ∷ [])))))
    ≡ checked (first ∷ service ∷ (bytes_of Big 2 total
    ++ (bytes_of Big 2 identification ++ (0 ∷ 0 ∷ time ∷ protocol ∷ []))))
    checksum (bytes_of Big 4 source ++ bytes_of Big 4 destination)
unfolding checked bytes_of with_number
put-all first service time protocol total identification checksum source destination fits =
    let high : checksum / 256 % 256 ≡ checksum / 256 = omega arith in rw high refl
