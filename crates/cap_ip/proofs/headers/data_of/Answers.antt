use Rattle.std.proofs.Common.{◌≡◌, ℕ, List, length, min, take, ap, ◌∙◌, arith}
use Rattle.std.proofs.lemmas.List.{take_min}
use Rattle.cap_ip.specs.Read.{data_of}
use Rattle.cap_ip.proofs.headers.data_of.Goals as goal

-- the first n, or all if they are fewer
take_shorter : (n : ℕ) (xs : List ℕ) → take (min (length xs) n) xs ≡ take n xs
take_shorter n xs =
    let on : min (length xs) n ≡ min n (length xs) = omega arith in
    ap (λ k. take k xs) on ∙ take_min n xs

pub returns : goal.returns
unfolding data_of
returns c = grind (arith, take_shorter)
