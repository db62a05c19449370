-- Bytes that are put one after another.
use Rattle.std.proofs.Common.{◌≡◌, ◌+◌, ℕ, List, [], ◌++◌, length, take, refl, sym, ap, ◌∙◌, append_assoc, arith}
use Rattle.std.proofs.lemmas.List.{take_all}

-- one piece more is put behind those that stand there
put-next : (front old new piece bytes : List ℕ) (place n : ℕ)
    → take (place + length piece) new ≡ take place old ++ piece → piece ≡ bytes → length bytes ≡ n
    → take place old ≡ front → take (place + n) new ≡ front ++ bytes
put-next front old new piece bytes place n put is few before =
    ap (λ (k : ℕ). take (place + k) new) (sym few)
    ∙ (ap (λ (l : List ℕ). take (place + length l) new) (sym is) ∙ put ∙ (λ i. before i ++ is i))

-- six pieces are put, which are all 42 bytes then
pub six-put : (b1 b2 b3 b4 b5 b6 p1 p2 p3 p4 p5 p6 link captured original seconds numerator denominator : List ℕ)
    → take (0 + length p1) b1 ≡ p1 → p1 ≡ link → length link ≡ 2
    → take (2 + length p2) b2 ≡ take 2 b1 ++ p2 → p2 ≡ captured → length captured ≡ 4
    → take (6 + length p3) b3 ≡ take 6 b2 ++ p3 → p3 ≡ original → length original ≡ 4
    → take (10 + length p4) b4 ≡ take 10 b3 ++ p4 → p4 ≡ seconds → length seconds ≡ 16
    → take (26 + length p5) b5 ≡ take 26 b4 ++ p5 → p5 ≡ numerator → length numerator ≡ 8
    → take (34 + length p6) b6 ≡ take 34 b5 ++ p6 → p6 ≡ denominator → length denominator ≡ 8
    → length b6 ≡ 42
    → b6 ≡ link ++ captured ++ original ++ (seconds ++ numerator ++ denominator)
six-put b1 b2 b3 b4 b5 b6 p1 p2 p3 p4 p5 p6 link captured original seconds numerator denominator
    e1 i1 l1 e2 i2 l2 e3 i3 l3 e4 i4 l4 e5 i5 l5 e6 i6 l6 all =
    let f1 : take 2 b1 ≡ link = put-next [] [] b1 p1 link 0 2 e1 i1 l1 refl in
    let f2 : take 6 b2 ≡ link ++ captured = put-next link b1 b2 p2 captured 2 4 e2 i2 l2 f1 in
    let f3 : take 10 b3 ≡ link ++ captured ++ original =
    put-next (link ++ captured) b2 b3 p3 original 6 4 e3 i3 l3 f2 in
    let front = link ++ captured ++ original in
    let f4 : take 26 b4 ≡ front ++ seconds = put-next front b3 b4 p4 seconds 10 16 e4 i4 l4 f3 in
    let f5 : take 34 b5 ≡ front ++ seconds ++ numerator =
    put-next (front ++ seconds) b4 b5 p5 numerator 26 8 e5 i5 l5 f4 in
    let f6 : take 42 b6 ≡ front ++ seconds ++ numerator ++ denominator =
    put-next (front ++ seconds ++ numerator) b5 b6 p6 denominator 34 8 e6 i6 l6 f5 in
    sym (take_all 42 b6 (omega (arith, all))) ∙ f6
    ∙ ap (λ (l : List ℕ). l ++ denominator) (append_assoc front seconds numerator)
    ∙ append_assoc front (seconds ++ numerator) denominator
