-- Headers of options lead to what follows them.
use Rattle.std.specs.List.{AllByRecursion}
use Rattle.std.proofs.Common.{◌≡◌, ◌+◌, ◌-◌, ◌*◌, ◌∙◌, ℕ, false, List, [], ◌∷◌, ◌++◌, length, drop, refl, ap, sym}
use Rattle.std.proofs.Common.{◌==◌, ◌||◌, length-append, arith}
use Rattle.std.proofs.Math.Seq.{drop-append_seam}
use Rattle.std.proofs.lemmas.List.Elements.{recursion_from_All}
use Rattle.cap_ipv6.proofs.ChainSteps.{led-ends, led-next}
use Rattle.cap_ipv6.specs.Chain.{Led, Says, behind, is_extension, led, says, size_at, size_of}
use Rattle.cap_ipv6.specs.Seen.{place}
use Rattle.cap_ipv6.specs.inner.Chained.{ChainLaw, IsOptions, Options, chained, first_number}

ends : (protocol left : ℕ) (captured : List ℕ) → is_extension protocol ≡ false
    → says (place protocol left captured) ≡ Says.ends
unfolding says
ends protocol left captured none = grind arith

size-options : (number words : ℕ) → ((number == 44) || (number == 51)) ≡ false → size_of number words ≡ (words + 1) * 8
unfolding size_of
size-options number words plain = grind arith

-- some headers in front of some bytes
leads : (o : Options) (next missing : ℕ) (rest : List ℕ) → IsOptions o
    → says (place o.number (length (next ∷ o.words ∷ (o.content ++ rest)) + missing)
    (next ∷ o.words ∷ (o.content ++ rest)))
    ≡ Says.leads (8 * (o.words + 1))
unfolding says size_at
leads o next missing rest is =
    grind (arith, size-options, length-append o.content rest, is.extension, is.plain, is.long)

drop-behind : (next words size : ℕ) (content rest : List ℕ) → size ≡ 2 + length content
    → drop size (next ∷ words ∷ (content ++ rest)) ≡ rest
drop-behind next words size content rest is =
    let two : drop (2 + length content) (next ∷ words ∷ (content ++ rest)) ≡ drop (length content) (content ++ rest) =
    grind arith in
    ap (λ n. drop n (next ∷ words ∷ (content ++ rest))) is ∙ (two ∙ drop-append_seam content rest)

place-behind : (number a b next size left missing : ℕ) (captured rest : List ℕ) → a ≡ next → left - size ≡ b + missing
    → drop size captured ≡ rest → place a (left - size) (drop size captured) ≡ place next (b + missing) rest
place-behind number a b next size left missing captured rest is few on = cc

after : (o : Options) (next missing : ℕ) (rest : List ℕ) → IsOptions o
    → behind (8 * (o.words + 1)) (place o.number (length (next ∷ o.words ∷ (o.content ++ rest)) + missing)
    (next ∷ o.words ∷ (o.content ++ rest)))
    ≡ place next (length rest + missing) rest
unfolding behind
after o next missing rest is =
    place-behind o.number next (length rest) next (8 * (o.words + 1))
    (length (next ∷ o.words ∷ (o.content ++ rest)) + missing) missing (next ∷ o.words ∷ (o.content ++ rest)) rest refl
    (omega (arith, length-append o.content rest, is.long))
    (drop-behind next o.words (8 * (o.words + 1)) o.content rest (omega (arith, is.long)))

by_recursion : (os : List Options) (protocol left : ℕ) (captured : List ℕ) → AllByRecursion IsOptions os
    → is_extension protocol ≡ false → (missing : ℕ) → left ≡ length captured + missing
    → led (place (first_number os protocol) (length (chained os protocol captured) + missing)
    (chained os protocol captured))
    ≡ Led.data_of protocol left captured
unfolding first_number chained
by_recursion [] protocol left captured all none missing long =
    led-ends protocol (length captured + missing) captured
    (ends protocol (length captured + missing) captured none)
    ∙ ap (λ n. Led.data_of protocol n captured) (sym long)
by_recursion (o ∷ os) protocol left captured all none missing long =
    let next = first_number os protocol in
    let rest = chained os protocol captured in
    sym (led-next (place o.number (length (next ∷ o.words ∷ (o.content ++ rest)) + missing)
    (next ∷ o.words ∷ (o.content ++ rest))) (8 * (o.words + 1)) (leads o next missing rest all.0))
    ∙ ap led (after o next missing rest all.0)
    ∙ by_recursion os protocol left captured all.1 none missing long

pub chain-law : ChainLaw
chain-law os protocol left captured all none missing long =
    by_recursion os protocol left captured (recursion_from_All IsOptions os all) none missing long
