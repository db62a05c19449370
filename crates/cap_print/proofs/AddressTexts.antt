-- The texts of IPv6 addresses.
use Rattle.std.proofs.Common.{◌≡◌, ◌<◌, ◌≤◌, ◌+◌, ◌*◌, ◌^◌, ◌∙◌, ◌++◌, ℕ, zero, suc, List, [], ◌∷◌, Some, length, drop}
use Rattle.std.proofs.Common.{ap, sym, refl, arith, get_or, subst}
use Rattle.std.specs.Prelude.{All, codes, take}
use Rattle.std.specs.Int.{byte_at, bytes_high_first, to_be_bytes, w128}
use Rattle.std.specs.Net.Addr.{segments_of}
use Rattle.std.specs.Net.Grammar.{IsColonHex}
use Rattle.std.specs.Net.Reader.{read_ipv6}
use Rattle.std.specs.Net.Text.{groups_text, hex_groups_text, longest_zero_run}
use Rattle.std.proofs.NetLemmas.Alphabet.{All-hex_groups_text, IsHexOrColon}
use Rattle.std.proofs.NetLemmas.Ipv6.{EndsGroups-nil, read_ipv6_complete}
use Rattle.std.proofs.NetLemmas.Options.{same_parts}
use Rattle.std.proofs.NetLemmas.Texts.{AllSegments, IsColonHex-hex_groups_text}
use Rattle.std.proofs.lemmas.Grind.{common_steps}
use Rattle.std.proofs.lemmas.List.{append-nil}
use Rattle.byteorder.specs.Endian.{big_from}
use Rattle.byteorder.specs.Numbers.{big_number-reads_back}
use Rattle.cap_print.specs.Addresses.{groups_of, ipv6_text}
use Rattle.cap_print.specs.inner.AddressLaw.{AddressLaw}

-- n pairs of bytes
abbrev Pairs : ℕ → List ℕ → Type 0
Pairs zero xs = xs ≡ []
Pairs (suc n) [] = ⊥
Pairs (suc n) (a ∷ []) = ⊥
Pairs (suc n) (a ∷ b ∷ xs) = (a < 256) × (b < 256) × Pairs n xs

byte-small : (k x : ℕ) → byte_at k x < 256
byte-small zero x = omega arith
byte-small (suc k) x = omega arith

eight-pairs : (x : ℕ) → Pairs 8 (bytes_high_first 16 x)
eight-pairs x = (
  byte-small 15 x,
  byte-small 14 x,
  (
    byte-small 13 x,
    byte-small 12 x,
    (
      byte-small 11 x,
      byte-small 10 x,
      (
        byte-small 9 x,
        byte-small 8 x,
        (
          byte-small 7 x,
          byte-small 6 x,
          (
            byte-small 5 x,
            byte-small 4 x,
            (
              byte-small
                  3 x,
              byte-small 2 x,
              (byte-small 1 x, byte-small 0 x, refl),
            ),
          ),
        ),
      ),
    ),
  ),
)

groups-long : (n : ℕ) (xs : List ℕ) → Pairs n xs → length (segments_of xs) ≡ n
groups-long zero xs p = ap (λ ys. length (segments_of ys)) p
groups-long (suc n) [] p = absurd p
groups-long (suc n) (a ∷ []) p = absurd p
groups-long (suc n) (a ∷ b ∷ xs) p = omega (arith, groups-long n xs p.2)

groups-small : (n : ℕ) (xs : List ℕ) → Pairs n xs → AllSegments (segments_of xs)
groups-small zero xs p k =
    let none : get_or (segments_of xs) k 0 ≡ get_or (segments_of []) k 0 = ap (λ ys. get_or (segments_of ys) k 0) p in
    omega (arith, none)
groups-small (suc n) [] p k = absurd p
groups-small (suc n) (a ∷ []) p k = absurd p
groups-small (suc n) (a ∷ b ∷ xs) p zero = omega (arith, p.0, p.1)
groups-small (suc n) (a ∷ b ∷ xs) p (suc k) = groups-small n xs p.2 k

-- groups tell the bytes that they were made of
same-bytes : (n : ℕ) (xs ys : List ℕ) → Pairs n xs → Pairs n ys → segments_of xs ≡ segments_of ys → xs ≡ ys
same-bytes zero xs ys p q same = p ∙ sym q
same-bytes (suc n) [] ys p q same = absurd p
same-bytes (suc n) (a ∷ []) ys p q same = absurd p
same-bytes (suc n) (a ∷ b ∷ xs) [] p q same = absurd q
same-bytes (suc n) (a ∷ b ∷ xs) (c ∷ []) p q same = absurd q
same-bytes (suc n) (a ∷ b ∷ xs) (c ∷ d ∷ ys) p q same =
    let first : a * 256 + b ≡ c * 256 + d = ap (λ gs. get_or gs 0 0) same in
    let high : a ≡ c = omega (arith, first, p.0, p.1, q.0, q.1) in
    let low : b ≡ d = omega (arith, first, p.0, p.1, q.0, q.1) in
    let rest : xs ≡ ys = same-bytes n xs ys p.2 q.2 (ap (λ gs. drop 1 gs) same) in
    λ i. high i ∷ low i ∷ rest i

same-address : (a b : ℕ) → a < 2 ^ 128 → b < 2 ^ 128 → groups_of a ≡ groups_of b → a ≡ b
unfolding groups_of
same-address a b small few same =
    let bytes : to_be_bytes w128 a ≡ to_be_bytes w128 b =
    same-bytes 8 (to_be_bytes w128 a) (to_be_bytes w128 b) (eight-pairs a) (eight-pairs b) same in
    sym (big_number-reads_back 16 a [] small)
    ∙ ap (λ bs. big_from 0 16 (bs ++ [])) bytes
    ∙ big_number-reads_back 16 b [] few

spells : (a : ℕ) → IsColonHex (ipv6_text a) (groups_of a)
unfolding groups_of ipv6_text
spells a =
    IsColonHex-hex_groups_text (segments_of (to_be_bytes w128 a))
    (groups-long 8 (to_be_bytes w128 a) (eight-pairs a)) (groups-small 8 (to_be_bytes w128 a) (eight-pairs a))

read-back : (text : List ℕ) (a : ℕ) → IsColonHex text (groups_of a) → read_ipv6 text ≡ Some (groups_of a, [])
read-back text a is =
    ap read_ipv6 (sym (append-nil text)) ∙ read_ipv6_complete text (groups_of a) [] is EndsGroups-nil

-- ---- as it is put

pub text-plain : (address : ℕ) → (longest_zero_run (groups_of address)).1 < 2
    → groups_text (groups_of address) ≡ ipv6_text address
unfolding ipv6_text hex_groups_text
text-plain address few = grind arith

text-compressed : (address : ℕ) → 2 ≤ (longest_zero_run (groups_of address)).1
    → groups_text (take (longest_zero_run (groups_of address)).0 (groups_of address)) ++ codes "::"
    ++ groups_text (drop ((longest_zero_run (groups_of address)).0 + (longest_zero_run (groups_of address)).1)
    (groups_of address))
    ≡ ipv6_text address
unfolding ipv6_text hex_groups_text
text-compressed address long = grind arith

-- what is put in three parts, from the last to the first
put-parts : (before behind whole old first second third : List ℕ) → first ≡ behind ++ old
    → second ≡ codes "::" ++ first → third ≡ before ++ second → before ++ codes "::" ++ behind ≡ whole
    → third ≡ whole ++ old
put-parts before behind whole old first second third a b c is = grind (arith, common_steps)

parts-text : (address : ℕ) (groups : List ℕ) (run : ℕ × ℕ) → groups ≡ groups_of address
    → run ≡ longest_zero_run groups → 2 ≤ run.1
    → groups_text (take run.0 groups) ++ codes "::" ++ groups_text (drop (run.0 + run.1) groups) ≡ ipv6_text address
parts-text address groups run is at long =
    let same : groups_text (take run.0 groups) ++ codes "::" ++ groups_text (drop (run.0 + run.1) groups)
    ≡ groups_text (take (longest_zero_run groups).0 groups) ++ codes "::"
    ++ groups_text (drop ((longest_zero_run groups).0 + (longest_zero_run groups).1) groups) =
    ap (λ r. groups_text (take r.0 groups) ++ codes "::" ++ groups_text (drop (r.0 + r.1) groups)) at in
    let named : groups_text (take (longest_zero_run groups).0 groups) ++ codes "::"
    ++ groups_text (drop ((longest_zero_run groups).0 + (longest_zero_run groups).1) groups)
    ≡ groups_text (take (longest_zero_run (groups_of address)).0 (groups_of address)) ++ codes "::"
    ++ groups_text (drop ((longest_zero_run (groups_of address)).0 + (longest_zero_run (groups_of address)).1)
    (groups_of address)) =
    ap (λ gs. groups_text (take (longest_zero_run gs).0 gs) ++ codes "::"
    ++ groups_text (drop ((longest_zero_run gs).0 + (longest_zero_run gs).1) gs)) is in
    let enough : 2 ≤ (longest_zero_run (groups_of address)).1 =
    subst (λ gs. 2 ≤ (longest_zero_run gs).1) is (subst (λ r. 2 ≤ r.1) at long) in
    same ∙ named ∙ text-compressed address enough

pub put-address : (address : ℕ) (groups : List ℕ) (run : ℕ × ℕ) (before behind old first second third : List ℕ)
    → groups ≡ groups_of address → run ≡ longest_zero_run groups → 2 ≤ run.1 → before ≡ take run.0 groups
    → behind ≡ drop (run.0 + run.1) groups → first ≡ groups_text behind ++ old → second ≡ codes "::" ++ first
    → third ≡ groups_text before ++ second → third ≡ ipv6_text address ++ old
put-address address groups run before behind old first second third is at long front back a b c =
    put-parts (groups_text before) (groups_text behind) (ipv6_text address) old first second third a b c
    (ap (λ bs. groups_text bs ++ codes "::" ++ groups_text behind) front
    ∙ ap (λ bs. groups_text (take run.0 groups) ++ codes "::" ++ groups_text bs) back
    ∙ parts-text address groups run is at long)

-- each character of a text is a hexadecimal digit or a colon
pub text-letters : (a : ℕ) → All IsHexOrColon (ipv6_text a)
unfolding groups_of ipv6_text
text-letters a =
    All-hex_groups_text (segments_of (to_be_bytes w128 a)) (groups-small 8 (to_be_bytes w128 a) (eight-pairs a))

pub address-law : AddressLaw
address-law = record {
  read_back = λ a. read-back (ipv6_text a) a (spells a);
  names_one = λ text a b small few one other.
      same-address a b small few
      (same_parts _ _ _ _ (sym (read-back text a one) ∙ read-back text b other)).0;
  spells = spells;
}
