-- Keys that are packed, and a table of them.
use Rattle.std.proofs.Common.{◌≡◌, ℕ, zero, suc, ◌+◌, ◌*◌, ◌/◌, ◌%◌, ◌<◌, Bool, true, false, cond, List, [], ◌∷◌}
use Rattle.std.proofs.Common.{length, length-append, refl, sym, ap, ◌∙◌, subst, true≢false, arith, Option, Some, None}
use Rattle.std.proofs.Common.{is_some}
use Rattle.std.proofs.Common.{get_or, inl, inr, position, slice_get}
use Rattle.std.proofs.lemmas.Bool.Decides.{nat_tests}
use Rattle.cap_talks.specs.declared.table.conversations.ConversationsFault.{ConversationsFault}
use Rattle.std.specs.Prelude.{Err, IfSome, Ok, OnErr, OnOk, Result, ◌==◌, ◌&&◌, ◌^◌, ◌≤◌, ◌++◌, ◌||◌, not, nat_lt}
use Rattle.std.specs.Prelude.{if◌then◌else◌}
use Rattle.std.specs.Map.{lookup, values_of, keys_of}
use Rattle.std.specs.List.{list_any}
use Rattle.std.specs.Option.{option_map, option_map_or}
use Rattle.std.proofs.lemmas.List.Folds.{list_any-append}
use Rattle.std.proofs.lemmas.List.Quantifiers.{position-Some}
use Rattle.std.proofs.lemmas.Bool.{eq-eqb, eqb-true}
use Rattle.std.proofs.lemmas.List.{length-map}
use Rattle.std.proofs.lemmas.Nat.{div-mul-add, mod-mul-add, div-add-mod'}
use Rattle.indexmap.specs.IndexMap.{insert_entry}
use Rattle.indexmap.specs.Layout.{set_value_at}
use Rattle.indexmap.proofs.MapLemmas.{insert_entry-first, Found-position}
use Rattle.cap_talks.specs.inner.table.Keys.{same_talk-is, and_left, and_right}
use Rattle.cap_talks.specs.inner.table.Packed.{port_number, port_of, end_number, end_at_number, packed, unpacked}
use Rattle.cap_talks.specs.inner.table.Packed.{IsNarrow, IsNarrowAddress, IsNarrowEnd, address_of_side, are_known}
use Rattle.cap_talks.specs.inner.table.Packed.{are_packed, end_of_side, is_end_number, is_ipv4_end, is_ipv4_key}
use Rattle.cap_talks.specs.inner.table.Packed.{is_marked, is_packed, is_side, is_wide, mark, no_talk, same_packed}
use Rattle.cap_talks.specs.inner.table.Packed.{same_wide, side_number, talk_of_packed, talk_of_wide, unpacked_talk}
use Rattle.cap_talks.specs.inner.table.Packed.{unpacked_talks, widened}
use Rattle.cap_talks.specs.inner.table.Knowing.{GrowsBy, IsKeyOf}
use Rattle.cap_talks.specs.declared.table.keys.WideKey.{WideKey}
use Rattle.cap_talks.specs.declared.table.units.Address.{Address}
use Rattle.cap_talks.specs.declared.table.units.Address.TheVariants.{Ipv4, Ipv6}
use Rattle.cap_talks.specs.table.Units.{number_of}
use Rattle.cap_talks.specs.inner.table.Adding.{with_talk_delta}
use Rattle.cap_talks.specs.table.Rows.{is_refused, talk_limit, with_delta, or_empty, row_at, row_in}
use Rattle.cap_talks.specs.table.Conversations.{is_forward, talk_key, row_of, same_talk}
use Rattle.cap_talks.specs.declared.table.keys.PackedKey.{PackedKey}
use Rattle.cap_talks.specs.declared.table.rows.RowDelta.{RowDelta}
use Rattle.cap_talks.specs.declared.table.rows.TalkKey.{TalkKey}
use Rattle.cap_talks.specs.declared.table.rows.TalkRow.{TalkRow}
use Rattle.cap_talks.specs.declared.table.units.CountedUnit.{CountedUnit}
use Rattle.cap_talks.specs.declared.table.units.Endpoint.{Endpoint}
use Rattle.cap_talks.proofs.Talking.{same_talk-self, and_true}

number_of_port : (n : ℕ) → port_number (port_of n) ≡ n
number_of_port zero = refl
number_of_port (suc n) = omega arith

port_below : (p : Option ℕ) → IfSome p (λ port. port < 65536) → port_number p < 65537
port_below p h = grind arith

port_of_number : (p : Option ℕ) → port_of (port_number p) ≡ p
port_of_number p = grind arith

-- ---- keys of IPv4 addresses

-- an end's number is that of the end that it is read as
number_of_end : (n : ℕ) → end_number (end_at_number n) ≡ n
number_of_end n = omega (arith, number_of_port (n % 131072), div-add-mod' n 131072)

packed-unpacked : (k : PackedKey) → packed (talk_of_packed k) ≡ k
packed-unpacked k =
    let lesser : end_number (end_at_number (k.lesser / 256)) * 256 + k.lesser % 256 ≡ k.lesser =
    omega (arith, number_of_end (k.lesser / 256), div-add-mod' k.lesser 256) in
    λ i. record { lesser = lesser i; greater = number_of_end k.greater i }

-- and an end is what its number is read as
ipv4-number : (a : Address) (v : Bool) → is_ipv4_end (record { address = a; port = None }) ≡ true
    → Ipv4 (number_of a) ≡ a
ipv4-number (Ipv4 a) v h = refl
ipv4-number (Ipv6 a) v h = absurd (true≢false (sym h))

end_of_number : (end : Endpoint) → IsNarrowEnd end → is_ipv4_end end ≡ true → end_at_number (end_number end) ≡ end
end_of_number end n v =
    let port_fits = port_below end.port n.port in
    let below : port_number end.port < 131072 = omega arith in
    let address : end_number end / 131072 ≡ number_of end.address =
    div-mul-add (number_of end.address) 131072 (port_number end.port) below in
    let port : port_of (end_number end % 131072) ≡ end.port =
    ap port_of (mod-mul-add (number_of end.address) 131072 (port_number end.port) below) ∙ port_of_number end.port in
    let whole : Ipv4 (end_number end / 131072) ≡ end.address = ap Ipv4 address ∙ ipv4-number end.address true v in
    λ i. record { address = whole i; port = port i }

unpacked-packed : (key : TalkKey) → IsNarrow key → is_ipv4_key key ≡ true → talk_of_packed (packed key) ≡ key
unpacked-packed key n v =
    let protocol : (packed key).lesser % 256 ≡ key.protocol =
    mod-mul-add (end_number key.lesser) 256 key.protocol n.protocol in
    let lesser : end_at_number ((packed key).lesser / 256) ≡ key.lesser =
    ap end_at_number (div-mul-add (end_number key.lesser) 256 key.protocol n.protocol)
    ∙ end_of_number key.lesser n.lesser (and_left (is_ipv4_end key.lesser) (is_ipv4_end key.greater) v) in
    let greater =
    end_of_number key.greater n.greater (and_right (is_ipv4_end key.lesser) (is_ipv4_end key.greater) v) in
    λ i. record { protocol = protocol i; lesser = lesser i; greater = greater i }

number-narrow : (a : Address) (port : Option ℕ) → IsNarrowAddress a
    → is_ipv4_end (record { address = a; port = port }) ≡ true → number_of a < 2 ^ 32
number-narrow (Ipv4 a) port n v = n
number-narrow (Ipv6 a) port n v = absurd (true≢false (sym v))

end-narrow : (end : Endpoint) → IsNarrowEnd end → is_ipv4_end end ≡ true → is_end_number (end_number end) ≡ true
end-narrow end n v =
    let port_fits = port_below end.port n.port in
    let below : port_number end.port < 131072 = omega arith in
    let address = div-mul-add (number_of end.address) 131072 (port_number end.port) below in
    let port = mod-mul-add (number_of end.address) 131072 (port_number end.port) below in
    let fits = number-narrow end.address end.port n.address v in
    grind (arith, nat_tests, address, port)

-- no end of IPv4 has the number of a mark
end-small : (n : ℕ) → is_end_number n ≡ true → n < 2 ^ 49
end-small n h = grind (arith, nat_tests)

unmarked : (k : PackedKey) → is_end_number (k.lesser / 256) ≡ true → is_marked k ≡ false
unmarked k h =
    let small = end-small (k.lesser / 256) h in
    grind (arith, nat_tests)

-- ---- other keys

even-or-odd : (n : ℕ) → (n / 2 * 2 + (if n % 2 == 0 then 0 else 1)) ≡ n
even-or-odd n = grind (arith, nat_tests)

network-of-side : (n s : ℕ) (port : Option ℕ)
    → is_ipv4_end (record { address = address_of_side n s; port = port }) ≡ (s % 2 == 0)
network-of-side n s port = grind arith

number-of-side : (n s : ℕ) → number_of (address_of_side n s) ≡ n
number-of-side n s = grind arith

side-of-end : (n s : ℕ) → side_number (end_of_side n s) ≡ s
side-of-end n s =
    ap (λ p. p * 2 + (if is_ipv4_end (end_of_side n s) then 0 else 1)) (number_of_port (s / 2))
    ∙ ap (λ b. s / 2 * 2 + (if b then 0 else 1)) (network-of-side n s (port_of (s / 2)))
    ∙ even-or-odd s

-- three numbers are those of the key that they are read as
pub widened-talk : (w : WideKey) → widened (talk_of_wide w) ≡ w
widened-talk w =
    let sides : side_number (end_of_side w.lesser (w.rest / 256 / 262144)) * 262144
    + side_number (end_of_side w.greater (w.rest / 256 % 262144)) ≡ w.rest / 256 =
    omega (
      arith,
      side-of-end w.lesser (w.rest / 256 / 262144),
      side-of-end w.greater (w.rest / 256 % 262144),
      div-add-mod' (w.rest / 256) 262144,
    ) in
    let rest : (side_number (end_of_side w.lesser (w.rest / 256 / 262144)) * 262144
    + side_number (end_of_side w.greater (w.rest / 256 % 262144))) * 256 + w.rest % 256 ≡ w.rest =
    omega (arith, sides, div-add-mod' w.rest 256) in
    λ i. record {
      lesser = number-of-side w.lesser (w.rest / 256 / 262144) i;
      greater = number-of-side w.greater (w.rest / 256 % 262144) i;
      rest = rest i;
    }

side-half : (p b : ℕ) → b ≤ 1 → (p * 2 + b) / 2 ≡ p
side-half p b h = omega arith

side-low : (p b : ℕ) → b ≤ 1 → (p * 2 + b) % 2 ≡ b
side-low p b h = omega arith

address-of-number : (a : Address) (p : ℕ) → address_of_side (number_of a)
    (p * 2 + (if is_ipv4_end (record { address = a; port = None }) then 0 else 1)) ≡ a
address-of-number (Ipv4 a) p =
    ap (λ (n : ℕ). if n == 0 then Ipv4 a else Ipv6 a) (side-low p 0 (omega arith))
address-of-number (Ipv6 a) p =
    ap (λ (n : ℕ). if n == 0 then Ipv4 a else Ipv6 a) (side-low p 1 (omega arith))

bit-small : (b : Bool) → (if b then 0 else 1) ≤ 1
bit-small true = omega arith
bit-small false = omega arith

end-of-number : (end : Endpoint) → end_of_side (number_of end.address) (side_number end) ≡ end
end-of-number end =
    let port : port_of (side_number end / 2) ≡ end.port =
    ap port_of (side-half (port_number end.port) (if is_ipv4_end end then 0 else 1) (bit-small (is_ipv4_end end)))
    ∙ port_of_number end.port in
    λ i. record { address = address-of-number end.address (port_number end.port) i; port = port i }

side-small : (end : Endpoint) → IsNarrowEnd end → side_number end < 262144
side-small end n = omega (arith, port_below end.port n.port, bit-small (is_ipv4_end end))

-- and a key is what its three numbers are read as
pub talk-widened : (key : TalkKey) → IsNarrow key → talk_of_wide (widened key) ≡ key
talk-widened key n =
    let sides = side_number key.lesser * 262144 + side_number key.greater in
    let small = side-small key.greater n.greater in
    let protocol : (widened key).rest % 256 ≡ key.protocol = mod-mul-add sides 256 key.protocol n.protocol in
    let both : (widened key).rest / 256 ≡ sides = div-mul-add sides 256 key.protocol n.protocol in
    let high : (widened key).rest / 256 / 262144 ≡ side_number key.lesser =
    ap (λ m. m / 262144) both ∙ div-mul-add (side_number key.lesser) 262144 (side_number key.greater) small in
    let low : (widened key).rest / 256 % 262144 ≡ side_number key.greater =
    ap (λ m. m % 262144) both ∙ mod-mul-add (side_number key.lesser) 262144 (side_number key.greater) small in
    let lesser = ap (end_of_side (number_of key.lesser.address)) high ∙ end-of-number key.lesser in
    let greater = ap (end_of_side (number_of key.greater.address)) low ∙ end-of-number key.greater in
    λ i. record { protocol = protocol i; lesser = lesser i; greater = greater i }

side-narrow : (a : Address) (p : ℕ) → p < 65537 → IsNarrowAddress a → is_side (number_of a)
    (p * 2 + (if is_ipv4_end (record { address = a; port = None }) then 0 else 1)) ≡ true
side-narrow (Ipv4 a) p few n = grind (arith, nat_tests, side-half p 0, side-low p 0)
side-narrow (Ipv6 a) p few n = grind (arith, nat_tests, side-half p 1, side-low p 1)

pub widened-wide : (key : TalkKey) → IsNarrow key → is_ipv4_key key ≡ false → is_wide (widened key) ≡ true
widened-wide key n v =
    let sides = side_number key.lesser * 262144 + side_number key.greater in
    let small = side-small key.greater n.greater in
    let both : (widened key).rest / 256 ≡ sides = div-mul-add sides 256 key.protocol n.protocol in
    let high : (widened key).rest / 256 / 262144 ≡ side_number key.lesser =
    ap (λ m. m / 262144) both ∙ div-mul-add (side_number key.lesser) 262144 (side_number key.greater) small in
    let low : (widened key).rest / 256 % 262144 ≡ side_number key.greater =
    ap (λ m. m % 262144) both ∙ mod-mul-add (side_number key.lesser) 262144 (side_number key.greater) small in
    let lesser : is_side (number_of key.lesser.address) ((widened key).rest / 256 / 262144) ≡ true =
    ap (is_side (number_of key.lesser.address)) high
    ∙ side-narrow key.lesser.address (port_number key.lesser.port) (port_below key.lesser.port n.lesser.port)
    n.lesser.address in
    let greater : is_side (number_of key.greater.address) ((widened key).rest / 256 % 262144) ≡ true =
    ap (is_side (number_of key.greater.address)) low
    ∙ side-narrow key.greater.address (port_number key.greater.port) (port_below key.greater.port n.greater.port)
    n.greater.address in
    let not_ipv4 : not (is_ipv4_key (talk_of_wide (widened key))) ≡ true =
    ap (λ k. not (is_ipv4_key k)) (talk-widened key n) ∙ ap not v in
    grind (arith, lesser, greater, not_ipv4)

-- ---- keys known

same_wide-is : (a b : WideKey) → same_wide a b ≡ true → a ≡ b
same_wide-is a b h =
    let rest = and_right (a.lesser == b.lesser) ((a.greater == b.greater) && (a.rest == b.rest)) h in
    let lesser = eqb-true a.lesser b.lesser
    (and_left (a.lesser == b.lesser) ((a.greater == b.greater) && (a.rest == b.rest)) h) in
    let greater = eqb-true a.greater b.greater (and_left (a.greater == b.greater) (a.rest == b.rest) rest) in
    let last = eqb-true a.rest b.rest (and_right (a.greater == b.greater) (a.rest == b.rest) rest) in
    λ i. record { lesser = lesser i; greater = greater i; rest = last i }

same_wide-self : (a : WideKey) → same_wide a a ≡ true
same_wide-self a =
    and_true (a.lesser == a.lesser) ((a.greater == a.greater) && (a.rest == a.rest)) (eq-eqb a.lesser a.lesser refl)
    (and_true (a.greater == a.greater) (a.rest == a.rest) (eq-eqb a.greater a.greater refl)
    (eq-eqb a.rest a.rest refl))

-- a key and those behind it
known-first : (k : WideKey) (known : List WideKey) → are_known (k ∷ known) ≡ true → is_wide k ≡ true
known-first k known a = and_left (is_wide k) (not (list_any (same_wide k) known) && are_known known) a

known-apart : (k : WideKey) (known : List WideKey) → are_known (k ∷ known) ≡ true
    → list_any (same_wide k) known ≡ false
known-apart k known a =
    negated (list_any (same_wide k) known) (and_left (not (list_any (same_wide k) known)) (are_known known)
    (and_right (is_wide k) (not (list_any (same_wide k) known) && are_known known) a))
  where
    negated : (b : Bool) → not b ≡ true → b ≡ false
    negated false h = refl
    negated true h = sym h

known-rest : (k : WideKey) (known : List WideKey) → are_known (k ∷ known) ≡ true → are_known known ≡ true
known-rest k known a =
    and_right (not (list_any (same_wide k) known)) (are_known known)
    (and_right (is_wide k) (not (list_any (same_wide k) known) && are_known known) a)

none-some : {A : Type 0} (a : A) → ◌≡◌ {A = Option A} None (Some a) → ⊥
none-some a h = true≢false (sym (ap is_some h))

same-some : {A : Type 0} (a b : A) → ◌≡◌ {A = Option A} (Some a) (Some b) → a ≡ b
same-some a b h = ap (λ o. option_map_or (λ x. x) o a) h

-- a key at a place is among them
at-among : (known : List WideKey) (place : ℕ) (w : WideKey) → slice_get known place ≡ Some w
    → list_any (same_wide w) known ≡ true
at-among [] place w h = absurd (none-some w h)
at-among (k ∷ known) zero w h =
    ap (λ b. b || list_any (same_wide w) known)
    (subst (λ x. same_wide w x ≡ true) (sym (same-some k w h)) (same_wide-self w))
at-among (k ∷ known) (suc place) w h = either (same_wide w k) (list_any (same_wide w) known) (at-among known place w h)
  where
    either : (a b : Bool) → b ≡ true → (a || b) ≡ true
    either true b h = refl
    either false b h = h

pub at-wide : (known : List WideKey) (place : ℕ) (w : WideKey) → are_known known ≡ true → slice_get known place ≡ Some w
    → is_wide w ≡ true
at-wide [] place w a h = absurd (none-some w h)
at-wide (k ∷ known) zero w a h = ap is_wide (sym (same-some k w h)) ∙ known-first k known a
at-wide (k ∷ known) (suc place) w a h = at-wide known place w (known-rest k known a) h

-- and at one place alone
twice : (k : WideKey) (known : List WideKey) (place : ℕ) (w : WideKey) → are_known (k ∷ known) ≡ true
    → ◌≡◌ {A = Option WideKey} (Some k) (Some w) → slice_get known place ≡ Some w → ⊥
twice k known place w a first at =
    true≢false (sym (at-among known place w at)
    ∙ subst (λ x. list_any (same_wide x) known ≡ false) (same-some k w first) (known-apart k known a))

same-place : (known : List WideKey) (i j : ℕ) (w : WideKey) → are_known known ≡ true → slice_get known i ≡ Some w
    → slice_get known j ≡ Some w → i ≡ j
same-place [] i j w a h e = absurd (none-some w h)
same-place (k ∷ known) zero zero w a h e = refl
same-place (k ∷ known) zero (suc j) w a h e = absurd (twice k known j w a h e)
same-place (k ∷ known) (suc i) zero w a h e = absurd (twice k known i w a e h)
same-place (k ∷ known) (suc i) (suc j) w a h e = ap suc (same-place known i j w (known-rest k known a) h e)

there : {A : Type 0} (xs : List A) (place : ℕ) → nat_lt place (length xs) ≡ true → is_some (slice_get xs place) ≡ true
there [] place h = absurd (true≢false (sym h ∙ grind (arith, nat_tests)))
there (x ∷ xs) zero h = refl
there (x ∷ xs) (suc place) h = there xs place (grind (arith, nat_tests))

other-wide : (a b : WideKey) → same_wide a b ≡ false → same_wide b a ≡ false
other-wide a b h = by (same_wide b a) refl
  where
    by : (t : Bool) → same_wide b a ≡ t → t ≡ false
    by false e = refl
    by true e =
        absurd (true≢false (sym (same_wide-self a) ∙ subst (λ k. same_wide a k ≡ false) (same_wide-is b a e) h))

-- one more
known-more : (known : List WideKey) (w : WideKey) → are_known known ≡ true → is_wide w ≡ true
    → list_any (same_wide w) known ≡ false → are_known (known ++ w ∷ []) ≡ true
known-more [] w a wide none = ap (λ b. b && (true && true)) wide
known-more (k ∷ known) w a wide none =
    let apart : list_any (same_wide k) (known ++ w ∷ []) ≡ false =
    list_any-append (same_wide k) known (w ∷ [])
    ∙ neither (list_any (same_wide k) known) (same_wide k w) (known-apart k known a)
    (other-wide w k (left (same_wide w k) (list_any (same_wide w) known) none)) in
    and_true (is_wide k) (not (list_any (same_wide k) (known ++ w ∷ [])) && are_known (known ++ w ∷ []))
    (known-first k known a)
    (and_true (not (list_any (same_wide k) (known ++ w ∷ []))) (are_known (known ++ w ∷ [])) (ap not apart)
    (known-more known w (known-rest k known a) wide (right (same_wide w k) (list_any (same_wide w) known) none)))
  where
    left : (a b : Bool) → (a || b) ≡ false → a ≡ false
    left true b h = h
    left false b h = refl

    right : (a b : Bool) → (a || b) ≡ false → b ≡ false
    right true b h = absurd (true≢false h)
    right false b h = h

    neither : (a b : Bool) → a ≡ false → b ≡ false → (a || (b || false)) ≡ false
    neither a b x y = ap (λ c. c || (b || false)) x ∙ ap (λ c. c || false) y

-- ---- keys of a table

same_packed-is : (a b : PackedKey) → same_packed a b ≡ true → a ≡ b
same_packed-is a b h =
    let lesser = eqb-true a.lesser b.lesser (and_left (a.lesser == b.lesser) (a.greater == b.greater) h) in
    let greater = eqb-true a.greater b.greater (and_right (a.lesser == b.lesser) (a.greater == b.greater) h) in
    λ i. record { lesser = lesser i; greater = greater i }

same_packed-self : (a : PackedKey) → same_packed a a ≡ true
same_packed-self a = and_true (a.lesser == a.lesser) (a.greater == a.greater) (eq-eqb a.lesser a.lesser refl)
    (eq-eqb a.greater a.greater refl)

-- what a marked key is read as
read-marked : (known : List WideKey) (k : PackedKey) → is_marked k ≡ true → is_packed known k ≡ true
    → (w : WideKey) × (slice_get known k.greater ≡ Some w) × (unpacked known k ≡ talk_of_wide w)
read-marked known k m p = by (slice_get known k.greater) refl
  where
    by : (o : Option WideKey) → slice_get known k.greater ≡ o
        → (w : WideKey) × (slice_get known k.greater ≡ Some w) × (unpacked known k ≡ talk_of_wide w)
    by None e =
        let within : nat_lt k.greater (length known) ≡ true =
        sym (ap (λ (b : Bool). if b then nat_lt k.greater (length known)
        else is_end_number (k.lesser / 256) && is_end_number k.greater) m) ∙ p in
        absurd (true≢false (sym (there known k.greater within) ∙ ap is_some e))
    by (Some w) e = (
      w,
      e,
      ap (λ (b : Bool). if b then option_map_or talk_of_wide (slice_get known k.greater) no_talk
          else talk_of_packed k) m ∙ ap (λ o. option_map_or talk_of_wide o no_talk) e,
    )

read-plain : (known : List WideKey) (k : PackedKey) → is_marked k ≡ false → unpacked known k ≡ talk_of_packed k
read-plain known k m = ap (λ (b : Bool). if b then option_map_or talk_of_wide (slice_get known k.greater) no_talk
    else talk_of_packed k) m

-- keys that are read as one are one
same-marked : (known : List WideKey) (a b : PackedKey) → are_known known ≡ true → is_marked a ≡ true
    → is_marked b ≡ true → is_packed known a ≡ true → is_packed known b ≡ true
    → unpacked known a ≡ unpacked known b → a ≡ b
same-marked known a b all m n p q is =
    let (v, at, one) = read-marked known a m p in
    let (w, there, other) = read-marked known b n q in
    let wide : v ≡ w =
    sym (widened-talk v) ∙ ap widened (sym one ∙ is ∙ other) ∙ widened-talk w in
    let lesser : a.lesser ≡ b.lesser = eqb-true a.lesser mark m ∙ sym (eqb-true b.lesser mark n) in
    let greater = same-place known a.greater b.greater w all (at ∙ ap Some wide) there in
    λ i. record { lesser = lesser i; greater = greater i }

same-plain : (known : List WideKey) (a b : PackedKey) → is_marked a ≡ false → is_marked b ≡ false
    → unpacked known a ≡ unpacked known b → a ≡ b
same-plain known a b m n is =
    sym (packed-unpacked a) ∙ ap packed (sym (read-plain known a m) ∙ is ∙ read-plain known b n) ∙ packed-unpacked b

-- a marked key isn't of IPv4, and any other is
wide-read : (known : List WideKey) (k : PackedKey) → are_known known ≡ true → is_marked k ≡ true
    → is_packed known k ≡ true → is_ipv4_key (unpacked known k) ≡ false
wide-read known k all m p =
    let (w, at, one) = read-marked known k m p in
    let wide = at-wide known k.greater w all at in
    ap is_ipv4_key one ∙ grind (arith, wide)

plain-read : (known : List WideKey) (k : PackedKey) → is_marked k ≡ false → is_ipv4_key (unpacked known k) ≡ true
plain-read known k m = ap is_ipv4_key (read-plain known k m)

unpacked-one : (known : List WideKey) (a b : PackedKey) → are_known known ≡ true → is_packed known a ≡ true
    → is_packed known b ≡ true → unpacked known a ≡ unpacked known b → a ≡ b
unpacked-one known a b all p q is = by (is_marked a) (is_marked b) refl refl
  where
    by : (m n : Bool) → is_marked a ≡ m → is_marked b ≡ n → a ≡ b
    by true true m n = same-marked known a b all m n p q is
    by false false m n = same-plain known a b m n is
    by true false m n =
        absurd (true≢false (sym (plain-read known b n) ∙ ap is_ipv4_key (sym is) ∙ wide-read known a all m p))
    by false true m n =
        absurd (true≢false (sym (plain-read known a m) ∙ ap is_ipv4_key is ∙ wide-read known b all n q))

-- keys are the same if they are when packed
same-packed : (known : List WideKey) (a b : PackedKey) → are_known known ≡ true → is_packed known a ≡ true
    → is_packed known b ≡ true → same_packed a b ≡ same_talk (unpacked known a) (unpacked known b)
same-packed known a b all p q = by (same_packed a b) (same_talk (unpacked known a) (unpacked known b)) refl refl
  where
    by : (s t : Bool) → same_packed a b ≡ s → same_talk (unpacked known a) (unpacked known b) ≡ t → s ≡ t
    by true true e f = refl
    by false false e f = refl
    by true false e f =
        let is = ap (unpacked known) (same_packed-is a b e) in
        absurd (true≢false (sym (same_talk-self (unpacked known a))
        ∙ subst (λ w. same_talk (unpacked known a) w ≡ false) (sym is) f))
    by false true e f =
        let is = unpacked-one known a b all p q (same_talk-is (unpacked known a) (unpacked known b) f) in
        absurd (true≢false (sym (same_packed-self a) ∙ subst (λ w. same_packed a w ≡ false) (sym is) e))

-- ---- tables

first-packed : (known : List WideKey) (e : PackedKey × TalkRow) (es : List (PackedKey × TalkRow))
    → are_packed known (e ∷ es) ≡ true → is_packed known e.0 ≡ true
first-packed known e es a = and_left (is_packed known e.0) (are_packed known es) a

rest-packed : (known : List WideKey) (e : PackedKey × TalkRow) (es : List (PackedKey × TalkRow))
    → are_packed known (e ∷ es) ≡ true → are_packed known es ≡ true
rest-packed known e es a = and_right (is_packed known e.0) (are_packed known es) a

-- A table of packed keys, as the conversations that it is.
module _ (known : List WideKey) (all : are_known known ≡ true) (k : PackedKey) (p : is_packed known k ≡ true) where
  pub lookup-packed : (es : List (PackedKey × TalkRow)) → are_packed known es ≡ true
      → lookup (same_packed k) es ≡ lookup (same_talk (unpacked known k)) (unpacked_talks known es)
  lookup-packed [] a = refl
  lookup-packed (e ∷ es) a =
      λ i. cond (same-packed known k e.0 all p (first-packed known e es a) i) (Some e.1)
      (lookup-packed es (rest-packed known e es a) i)

  pub insert-packed : (row : TalkRow) (es : List (PackedKey × TalkRow)) → are_packed known es ≡ true
      → unpacked_talks known (insert_entry same_packed es k row)
      ≡ insert_entry same_talk (unpacked_talks known es) (unpacked known k) row
  insert-packed row [] a = refl
  insert-packed row (e ∷ es) a =
      pushed (same_packed k e.0)
      ∙ (λ i. cond (same-packed known k e.0 all p (first-packed known e es a) i)
      ((unpacked known e.0, row) ∷ unpacked_talks known es)
      (unpacked_talk known e ∷ insert-packed row es (rest-packed known e es a) i))
    where
      pushed : (b : Bool)
          → unpacked_talks known (cond b ((e.0, row) ∷ es) (e ∷ insert_entry same_packed es k row))
          ≡ cond b ((unpacked known e.0, row) ∷ unpacked_talks known es)
          (unpacked_talk known e ∷ unpacked_talks known (insert_entry same_packed es k row))
      pushed true = refl
      pushed false = refl

  pub insert-are_packed : (row : TalkRow) (es : List (PackedKey × TalkRow)) → are_packed known es ≡ true
      → are_packed known (insert_entry same_packed es k row) ≡ true
  insert-are_packed row [] a = grind arith
  insert-are_packed row (e ∷ es) a = grind (arith, insert-are_packed row es)

values-packed : (known : List WideKey) (es : List (PackedKey × TalkRow))
    → values_of (unpacked_talks known es) ≡ values_of es
values-packed known [] = refl
values-packed known (e ∷ es) = ap (λ rows. e.1 ∷ rows) (values-packed known es)

pub set-are_packed : (known : List WideKey) (es : List (PackedKey × TalkRow)) (place : ℕ) (row : TalkRow)
    → are_packed known (set_value_at es place row) ≡ are_packed known es
set-are_packed known [] place row = refl
set-are_packed known (e ∷ es) zero row = refl
set-are_packed known (e ∷ es) (suc place) row =
    ap (λ b. is_packed known e.0 && b) (set-are_packed known es place row)

pub get-packed : (known : List WideKey) (es : List (PackedKey × TalkRow)) (place : ℕ)
    → slice_get (unpacked_talks known es) place ≡ option_map (unpacked_talk known) (slice_get es place)
get-packed known [] place = refl
get-packed known (e ∷ es) zero = refl
get-packed known (e ∷ es) (suc place) = get-packed known es place

pub key-packed : (known : List WideKey) (es : List (PackedKey × TalkRow)) (place : ℕ) (key : PackedKey) (row : TalkRow)
    → are_packed known es ≡ true → slice_get es place ≡ Some (key, row) → is_packed known key ≡ true
key-packed known [] place key row a h = grind arith
key-packed known (e ∷ es) zero key row a h = grind arith
key-packed known (e ∷ es) (suc place) key row a h = grind (arith, key-packed known es place key row)

-- the row at a place is one of a conversation, by what its key finds
pub row-in : (known : List WideKey) (es : List (PackedKey × TalkRow)) (place : ℕ)
    → row_in (unpacked_talks known es) place ≡ row_in es place
row-in known es place = ap (λ rows. or_empty (slice_get rows place)) (values-packed known es)

-- ---- more keys known

more-get : (known more : List WideKey) (place : ℕ) → nat_lt place (length known) ≡ true
    → slice_get (known ++ more) place ≡ slice_get known place
more-get [] more place h = absurd (true≢false (sym h ∙ grind (arith, nat_tests)))
more-get (k ∷ known) more zero h = refl
more-get (k ∷ known) more (suc place) h = more-get known more place (grind (arith, nat_tests))

more-long : (known : List WideKey) (w : WideKey) (place : ℕ) → nat_lt place (length known) ≡ true
    → nat_lt place (length (known ++ w ∷ [])) ≡ true
more-long known w place h = grind (arith, nat_tests, length-append known (w ∷ []))

more-packed : (known : List WideKey) (w : WideKey) (k : PackedKey) → is_packed known k ≡ true
    → is_packed (known ++ w ∷ []) k ≡ true
more-packed known w k p = grind (arith, more-long known w k.greater)

more-unpacked : (known : List WideKey) (w : WideKey) (k : PackedKey) → is_packed known k ≡ true
    → unpacked (known ++ w ∷ []) k ≡ unpacked known k
more-unpacked known w k p = grind (arith, more-get known (w ∷ []) k.greater)

more-are_packed : (known : List WideKey) (w : WideKey) (es : List (PackedKey × TalkRow)) → are_packed known es ≡ true
    → are_packed (known ++ w ∷ []) es ≡ true
more-are_packed known w [] a = refl
more-are_packed known w (e ∷ es) a =
    and_true (is_packed (known ++ w ∷ []) e.0) (are_packed (known ++ w ∷ []) es)
    (more-packed known w e.0 (first-packed known e es a)) (more-are_packed known w es (rest-packed known e es a))

more-talks : (known : List WideKey) (w : WideKey) (es : List (PackedKey × TalkRow)) → are_packed known es ≡ true
    → unpacked_talks (known ++ w ∷ []) es ≡ unpacked_talks known es
more-talks known w [] a = refl
more-talks known w (e ∷ es) a =
    λ i. (more-unpacked known w e.0 (first-packed known e es a) i, e.1)
    ∷ more-talks known w es (rest-packed known e es a) i

-- if the same keys are known, or one more
pub grown-packed : (old new : List WideKey) (w : WideKey) (es : List (PackedKey × TalkRow)) → GrowsBy old new w
    → are_packed old es ≡ true → are_packed new es ≡ true
grown-packed old new w es (inl same) a = ap (λ known. are_packed known es) same ∙ a
grown-packed old new w es (inr more) a = ap (λ known. are_packed known es) more ∙ more-are_packed old w es a

pub grown-talks : (old new : List WideKey) (w : WideKey) (es : List (PackedKey × TalkRow)) → GrowsBy old new w
    → are_packed old es ≡ true → unpacked_talks new es ≡ unpacked_talks old es
grown-talks old new w es (inl same) a = ap (λ known. unpacked_talks known es) same
grown-talks old new w es (inr more) a = ap (λ known. unpacked_talks known es) more ∙ more-talks old w es a

-- a key that isn't known has no row
unknown-key : (known : List WideKey) (k : PackedKey) (key : TalkKey) → are_known known ≡ true
    → is_packed known k ≡ true → is_ipv4_key key ≡ false → list_any (same_wide (widened key)) known ≡ false
    → same_talk key (unpacked known k) ≡ false
unknown-key known k key all p v none = by (same_talk key (unpacked known k)) refl (is_marked k) refl
  where
    by : (t : Bool) → same_talk key (unpacked known k) ≡ t → (m : Bool) → is_marked k ≡ m → t ≡ false
    by false e m f = refl
    by true e false f =
        let is = same_talk-is key (unpacked known k) e in
        absurd (true≢false (sym (plain-read known k f) ∙ ap is_ipv4_key (sym is) ∙ v))
    by true e true f =
        let is = same_talk-is key (unpacked known k) e in
        let (w, at, one) = read-marked known k f p in
        let wide : widened key ≡ w = ap widened (is ∙ one) ∙ widened-talk w in
        absurd (true≢false (sym (at-among known k.greater w at)
        ∙ subst (λ x. list_any (same_wide x) known ≡ false) wide none))

pub unknown-none : (known : List WideKey) (es : List (PackedKey × TalkRow)) (key : TalkKey) → are_known known ≡ true
    → are_packed known es ≡ true → is_ipv4_key key ≡ false → list_any (same_wide (widened key)) known ≡ false
    → lookup (same_talk key) (unpacked_talks known es) ≡ None
unknown-none known [] key all a v none = refl
unknown-none known (e ∷ es) key all a v none =
    ap (λ b. cond b (Some e.1) (lookup (same_talk key) (unpacked_talks known es)))
    (unknown-key known e.0 key all (first-packed known e es a) v none)
    ∙ unknown-none known es key all (rest-packed known e es a) v none

pub refused-unknown : (known : List WideKey) (es : List (PackedKey × TalkRow)) (key : TalkKey) → are_known known ≡ true
    → are_packed known es ≡ true → is_ipv4_key key ≡ false → list_any (same_wide (widened key)) known ≡ false
    → not (nat_lt (length es) talk_limit) ≡ is_refused talk_limit (unpacked_talks known es) key
refused-unknown known es key all a v none =
    (λ i. not (nat_lt (sym (length-map es (unpacked_talk known)) i) talk_limit))
    ∙ ap (λ (o : Option TalkRow). not (is_some o) && not (nat_lt (length (unpacked_talks known es)) talk_limit))
    (sym (unknown-none known es key all a v none))

-- ---- the key of a unit

pub key-of-ipv4 : (known : List WideKey) (unit : CountedUnit) (it : PackedKey × Bool) → it.0 ≡ packed (talk_key unit)
    → is_ipv4_key (talk_key unit) ≡ true → IsNarrow (talk_key unit) → it.1 ≡ is_forward unit → IsKeyOf known unit it
key-of-ipv4 known unit it is v n way =
    let key = talk_key unit in
    let lesser : is_end_number ((packed key).lesser / 256) ≡ true =
    ap is_end_number (div-mul-add (end_number key.lesser) 256 key.protocol n.protocol)
    ∙ end-narrow key.lesser n.lesser (and_left (is_ipv4_end key.lesser) (is_ipv4_end key.greater) v) in
    let greater =
    end-narrow key.greater n.greater (and_right (is_ipv4_end key.lesser) (is_ipv4_end key.greater) v) in
    let plain : is_marked (packed key) ≡ false = unmarked (packed key) lesser in
    let sound : is_packed known (packed key) ≡ true =
    ap (λ (b : Bool). if b then nat_lt (packed key).greater (length known)
    else is_end_number ((packed key).lesser / 256) && is_end_number (packed key).greater) plain
    ∙ and_true (is_end_number ((packed key).lesser / 256)) (is_end_number (packed key).greater) lesser greater in
    record {
      packed = ap (is_packed known) is ∙ sound;
      key = ap (unpacked known) is ∙ read-plain known (packed key) plain ∙ unpacked-packed key n v;
      forward = way;
    }

pub key-of-known : (known : List WideKey) (unit : CountedUnit) (w : WideKey) (place : ℕ) (it : PackedKey × Bool)
    → it.0 ≡ record { lesser = mark; greater = place } → slice_get known place ≡ Some w → w ≡ widened (talk_key unit)
    → nat_lt place (length known) ≡ true → IsNarrow (talk_key unit) → it.1 ≡ is_forward unit → IsKeyOf known unit it
key-of-known known unit w place it is at wide within n way = record {
  packed = ap (is_packed known) is ∙ within;
  key =
      ap (unpacked known) is ∙ ap (λ o. option_map_or talk_of_wide o no_talk) at ∙ ap talk_of_wide wide
      ∙ talk-widened (talk_key unit) n;
  forward = way;
}

-- a key that is found among those known
get-or : (known : List WideKey) (place : ℕ) (w : WideKey) → place < length known
    → slice_get known place ≡ Some (get_or known place w)
get-or [] place w h = absurd (omega (arith, h))
get-or (k ∷ known) zero w h = refl
get-or (k ∷ known) (suc place) w h = get-or known place w (omega (arith, h))

pub found-at : (known : List WideKey) (w : WideKey) (place : ℕ) → Some place ≡ position (same_wide w) known
    → slice_get known place ≡ Some w
found-at known w place h =
    let at = position-Some (same_wide w) known place w (sym h) in
    get-or known place w at.0 ∙ ap Some (sym (same_wide-is w (get_or known place w) at.1))

-- and one that is known from now on
pub stored-at : (known : List WideKey) (w k : WideKey) (place : ℕ) → slice_get known place ≡ Some k
    → same_wide w k ≡ true → slice_get known place ≡ Some w
stored-at known w k place at same = at ∙ ap Some (sym (same_wide-is w k same))

pub within-bool : (place size : ℕ) → place < size → nat_lt place size ≡ true
within-bool place size h = grind (arith, nat_tests)

pub known-grown : (old new : List WideKey) (w : WideKey) → are_known old ≡ true → is_wide w ≡ true
    → list_any (same_wide w) old ≡ false → new ≡ old ++ w ∷ [] → are_known new ≡ true
known-grown old new w a wide none is = ap are_known is ∙ known-more old w a wide none

-- what an answer says, of either outcome
pub by-result : {A B C : Type 0} (r : Result (Unit {0}) ConversationsFault) → OnOk r A → OnErr r B → (A → C) → (B → C)
    → C
by-result (Ok x) a b f g = f a
by-result (Err e) a b f g = g b

pub if-err : {A : Type 0} (r : Result (Unit {0}) ConversationsFault) → A → OnErr r A
if-err (Ok x) a = tt
if-err (Err e) a = a

pub on-err : {A B : Type 0} (r : Result (Unit {0}) ConversationsFault) → OnErr r A → (A → B) → OnErr r B
on-err (Ok x) a f = tt
on-err (Err e) a f = f a

-- ---- what a unit adds

module _ (known : List WideKey) (all : are_known known ≡ true) (key : PackedKey) (p : is_packed known key ≡ true) where
  pub at-packed : (es : List (PackedKey × TalkRow)) (place : ℕ) → are_packed known es ≡ true
      → slice_get (values_of es) place ≡ lookup (same_packed key) es
      → row_in es place ≡ row_at (unpacked known key) (unpacked_talks known es)
  at-packed es place a row = ap or_empty (row ∙ lookup-packed known all key p es a)

  -- it is added to its conversation's row where that stands
  pub there-more : (es new : List (PackedKey × TalkRow)) (place : ℕ) (delta : RowDelta) → are_packed known es ≡ true
      → Some place ≡ position (same_packed key) (keys_of es)
      → slice_get (values_of es) place ≡ lookup (same_packed key) es
      → new ≡ set_value_at es place (with_delta (row_in es place) delta)
      → unpacked_talks known new ≡ with_talk_delta (unpacked_talks known es) (unpacked known key) delta
  there-more es new place delta a at row is =
      let row_is = at-packed es place a row in
      let there = insert_entry-first same_packed key (with_delta (row_in es place) delta) es place
      (Found-position (same_packed key) es place (sym at)).first in
      ap (unpacked_talks known) (is ∙ sym there)
      ∙ insert-packed known all key p (with_delta (row_in es place) delta) es a
      ∙ (λ i. insert_entry same_talk (unpacked_talks known es) (unpacked known key) (with_delta (row_is i) delta))

  -- or to an empty row, if it is the first of a conversation
  pub new-more : (es new : List (PackedKey × TalkRow)) (delta : RowDelta) → are_packed known es ≡ true
      → false ≡ is_some (lookup (same_packed key) es)
      → new ≡ insert_entry same_packed es key (with_delta (row_of []) delta)
      → unpacked_talks known new ≡ with_talk_delta (unpacked_talks known es) (unpacked known key) delta
  new-more es new delta a none is =
      ap (unpacked_talks known) is ∙ insert-packed known all key p (with_delta (row_of []) delta) es a
      ∙ ap (λ row. insert_entry same_talk (unpacked_talks known es) (unpacked known key) (with_delta row delta))
      (empty_row (lookup (same_talk (unpacked known key)) (unpacked_talks known es))
      (none ∙ ap is_some (lookup-packed known all key p es a)))
    where
      empty_row : (o : Option TalkRow) → false ≡ is_some o → row_of [] ≡ or_empty o
      empty_row None h = refl
      empty_row (Some row) h = absurd (true≢false (sym h))

  -- whether it is one too many
  pub refused-there : (es : List (PackedKey × TalkRow)) → are_packed known es ≡ true
      → true ≡ is_some (lookup (same_packed key) es)
      → false ≡ is_refused talk_limit (unpacked_talks known es) (unpacked known key)
  refused-there es a some =
      ap (λ b. not b && not (nat_lt (length (unpacked_talks known es)) talk_limit))
      (some ∙ ap is_some (lookup-packed known all key p es a))

  pub refused-new : (es : List (PackedKey × TalkRow)) → are_packed known es ≡ true
      → false ≡ is_some (lookup (same_packed key) es)
      → not (nat_lt (length es) talk_limit) ≡ is_refused talk_limit (unpacked_talks known es) (unpacked known key)
  refused-new es a none =
      (λ i. not (nat_lt (sym (length-map es (unpacked_talk known)) i) talk_limit))
      ∙ ap (λ b. not b && not (nat_lt (length (unpacked_talks known es)) talk_limit))
      (none ∙ ap is_some (lookup-packed known all key p es a))
