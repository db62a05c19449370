-- When two units are of one conversation.
use Rattle.std.proofs.Common.{arith, ◌≡◌, Bool, true, false, cond, not, ◌&&◌, ◌||◌, refl, sym, ap, ◌∙◌, true≢false}
use Rattle.std.proofs.Common.{Ordering}
use Rattle.std.specs.Prelude.{◌==◌}
use Rattle.std.specs.Cmp.{IsTotalOrder}
use Rattle.std.specs.Ordering.{is_gt, ordering_reverse}
use Rattle.std.specs.Cmp.Lexicographic.{options_total}
use Rattle.std.proofs.lemmas.Cmp.{then_total, on_total, nat_cmp_total}
use Rattle.std.proofs.lemmas.Map.Lookups.{CmpEqualImpliesEq}
use Rattle.cap_time.specs.inner.Orderings.{both_by}
use Rattle.cap_talks.proofs.Talking.{same_end-self, and_true}
use Rattle.cap_talks.specs.inner.table.Keys.{same_end-is, and_left, and_right}
use Rattle.cap_talks.specs.inner.table.Laws.{KeyLaw}
use Rattle.cap_talks.specs.table.Conversations.{is_forward, same_end, same_talk}
use Rattle.cap_talks.specs.table.Units.{address_cmp, end_cmp, number_of, version_of}
use Rattle.cap_talks.specs.declared.table.units.Address.TheVariants.{Ipv4, Ipv6}
use Rattle.cap_talks.specs.declared.table.units.Endpoint.{Endpoint}

address_total : IsTotalOrder address_cmp
address_total = then_total (on_total version_of nat_cmp_total) (on_total number_of nat_cmp_total)

exact_addresses : CmpEqualImpliesEq address_cmp
exact_addresses (Ipv4 a) (Ipv4 b) h = grind arith
exact_addresses (Ipv4 a) (Ipv6 b) h = grind arith
exact_addresses (Ipv6 a) (Ipv4 b) h = grind arith
exact_addresses (Ipv6 a) (Ipv6 b) h = grind arith

end_total : IsTotalOrder end_cmp
end_total = then_total (on_total (λ e. e.address) address_total) (on_total (λ e. e.port) (options_total nat_cmp_total))

-- ends that compare alike are one
exact_ends : CmpEqualImpliesEq end_cmp
exact_ends a b h = grind (arith, exact_addresses)

both_greater : (r s : Ordering) → r ≡ ordering_reverse s → is_gt r ≡ true → is_gt s ≡ true → ⊥
both_greater r s e h k = grind arith

upto_of : (b : Bool) → not b ≡ true → b ≡ false
upto_of b h = grind arith

above_of : (b : Bool) → not b ≡ false → b ≡ true
above_of b h = grind arith

left_absorbs : (x y : Bool) → (y ≡ true → x ≡ true) → (x || y) ≡ x
left_absorbs x y h = grind arith

right_absorbs : (x y : Bool) → (x ≡ true → y ≡ true) → (x || y) ≡ y
right_absorbs x y h = grind arith

and_turned : (x y : Bool) → (x && y) ≡ (y && x)
and_turned x y = grind arith

same_of : (a b : Endpoint) → a ≡ b → same_end a b ≡ true
same_of a b e = sym (ap (same_end a) e) ∙ same_end-self a

pub key_law : KeyLaw
key_law a b = by (is_forward a) (is_forward b) refl refl
  where
    p : Bool
    p = a.protocol == b.protocol

    ss : Bool
    ss = same_end a.source b.source

    dd : Bool
    dd = same_end a.destination b.destination

    sd : Bool
    sd = same_end a.source b.destination

    ds : Bool
    ds = same_end a.destination b.source

    -- units that go the same way between the same ends go both forward, or both backward
    alike : (ss && dd) ≡ true → is_forward a ≡ is_forward b
    alike h =
        let s = same_end-is a.source b.source (and_left ss dd h) in
        let d = same_end-is a.destination b.destination (and_right ss dd h) in
        λ i. not (is_gt (end_cmp (s i) (d i)))

    -- the ends of b as those of a, if it goes back
    turned : (sd && ds) ≡ true → is_gt (end_cmp b.source b.destination) ≡ is_gt (end_cmp a.destination a.source)
    turned h =
        let s = same_end-is a.source b.destination (and_left sd ds h) in
        let d = same_end-is a.destination b.source (and_right sd ds h) in
        λ i. is_gt (end_cmp (sym d i) (sym s i))

    -- both go forward, and one goes back: from an end to itself
    to_itself : is_forward a ≡ true → is_forward b ≡ true → (sd && ds) ≡ true → (ss && dd) ≡ true
    to_itself x y h =
        let s = same_end-is a.source b.destination (and_left sd ds h) in
        let d = same_end-is a.destination b.source (and_right sd ds h) in
        let one : a.source ≡ a.destination =
        exact_ends a.source a.destination
        (both_by (end_cmp a.source a.destination) (end_cmp a.destination a.source)
        (end_total.antisymm a.source a.destination)
        (upto_of (is_gt (end_cmp a.source a.destination)) x) (sym (turned h)
        ∙ upto_of (is_gt (end_cmp b.source b.destination)) y)) in
        and_true ss dd (same_of a.source b.source (one ∙ d)) (same_of a.destination b.destination (sym one ∙ s))

    never : is_forward a ≡ false → is_forward b ≡ false → (sd && ds) ≡ true → (dd && ss) ≡ true
    never x y h =
        absurd (both_greater (end_cmp a.source a.destination) (end_cmp a.destination a.source)
        (end_total.antisymm a.source a.destination)
        (above_of (is_gt (end_cmp a.source a.destination)) x) (sym (turned h)
        ∙ above_of (is_gt (end_cmp b.source b.destination)) y))

    by : (x y : Bool) → is_forward a ≡ x → is_forward b ≡ y
        → same_talk (cond x (record { protocol = a.protocol; lesser = a.source; greater = a.destination })
        (record { protocol = a.protocol; lesser = a.destination; greater = a.source }))
        (cond y (record { protocol = b.protocol; lesser = b.source; greater = b.destination })
        (record { protocol = b.protocol; lesser = b.destination; greater = b.source }))
        ≡ (p && ((ss && dd) || (sd && ds)))
    by true true x y = ap (λ t. p && t) (sym (left_absorbs (ss && dd) (sd && ds) (to_itself x y)))
    by true false x y = ap (λ t. p && t)
        (sym (right_absorbs (ss && dd) (sd && ds) (λ h. absurd (true≢false (sym x ∙ alike h ∙ y)))))
    by false true x y =
        ap (λ t. p && t) (and_turned ds sd
        ∙ sym (right_absorbs (ss && dd) (sd && ds) (λ h. absurd (true≢false (sym y ∙ sym (alike h) ∙ x)))))
    by false false x y =
        ap (λ t. p && t) (and_turned dd ss
        ∙ sym (left_absorbs (ss && dd) (sd && ds) (λ h. and_turned ss dd ∙ never x y h)))
