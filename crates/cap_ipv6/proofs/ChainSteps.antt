-- Extension headers, one at a time.
use Rattle.std.proofs.Common.{◌≡◌, ◌<◌, ◌≤◌, ◌-◌, ◌∙◌, ℕ, zero, suc, List, length, drop, refl, ap, sym, arith}
use Rattle.std.specs.Prelude.{slice_index}
use Rattle.cap_ipv6.specs.Chain.{Led, Place, Says, behind, follows, led, led_by, says, says_fragment, size_at}
use Rattle.cap_ipv6.specs.Chain.{size_of}
use Rattle.cap_ipv6.specs.Seen.{place}
use Rattle.cap_ip.specs.declared.reasons.Reason.{Reason}
use Rattle.cap_ipv6.specs.declared.packets.Ipv6Fragment.{Ipv6Fragment}

-- a header that leads on has at least 8 bytes, lies in the payload, and was captured
pub record Fits (size : ℕ) (p : Place) : Type 0 where
  pub least : 8 ≤ size
  pub left : size ≤ p.left
  pub captured : size ≤ length p.captured

pub least-size : (number len : ℕ) → 8 ≤ size_of number len
unfolding size_of
least-size number len = grind arith

pub fits-fragment : (left : ℕ) (captured : List ℕ) (size : ℕ) → says_fragment left captured ≡ Says.leads size → size ≡ 8
unfolding says_fragment
fits-fragment left captured size is = grind arith

pub fits : (p : Place) (size : ℕ) → says p ≡ Says.leads size → Fits size p
unfolding says size_at
fits p size is = grind (arith, least-size, fits-fragment)

-- each header takes bytes
left-behind : (k : ℕ) (p : Place) (size : ℕ) → Fits size p → p.left < suc k → (behind size p).left < k
unfolding behind
left-behind k p size f few = omega (arith, f.least, f.left)

-- a header more, or fewer, makes no difference if there are as many as bytes
pub led-enough : (n m : ℕ) (p : Place) → p.left < n → p.left < m → led_by n p ≡ led_by m p
led-enough zero m p a b = absurd (omega arith)
led-enough (suc n) zero p a b = absurd (omega arith)
led-enough (suc n) (suc m) p a b = by (says p) refl (λ q x y. led-enough n m q x y)
  where
    by : (s : Says) → says p ≡ s → ((q : Place) → q.left < n → q.left < m → led_by n q ≡ led_by m q)
        → follows (λ size. led_by n (behind size p)) p s ≡ follows (λ size. led_by m (behind size p)) p s
    by Says.ends is on = refl
    by (Says.leads size) is on =
        on (behind size p) (left-behind n p size (fits p size is) a) (left-behind m p size (fits p size is) b)
    by (Says.breaks g) is on = refl
    by (Says.bad why) is on = refl
    by (Says.cut why) is on = refl

-- past a header
pub led-next : (p : Place) (size : ℕ) → says p ≡ Says.leads size → led (behind size p) ≡ led p
unfolding led
led-next p size is =
    led-enough (suc (behind size p).left) p.left (behind size p) (omega arith)
    (left-behind p.left p size (fits p size is) (omega arith))
    ∙ sym (ap (follows (λ k. led_by p.left (behind k p)) p) is)

pub led-behind : (number left size : ℕ) (captured rest : List ℕ) → rest ≡ drop size captured
    → says (place number left captured) ≡ Says.leads size
    → led (place (slice_index captured 0) (left - size) rest) ≡ led (place number left captured)
unfolding behind
led-behind number left size captured rest on is =
    ap (λ bytes. led (place (slice_index captured 0) (left - size) bytes)) on
    ∙ led-next (place number left captured) size is

-- at a place that leads no further
pub led-here : (number left : ℕ) (captured : List ℕ) (s : Says) → says (place number left captured) ≡ s
    → led (place number left captured)
    ≡ follows (λ size. led_by left (behind size (place number left captured))) (place number left captured) s
unfolding led
led-here number left captured s is =
    ap (follows (λ size. led_by left (behind size (place number left captured))) (place number left captured)) is

pub led-ends : (number left : ℕ) (captured : List ℕ) → says (place number left captured) ≡ Says.ends
    → led (place number left captured) ≡ Led.data_of number left captured
led-ends number left captured is = led-here number left captured Says.ends is

pub led-breaks : (number left : ℕ) (captured : List ℕ) (f : Ipv6Fragment)
    → says (place number left captured) ≡ Says.breaks f → led (place number left captured) ≡ Led.fragment f
led-breaks number left captured f is = led-here number left captured (Says.breaks f) is

pub led-bad : (number left : ℕ) (captured : List ℕ) (why : Reason)
    → says (place number left captured) ≡ Says.bad why → led (place number left captured) ≡ Led.bad why
led-bad number left captured why is = led-here number left captured (Says.bad why) is

pub led-cut : (number left : ℕ) (captured : List ℕ) (why : Reason)
    → says (place number left captured) ≡ Says.cut why → led (place number left captured) ≡ Led.cut why
led-cut number left captured why is = led-here number left captured (Says.cut why) is
