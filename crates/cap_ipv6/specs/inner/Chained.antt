-- A packet's extension headers, spelled, and where they lead.
use Rattle.std.specs.Prelude.{◌≡◌, ℕ, List, [], ◌∷◌, ◌++◌, false, true, ◌+◌, ◌*◌, ◌||◌, ◌==◌, All, length}
use Rattle.cap_ipv6.specs.Chain.{Led, is_extension, led}
use Rattle.cap_ipv6.specs.Seen.{place}

-- an extension header of options: its number, how many words of 8 bytes it has beyond the first, and its bytes after
-- the first two (RFC 8200, 4.3 and 4.6)
pub record Options : Type 0 where
  pub number : ℕ
  pub words : ℕ
  pub content : List ℕ

-- 0 hop-by-hop options, 60 destination options, 43 routing, 135 mobility, 139 host identity or 140 shim6, and as long
-- as it says
pub record IsOptions (o : Options) : Type 0 where
  pub extension : is_extension o.number ≡ true
  pub plain : ((o.number == 44) || (o.number == 51)) ≡ false
  pub long : 2 + length o.content ≡ 8 * (o.words + 1)

-- what announces the first of some headers, and what follows them
unfoldable pub first_number : List Options → ℕ → ℕ
first_number [] protocol = protocol
first_number (o ∷ os) protocol = o.number

-- these headers with some data behind them
unfoldable pub chained : List Options → ℕ → List ℕ → List ℕ
chained [] protocol captured = captured
chained (o ∷ os) protocol captured = first_number os protocol ∷ o.words ∷ (o.content ++ chained os protocol captured)

-- Headers of options lead to what follows them: data of that protocol and length, as far as it was captured.
abbrev pub ChainLaw : Type 0
ChainLaw =
    (os : List Options) (protocol left : ℕ) (captured : List ℕ) → All IsOptions os → is_extension protocol ≡ false
    → (missing : ℕ) → left ≡ length captured + missing
    → led (place (first_number os protocol) (length (chained os protocol captured) + missing)
    (chained os protocol captured))
    ≡ Led.data_of protocol left captured
