-- Buffers that grow, and chains of holes whose own bytes stay.
use Rattle.std.proofs.Common.{◌≡◌, ℕ, ◌+◌, ◌<◌, ◌≤◌, Bool, true, List, [], ◌∷◌, length, take, sym, ◌∙◌, subst, arith}
use Rattle.std.proofs.Common.{◌||◌}
use Rattle.std.specs.Prelude.{slice_index}
use Rattle.std.proofs.lemmas.List.{get_or-take}
use Rattle.cap_join.specs.Holes.{Span, is_within, in_hole, word_at, IsChain, Appended}
use Rattle.cap_join.specs.inner.Buffers.{Grown}
use Rattle.cap_join.proofs.Chains.{word_at-same, IsHole-block, in_hole-above}

or_left : (x y : Bool) → x ≡ true → (x || y) ≡ true
or_left x y h = cc

-- a chain stays if the bytes of its holes do
pub IsChain-apart : (xs ys : List ℕ) (low high at : ℕ) (ss : List Span)
    → ((k : ℕ) → in_hole ss k ≡ true → slice_index ys k ≡ slice_index xs k) → IsChain xs low high at ss
    → IsChain ys low high at ss
IsChain-apart xs ys low high at [] same h = h
IsChain-apart xs ys low high at (s ∷ ss) same h =
    grind (arith, IsChain-apart xs ys s.to high (word_at xs (s.from + 4)) ss, IsHole-block, or_left, word_at-same)

-- a chain stays if bytes are added after it
pub IsChain-front : (xs ys : List ℕ) (low high at : ℕ) (ss : List Span)
    → ((k : ℕ) → k < high → slice_index ys k ≡ slice_index xs k) → IsChain xs low high at ss → IsChain ys low high at ss
IsChain-front xs ys low high at ss same chain = grind (arith, IsChain-apart, in_hole-above)

-- a list that begins with n places of another one
pub front_same : (n : ℕ) (xs : List ℕ) (k : ℕ) → k < n → slice_index (take n xs) k ≡ slice_index xs k
front_same n xs k p = get_or-take n xs k 0 p

within_is : (x : Bool) (a b m n i : ℕ) → a ≡ b → m ≡ n → (x || is_within a m i) ≡ (x || is_within b n i)
within_is x a b m n i p q = cc

-- a list that begins with another one, with what follows that as its last hole
pub Grown-appended : (size n hole at : ℕ) (xs ys zs : List ℕ) (ss : List Span) → length xs ≡ n → n ≤ size
    → length ys ≡ size
    → ((k : ℕ) → k < n → slice_index ys k ≡ slice_index xs k)
    → IsChain xs 0 n hole ss
    → ((ss : List Span) → IsChain ys 0 n hole ss → Appended ys ss 0 n at zs)
    → Grown size xs ss at zs
Grown-appended size n hole at xs ys zs ss is h long front chain appends =
    let a = appends ss (IsChain-front xs ys 0 n hole ss front chain) in
    let same : length ys ≡ length zs = sym a.length_is in
    record {
      length_is = omega (arith, a.length_is, long);
      spans = a.spans;
      chain = subst (λ (n : ℕ). IsChain zs 0 n at a.spans) same a.chain;
      holes = λ i. a.holes i ∙ within_is (in_hole ss i) n (length xs) (length ys) (length zs) i (sym is) same;
      kept_bytes = λ i p q. a.kept_bytes i (omega (arith, is)) q ∙ front i (omega (arith, is));
    }
