-- What fragments make of the open groups depends on clocks by the order of times alone: fragments that are equal are
-- alike.
use Rattle.std.proofs.Common.{arith, ◌≡◌, List, ◌∷◌}
use Rattle.std.specs.List.{AllZip}
use Rattle.cap_join.specs.inner.EqualClocks.{IsSameEvent, EqualClocksLaw}
use Rattle.cap_join.specs.Fragments.{Piece}
use Rattle.cap_join.specs.History.{Event}
use Rattle.cap_join.proofs.AlikeGroups.{IsAlikeness, IsAlikeEvent, alike-groups}

abbrev IsSame : Piece → Piece → Type 0
IsSame p q = p ≡ q

same-pieces : (ps qs : List Piece) → AllZip IsSame ps qs → ps ≡ qs
same-pieces (p ∷ ps) (q ∷ qs) h = λ i. h.0 i ∷ same-pieces ps qs h.1 i
same-pieces ps qs h = grind arith

same-lists : (ps qs : List (List Piece)) → AllZip (AllZip IsSame) ps qs → ps ≡ qs
same-lists (p ∷ ps) (q ∷ qs) h = λ i. same-pieces p q h.0 i ∷ same-lists ps qs h.1 i
same-lists ps qs h = grind arith

alike : IsAlikeness IsSame
alike = grind (arith, same-pieces)

same-events : (es fs : List Event) → AllZip IsSameEvent es fs → AllZip (IsAlikeEvent IsSame) es fs
same-events (e ∷ es) (f ∷ fs) h = grind (arith, same-events es fs h.1)
same-events es fs h = grind arith

pub same-groups : EqualClocksLaw
same-groups limit es fs h =
    grind (
      arith,
      alike-groups IsSame alike limit es fs (same-events es fs h),
      same-lists,
      alike-groups,
      alike,
      same-events,
      same-pieces,
    )
