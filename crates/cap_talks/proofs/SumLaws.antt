-- All rows together count each unit once.
use Rattle.std.proofs.Common.{List, [], ◌∷◌, ◌++◌, refl, sym, ap, subst, append_assoc, append-nil, arith}
use Rattle.cap_talks.proofs.RowSums.{frames_in-more, bytes_in-more}
use Rattle.cap_talks.proofs.Talking.{rows-more, frames-more, bytes-more}
use Rattle.cap_talks.specs.table.Rows.{frames_in, bytes_in}
use Rattle.cap_talks.specs.table.Conversations.{rows_of}
use Rattle.cap_talks.specs.inner.table.Laws.{SumLaw}
use Rattle.cap_talks.specs.declared.table.units.CountedUnit.{CountedUnit}

sums-none : SumLaw []
unfolding rows_of
sums-none = record { frames = refl; bytes = refl }

-- one unit more
sums-more : (units : List CountedUnit) (u : CountedUnit) → SumLaw units → SumLaw (units ++ u ∷ [])
sums-more units u s =
    grind (
      arith,
      rows-more,
      frames_in-more,
      frames-more,
      bytes_in-more,
      bytes-more,
      ap frames_in (rows-more units u),
      frames-more units u,
      ap bytes_in (rows-more units u),
      bytes-more units u,
    )

sums-behind : (units rest : List CountedUnit) → SumLaw units → SumLaw (units ++ rest)
sums-behind units [] s = subst SumLaw (sym (append-nil units)) s
sums-behind units (u ∷ rest) s = subst SumLaw (append_assoc units (u ∷ []) rest)
    (sums-behind (units ++ u ∷ []) rest (sums-more units u s))

pub sum_law : (units : List CountedUnit) → SumLaw units
sum_law units = sums-behind [] units sums-none
