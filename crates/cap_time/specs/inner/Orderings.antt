-- What tests of orderings say of them.
use Rattle.std.proofs.Common.{◌≡◌, true, false, Ordering, Less, Equal, arith}
use Rattle.std.specs.Ordering.{is_lt, is_gt, ordering_reverse}

pub is_less : (r : Ordering) → is_lt r ≡ true → r ≡ Less
is_less r h = grind arith

pub not_after : (r : Ordering) → is_lt r ≡ true → is_gt r ≡ false
not_after r h = grind arith

-- what is neither above nor below is equal
pub both_by : (r s : Ordering) → r ≡ ordering_reverse s → is_gt r ≡ false → is_gt s ≡ false → r ≡ Equal
both_by r s e h k = grind arith
