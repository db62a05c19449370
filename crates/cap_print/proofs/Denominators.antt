-- The numbers of units in a second that are put as texts.
use Rattle.std.proofs.Common.{◌≡◌, codes, decimal, refl}
use Rattle.std.specs.Fmt.{digits}

pub million : decimal 1000000 ≡ codes "1000000"
unfolding digits
million = refl

pub thousand_million : decimal 1000000000 ≡ codes "1000000000"
unfolding digits
thousand_million = refl
