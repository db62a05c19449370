-- What `list --class` says of a packet, beside the report.
use Rattle.std.proofs.Common.{◌≡◌, ◌∙◌, Bool, List, [], ◌∷◌, map, refl, sym}
use Rattle.cap_class.specs.Taken.{Taken}
use Rattle.cap_laws.proofs.Sums.{lone-law}
use Rattle.cap_laws.specs.Described.{DescribedAlone, DescribedTogether}
use Rattle.cap_talks.proofs.Describing.{described-for}
use Rattle.cap_class.specs.Ipv6.{lone_class_for}
use Rattle.cap_talks.specs.table.Descriptions.{describe_for, described_class}

pub described-alone : DescribedAlone
described-alone = described-for

each : (reads : Bool) (xs : List Taken)
    → map (λ x. lone_class_for reads x.meta x.frame) xs
    ≡ map (λ x. described_class (describe_for reads x.meta x.frame)) xs
each reads [] = refl
each reads (x ∷ xs) = λ i. sym (described-for reads x.meta x.frame) i ∷ each reads xs i

pub described-together : DescribedTogether
described-together reads xs none = lone-law reads xs none ∙ each reads xs
