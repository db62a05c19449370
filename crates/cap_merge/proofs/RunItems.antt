-- The run of several feeds, by its items.
use Rattle.std.proofs.Common.{◌≡◌, List, ◌∷◌, drop, map, refl, arith, Option}
use Rattle.cap_merge.specs.Parts.{Part, merged_feed, run_of, BeginsAt}
use Rattle.cap_merge.specs.Run.{Clocked}
use Rattle.cap_source.specs.Feed.{Item}
use Rattle.cap_time.specs.declared.stamps.Stamp.{Stamp}

-- the items to come are those of the run
pub items-of-run : (ps : List Part) → (merged_feed ps).items ≡ map (λ x. x.item) (run_of ps)
unfolding merged_feed
items-of-run ps = refl

-- the run begins with the first of its items, at the clock at which it begins
pub first-of-run : (xs : List (Clocked Item)) (clock : Option Stamp) (i : Item) (rest : List Item) → BeginsAt clock xs
    → map (λ x. x.item) xs ≡ i ∷ rest
    → xs ≡ record { clock = clock; item = i } ∷ drop 1 xs
first-of-run xs clock i rest b e = grind arith
