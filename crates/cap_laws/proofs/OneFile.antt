-- The run of one file is the file, each item with the greatest time so far.
use Rattle.std.proofs.Common.{◌≡◌, List, [], ◌∷◌, refl, ◌∙◌, ap, Option, None, arith}
use Rattle.std.specs.Prelude.{map}
use Rattle.cap_time.specs.Clock.{later}
use Rattle.cap_merge.specs.Files.{run_of_lists}
use Rattle.cap_merge.specs.Merging.{with_clocks}
use Rattle.cap_merge.specs.inner.MergedList.{merged-next, merged-none}
use Rattle.cap_merge.specs.Parts.{item_time, is_refusal}
use Rattle.cap_source.specs.Times.{meta_time}
use Rattle.cap_merge.specs.Run.{merged, through_first}
use Rattle.cap_source.specs.Feed.{Item, packet, refusal_of}
use Rattle.cap_time.specs.declared.stamps.Stamp.{Stamp}

merged-one : {A : Type 0} (time : A → Option Stamp) (clock : Option Stamp) (items : List A)
    → merged time (record { clock = clock; items = items } ∷ []) ≡ with_clocks time clock items
merged-one time clock [] = merged-none time (record { clock = clock; items = [] } ∷ []) (refl, tt)
merged-one time clock (x ∷ xs) =
    merged-next time [] [] clock x xs (record { below = tt; not_above = tt })
    ∙ ap (λ l. record { clock = later clock (time x); item = x } ∷ l) (merged-one time (later clock (time x)) xs)

-- without a refusal, all of them
all-items : (clock : Option Stamp) (xs : List Item) → refusal_of xs ≡ None
    → map (λ x. x.item) (through_first (λ x. is_refusal x.item) (with_clocks item_time clock xs)) ≡ xs
unfolding refusal_of
all-items clock (packet meta frame ∷ xs) none =
    ap (λ l. packet meta frame ∷ l) (all-items (later clock (meta_time meta)) xs none)
all-items clock xs none = grind arith

-- The run of one file without a refusal has the file's items.
pub run-one : (items : List Item) → refusal_of items ≡ None → run_of_lists (items ∷ []) ≡ items
run-one items none = search (merged-one, all-items)
