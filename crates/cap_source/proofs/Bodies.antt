-- How long the bodies of the known kinds of blocks are, and that no other body is read.
use Rattle.std.proofs.Common.{◌≡◌, ◌≤◌, ◌+◌, ℕ, false, List, Ok, subst, arith}
use Rattle.std.proofs.lemmas.Bool.Decides.{nat_tests}
use Rattle.cap_blocks.specs.Grammar.{is_known_kind, least_total}
use Rattle.cap_bytes.specs.declared.numbers.Order.{Order}
use Rattle.cap_source.specs.Contents.{content_in}
use Rattle.cap_source.specs.declared.contents.BlockContent.TheVariants as contents
use Rattle.cap_time.specs.declared.resolutions.Interface.{Interface}

-- a block of another kind says that kind
pub other : (interfaces : List Interface) (kind : ℕ) (order : Order) (body : List ℕ) → is_known_kind kind ≡ false
    → content_in interfaces kind order body ≡ Ok (contents.Other kind)
unfolding content_in
other interfaces kind order body unknown = grind (arith, nat_tests)

pub interface_room : (kind size : ℕ) → kind ≡ 1 → least_total kind ≤ 12 + size → 8 ≤ size
interface_room kind size is h = let few : 20 ≤ 12 + size =
    subst (λ (k : ℕ). least_total k ≤ 12 + size) is h in omega arith

pub obsolete_room : (kind size : ℕ) → kind ≡ 2 → least_total kind ≤ 12 + size → 20 ≤ size
obsolete_room kind size is h = let few : 32 ≤ 12 + size =
    subst (λ (k : ℕ). least_total k ≤ 12 + size) is h in omega arith

pub simple_room : (kind size : ℕ) → kind ≡ 3 → least_total kind ≤ 12 + size → 4 ≤ size
simple_room kind size is h = let few : 16 ≤ 12 + size = subst (λ (k : ℕ). least_total k ≤ 12 + size) is h in omega arith

pub enhanced_room : (kind size : ℕ) → kind ≡ 6 → least_total kind ≤ 12 + size → 20 ≤ size
enhanced_room kind size is h = let few : 32 ≤ 12 + size =
    subst (λ (k : ℕ). least_total k ≤ 12 + size) is h in omega arith

pub ruleset room_of_body = (interface_room, obsolete_room, simple_room, enhanced_room)
