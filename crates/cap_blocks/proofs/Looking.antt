-- What a window shows of a block.
use Rattle.std.proofs.lemmas.Grind.{common_steps}
use Rattle.std.proofs.Common.{◌≡◌, ℕ, ◌==◌, ◌&&◌, List, [], length, Option, Some, None, is_some, IsSome, Bool, true}
use Rattle.std.proofs.Common.{false, Ok, sym, ◌∙◌, ap, arith}
use Rattle.std.proofs.lemmas.Bool.Decides.{nat_tests}
use Rattle.cap_bytes.specs.Items.{stop_by}
use Rattle.cap_bytes.specs.inner.Parsing.{SeesStop}
use Rattle.cap_bytes.specs.inner.Window.{WindowState, Needs, WindowKeeps, coming}
use Rattle.cap_bytes.proofs.Parsing.{all_shown, some_left, SeesStop-fault, SeesStop-end}
use Rattle.cap_bytes.specs.declared.faults.Rule.{Rule}
use Rattle.cap_bytes.specs.declared.faults.Tail.{Tail}
use Rattle.cap_bytes.specs.declared.numbers.Order.{Order}
use Rattle.cap_blocks.specs.inner.Parsing.{FindsOwnOrder, FindsOrder, ParsesBlockHeader, IsHeader, SeesBlockHeader}
use Rattle.cap_blocks.specs.Split.{is_section, own_order, block_order_at, block_header_fault, block_fault, block_at}
use Rattle.cap_blocks.specs.declared.blocks.Block.{Block}
use Rattle.cap_bytes.specs.declared.stops.Stop.TheVariants as stops
use Rattle.cap_blocks.proofs.Faults.{total-least, FieldsFit-from_header, header_fault-append, block_at-append}
use Rattle.cap_blocks.proofs.Faults.{block_fault-header, header-not_cut}

-- a section header's order is its own
pub FindsOrder-own : (section : Option Order) (bytes : List ℕ) (found : Option Order)
    → block_order_at section bytes ≡ own_order bytes
    → is_section bytes ≡ true → FindsOwnOrder bytes found → FindsOrder section bytes found
FindsOrder-own section bytes found same head own = grind arith

-- a block as its first 12 bytes tell it
pub IsHeader-at : (section : Option Order) (offset : ℕ) (bytes : List ℕ)
    → block_header_fault section offset bytes ≡ None
    → IsHeader (block_at section offset bytes) offset bytes
unfolding block_at
IsHeader-at section offset bytes none = grind (arith, FieldsFit-from_header, total-least)

-- the first 12 bytes of a block are shown
pub SeesHeader-parsed : (there : Bool) (section : Option Order) (old new : WindowState) (block : Block)
    → Needs 12 old (Ok there) new → WindowKeeps old new
    → block_header_fault section old.offset new.shown ≡ None → block ≡ block_at section old.offset new.shown
    → SeesBlockHeader section block old new
SeesHeader-parsed there section old new block n k none is =
    grind (arith, IsHeader-at, header_fault-append, block_at-append, FieldsFit-from_header)

-- no block is there, since its first 12 bytes are refused
pub SeesStop-header : (there : Bool) (section : Option Order) (tail : Tail) (old new : WindowState) (rule : Rule)
    → Needs 12 old (Ok there) new
    → (is_some section && (length new.shown == 0)) ≡ false → block_header_fault section old.offset new.shown ≡ Some rule
    → SeesStop (is_some section) (block_fault section old.offset (coming old)) tail
    (stop_by (is_some section) tail old.file old.offset (length new.shown) rule) old new
SeesStop-header true section tail old new rule n some fault =
    SeesStop-fault (is_some section) _ tail (length new.shown) rule old new n.0.goes
    (some_left (is_some section) old new n.0 (omega (arith, n.1)))
    (λ t. ap (block_fault section old.offset) (sym (n.0.coming_same t))
    ∙ block_fault-header section old.offset (coming new) rule
    (header_fault-append section old.offset new.shown new.unread n.1 ∙ fault))
    (λ t cut. absurd (header-not_cut section old.offset new.shown n.1 (fault ∙ ap Some cut)))
SeesStop-header false section tail old new rule n some fault =
    SeesStop-fault (is_some section) _ tail (length new.shown) rule old new n.0.goes
    (λ t. ap (λ l. is_some section && (length l == 0)) (all_shown old new n.0 n.2 t) ∙ some)
    (λ t. ap (block_fault section old.offset) (all_shown old new n.0 n.2 t)
    ∙ block_fault-header section old.offset new.shown rule fault)
    (λ t cut. ap length (all_shown old new n.0 n.2 t))

-- no block is there, since nothing is
ends_now : (section : Option Order) (xs : List ℕ) → (is_some section && (length xs == 0)) ≡ true
    → IsSome section × (xs ≡ [])
ends_now section xs h = grind (arith, common_steps, nat_tests)

pub SeesStop-none : (there : Bool) (section : Option Order) (tail : Tail) (old new : WindowState)
    → Needs 12 old (Ok there) new
    → (is_some section && (length new.shown == 0)) ≡ true
    → SeesStop (is_some section) (block_fault section old.offset (coming old)) tail stops.End old new
SeesStop-none there section tail old new n ends = grind (arith, ends_now, SeesStop-end, is_some, all_shown)

-- the same of a block that was parsed
pub IsHeader-parsed : (section : Option Order) (offset : ℕ) (bytes : List ℕ) (block : Block)
    → ParsesBlockHeader section offset bytes (Ok block)
    → IsHeader block block.offset bytes
unfolding block_at
IsHeader-parsed section offset bytes block p = rw p.1 (IsHeader-at section offset bytes p.0)
