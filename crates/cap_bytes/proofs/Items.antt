-- What ends the pieces of a file, and the items of some bytes by what stands at their front.
use Rattle.std.proofs.Common.{◌≡◌, ℕ, suc, ◌+◌, ◌<◌, ◌==◌, ◌&&◌, Bool, true, false, List, [], ◌∷◌, length, drop, Option}
use Rattle.std.proofs.Common.{Some, None, refl, arith, length-drop}
use Rattle.cap_bytes.specs.Items.{stop_by, stop_where, IsStopAt, given, stopped, PieceFormat, piece_items_by}
use Rattle.cap_bytes.specs.Items.{piece_items}
use Rattle.cap_bytes.specs.declared.faults.Refusal.{Refusal}
use Rattle.cap_bytes.specs.declared.faults.Rule.{Rule}
use Rattle.cap_bytes.specs.declared.faults.Rule.TheVariants.{Cut}
use Rattle.cap_bytes.specs.declared.faults.Tail.{Tail}
use Rattle.cap_bytes.specs.declared.stops.Stop.{Stop}
use Rattle.cap_bytes.specs.declared.stops.Stop.TheVariants as stops

-- some bytes are left
pub not_empty : (inside : Bool) (n : ℕ) → 0 < n → (inside && (n == 0)) ≡ false
not_empty inside n some = grind arith

-- what ends the pieces, by the condition that is met
pub stop_where-end : (inside : Bool) (tail : Tail) (file offset : ℕ) (fault : Option Rule) → inside ≡ true
    → stop_where inside tail file offset [] fault ≡ Some stops.End
unfolding stop_where
stop_where-end inside tail file offset fault is = rw is refl

pub stop_where-fault : (inside : Bool) (tail : Tail) (file offset : ℕ) (bytes : List ℕ) (fault : Option Rule)
    (rule : Rule)
    → (inside && (length bytes == 0)) ≡ false → fault ≡ Some rule
    → stop_where inside tail file offset bytes fault ≡ Some (stop_by inside tail file offset (length bytes) rule)
unfolding stop_where
stop_where-fault inside tail file offset bytes fault rule some is = rw (some, is) refl

pub stop_where-whole : (inside : Bool) (tail : Tail) (file offset : ℕ) (bytes : List ℕ) (fault : Option Rule)
    → 0 < length bytes → fault ≡ None
    → stop_where inside tail file offset bytes fault ≡ None
unfolding stop_where
stop_where-whole inside tail file offset bytes fault some is = let there = not_empty inside (length bytes) some in
    rw (there, is) refl

-- if nothing ends them, no condition is met
pub no_fault : (inside : Bool) (tail : Tail) (file offset : ℕ) (bytes : List ℕ) (fault : Option Rule)
    → stop_where inside tail file offset bytes fault ≡ None → fault ≡ None
unfolding stop_where
no_fault inside tail file offset bytes fault h = grind arith

-- a refusal outside tells the condition that is met
pub rule_told : (tail : Tail) (file offset : ℕ) (bytes : List ℕ) (fault : Option Rule) (refusal : Refusal)
    → stop_where false tail file offset bytes fault ≡ Some (stops.Refused refusal) → fault ≡ Some refusal.rule
unfolding stop_where
rule_told tail file offset bytes fault refusal h = grind arith

-- a rule is told with its file and place
pub IsStopAt-stop_by : (inside : Bool) (tail : Tail) (file offset size : ℕ) (rule : Rule)
    → IsStopAt inside tail file offset (stop_by inside tail file offset size rule)
IsStopAt-stop_by inside tail file offset size rule = grind arith

-- the size is that of a rest that is cut
pub stop_by-sized : (inside : Bool) (tail : Tail) (file offset n m : ℕ) (rule : Rule) → (rule ≡ Cut → n ≡ m)
    → stop_by inside tail file offset n rule ≡ stop_by inside tail file offset m rule
stop_by-sized inside tail file offset n m rule same = grind arith

-- a piece takes bytes, which are there, if nothing ends the pieces
abbrev pub Advances : {K P : Type 0} → PieceFormat K P → Type 0
Advances {K} {P} format =
    (known : K) (tail : Tail) (file offset : ℕ) (bytes : List ℕ) → format.stop known tail file offset bytes ≡ None
    → (0 < format.size known bytes) × (0 < length bytes)

module _ {K P : Type 0} (format : PieceFormat K P) (tail : Tail) (file : ℕ) where
  -- the items, by what ends the pieces
  items_by-stop : (n : ℕ) (known : K) (offset : ℕ) (bytes : List ℕ) (stop : Stop)
      → format.stop known tail file offset bytes ≡ Some stop
      → piece_items_by format (suc n) known tail file offset bytes ≡ stopped stop ∷ []
  unfolding piece_items_by
  items_by-stop n known offset bytes stop is = rw is refl

  items_by-piece : (n : ℕ) (known : K) (offset : ℕ) (bytes : List ℕ) → format.stop known tail file offset bytes ≡ None
      → piece_items_by format (suc n) known tail file offset bytes
      ≡ given (format.piece known offset bytes) (format.lent known bytes)
      ∷ piece_items_by format n (format.next known bytes) tail file (offset + format.size known bytes)
      (drop (format.size known bytes) bytes)
  unfolding piece_items_by
  items_by-piece n known offset bytes is = rw is refl

  -- if something ends the pieces, that is the one item
  pub items_in-stop : (known : K) (offset : ℕ) (bytes : List ℕ) (stop : Stop)
      → format.stop known tail file offset bytes ≡ Some stop
      → piece_items format known tail file offset bytes ≡ stopped stop ∷ []
  unfolding piece_items
  items_in-stop known offset bytes stop is = items_by-stop (length bytes) known offset bytes stop is

  module _ (advances : Advances format) where
    -- any fuel above the number of bytes gives the same items, if it does after the first piece
    items_by-step : (m n : ℕ) (known : K) (offset : ℕ) (bytes : List ℕ) (stop : Option Stop)
        → format.stop known tail file offset bytes ≡ stop → length bytes < suc m → length bytes < suc n
        → ((next : K) (later : ℕ) (rest : List ℕ) → length rest < m → length rest < n
        → piece_items_by format m next tail file later rest ≡ piece_items_by format n next tail file later rest)
        → piece_items_by format (suc m) known tail file offset bytes
        ≡ piece_items_by format (suc n) known tail file offset bytes
    items_by-step m n known offset bytes (Some stop) is p q behind = grind (arith, items_by-stop)
    items_by-step m n known offset bytes None is p q behind = grind (arith, length-drop, items_by-piece)

    items_by-enough : (m n : ℕ) (known : K) (offset : ℕ) (bytes : List ℕ)
        → length bytes < m → length bytes < n → piece_items_by format m known tail file offset bytes
        ≡ piece_items_by format n known tail file offset bytes
    items_by-enough (suc m) (suc n) known offset bytes p q =
        items_by-step m n known offset bytes (format.stop known tail file offset bytes) refl p q
        (λ next later rest few enough. items_by-enough m n next later rest few enough)
    items_by-enough m n known offset bytes p q = grind arith

    -- if nothing does, a piece is the first item, and those of the bytes after it follow
    pub items_in-piece : (known : K) (offset : ℕ) (bytes : List ℕ) → format.stop known tail file offset bytes ≡ None
        → piece_items format known tail file offset bytes
        ≡ given (format.piece known offset bytes) (format.lent known bytes)
        ∷ piece_items format (format.next known bytes) tail file (offset + format.size known bytes)
        (drop (format.size known bytes) bytes)
    unfolding piece_items
    items_in-piece known offset bytes is = grind (arith, length-drop, items_by-piece, items_by-enough)
