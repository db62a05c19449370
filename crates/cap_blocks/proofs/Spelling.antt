-- What the bytes of a block spell that isn't refused, and the other way round.
use Rattle.std.proofs.Common.{◌≡◌, ◌≢◌, ℕ, ◌+◌, ◌-◌, ◌≤◌, ◌==◌, ◌&&◌, not, List, length, take, drop, Option, Some, None}
use Rattle.std.proofs.Common.{Bool, true, false, refl, sym, ◌∙◌, ap, subst, arith, length-drop, length-take}
use Rattle.std.proofs.Common.{length-take-le, drop-drop, take-take, nat_lt}
use Rattle.std.proofs.lemmas.Bool.Decides.{nat_tests}
use Rattle.std.proofs.lemmas.List.{drop-take}
use Rattle.cap_bytes.specs.Number.{number}
use Rattle.cap_bytes.specs.declared.numbers.Order.{Order}
use Rattle.cap_bytes.specs.declared.numbers.Order.TheVariants.{Big, Little}
use Rattle.cap_bytes.proofs.Spelling.{number-take, number-drop_take}
use Rattle.cap_blocks.specs.Grammar.{section_kind, order_magic, is_total, is_section_version, SpellsSection}
use Rattle.cap_blocks.specs.Grammar.{SpellsBlock}
use Rattle.cap_blocks.specs.Split.{kind_at, total_at, is_section, is_ordered, own_order, block_order_at, first_fault}
use Rattle.cap_blocks.specs.Split.{block_header_fault, body_fault, has_other_version, block_fault, body_in, body_at}
use Rattle.cap_blocks.specs.Split.{BlockPiece}
use Rattle.cap_blocks.specs.Split.{piece_size, MayFollow, BeginsPiece, AreBytes}
use Rattle.cap_blocks.proofs.Behind.{same, differs, there, body_fault-whole}
use Rattle.cap_blocks.proofs.Bytes.{kind_same, magic_one, AreBytes-drop}
use Rattle.cap_blocks.proofs.Faults.{FieldsFit, FieldsFit-from_header, fields_fault-fits, header_fault-fields}
use Rattle.cap_blocks.proofs.Faults.{block_fault-body, faults-from_none, first_fault-section, total-least}
use Rattle.cap_blocks.proofs.Faults.{total-section, or_else-none}

-- the piece at the front of some bytes
abbrev pub piece_at : Option Order → List ℕ → BlockPiece
piece_at section bytes =
    record {
      order = block_order_at section bytes;
      kind = kind_at (block_order_at section bytes) bytes;
      body = body_at section bytes;
    }

-- none of the conditions is met that the body of a block tells
pub record BodyFits (order : Order) (bytes : List ℕ) : Type 0 where
  pub whole : total_at order bytes ≤ length bytes
  pub trailer : number order 4 (drop (total_at order bytes - 4) bytes) ≡ total_at order bytes
  pub version : has_other_version order bytes ≡ false

body_none : (order : Order) (bytes : List ℕ) (short trailer other : Bool)
    → nat_lt (length bytes) (total_at order bytes) ≡ short
    → (number order 4 (drop (total_at order bytes - 4) bytes) == total_at order bytes) ≡ trailer
    → has_other_version order bytes ≡ other
    → body_fault order bytes ≡ None → (short ≡ false) × (trailer ≡ true) × (other ≡ false)
unfolding body_fault
body_none order bytes short trailer other s t o h = grind arith

pub BodyFits-from_none : (order : Order) (bytes : List ℕ) → body_fault order bytes ≡ None → BodyFits order bytes
BodyFits-from_none order bytes h =
    let e = body_none order bytes _ _ _ refl refl refl h in
    let short = e.0 in
    let trailer = e.1 in
    record {
      whole = grind (arith, nat_tests);
      trailer = grind (arith, nat_tests);
      version = e.2;
    }

-- A section header's kind reads the same in both orders, and its order magic in one: so it is of bytes.
pub record Plain (bytes : List ℕ) : Type 0 where
  pub kinds : (p q : Order) → number p 4 bytes ≡ section_kind → number q 4 bytes ≡ section_kind
  pub magics : number Big 4 bytes ≡ section_kind → number Big 4 (drop 8 bytes) ≡ order_magic
      → number Little 4 (drop 8 bytes) ≡ order_magic → ⊥

pub plain : (bytes : List ℕ) → AreBytes bytes → Plain bytes
plain bytes fits = record {
  kinds = λ p q is. kind_same p q bytes fits is;
  magics = λ kind big little. magic_one (drop 8 bytes) (AreBytes-drop 8 bytes fits) big little;
}

-- the kind and the order magic as numbers
section_kind_big : (bytes : List ℕ) → is_section bytes ≡ true → number Big 4 bytes ≡ section_kind
section_kind_big bytes h = grind (arith, nat_tests)

magic_reads : (order : Order) (bytes : List ℕ) → is_ordered order bytes ≡ true
    → number order 4 (drop 8 bytes) ≡ order_magic
magic_reads order bytes h = grind (arith, nat_tests)

-- if a kind is that of a section header
section_told : (order : Order) (bytes : List ℕ) → Plain bytes → kind_at order bytes ≡ section_kind
    → is_section bytes ≡ true
section_told order bytes fits is = same _ _ (fits.kinds order Big is)

other_told : (order : Order) (bytes : List ℕ) → Plain bytes → kind_at order bytes ≢ section_kind
    → is_section bytes ≡ false
other_told order bytes fits other = differs _ _ (λ is. other (fits.kinds Big order is))

ordered_of : (section ordered : Bool) → section ≡ true → (section && not ordered) ≡ false → ordered ≡ true
ordered_of section ordered is h = grind arith

-- a version that is read
version_of : (order : Order) (bytes : List ℕ) (read : Bool) → kind_at order bytes ≡ section_kind
    → is_section_version (number order 2 (drop 12 bytes)) (number order 2 (drop 14 bytes)) ≡ read
    → has_other_version order bytes ≡ false → read ≡ true
version_of order bytes read' is read h = grind arith

-- a section header that isn't refused has an order magic and a version
SpellsSection-at : (order : Order) (offset total : ℕ) (bytes : List ℕ) → Plain bytes → FieldsFit order offset bytes
    → BodyFits order bytes
    → total ≡ total_at order bytes → kind_at order bytes ≡ section_kind → SpellsSection order (body_in total bytes)
SpellsSection-at order offset total bytes fits f r size is =
    let ordered = ordered_of (is_section bytes) (is_ordered order bytes) (section_told order bytes fits is) f.ordered in
    let least = total-section (kind_at order bytes) (total_at order bytes) f.allowed is in
    let whole = r.whole in
    let left = length-drop 8 bytes in
    let major = number-drop_take order 2 4 (total - 12) (drop 8 bytes) (omega arith) (omega arith)
    ∙ ap (number order 2) (drop-drop 4 8 bytes) in
    let minor = number-drop_take order 2 6 (total - 12) (drop 8 bytes) (omega arith) (omega arith)
    ∙ ap (number order 2) (drop-drop 6 8 bytes) in
    record {
      magic = number-take order 4 (total - 12) (drop 8 bytes) (omega arith) ∙ magic_reads order bytes ordered;
      version = rw (major, minor) (version_of order bytes _ is refl r.version);
    }

drop_take_at : (i n : ℕ) (bytes : List ℕ) → i ≤ n → take (n - i) (drop i bytes) ≡ drop i (take n bytes)
drop_take_at i n bytes h = sym (drop-take i (n - i) bytes) ∙ ap (λ k. drop i (take k bytes)) (omega arith)

-- a block that isn't refused is spelled by its bytes
pub SpellsBlock-at : (order : Order) (offset : ℕ) (bytes : List ℕ) → Plain bytes → FieldsFit order offset bytes
    → BodyFits order bytes
    → SpellsBlock order (kind_at order bytes) (body_in (total_at order bytes) bytes) (take (total_at order bytes) bytes)
SpellsBlock-at order offset bytes fits f r =
    let total = total_at order bytes in
    let least = total-least (kind_at order bytes) total f.allowed in
    let whole = r.whole in
    let size : length (take total bytes) ≡ total = length-take-le total bytes whole in
    let body : length (body_in total bytes) ≡ total - 12 =
    length-take-le (total - 12) (drop 8 bytes) (omega (arith, length-drop 8 bytes)) in
    let end : 8 + length (body_in total bytes) ≡ total - 4 = omega arith in
    record {
      size = omega arith;
      kind_is = number-take order 4 total bytes (omega arith);
      total = number-drop_take order 4 4 total bytes (omega arith) whole ∙ sym size;
      body_is = ap (λ n. take n (drop 8 (take total bytes))) body
          ∙ (ap (take (total - 12)) (sym (drop_take_at 8 total bytes (omega arith)))
          ∙ take-take (total - 12) (total - 8) (drop 8 bytes) (omega arith));
      trailer = ap (λ n. number order 4 (drop n (take total bytes))) end
          ∙ (number-drop_take order 4 (total - 4) total bytes (omega arith) whole ∙ (r.trailer ∙ sym size));
      allowed = ap (is_total (kind_at order bytes)) size ∙ f.allowed;
      section = SpellsSection-at order offset total bytes fits f r refl;
    }

order_kept : (section : Order) (bytes : List ℕ) (here : Bool) → is_section bytes ≡ here → (is_section bytes ≡ true → ⊥)
    → block_order_at (Some section) bytes ≡ section
order_kept section bytes here is other = grind arith

-- the piece may stand there
follows_at : (section : Option Order) (bytes : List ℕ) → Plain bytes → first_fault section bytes ≡ None
    → MayFollow section (piece_at section bytes)
follows_at None bytes fits first = fits.kinds Big (own_order bytes)
    (section_kind_big bytes (first_fault-section bytes first))
follows_at (Some section) bytes fits first = λ other.
    order_kept section bytes (is_section bytes) refl
    (λ is. other (fits.kinds Big (block_order_at (Some section) bytes) (section_kind_big bytes is)))

-- if a block stands, as the bytes tell it
pub Begins-at : (section : Option Order) (offset : ℕ) (bytes : List ℕ) → Plain bytes
    → block_fault section offset bytes ≡ None
    → BeginsPiece section offset (piece_at section bytes) bytes
Begins-at section offset bytes fits none =
    let e = faults-from_none section offset bytes none in
    let order = block_order_at section bytes in
    let total = total_at order bytes in
    let f = FieldsFit-from_header section offset bytes e.0 in
    let r = BodyFits-from_none order bytes e.1 in
    let least = total-least (kind_at order bytes) total f.allowed in
    let whole = r.whole in
    let body : length (body_in total bytes) ≡ total - 12 =
    length-take-le (total - 12) (drop 8 bytes) (omega (arith, length-drop 8 bytes)) in
    let size : total ≡ 12 + length (body_in total bytes) = omega arith in
    record {
      follows = follows_at section bytes fits (or_else-none (first_fault section bytes) _ e.0).0;
      spelled = subst (λ (n : ℕ). SpellsBlock order (kind_at order bytes) (body_in total bytes) (take n bytes)) size
          (SpellsBlock-at order offset bytes fits f r);
      limit = omega (arith, f.limit);
    }

-- What is spelled at the front is what is read there.
pub record Reads (section : Option Order) (offset : ℕ) (piece : BlockPiece) (bytes : List ℕ) : Type 0 where
  pub whole : piece_size piece ≤ length bytes
  pub order_is : block_order_at section bytes ≡ piece.order
  pub kind_is : kind_at piece.order bytes ≡ piece.kind
  pub total_is : total_at piece.order bytes ≡ piece_size piece
  pub body_is : body_in (piece_size piece) bytes ≡ piece.body
  pub none : block_fault section offset bytes ≡ None

-- the order magic tells the order
own_is : (order : Order) (bytes : List ℕ) → Plain bytes → number Big 4 bytes ≡ section_kind
    → number order 4 (drop 8 bytes) ≡ order_magic → own_order bytes ≡ order
own_is order bytes fits kind is = grind arith

order_follows : (section : Option Order) (order : Order) (kind : ℕ) (body bytes : List ℕ) (here : Bool)
    → (kind == section_kind) ≡ here
    → Plain bytes → MayFollow section (record { order = order; kind = kind; body = body }) → kind_at order bytes ≡ kind
    → (kind ≡ section_kind → number order 4 (drop 8 bytes) ≡ order_magic) → block_order_at section bytes ≡ order
order_follows None order kind body bytes here is fits follows told magic =
    own_is order bytes fits (fits.kinds order Big (told ∙ follows)) (magic follows)
order_follows (Some section) order kind body bytes true is fits follows told magic = grind (arith, section_told, own_is)
order_follows (Some section) order kind body bytes false is fits follows told magic =
    let other : kind ≢ section_kind = grind (arith, nat_tests) in
    let e = other_told order bytes fits (λ k. other (sym told ∙ k)) in
    rw e (sym (follows other))

first_none : (section : Option Order) (piece : BlockPiece) (bytes : List ℕ) → Plain bytes → MayFollow section piece
    → kind_at piece.order bytes ≡ piece.kind → 12 ≤ length bytes → first_fault section bytes ≡ None
unfolding first_fault
first_none section piece bytes fits follows told head = grind (arith, section_told, there)

ordered_none : (order : Order) (bytes : List ℕ) (here : Bool) → (kind_at order bytes == section_kind) ≡ here
    → Plain bytes
    → (kind_at order bytes ≡ section_kind → number order 4 (drop 8 bytes) ≡ order_magic)
    → (is_section bytes && not (is_ordered order bytes)) ≡ false
ordered_none order bytes true is fits magic = grind arith
ordered_none order bytes false is fits magic =
    let other : kind_at order bytes ≢ section_kind = grind (arith, nat_tests) in
    let e = other_told order bytes fits other in
    rw e refl

version_none : (order : Order) (bytes : List ℕ) (here : Bool) → (kind_at order bytes == section_kind) ≡ here
    → (kind_at order bytes ≡ section_kind → is_section_version (number order 2 (drop 12 bytes))
    (number order 2 (drop 14 bytes)) ≡ true)
    → has_other_version order bytes ≡ false
version_none order bytes here is version = grind arith

-- the version and the order magic of a section header, which stand in its body
magic_in : (order : Order) (size : ℕ) (body bytes : List ℕ) → length body ≡ size → 12 + size ≤ length bytes → 16 ≤ size
    → take size (drop 8 bytes) ≡ body → SpellsSection order body
    → (number order 4 (drop 8 bytes) ≡ order_magic)
    × (is_section_version (number order 2 (drop 12 bytes)) (number order 2 (drop 14 bytes)) ≡ true)
magic_in order size body bytes len whole least is s =
    grind (arith, length-drop, number-take, number-drop_take, drop-drop)

-- all of it
pub Reads-spelled : (section : Option Order) (offset : ℕ) (piece : BlockPiece) (bytes : List ℕ) → Plain bytes
    → BeginsPiece section offset piece bytes
    → Reads section offset piece bytes
Reads-spelled section offset piece bytes fits b =
    let s = b.spelled in
    let order = piece.order in
    let size = piece_size piece in
    let part = take size bytes in
    let len : length part ≡ size = s.size in
    let whole : size ≤ length bytes = omega (arith, length-take size bytes) in
    let kind : kind_at order bytes ≡ piece.kind = sym (number-take order 4 size bytes (omega arith)) ∙ s.kind_is in
    let total : total_at order bytes ≡ size = sym (number-drop_take order 4 4 size bytes (omega arith) whole)
    ∙ (s.total ∙ len) in
    let body : take (length piece.body) (drop 8 bytes) ≡ piece.body =
    sym (ap (take (length piece.body)) (sym (drop_take_at 8 size bytes (omega arith)))
    ∙ take-take (length piece.body) (size - 8) (drop 8 bytes) (omega arith)) ∙ s.body_is in
    let trailer : number order 4 (drop (8 + length piece.body) bytes) ≡ size =
    sym (number-drop_take order 4 (8 + length piece.body) size bytes (omega arith) whole) ∙ (s.trailer ∙ len) in
    let allowed : is_total piece.kind size ≡ true = sym (ap (is_total piece.kind) len) ∙ s.allowed in
    let inside = λ (is : piece.kind ≡ section_kind).
    magic_in order (length piece.body) piece.body bytes refl whole
    (omega (arith, total-section piece.kind size allowed is)) body (s.section is) in
    let order_is = order_follows section order piece.kind piece.body bytes
    (piece.kind == section_kind) refl fits b.follows kind (λ is. (inside is).0) in
    let first = first_none section piece bytes fits b.follows kind (omega arith) in
    let head : FieldsFit order offset bytes = record {
      head = omega arith;
      ordered = ordered_none order bytes (kind_at order bytes == section_kind) refl fits
          (λ is. (inside (sym kind ∙ is)).0);
      allowed = rw (kind, total) allowed;
      limit = rw total b.limit;
    } in
    let header : block_header_fault section offset bytes ≡ None =
    header_fault-fields section offset bytes first ∙ (rw order_is (fields_fault-fits order offset bytes head)) in
    let rest : body_fault order bytes ≡ None = body_fault-whole order bytes (rw total whole)
    (rw total (ap (λ n. number order 4 (drop n bytes)) (omega arith) ∙ trailer))
    (version_none order bytes (kind_at order bytes == section_kind) refl (λ is. (inside (sym kind ∙ is)).1)) in
    record {
      whole = whole;
      order_is = order_is;
      kind_is = kind;
      total_is = total;
      body_is = ap (λ n. take n (drop 8 bytes)) (omega arith) ∙ body;
      none = block_fault-body section offset bytes None header (rw order_is rest);
    }
