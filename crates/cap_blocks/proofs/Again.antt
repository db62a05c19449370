-- What is written is read again.
use Rattle.std.proofs.Common.{◌≡◌, ℕ, ◌+◌, ◌-◌, ◌/◌, ◌%◌, ◌^◌, ◌≤◌, ◌<◌, ◌==◌, Bool, true, List, [], ◌∷◌, ◌++◌, length}
use Rattle.std.proofs.Common.{take, drop, replicate, Option, Some, Ok, refl, subst, sym, ◌∙◌, ap, arith, append_assoc}
use Rattle.std.proofs.Common.{append-nil, length-append}
use Rattle.std.proofs.lemmas.List.{take_at, drop_at, length-replicate}
use Rattle.std.specs.Int.{w64, cast_unsigned}
use Rattle.cap_bytes.specs.Number.{number, bytes_of}
use Rattle.cap_bytes.specs.declared.numbers.Order.{Order}
use Rattle.cap_bytes.specs.declared.numbers.Order.TheVariants.{Big, Little}
use Rattle.cap_bytes.proofs.Spelling.{length-bytes_of, number-bytes_of, number-append}
use Rattle.cap_time.specs.Resolution.{code_of}
use Rattle.cap_time.specs.declared.resolutions.Interface.{Interface}
use Rattle.cap_blocks.specs.Grammar.{section_kind, interface_kind, enhanced_kind, order_magic, is_total, SpellsSection}
use Rattle.cap_blocks.specs.Grammar.{SpellsBlock, block_bytes, section_body, option_bytes, offset_option}
use Rattle.cap_blocks.specs.Grammar.{interface_options, interface_body, interface_total, packet_body}
use Rattle.cap_blocks.specs.inner.Laws.{IsReadAs, SectionAgain, InterfaceAgain, PacketAgain, offset_items}
use Rattle.cap_blocks.specs.OptionList.{options_of, code_at, length_at, padded}
use Rattle.cap_blocks.proofs.OptionLaws.{options_of-end, options_of-more}
use Rattle.cap_blocks.specs.Split.{BlockPiece, MayFollow, BeginsPiece}
use Rattle.cap_blocks.proofs.Spelling.{Plain, Reads-spelled}
use Rattle.cap_blocks.proofs.Splitting.{items_from-reads}
use Rattle.cap_blocks.proofs.Parts.{length-section_body, length-interface_body, length-packet_body}

-- a number that stands at a place of some bytes
field : (order : Order) (n x : ℕ) (front rest bytes : List ℕ) (place : ℕ)
    → bytes ≡ front ++ (bytes_of order n x ++ rest)
    → length front ≡ place → x < 256 ^ n → number order n (drop place bytes) ≡ x
field order n x front rest bytes place is at few = grind (arith, number, drop_at, number-bytes_of)

first_field : (order : Order) (n x : ℕ) (rest bytes : List ℕ) → bytes ≡ bytes_of order n x ++ rest → x < 256 ^ n
    → number order n bytes ≡ x
first_field order n x rest bytes is few = ap (number order n) is ∙ number-bytes_of order n x rest few

-- a block that is written spells itself
pub SpellsBlock-text : (order : Order) (kind : ℕ) (body : List ℕ) → kind < 256 ^ 4 → 12 + length body < 256 ^ 4
    → is_total kind (12 + length body) ≡ true → (kind ≡ section_kind → SpellsSection order body)
    → SpellsBlock order kind body (block_bytes order kind body)
unfolding block_bytes
SpellsBlock-text order kind body few small allowed section =
    let k = bytes_of order 4 kind in
    let t = bytes_of order 4 (12 + length body) in
    let text = ((k ++ t) ++ body) ++ t in
    let lk = length-bytes_of order 4 kind in
    let lt = length-bytes_of order 4 (12 + length body) in
    let front : length (k ++ t) ≡ 8 = omega (arith, length-append k t) in
    let before : length ((k ++ t) ++ body) ≡ 8 + length body = omega (arith, length-append (k ++ t) body) in
    let size : length text ≡ 12 + length body = omega (arith, length-append ((k ++ t) ++ body) t) in
    record {
      size = size;
      kind_is = first_field order 4 kind (t ++ (body ++ t)) text (simp append_assoc) few;
      total = field order 4 (12 + length body) k (body ++ t) text 4 (simp append_assoc) lk small ∙ sym size;
      body_is = ap (λ l. take (length body) (drop 8 l)) (append_assoc (k ++ t) body t)
          ∙ (ap (take (length body)) (drop_at (k ++ t) (body ++ t) 8 front) ∙ take_at body t (length body) refl);
      trailer = field order 4 (12 + length body) ((k ++ t) ++ body) [] text (8 + length body)
          (ap (λ l. ((k ++ t) ++ body) ++ l) (sym (append-nil t))) before small ∙ sym size;
      allowed = ap (is_total kind) size ∙ allowed;
      section = section;
    }

-- the numbers at the front of what is written
kind_first : (k t body rest : List ℕ) → (((k ++ t) ++ body) ++ t) ++ rest ≡ k ++ (t ++ (body ++ (t ++ rest)))
kind_first k t body rest = simp append_assoc

body_first : (k t body rest : List ℕ) → (((k ++ t) ++ body) ++ t) ++ rest ≡ (k ++ t) ++ (body ++ (t ++ rest))
body_first k t body rest = simp append_assoc

kind_literal : (order p : Order) → number p 4 (bytes_of order 4 section_kind) ≡ section_kind
unfolding number bytes_of
kind_literal order p = grind arith

interface_literal : (order p : Order) → number p 4 (bytes_of order 4 interface_kind) ≡ section_kind → ⊥
unfolding number bytes_of
interface_literal order p h = grind arith

packet_literal : (order p : Order) → number p 4 (bytes_of order 4 enhanced_kind) ≡ section_kind → ⊥
unfolding number bytes_of
packet_literal order p h = grind arith

magic_literal : (order : Order) → number Big 4 (bytes_of order 4 order_magic) ≡ order_magic
    → number Little 4 (bytes_of order 4 order_magic) ≡ order_magic → ⊥
unfolding number bytes_of
magic_literal order big little = grind arith

-- a text that is put in front of others
text_kind : (order p : Order) (kind : ℕ) (body rest : List ℕ)
    → number p 4 (block_bytes order kind body ++ rest) ≡ number p 4 (bytes_of order 4 kind)
unfolding block_bytes
text_kind order p kind body rest = grind (arith, length-bytes_of, number, kind_first, number-append)

text_body : (order : Order) (kind : ℕ) (body rest : List ℕ)
    → drop 8 (block_bytes order kind body ++ rest) ≡ body ++ (bytes_of order 4 (12 + length body) ++ rest)
unfolding block_bytes
text_body order kind body rest = search (length-append, length-bytes_of, body_first, drop_at)

-- a text of another kind, and one of a section header
plain_other : (order : Order) (kind : ℕ) (body rest : List ℕ)
    → ((p : Order) → number p 4 (bytes_of order 4 kind) ≡ section_kind → ⊥)
    → Plain (block_bytes order kind body ++ rest)
plain_other order kind body rest other = grind (arith, text_kind)

-- a section header
four : (a b c d : List ℕ) → ((a ++ b) ++ c) ++ d ≡ a ++ (b ++ (c ++ d))
four a b c d = simp append_assoc

five : (a b c d : List ℕ) → ((a ++ b) ++ c) ++ d ≡ a ++ (b ++ (c ++ d))
five a b c d = simp append_assoc

SpellsSection-body : (order : Order) → SpellsSection order (section_body order)
SpellsSection-body order =
    let a = bytes_of order 4 order_magic in
    let b = bytes_of order 2 1 in
    let c = bytes_of order 2 0 in
    let d = bytes_of order 8 0xFFFF_FFFF_FFFF_FFFF in
    let la = length-bytes_of order 4 order_magic in
    let lb = length-bytes_of order 2 1 in
    let major = field order 2 1 a (c ++ d) (section_body order) 4 (four a b c d) la (omega arith) in
    let minor = field order 2 0 (a ++ b) d (section_body order) 6 (append_assoc (a ++ b) c d)
    (omega (arith, length-append a b)) (omega arith) in
    record {
      magic = first_field order 4 order_magic (b ++ (c ++ d)) (section_body order) (four a b c d) (omega arith);
      version = rw (major, minor) refl;
    }

magic_first : (a b c d rest : List ℕ) → (((a ++ b) ++ c) ++ d) ++ rest ≡ a ++ (b ++ (c ++ (d ++ rest)))
magic_first a b c d rest = simp append_assoc

total_section : (n : ℕ) → n ≡ 16 → is_total section_kind (12 + n) ≡ true
unfolding is_total
total_section n is = rw is refl

magic_front : (order p : Order) (rest : List ℕ)
    → number p 4 (section_body order ++ rest) ≡ number p 4 (bytes_of order 4 order_magic)
magic_front order p rest = grind (arith, length-bytes_of, number, magic_first, number-append)

magic_bytes : (order p : Order) (rest : List ℕ)
    → number p 4 (drop 8 (block_bytes order section_kind (section_body order) ++ rest))
    ≡ number p 4 (bytes_of order 4 order_magic)
magic_bytes order p rest = search (number, text_body, magic_front)

plain_section : (order : Order) (rest : List ℕ) → Plain (block_bytes order section_kind (section_body order) ++ rest)
plain_section order rest = grind (arith, text_kind, kind_literal, magic_literal, magic_bytes)

-- a text that spells a block is read, whatever follows
IsRead-text : (section : Option Order) (order : Order) (kind : ℕ) (body : List ℕ)
    → MayFollow section (record { order = order; kind = kind; body = body })
    → SpellsBlock order kind body (block_bytes order kind body)
    → ((rest : List ℕ) → Plain (block_bytes order kind body ++ rest))
    → IsReadAs section (record { order = order; kind = kind; body = body }) (block_bytes order kind body)
IsRead-text section order kind body follows s fits = record {
  spelled = s;
  items = λ tail file offset rest limit.
      let text = block_bytes order kind body in
      let piece : BlockPiece = record { order = order; kind = kind; body = body } in
      let front : take (12 + length body) (text ++ rest) ≡ text = take_at text rest (12 + length body) s.size in
      let behind : drop (12 + length body) (text ++ rest) ≡ rest = drop_at text rest (12 + length body) s.size in
      let b : BeginsPiece section offset piece (text ++ rest) = record {
        follows = follows;
        spelled = subst (λ (l : List ℕ). SpellsBlock order kind body l) (sym front) s;
        limit = omega (arith, s.size);
      } in
      let e = items_from-reads section tail file offset piece (text ++ rest)
      (Reads-spelled section offset piece (text ++ rest) (fits rest) b) in
      e ∙ rw (behind, s.size) refl;
}

follows_section : (section : Option Order) (order : Order) (body : List ℕ)
    → MayFollow section (record { order = order; kind = section_kind; body = body })
follows_section section order body = grind arith

pub section_again-law : SectionAgain
section_again-law section order =
    let size = length-section_body order in
    IsRead-text section order section_kind (section_body order) (follows_section section order (section_body order))
    (SpellsBlock-text order section_kind (section_body order) (omega arith) (omega arith) (total_section _ size)
    (λ is. SpellsSection-body order))
    (plain_section order)

-- an option, and those after it
pad_size : (n : ℕ) → n + (padded n - n) ≡ padded n
pad_size n = omega arith

pub options_of-text : (order : Order) (code : ℕ) (value rest : List ℕ) → 0 < code → code < 256 ^ 2
    → length value < 256 ^ 2
    → options_of order (option_bytes order code value ++ rest) ≡ Ok (code, value) ∷ options_of order rest
options_of-text order code value rest some few small =
    let c = bytes_of order 2 code in
    let l = bytes_of order 2 (length value) in
    let pad : List ℕ = replicate (padded (length value) - length value) 0 in
    let text = option_bytes order code value ++ rest in
    let lc = length-bytes_of order 2 code in
    let ll = length-bytes_of order 2 (length value) in
    let lp = length-replicate {A = ℕ} (padded (length value) - length value) 0 in
    let front : length (c ++ l) ≡ 4 = omega (arith, length-append c l) in
    let padded_is = pad_size (length value) in
    let whole : length (option_bytes order code value) ≡ 4 + padded (length value) =
    omega (arith, length-append ((c ++ l) ++ value) pad, length-append (c ++ l) value) in
    let code_is : code_at order text ≡ code = first_field order 2 code (l ++ (value ++ (pad ++ rest))) text
    (simp append_assoc) few in
    let length_is : length_at order text ≡ length value =
    field order 2 (length value) c (value ++ (pad ++ rest)) text 2 (simp append_assoc) lc small in
    let behind : drop 4 text ≡ value ++ (pad ++ rest) =
    ap (drop 4) (five (c ++ l) value pad rest) ∙ drop_at (c ++ l) (value ++ (pad ++ rest)) 4 front in
    let value_is : take (length value) (drop 4 text) ≡ value = ap (take (length value)) behind
    ∙ take_at value (pad ++ rest) (length value) refl in
    let rest_is : drop (4 + padded (length value)) text ≡ rest =
    drop_at (option_bytes order code value) rest (4 + padded (length value)) whole in
    let more = options_of-more order text (λ zero. absurd (omega (arith, code_is, zero, some)))
    (omega (arith, length_is, length-append (option_bytes order code value) rest)) in
    rw (code_is, length_is, value_is, rest_is) at more

options_of-last : (order : Order) → options_of order (option_bytes order 0 []) ≡ []
options_of-last order = grind (arith, options_of-end, first_field, append_assoc)

options_of-offset : (order : Order) (seconds : ℕ) (zero : Bool) → (seconds == 0) ≡ zero
    → options_of order (offset_option order seconds ++ option_bytes order 0 []) ≡ offset_items order seconds
options_of-offset order seconds zero is = grind (arith, options_of-last, length-bytes_of, options_of-text)

interface_options-read : (order : Order) (interface : Interface)
    → options_of order (interface_options order interface)
    ≡ Ok (9, code_of interface.resolution ∷ []) ∷ offset_items order (cast_unsigned w64 interface.offset)
interface_options-read order interface = grind (arith, append_assoc, options_of-text, options_of-offset)

total_interface : (n seconds : ℕ) (zero : Bool) → (seconds == 0) ≡ zero → n ≡ interface_total seconds
    → (is_total interface_kind n ≡ true) × (n < 256 ^ 4)
unfolding is_total
total_interface n seconds zero' zero is = grind arith

pub interface_again-law : InterfaceAgain
interface_again-law order interface link snaplen =
    let body = interface_body order interface in
    let a = bytes_of order 2 interface.link in
    let b = bytes_of order 2 0 in
    let c = bytes_of order 4 interface.snaplen in
    let d = interface_options order interface in
    let la = length-bytes_of order 2 interface.link in
    let lb = length-bytes_of order 2 0 in
    let lc = length-bytes_of order 4 interface.snaplen in
    let size = length-interface_body order interface in
    let seconds = cast_unsigned w64 interface.offset in
    let total = total_interface (12 + length body) seconds (seconds == 0) refl size in (
      IsRead-text (Some order) order interface_kind body (λ other. refl)
          (SpellsBlock-text order interface_kind body (omega arith) total.1 total.0 (λ is. absurd (omega (arith, is))))
          (λ rest. plain_other order interface_kind body rest (interface_literal order)),
      first_field order 2 interface.link (b ++ (c ++ d)) body (four a b c d) link,
      field order 4 interface.snaplen (a ++ b) d body 4 (append_assoc (a ++ b) c d)
          (omega (arith, length-append a b)) snaplen,
      ap (options_of order) (drop_at ((a ++ b) ++ c) d 8 (omega (arith, length-append (a ++ b) c, length-append a b)))
          ∙ interface_options-read order interface,
    )

total_packet : (n size : ℕ) → n ≤ 262144 → size ≡ 32 + padded n → (is_total enhanced_kind size ≡ true)
    × (size < 256 ^ 4)
unfolding is_total
total_packet n size few is = grind arith

seven_high : (a b c d e f g : List ℕ) → (((((a ++ b) ++ c) ++ d) ++ e) ++ f) ++ g ≡ a
    ++ (b ++ (c ++ (d ++ (e ++ (f ++ g)))))
seven_high a b c d e f g = simp append_assoc

seven_low : (a b c d e f g : List ℕ) → (((((a ++ b) ++ c) ++ d) ++ e) ++ f) ++ g ≡ (a ++ b)
    ++ (c ++ (d ++ (e ++ (f ++ g))))
seven_low a b c d e f g = simp append_assoc

seven_captured : (a b c d e f g : List ℕ) → (((((a ++ b) ++ c) ++ d) ++ e) ++ f) ++ g ≡ ((a ++ b) ++ c)
    ++ (d ++ (e ++ (f ++ g)))
seven_captured a b c d e f g = simp append_assoc

seven_original : (a b c d e f g : List ℕ) → (((((a ++ b) ++ c) ++ d) ++ e) ++ f) ++ g ≡ (((a ++ b) ++ c) ++ d)
    ++ (e ++ (f ++ g))
seven_original a b c d e f g = simp append_assoc

seven_data : (a b c d e f g : List ℕ) → (((((a ++ b) ++ c) ++ d) ++ e) ++ f) ++ g
    ≡ ((((a ++ b) ++ c) ++ d) ++ e) ++ (f ++ g)
seven_data a b c d e f g = simp append_assoc

pub packet_again-law : PacketAgain
packet_again-law order interface units original bytes fits_i fits_u fits_o few =
    let body = packet_body order interface units original bytes in
    let a = bytes_of order 4 interface in
    let b = bytes_of order 4 (units / 2 ^ 32) in
    let c = bytes_of order 4 (units % 2 ^ 32) in
    let d = bytes_of order 4 (length bytes) in
    let e = bytes_of order 4 original in
    let g : List ℕ = replicate (padded (length bytes) - length bytes) 0 in
    let la = length-bytes_of order 4 interface in
    let lb = length-bytes_of order 4 (units / 2 ^ 32) in
    let lc = length-bytes_of order 4 (units % 2 ^ 32) in
    let ld = length-bytes_of order 4 (length bytes) in
    let le = length-bytes_of order 4 original in
    let two : length (a ++ b) ≡ 8 = omega (arith, length-append a b) in
    let three : length ((a ++ b) ++ c) ≡ 12 = omega (arith, length-append (a ++ b) c) in
    let head : length (((a ++ b) ++ c) ++ d) ≡ 16 = omega (arith, length-append ((a ++ b) ++ c) d) in
    let front : length ((((a ++ b) ++ c) ++ d) ++ e) ≡ 20 = omega (arith, length-append (((a ++ b) ++ c) ++ d) e) in
    let total = total_packet (length bytes) (12 + length body) few
    (length-packet_body order interface units original bytes) in
    let high = field order 4 (units / 2 ^ 32) a (c ++ (d ++ (e ++ (bytes ++ g)))) body 4
    (seven_high a b c d e bytes g) la (omega arith) in
    let low = field order 4 (units % 2 ^ 32) (a ++ b) (d ++ (e ++ (bytes ++ g))) body 8
    (seven_low a b c d e bytes g) two (omega arith) in (
      IsRead-text (Some order) order enhanced_kind body (λ other. refl)
          (SpellsBlock-text order enhanced_kind body (omega arith) total.1 total.0 (λ is. absurd (omega (arith, is))))
          (λ rest. plain_other order enhanced_kind body rest (packet_literal order)),
      first_field order 4 interface (b ++ (c ++ (d ++ (e ++ (bytes ++ g))))) body (seven_high a b c d e bytes g) fits_i,
      rw (high, low) (omega arith),
      field order 4 (length bytes) ((a ++ b) ++ c) (e ++ (bytes ++ g)) body 12 (seven_captured a b c d e bytes g) three
          (omega arith),
      field order 4 original (((a ++ b) ++ c) ++ d) (bytes ++ g) body 16 (seven_original a b c d e bytes g) head fits_o,
      ap (λ l. take (length bytes) (drop 20 l)) (seven_data a b c d e bytes g)
          ∙ (ap (take (length bytes)) (drop_at ((((a ++ b) ++ c) ++ d) ++ e) (bytes ++ g) 20 front)
          ∙ take_at bytes g (length bytes) refl),
    )
