-- The canonical text of packets: of each its link type, its lengths, its exact time in lowest terms and its captured
-- bytes. So it says nothing of the format, the byte order and the units of the file that has them.
use Rattle.std.specs.Prelude.{◌/◌, ◌%◌, ◌==◌, ◌&&◌, ℕ, zero, suc, if◌then◌else◌, pos, List, [], ◌∷◌, ◌++◌}
use Rattle.std.specs.Prelude.{Option, Some, None}
use Rattle.std.specs.Int.{cast_unsigned, w128}
use Rattle.std.specs.Option.{option_map}
use Rattle.cap_bytes.specs.Number.{bytes_of}
use Rattle.cap_bytes.specs.declared.numbers.Order.TheVariants.{Big}
use Rattle.cap_source.specs.Feed.{Item, packet, refused}
use Rattle.cap_source.specs.Times.{meta_time}
use Rattle.cap_source.specs.declared.packets.Meta.{Meta}
use Rattle.cap_time.specs.Stamp.{printed_of}
use Rattle.cap_time.specs.Time.{Printed}

-- the greatest number up to n by which two numbers can be divided, 1 if there is none
unfoldable pub greatest_divisor : ℕ → ℕ → ℕ → ℕ
greatest_divisor zero a b = 1
greatest_divisor (suc n) a b = if a % suc n == 0 && b % suc n == 0 then suc n else greatest_divisor n a b

-- the greatest common divisor of two numbers, of which the second isn't 0
abbrev pub common_divisor : ℕ → ℕ → ℕ
common_divisor a b = greatest_divisor b a b

-- a time in lowest terms: numerator and denominator, each divided by the greatest common divisor of both
abbrev pub in_lowest_terms : Printed → Printed
in_lowest_terms form = record form {
  numerator = form.numerator / common_divisor form.numerator form.denominator;
  denominator = form.denominator / common_divisor form.numerator form.denominator;
}

-- the three numbers that stand for a packet's time; if it has none each is 0
abbrev pub canonical_form : Option Printed → Printed
canonical_form None = record { seconds = pos 0; numerator = 0; denominator = 0 }
canonical_form (Some form) = in_lowest_terms form

-- their 32 bytes: the seconds in 16, as two's complement, the numerator and the denominator in 8 each
abbrev pub form_bytes : Printed → List ℕ
form_bytes form =
    bytes_of Big 16 (cast_unsigned w128 form.seconds) ++ bytes_of Big 8 form.numerator
    ++ bytes_of Big 8 form.denominator

-- the 42 bytes before a packet's captured bytes: the link type in 2, the captured length and the original one in 4
-- each, the time in 32, the highest byte of each number first
abbrev pub canonical_head : Meta → List ℕ
canonical_head meta =
    bytes_of Big 2 meta.interface.link ++ bytes_of Big 4 meta.captured ++ bytes_of Big 4 meta.original
    ++ form_bytes (canonical_form (option_map printed_of (meta_time meta)))

-- the canonical text of the packets of a list, one after another
unfoldable pub canonical_text : List Item → List ℕ
canonical_text [] = []
canonical_text (packet meta frame ∷ items) = canonical_head meta ++ frame ++ canonical_text items
canonical_text (refused refusal ∷ items) = []
