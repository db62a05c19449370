-- What is written for an interface is read again as that interface.
use Rattle.std.proofs.Common.{◌≡◌, ◌==◌, ℕ, ℤ, pos, ◌^◌, ◌<◌, [], ◌∷◌, length, Bool, true, false, Some, None, unwrap_or}
use Rattle.std.proofs.Common.{Ok, Err, refl, sym, ap, ◌∙◌, arith, append-nil, if◌then◌else◌}
use Rattle.std.proofs.lemmas.Bool.{eq-eqb}
use Rattle.std.proofs.lemmas.Int.{to_z-of_z}
use Rattle.std.proofs.Math.Facts.{Fits-lt-pow, Fits-of_z}
use Rattle.std.specs.Prelude.{FitsSigned}
use Rattle.std.specs.Int.{w64, cast_signed, cast_unsigned}
use Rattle.std.specs.List.{list_any}
use Rattle.cap_blocks.proofs.Again.{interface_again-law}
use Rattle.cap_blocks.specs.Grammar.{interface_body}
use Rattle.cap_blocks.specs.inner.Laws.{offset_items}
use Rattle.cap_bytes.proofs.Spelling.{number-bytes_of, length-bytes_of}
use Rattle.cap_bytes.specs.Number.{number, bytes_of}
use Rattle.cap_bytes.specs.declared.faults.Rule.TheVariants as rules
use Rattle.cap_bytes.specs.declared.numbers.Order.{Order}
use Rattle.cap_source.proofs.Options.{interface_read}
use Rattle.cap_source.proofs.Resolutions.{from_code_is}
use Rattle.cap_source.specs.TimeBases.{resolution_of, offset_in, no_base, option_read, options_read, interface_in}
use Rattle.cap_source.specs.TimeBases.{is_name, is_named}
use Rattle.cap_source.specs.inner.Written.{InterfaceWritten}
use Rattle.cap_time.specs.Resolution.{code_of}
use Rattle.cap_time.specs.declared.resolutions.Interface.{Interface}
use Rattle.cap_time.specs.declared.resolutions.Resolution.{Resolution}

resolution_of-code : (r : Resolution) → resolution_of (code_of r) ≡ Some r
resolution_of-code r = sym (from_code_is (code_of r) (Some r) ((λ i. r.allowed), (λ a. refl)) refl)

-- an offset as it is written, read back
offset_in-written : (order : Order) (offset : ℤ) → FitsSigned w64 offset
    → offset_in order (bytes_of order 8 (cast_unsigned w64 offset)) ≡ Ok offset
unfolding offset_in
offset_in-written order offset fits =
    let u = cast_unsigned w64 offset in
    let value = bytes_of order 8 u in
    ap (λ b. if b then Ok (cast_signed w64 (number order 8 value)) else Err rules.OptionLength)
    (eq-eqb (length value) 8 (length-bytes_of order 8 u))
    ∙ ap (λ n. Ok (cast_signed w64 n))
    (ap (number order 8) (sym (append-nil value)) ∙ number-bytes_of order 8 u []
    (Fits-lt-pow (Fits-of_z {w = w64} {z = offset} fits)))
    ∙ ap Ok (to_z-of_z w64 offset fits)

-- the options of an interface
options_read-written : (order : Order) (r : Resolution) (offset : ℤ) (zero : Bool) → FitsSigned w64 offset
    → (cast_unsigned w64 offset == 0) ≡ zero
    → options_read order no_base (Ok (9, code_of r ∷ [])
    ∷ (if zero then [] else Ok (14, bytes_of order 8 (cast_unsigned w64 offset)) ∷ []))
    ≡ Ok (record { resolution = Some r; offset = if zero then None else Some offset })
unfolding options_read option_read
options_read-written order r offset true fits is = grind (arith, resolution_of-code)
options_read-written order r offset false fits is = grind (arith, resolution_of-code, offset_in-written)

-- an offset that isn't written is 0
unwritten : (offset : ℤ) (zero : Bool) → FitsSigned w64 offset → (cast_unsigned w64 offset == 0) ≡ zero
    → unwrap_or (if zero then None else Some offset) (pos 0) ≡ offset
unwritten offset zero fits is = grind arith

with_fields : (i : Interface) (link snaplen : ℕ) (offset : ℤ) → link ≡ i.link → snaplen ≡ i.snaplen → offset ≡ i.offset
    → record { link = link; snaplen = snaplen; resolution = i.resolution; offset = offset } ≡ i
with_fields i link snaplen offset a b c = rw (a, b, c) refl

-- the interface of a written interface block is that interface
pub interface_in-written : (before : ℕ) (order : Order) (i : Interface) → before < 1024 → i.link < 2 ^ 16
    → i.snaplen < 2 ^ 32 → FitsSigned w64 i.offset
    → interface_in before order (interface_body order i) ≡ Ok i
interface_in-written before order i few link snaplen fits =
    grind (
      arith,
      interface_again-law order i link snaplen,
      interface_read,
      interface_again-law,
      options_read-written,
      with_fields,
      unwrap_or,
      pos,
      unwritten,
    )

-- and it has no name
none-named : (order : Order) (r : Resolution) (n : ℕ)
    → list_any is_name (Ok (9, code_of r ∷ []) ∷ offset_items order n) ≡ false
none-named order r n = by (n == 0)
  where
    by : (zero : Bool) → list_any is_name (Ok (9, code_of r ∷ [])
        ∷ (if zero then [] else Ok (14, bytes_of order 8 n) ∷ [])) ≡ false
    by true = refl
    by false = refl

pub is_named-written : (order : Order) (i : Interface) → i.link < 2 ^ 16 → i.snaplen < 2 ^ 32
    → is_named order (interface_body order i) ≡ false
unfolding is_named
is_named-written order i link snaplen =
    ap (list_any is_name) (interface_again-law order i link snaplen).3
    ∙ none-named order i.resolution (cast_unsigned w64 i.offset)

pub interface_written-law : InterfaceWritten
interface_written-law before order i few fits =
    interface_in-written before order i few fits.link fits.snaplen fits.offset
