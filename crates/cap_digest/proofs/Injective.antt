-- Packets with the same canonical text.
use Rattle.std.proofs.Common.{◌≡◌, ◌+◌, ◌/◌, ◌^◌, ◌≤◌, ◌<◌, ◌∙◌, ℕ, ℤ, pos, negsuc, ◌+ℤ◌, List, [], ◌++◌, length}
use Rattle.std.proofs.Common.{take, drop, refl, sym, ap, arith, lit<, FitsSigned, Option, Some, None, take_at, drop_at}
use Rattle.std.proofs.Common.{length-append, append_assoc}
use Rattle.std.proofs.lemmas.Int.{to_z-of_z, ints}
use Rattle.std.proofs.Math.Nat.{div-le_self}
use Rattle.std.specs.Int.{cast_signed, cast_unsigned, w64, w128}
use Rattle.std.specs.Option.{option_map}
use Rattle.std.specs.Prelude.{unwrap_or}
use Rattle.cap_bytes.proofs.Spelling.{length-bytes_of, number-bytes_of}
use Rattle.cap_bytes.specs.Number.{bytes_of, number}
use Rattle.cap_bytes.specs.declared.numbers.Order.TheVariants.{Big}
use Rattle.cap_digest.proofs.Times.{lowest-of}
use Rattle.cap_digest.specs.Canonical.{canonical_form, form_bytes, canonical_head, in_lowest_terms}
use Rattle.cap_source.specs.Times.{meta_time}
use Rattle.cap_source.specs.inner.Fields.{FitsInterface, FitsMeta}
use Rattle.cap_source.specs.declared.packets.Meta.{Meta}
use Rattle.cap_time.proofs.StampForms.{seconds_of-stamp_in}
use Rattle.cap_time.specs.Resolution.{units_of}
use Rattle.cap_time.specs.ResolutionLaws.{units_at_most}
use Rattle.cap_time.specs.Stamp.{denominator_of, printed_of, seconds_of, stamp_in}
use Rattle.cap_time.specs.Time.{Printed}
use Rattle.cap_time.specs.declared.resolutions.Interface.{Interface}
use Rattle.cap_time.specs.declared.stamps.Stamp.{Stamp}

-- two lists that are the same have the same parts, if the first ones are as long as each other
split : (xs ys us vs : List ℕ) → length xs ≡ length us → xs ++ ys ≡ us ++ vs → (xs ≡ us) × (ys ≡ vs)
split xs ys us vs len same = (
  sym (take_at xs ys (length us) len) ∙ ap (take (length us)) same ∙ take_at us vs (length us) refl,
  sym (drop_at xs ys (length us) len) ∙ ap (drop (length us)) same ∙ drop_at us vs (length us) refl,
)

-- numbers that the same bytes spell are the same
same-number : (n x y : ℕ) → x < 256 ^ n → y < 256 ^ n → bytes_of Big n x ≡ bytes_of Big n y → x ≡ y
same-number n x y p q same =
    sym (number-bytes_of Big n x [] p) ∙ ap (λ (l : List ℕ). number Big n (l ++ [])) same ∙ number-bytes_of Big n y [] q

-- the bytes of two numbers are as many
same-length : (n x y : ℕ) → length (bytes_of Big n x) ≡ length (bytes_of Big n y)
same-length n x y = length-bytes_of Big n x ∙ sym (length-bytes_of Big n y)

-- the three numbers of a form fit in their widths
pub record FitsForm (form : Printed) : Type 0 where
  pub seconds : FitsSigned w128 form.seconds
  pub numerator : form.numerator < 256 ^ 8
  pub denominator : form.denominator < 256 ^ 8

-- seconds from an offset of 64 bits on, fewer than 2^64
few-seconds : (z offset : ℤ) (n : ℕ) → FitsSigned w64 offset → n < 2 ^ 64 → z ≡ offset +ℤ pos n → FitsSigned w128 z
few-seconds (pos m) (pos k) n fits few is = record { sfits = omega (arith, ints, is, fits.sfits, few) }
few-seconds (pos m) (negsuc k) n fits few is = record { sfits = omega (arith, ints, is, fits.sfits, few) }
few-seconds (negsuc m) (pos k) n fits few is = record { sfits = omega (arith, ints, is, fits.sfits, few) }
few-seconds (negsuc m) (negsuc k) n fits few is = record { sfits = omega (arith, ints, is, fits.sfits, few) }

-- a fraction in lowest terms fits if its denominator did
stamp-fits : (stamp : Stamp) → FitsSigned w128 (seconds_of stamp) → denominator_of stamp < 256 ^ 8
    → FitsForm (in_lowest_terms (printed_of stamp))
stamp-fits stamp seconds few =
    let form = in_lowest_terms (printed_of stamp) in
    let least : form.denominator ≤ denominator_of stamp = div-le_self (denominator_of stamp) _ in
    record {
      seconds = seconds;
      numerator = omega (arith, (lowest-of stamp).below, least, few);
      denominator = omega (arith, least, few);
    }

-- so does that of every packet whose fields fit
form-fits : (units : Option ℕ) (interface : Interface) → FitsInterface interface → unwrap_or units 0 < 2 ^ 64
    → FitsForm (canonical_form (option_map printed_of (option_map (λ u. stamp_in u interface) units)))
unfolding stamp_in
form-fits None interface fits few =
    record { seconds = record { sfits = lit< tt }; numerator = lit< tt; denominator = lit< tt }
form-fits (Some units) interface fits few =
    stamp-fits (stamp_in units interface)
    (few-seconds (seconds_of (stamp_in units interface)) interface.offset (units / units_of interface.resolution)
    fits.offset (omega (arith, div-le_self units (units_of interface.resolution), few))
    (seconds_of-stamp_in units interface))
    (omega (arith, units_at_most interface.resolution))

-- two parts as long as two others are together as long as these
both-lengths : (xs ys us vs : List ℕ) → length xs ≡ length us → length ys ≡ length vs
    → length (xs ++ ys) ≡ length (us ++ vs)
both-lengths xs ys us vs p q = length-append xs ys ∙ (λ i. p i + q i) ∙ sym (length-append us vs)

-- a signed number as two's complement
complement-below : (z : ℤ) → FitsSigned w128 z → cast_unsigned w128 z < 256 ^ 16
complement-below (pos n) fits = omega (arith, fits.sfits)
complement-below (negsuc n) fits = omega (arith, fits.sfits)

same-signed : (a b : ℤ) → FitsSigned w128 a → FitsSigned w128 b
    → bytes_of Big 16 (cast_unsigned w128 a) ≡ bytes_of Big 16 (cast_unsigned w128 b) → a ≡ b
same-signed a b p q same =
    sym (to_z-of_z w128 a p)
    ∙ ap (cast_signed w128)
    (same-number 16 (cast_unsigned w128 a) (cast_unsigned w128 b) (complement-below a p) (complement-below b q) same)
    ∙ to_z-of_z w128 b q

-- forms with the same bytes are the same
same-forms : (a b : Printed) → FitsForm a → FitsForm b → form_bytes a ≡ form_bytes b → a ≡ b
same-forms a b p q same =
    let x = cast_unsigned w128 a.seconds in
    let y = cast_unsigned w128 b.seconds in
    let outer = split (bytes_of Big 16 x ++ bytes_of Big 8 a.numerator) (bytes_of Big 8 a.denominator)
    (bytes_of Big 16 y ++ bytes_of Big 8 b.numerator) (bytes_of Big 8 b.denominator)
    (both-lengths (bytes_of Big 16 x) (bytes_of Big 8 a.numerator) (bytes_of Big 16 y) (bytes_of Big 8 b.numerator)
    (same-length 16 x y) (same-length 8 a.numerator b.numerator)) same in
    let inner = split (bytes_of Big 16 x) (bytes_of Big 8 a.numerator) (bytes_of Big 16 y) (bytes_of Big 8 b.numerator)
    (same-length 16 x y) outer.0 in
    let seconds = same-signed a.seconds b.seconds p.seconds q.seconds inner.0 in
    let numerator = same-number 8 a.numerator b.numerator p.numerator q.numerator inner.1 in
    let denominator = same-number 8 a.denominator b.denominator p.denominator q.denominator outer.1 in
    λ i. record { seconds = seconds i; numerator = numerator i; denominator = denominator i }

length-form : (a b : Printed) → length (form_bytes a) ≡ length (form_bytes b)
length-form a b =
    both-lengths (bytes_of Big 16 (cast_unsigned w128 a.seconds) ++ bytes_of Big 8 a.numerator) _
    (bytes_of Big 16 (cast_unsigned w128 b.seconds) ++ bytes_of Big 8 b.numerator) _
    (both-lengths (bytes_of Big 16 (cast_unsigned w128 a.seconds)) _ (bytes_of Big 16 (cast_unsigned w128 b.seconds)) _
    (same-length 16 (cast_unsigned w128 a.seconds) (cast_unsigned w128 b.seconds))
    (same-length 8 a.numerator b.numerator)) (same-length 8 a.denominator b.denominator)

-- What stands before the captured bytes of two packets is the same: the link type, the lengths, the form of the time.
pub record SameHead (meta again : Meta) : Type 0 where
  pub link : meta.interface.link ≡ again.interface.link
  pub captured : meta.captured ≡ again.captured
  pub original : meta.original ≡ again.original
  pub form : canonical_form (option_map printed_of (meta_time meta))
      ≡ canonical_form (option_map printed_of (meta_time again))

-- such packets have the same bytes there
pub head-bytes : (meta again : Meta) → SameHead meta again → canonical_head meta ≡ canonical_head again
head-bytes meta again a =
    λ i. bytes_of Big 2 (a.link i) ++ bytes_of Big 4 (a.captured i) ++ bytes_of Big 4 (a.original i)
    ++ form_bytes (a.form i)

-- packets whose fields fit, with the same bytes before their captured ones
same-heads : (meta again : Meta) (frame frame_again rest rest_again : List ℕ) → FitsMeta meta frame
    → FitsMeta again frame_again → canonical_head meta ++ rest ≡ canonical_head again ++ rest_again
    → SameHead meta again × (rest ≡ rest_again)
same-heads meta again frame frame_again rest rest_again p q same =
    let f = canonical_form (option_map printed_of (meta_time meta)) in
    let k = canonical_form (option_map printed_of (meta_time again)) in
    let l = bytes_of Big 2 meta.interface.link in
    let m = bytes_of Big 2 again.interface.link in
    let c = bytes_of Big 4 meta.captured in
    let d = bytes_of Big 4 again.captured in
    let o = bytes_of Big 4 meta.original in
    let n = bytes_of Big 4 again.original in
    let links = same-length 2 meta.interface.link again.interface.link in
    let shorts = both-lengths l c m d links (same-length 4 meta.captured again.captured) in
    let lengths = both-lengths (l ++ c) o (m ++ d) n shorts (same-length 4 meta.original again.original) in
    let whole = split (l ++ c ++ o ++ form_bytes f) rest (m ++ d ++ n ++ form_bytes k) rest_again
    (both-lengths (l ++ c ++ o) (form_bytes f) (m ++ d ++ n) (form_bytes k) lengths (length-form f k)) same in
    let times = split (l ++ c ++ o) (form_bytes f) (m ++ d ++ n) (form_bytes k) lengths whole.0 in
    let originals = split (l ++ c) o (m ++ d) n shorts times.0 in
    let captures = split l c m d links originals.0 in
    let head : SameHead meta again = record {
      link = same-number 2 meta.interface.link again.interface.link p.interface.link q.interface.link captures.0;
      captured = same-number 4 meta.captured again.captured
          (omega (arith, p.frame.limit)) (omega (arith, q.frame.limit)) captures.1;
      original = same-number 4 meta.original again.original p.original q.original originals.1;
      form = same-forms f k (form-fits meta.units meta.interface p.interface p.units)
          (form-fits again.units again.interface q.interface q.units) times.1;
    } in
    (head, whole.1)

-- packets whose fields fit, with the same bytes, before others
pub text-alike : (meta again : Meta) (frame frame_again rest rest_again : List ℕ) → FitsMeta meta frame
    → FitsMeta again frame_again
    → canonical_head meta ++ frame ++ rest ≡ canonical_head again ++ frame_again ++ rest_again
    → SameHead meta again × (frame ≡ frame_again) × (rest ≡ rest_again)
text-alike meta again frame frame_again rest rest_again p q same =
    let head = same-heads meta again frame frame_again (frame ++ rest) (frame_again ++ rest_again) p q
    (sym (append_assoc (canonical_head meta) frame rest) ∙ same
    ∙ append_assoc (canonical_head again) frame_again rest_again) in
    let long : length frame ≡ length frame_again = p.frame.captured ∙ head.0.captured ∙ sym q.frame.captured in
    let parts = split frame rest frame_again rest_again long head.1 in
    (head.0, parts.0, parts.1)

-- there are such bytes
pub head-some : (meta : Meta) → 0 < length (canonical_head meta)
head-some meta =
    let link = bytes_of Big 2 meta.interface.link in
    let captured = bytes_of Big 4 meta.captured in
    let original = bytes_of Big 4 meta.original in
    omega (
      arith,
      length-append (link ++ captured ++ original)
          (form_bytes (canonical_form (option_map printed_of (meta_time meta)))),
      length-append (link ++ captured) original,
      length-append link captured,
      length-bytes_of Big 2 meta.interface.link,
    )
