-- What the options of an interface block say of its times: their unit, and the offset that is added.
-- draft-ietf-opsawg-pcapng, 4.2.
use Rattle.std.specs.Prelude.{◌≡◌, ◌==◌, ◌&&◌, ◌||◌, not, nat_le, ℕ, ℤ, pos, Bool, true, false, if◌then◌else◌, List, []}
use Rattle.std.specs.Prelude.{◌∷◌, length, drop, slice_index, Option, Some, None, is_some, unwrap_or, Result, Ok, Err}
use Rattle.std.specs.Prelude.{refl}
use Rattle.std.specs.Int.{w64, cast_signed}
use Rattle.std.specs.List.{list_any}
use Rattle.cap_bytes.specs.Number.{number}
use Rattle.cap_bytes.specs.declared.faults.Rule.{Rule}
use Rattle.cap_bytes.specs.declared.faults.Rule.TheVariants as rules
use Rattle.cap_bytes.specs.declared.numbers.Order.{Order}
use Rattle.cap_time.specs.Code.{is_allowed}
use Rattle.cap_time.specs.declared.resolutions.Resolution.{Resolution}
use Rattle.cap_time.specs.declared.resolutions.Interface.{Interface}
use Rattle.cap_blocks.specs.OptionList.{OptionItem, options_of}
use Rattle.cap_blocks.specs.Split.{first_of_rules}
use Rattle.cap_source.specs.declared.interfaces.TimeBase.{TimeBase}

-- the resolution of a code, if it is one that is read
abbrev pub resolution_if : (code : ℕ) (allowed : Bool) → is_allowed code ≡ allowed → Option Resolution
resolution_if code true is = Some (record { code = code; allowed = is })
resolution_if code false is = None

unfoldable pub resolution_of : ℕ → Option Resolution
resolution_of code = resolution_if code (is_allowed code) refl

-- a millionth of a second: the resolution if none is given
abbrev pub microseconds : Resolution
microseconds = record { code = 6; allowed = refl }

-- the value, or else the rule that is broken
abbrev pub ok_or : {A : Type 0} → Option A → Rule → Result A Rule
ok_or None rule = Err rule
ok_or (Some x) rule = Ok x

-- the resolution of an if_tsresol, or what it is refused by
abbrev pub resolution_in : List ℕ → Result Resolution Rule
resolution_in value =
    if length value == 1 then ok_or (resolution_of (slice_index value 0)) rules.Resolution else Err rules.OptionLength

-- the offset of an if_tsoffset, or what it is refused by
unfoldable pub offset_in : Order → List ℕ → Result ℤ Rule
offset_in order value =
    if length value == 8 then Ok (cast_signed w64 (number order 8 value)) else Err rules.OptionLength

-- what the options so far say: nothing at first
abbrev pub no_base : TimeBase
no_base = record { resolution = None; offset = None }

abbrev pub with_resolution : TimeBase → Result Resolution Rule → Result TimeBase Rule
with_resolution base (Ok resolution) = Ok (record { resolution = Some resolution; offset = base.offset })
with_resolution base (Err rule) = Err rule

abbrev pub with_offset : TimeBase → Result ℤ Rule → Result TimeBase Rule
with_offset base (Ok offset) = Ok (record { resolution = base.resolution; offset = Some offset })
with_offset base (Err rule) = Err rule

-- the same with one more option: only the first if_tsresol, of code 9, and the first if_tsoffset, of code
-- 14, are looked at
unfoldable pub option_read : Order → TimeBase → ℕ → List ℕ → Result TimeBase Rule
option_read order base code value =
    if (code == 9) && not (is_some base.resolution) then with_resolution base (resolution_in value) else
    if (code == 14) && not (is_some base.offset) then with_offset base (offset_in order value) else Ok base

abbrev pub then_read : Result TimeBase Rule → (TimeBase → Result TimeBase Rule) → Result TimeBase Rule
then_read (Ok base) later = later base
then_read (Err rule) later = Err rule

-- The same with several, one after the other, or the first rule that they break. A value that runs past the
-- end is refused where it stands.
unfoldable pub options_read : Order → TimeBase → List OptionItem → Result TimeBase Rule
options_read order base [] = Ok base
options_read order base (Err rule ∷ rest) = Err rule
options_read order base (Ok option ∷ rest) =
    then_read (option_read order base option.0 option.1) (λ next. options_read order next rest)

-- the interface of a body whose options say that of its times
abbrev pub interface_with : TimeBase → Order → List ℕ → Interface
interface_with base order body =
    record {
      link = number order 2 body;
      snaplen = number order 4 (drop 4 body);
      resolution = unwrap_or base.resolution microseconds;
      offset = unwrap_or base.offset (pos 0);
    }

abbrev pub interface_by : Order → List ℕ → Result TimeBase Rule → Result Interface Rule
interface_by order body (Ok base) = Ok (interface_with base order body)
interface_by order body (Err rule) = Err rule

-- the value of the first option of that code
abbrev pub value_of : ℕ → List OptionItem → Option (List ℕ)
value_of code [] = None
value_of code (Err rule ∷ rest) = None
value_of code (Ok option ∷ rest) = if option.0 == code then Some option.1 else value_of code rest

-- what is read of the option, if there is one and it is well-formed
abbrev pub read_or : {A : Type 0} → A → Result A Rule → A
read_or other (Ok x) = x
read_or other (Err rule) = other

abbrev pub given_or : {A : Type 0} → A → (List ℕ → Result A Rule) → Option (List ℕ) → A
given_or other read None = other
given_or other read (Some value) = read_or other (read value)

-- the rule that is broken, if one is
abbrev pub fault_of : {A : Type 0} → Result A Rule → Option Rule
fault_of (Ok x) = None
fault_of (Err rule) = Some rule

-- What one option is refused by: an if_tsresol, of code 9, if none stands before it, and an if_tsoffset, of
-- code 14, likewise.
abbrev pub option_fault : Order → (resolved moved : Bool) → ℕ → List ℕ → Option Rule
option_fault order resolved moved code value =
    if (code == 9) && not resolved then fault_of (resolution_in value) else
    if (code == 14) && not moved then fault_of (offset_in order value) else None

-- The first rule that the options break, one after the other, after others with an if_tsresol or an
-- if_tsoffset among them or not. A value that runs past the end is refused where it stands.
unfoldable pub options_fault : Order → (resolved moved : Bool) → List OptionItem → Option Rule
options_fault order resolved moved [] = None
options_fault order resolved moved (Err rule ∷ rest) = Some rule
options_fault order resolved moved (Ok option ∷ rest) =
    first_of_rules (option_fault order resolved moved option.0 option.1)
    (options_fault order (resolved || (option.0 == 9)) (moved || (option.0 == 14)) rest)

-- an option is an if_name, of code 2
abbrev pub is_name : OptionItem → Bool
is_name (Ok option) = option.0 == 2
is_name (Err rule) = false

-- the interface of a body has a name: an if_name is among its options
unfoldable pub is_named : Order → List ℕ → Bool
is_named order body = list_any is_name (options_of order (drop 8 body))

-- the interface of a body, of whose options the first of each kind counts
abbrev pub interface_at : Order → List ℕ → List OptionItem → Interface
interface_at order body options =
    record {
      link = number order 2 body;
      snaplen = number order 4 (drop 4 body);
      resolution = given_or microseconds resolution_in (value_of 9 options);
      offset = given_or (pos 0) (offset_in order) (value_of 14 options);
    }

abbrev pub interface_or : Option Rule → Interface → Result Interface Rule
interface_or (Some rule) interface = Err rule
interface_or None interface = Ok interface

-- The interface of an interface block, before which that many stand in its section, or the first rule that
-- it breaks. draft-ietf-opsawg-pcapng, 4.2.
unfoldable pub interface_in : ℕ → Order → List ℕ → Result Interface Rule
interface_in before order body =
    if nat_le 1024 before then Err rules.InterfaceLimit else
    interface_or (options_fault order false false (options_of order (drop 8 body)))
    (interface_at order body (options_of order (drop 8 body)))
