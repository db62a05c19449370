-- What options say of an interface's times, one after the other.
use Rattle.cap_blocks.specs.Split.{first_of_rules}
use Rattle.cap_time.specs.declared.resolutions.Resolution.{Resolution}
use Rattle.std.proofs.Common.{Bool, true, false, ◌||◌, ◌&&◌, not, ◌==◌, Option, Some, None, is_some, unwrap_or, ℤ, pos}
use Rattle.std.proofs.Common.{arith, ◌≡◌, ℕ, List, [], ◌∷◌, Result, Ok, Err, refl, if◌then◌else◌, ◌≤◌, ◌<◌, nat_le}
use Rattle.std.proofs.Common.{drop}
use Rattle.cap_bytes.specs.declared.faults.Rule.TheVariants as rules
use Rattle.std.proofs.lemmas.Bool.Decides.{nat_tests}
use Rattle.std.proofs.Math.Bool.{or-false}
use Rattle.cap_bytes.specs.declared.faults.Rule.{Rule}
use Rattle.cap_bytes.specs.declared.numbers.Order.{Order}
use Rattle.cap_blocks.specs.OptionList.{OptionItem, options_of}
use Rattle.cap_source.specs.TimeBases.{microseconds, resolution_in, offset_in, value_of, given_or, options_fault}
use Rattle.cap_source.specs.TimeBases.{fault_of, with_resolution, with_offset, interface_at, interface_or, interface_by}
use Rattle.cap_source.specs.TimeBases.{interface_in, no_base, option_read, options_read, then_read}
use Rattle.cap_source.specs.declared.interfaces.TimeBase.{TimeBase}

pub read_none : (order : Order) (base : TimeBase) (items : List OptionItem) → items ≡ []
    → options_read order base items ≡ Ok base
unfolding options_read
read_none order base items is = rw is refl

pub read_fault : (order : Order) (base : TimeBase) (rule : Rule) (items rest : List OptionItem)
    → items ≡ Err rule ∷ rest
    → options_read order base items ≡ Err rule
unfolding options_read
read_fault order base rule items rest is = rw is refl

pub read_option : (order : Order) (base : TimeBase) (option : ℕ × List ℕ) (items rest : List OptionItem)
    (result : Result TimeBase Rule)
    → items ≡ Ok option ∷ rest → option_read order base option.0 option.1 ≡ result
    → options_read order base items ≡ then_read result (λ next. options_read order next rest)
unfolding options_read
read_option order base option items rest result is e = rw (is, e) refl

-- What the options after some others say is what the conditions of all tell.
abbrev pub Agrees : Order → Option Resolution → Option ℤ → List OptionItem → Result TimeBase Rule → Type 0
Agrees order res off items (Ok end) =
    (options_fault order (is_some res) (is_some off) items ≡ None)
    × (unwrap_or end.resolution microseconds ≡ unwrap_or res (given_or microseconds resolution_in (value_of 9 items)))
    × (unwrap_or end.offset (pos 0) ≡ unwrap_or off (given_or (pos 0) (offset_in order) (value_of 14 items)))
Agrees order res off items (Err rule) = options_fault order (is_some res) (is_some off) items ≡ Some rule

abbrev base_with : Option Resolution → Option ℤ → TimeBase
base_with res off = record { resolution = res; offset = off }

set_resolution : (order : Order) (off : Option ℤ) (value : List ℕ) (rest items : List OptionItem)
    (read : Result TimeBase Rule) (x : Result Resolution Rule)
    → resolution_in value ≡ x → read ≡ with_resolution (base_with None off) x
    → options_fault order false (is_some off) items
    ≡ first_of_rules (fault_of x) (options_fault order true (is_some off) rest)
    → value_of 9 items ≡ Some value → value_of 14 items ≡ value_of 14 rest
    → ((res : Option Resolution) → Agrees order res off rest (options_read order (base_with res off) rest))
    → Agrees order None off items (then_read read (λ next. options_read order next rest))
set_resolution order off value rest items read x' x is f v w ih = grind arith

set_offset : (order : Order) (res : Option Resolution) (value : List ℕ) (rest items : List OptionItem)
    (read : Result TimeBase Rule) (x : Result ℤ Rule)
    → offset_in order value ≡ x → read ≡ with_offset (base_with res None) x
    → options_fault order (is_some res) false items
    ≡ first_of_rules (fault_of x) (options_fault order (is_some res) true rest)
    → value_of 9 items ≡ value_of 9 rest → value_of 14 items ≡ Some value
    → ((off : Option ℤ) → Agrees order res off rest (options_read order (base_with res off) rest))
    → Agrees order res None items (then_read read (λ next. options_read order next rest))
set_offset order res value rest items read x' x is f v w ih = grind arith

one : (order : Order) (res : Option Resolution) (off : Option ℤ) (value : List ℕ) (rest items : List OptionItem)
    (a b : Bool) (read : Result TimeBase Rule)
    → (a ≡ true → b ≡ true → ⊥)
    → options_fault order (is_some res) (is_some off) items
    ≡ first_of_rules (if a && not (is_some res) then fault_of (resolution_in value) else if b
    && not (is_some off) then fault_of (offset_in order value) else None)
    (options_fault order (is_some res || a) (is_some off || b) rest)
    → value_of 9 items ≡ (if a then Some value else value_of 9 rest)
    → value_of 14 items ≡ (if b then Some value else value_of 14 rest)
    → read ≡ (if a && not (is_some res) then with_resolution (base_with res off) (resolution_in value) else if b
    && not (is_some off) then with_offset (base_with res off) (offset_in order value) else Ok (base_with res off))
    → ((r : Option Resolution) (o : Option ℤ) → Agrees order r o rest (options_read order (base_with r o) rest))
    → Agrees order res off items (then_read read (λ next. options_read order next rest))
one order res off value rest items a b read apart f v w is ih =
    grind (arith, or-false, is_some, unwrap_or, pos, set_resolution, set_offset)

apart : (code : ℕ) → (code == 9) ≡ true → (code == 14) ≡ true → ⊥
apart code p q = grind (arith, nat_tests)

-- What the options say is what their conditions tell.
pub agrees : (order : Order) (items : List OptionItem) (res : Option Resolution) (off : Option ℤ)
    → Agrees order res off items (options_read order (base_with res off) items)
unfolding options_read options_fault option_read
agrees order (Ok option ∷ rest) res off =
    one order res off option.1 rest (Ok option ∷ rest) (option.0 == 9) (option.0 == 14)
    (option_read order (base_with res off) option.0 option.1)
    (apart option.0) refl refl refl refl (λ r o. agrees order rest r o)
agrees order items res off = grind arith

-- The interface of a body is the one that its conditions tell.
by_agrees : (order : Order) (body : List ℕ) (items : List OptionItem) (result : Result TimeBase Rule)
    → Agrees order None None items result
    → interface_by order body result ≡ interface_or (options_fault order false false items)
    (interface_at order body items)
by_agrees order body items result h = grind arith

no_more : (before : ℕ) → 1024 ≤ before → nat_le 1024 before ≡ true
no_more before h = grind (arith, nat_tests)

one_more : (before : ℕ) → before < 1024 → nat_le 1024 before ≡ false
one_more before h = grind (arith, nat_tests)

-- A 1,025th interface is refused, and every other one is what its options say.
pub interface_refused : (before : ℕ) (order : Order) (body : List ℕ) → 1024 ≤ before
    → Err rules.InterfaceLimit ≡ interface_in before order body
unfolding interface_in
interface_refused before order body h = rw (no_more before h) refl

pub interface_read : (before : ℕ) (order : Order) (body : List ℕ) → before < 1024
    → interface_by order body (options_read order no_base (options_of order (drop 8 body)))
    ≡ interface_in before order body
unfolding interface_in
interface_read before order body h = search (one_more, by_agrees, agrees)
