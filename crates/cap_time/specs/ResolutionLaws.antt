-- How many units a second may have.
use Rattle.std.proofs.Common.{◌^◌, ◌<◌, ◌≤◌, ℕ, Bool, true, false, cond, arith, lit≤}
use Rattle.std.specs.Prelude.{IsTrue, nat_le}
use Rattle.std.proofs.Math.Nat.{pow-le-pow_right, one-le-pow}
use borrow.Author.Tests.{leb-true}
use Rattle.cap_time.specs.declared.resolutions.Resolution.{Resolution}
use Rattle.cap_time.specs.Code.{is_binary, exponent_of, is_allowed, units_of_code}
use Rattle.cap_time.specs.Resolution.{units_of}

-- powers of ten and of two lie between 1 and the greatest that is allowed
pub power_of_ten : (e : ℕ) → e ≤ 19 → (10 ^ e ≤ 10 ^ 19) × (1 ≤ 10 ^ e)
power_of_ten e h = (pow-le-pow_right (lit≤ tt) h, one-le-pow e 10 (lit≤ tt))

pub power_of_two : (e : ℕ) → e ≤ 63 → (2 ^ e ≤ 2 ^ 63) × (1 ≤ 2 ^ e)
power_of_two e h = (pow-le-pow_right (lit≤ tt) h, one-le-pow e 2 (lit≤ tt))

pub ruleset powers = (power_of_ten, power_of_two)

two_below_ten : (n : ℕ) → (n ≤ 2 ^ 63) × (1 ≤ n) → (n ≤ 10 ^ 19) × (1 ≤ n)
two_below_ten n h = (omega (arith, h.0), h.1)

choice : (binary : Bool) (e : ℕ) → IsTrue (cond binary (nat_le e 63) (nat_le e 19))
    → (cond binary (2 ^ e) (10 ^ e) ≤ 10 ^ 19) × (1 ≤ cond binary (2 ^ e) (10 ^ e))
choice true e h = two_below_ten (2 ^ e) (power_of_two e (leb-true e 63 h))
choice false e h = power_of_ten e (leb-true e 19 h)

pub limits : (code : ℕ) → IsTrue (is_allowed code) → (units_of_code code ≤ 10 ^ 19) × (1 ≤ units_of_code code)
unfolding units_of_code
limits code h = choice (is_binary code) (exponent_of code) h

-- there is a unit at least
pub code_positive : (code : ℕ) → IsTrue (is_allowed code) → 0 < units_of_code code
code_positive code allowed = omega (arith, (limits code allowed).1)

pub units_positive : (resolution : Resolution) → 0 < units_of resolution
units_positive resolution = code_positive resolution.code resolution.allowed

-- and no more than 10^19 of them, so that their number fits 64 bits
pub units_at_most : (resolution : Resolution) → units_of resolution ≤ 10 ^ 19
units_at_most resolution = (limits resolution.code resolution.allowed).0
