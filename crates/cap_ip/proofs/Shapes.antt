-- What holds of a header that was found.
use Rattle.std.proofs.Common.{◌≡◌, ◌≤◌, ◌+◌, ◌%◌, ◌-◌, ℕ, Bool, true, false, ◌&&◌, ◌||◌, ◌==◌, not, nat_lt, List}
use Rattle.std.proofs.Common.{length, take, drop, Some, None, IsSome, IfSome, if◌then◌else◌, refl, arith, length-drop}
use Rattle.std.proofs.Common.{length-take}
use Rattle.std.proofs.lemmas.Bool.Decides.{nat_tests}
use Rattle.cap_ip.specs.Fields.{data_length, offset}
use Rattle.cap_ip.specs.declared.headers.Fragment.{Fragment}
use Rattle.cap_ip.specs.Header.{HeaderFields, IsPiece, IsWellFormed}
use Rattle.cap_ip.specs.Read.{ended_in_header, fields_of, fragment_of, data_of, lacks_data, is_misfit, is_partial}
use Rattle.cap_ip.specs.Read.{Reading}
use Rattle.cap_ip.specs.Read.{IfFound, IsShapedPacket}

-- what the fifth step leaves, over plain values
pub IsPiece-fits : (fragment more : Bool) (start len : ℕ) → start % 8 ≡ 0
    → (fragment && ((len == 0) || (more && not (len % 8 == 0)) || nat_lt 65515 (start + len))) ≡ false
    → IfSome (if fragment then Some (record { start = start; length = len; more = more }) else None) (IsPiece len)
IsPiece-fits false more start len begins fits = tt
IsPiece-fits true more start len begins fits = record {
  all = refl;
  some = grind (arith, nat_tests);
  begins = begins;
  ends = λ m. grind (arith, nat_tests);
  within = grind (arith, nat_tests);
}

pub IsWellFormed-fields_of : (bytes : List ℕ) → data_length bytes ≤ 65515 → is_misfit bytes ≡ false
    → IsWellFormed (fields_of bytes)
unfolding fields_of fragment_of is_misfit offset
IsWellFormed-fields_of bytes bounded fits = grind arith

-- a packet that ends inside its header answers no header
pub IfFound-ended : (whole : Bool) (P : HeaderFields → List ℕ → Type 0) → IfFound (ended_in_header whole) P
unfolding ended_in_header
IfFound-ended whole P = grind arith

-- the part of a list that stands between two places
pub length-part : (bytes : List ℕ) (size total : ℕ) → total ≤ length bytes
    → length (take (total - size) (drop size bytes)) ≡ total - size
length-part bytes size total within = grind (arith, length-take, length-drop)

-- a fragment that isn't partial is whole, over plain values
pub le-whole : (fragment : Bool) (piece : Fragment) (held total : ℕ) → IsSome (if fragment then Some piece else None)
    → (fragment && nat_lt held total) ≡ false → total ≤ held
le-whole fragment piece held total some whole = grind arith

pub IsShaped-found : (bytes : List ℕ) → IsWellFormed (fields_of bytes) → is_partial bytes ≡ false
    → IsShapedPacket (fields_of bytes) (data_of bytes)
unfolding fields_of fragment_of data_of data_length is_partial lacks_data
IsShaped-found bytes form whole = grind (arith, length-take, length-part, le-whole)

-- what the seven steps answer, over plain tests
pub IfFound-steps : (short malformed headless overstated misfit partial : Bool) (end : Reading) (header : HeaderFields)
    (captured : List ℕ) (P : HeaderFields → List ℕ → Type 0) → IfFound end P
    → (malformed ≡ false → misfit ≡ false → partial ≡ false → P header captured)
    → IfFound (if short then end else (if malformed then Reading.bad
    else (if headless then end else (if overstated then Reading.bad
    else (if misfit then Reading.bad else (if partial then Reading.cut else Reading.found header captured)))))) P
IfFound-steps short malformed headless overstated misfit partial end header captured P at_end last = grind arith
