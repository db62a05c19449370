-- Files that are read one by one.
use Rattle.std.proofs.Common.{◌≡◌, ◌<◌, ◌+◌, ℕ, suc, Bool, true, false, ◌-◌, List, [], ◌∷◌, ◌++◌, length, map, take}
use Rattle.std.proofs.Common.{drop, get_or, arith, None, Ok, Err, append_assoc}
use Rattle.std.specs.Prelude.{◌&&◌}
use Rattle.std.specs.List.{list_all}
use Rattle.cap_bytes.specs.declared.faults.Fault.{Fault}
use Rattle.cap_bytes.specs.declared.faults.Fault.TheVariants.{Refused, Read, Write, Memory}
use Rattle.cap_bytes.specs.declared.faults.Tail.{Tail}
use Rattle.cap_source.specs.ReadFaults.{FailsAs, FailsOf}
use Rattle.cap_source.specs.Items.{file_items}
use Rattle.cap_source.specs.Feed.{refusal_of}
use Rattle.cap_talks.specs.talks.InfoText.{first_refusal}
use Rattle.cap_talks.specs.talks.Reading.{counted_files, CountsFile, CountsFiles}
use Rattle.cap_talks.specs.declared.counts.files.Counted.{Counted}

pub bytes-at : {R : Type 0} (coming : R → List ℕ) (all : List R) (place : ℕ) (x : R) → x ≡ get_or all place x
    → place < length all
    → drop place (map coming all) ≡ coming x ∷ drop (suc place) (map coming all)
bytes-at coming (y ∷ all) (suc place) x is within = bytes-at coming all place x is (omega arith)
bytes-at coming all place x is within = grind arith

pub all-at : {R : Type 0} (test : R → Bool) (all : List R) (place : ℕ) (x : R) → x ≡ get_or all place x
    → place < length all
    → list_all test all ≡ true → test x ≡ true
all-at test (y ∷ all) (suc place) x is within t =
    all-at test all place x is (omega arith) (second (test y) (list_all test all) t)
  where
    second : (a b : Bool) → (a && b) ≡ true → b ≡ true
    second a b h = grind arith
all-at test all place x is within t = grind arith

can-at : {R : Type 0} (test : R → Bool) (all : List R) (place : ℕ) (x : R) → x ≡ get_or all place x → place < length all
    → get_or (map test all) place false ≡ test x
can-at test (y ∷ all) (suc place) x is within = can-at test all place x is (omega arith)
can-at test all place x is within = grind arith

-- What was read of some files, of which the first n were read, and what is still to be read of the others.
pub record AreRead (tail : Tail) (all : List (List ℕ)) (place : ℕ) (read : List Counted) : Type 0 where
  pub counted : read ++ counted_files tail (1 + place) (drop place all) ≡ counted_files tail 1 all
  pub refusal : first_refusal tail (1 + place) (drop place all) ≡ first_refusal tail 1 all
  pub before : first_refusal tail 1 (take place all) ≡ None

-- if none of the first files is refused and the next isn't either, none of one file more is
before-more : (tail : Tail) (file : ℕ) (all : List (List ℕ)) (place : ℕ) (bytes : List ℕ) (rest : List (List ℕ))
    → drop place all ≡ bytes ∷ rest
    → first_refusal tail file (take place all) ≡ None → refusal_of (file_items tail (file + place) bytes) ≡ None
    → first_refusal tail file (take (suc place) all) ≡ None
before-more tail file (y ∷ all) (suc place) bytes rest is none here =
    grind (arith, before-more tail (file + 1) all place bytes rest is)
before-more tail file all place bytes rest is none here = grind arith

-- one file more is read
pub read-more : {R : Type 0} (coming : R → List ℕ) (tail : Tail) (all : List R) (place : ℕ) (x : R)
    (read : List Counted) (it : Counted)
    → x ≡ get_or all place x → place < length all → AreRead tail (map coming all) place read
    → CountsFile tail (1 + place) (coming x) (Ok it)
    → AreRead tail (map coming all) (place + 1) (read ++ it ∷ [])
read-more coming tail all place x read it is within r e = grind (arith, bytes-at, append_assoc, take, before-more)

-- what is answered if a file can't be counted
pub read-fault : {R : Type 0} (coming : R → List ℕ) (tail : Tail) (all : List R) (place : ℕ) (x : R)
    (read : List Counted) (fault : Fault)
    → x ≡ get_or all place x → place < length all → AreRead tail (map coming all) place read
    → CountsFile tail (1 + place) (coming x) (Err fault)
    → CountsFiles tail (map coming all) (Err fault)
read-fault coming tail all place x read fault is within r e = grind (arith, bytes-at, take)

-- a read of one of them fails
pub fails : (A B : Type 0) {R : Type 0} (can_fail : R → Bool) (all : List R) (place : ℕ) (x : R) (fault : Fault)
    → x ≡ get_or all place x → place < length all
    → FailsAs {A = A} (1 + place) (can_fail x) (Err fault)
    → FailsOf {A = B} (map can_fail all) (Err fault)
fails A B can_fail all place x fault is within f = by fault f
  where
    by : (fault : Fault) → FailsAs {A = A} (1 + place) (can_fail x) (Err fault)
        → FailsOf {A = B} (map can_fail all) (Err fault)
    by (Refused refusal) f = tt
    by (Read file offset) f =
        let behind : file - 1 ≡ place = omega (arith, f.0) in
        (omega (arith, f.0), rw (behind, can-at can_fail all place x is within) f.1)
    by Write f = tt
    by Memory f = tt
