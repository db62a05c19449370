-- No fragment is a whole datagram by itself.
use Rattle.std.proofs.Common.{◌≡◌, ℕ, ◌<◌, Bool, true, false, List, [], ◌∷◌, refl, ap, arith, ◌||◌, not, true≢false}
use Rattle.std.proofs.Common.{Option, Some, None}
use Rattle.std.specs.Prelude.{◌==◌, if◌then◌else◌}
use Rattle.std.specs.Option.{option_map_or}
use Rattle.std.proofs.lemmas.Bool.Decides.{nat_tests}
use Rattle.cap_ip.specs.Fields.{is_fragment, more_fragments, offset, data_length}
use Rattle.cap_ip.specs.Header.{HeaderFields}
use Rattle.cap_ip.specs.Read.{Reading, found, bad, cut, read_of, fields_of, fragment_of, ended_in_header}
use Rattle.cap_ip.specs.declared.headers.Fragment.{Fragment}
use Rattle.cap_join.specs.ByteMap.{completes, covers_below, holds, block_count}
use Rattle.cap_join.proofs.Grouping.{covers_below-some}
use Rattle.cap_join.specs.Fragments.{Piece, piece_of, end_of}
use Rattle.cap_join.specs.declared.datagrams.Stamped.{Stamped}
use Rattle.cap_class.specs.Taken.{Taken, Classification, plain, datagram, fragment, classify_by, classify_in, classify}

-- a fragment after which more follow, or that doesn't begin at 0
lone : (p : Piece) → (p.more || not (p.start == 0)) ≡ true → completes (p ∷ []) ≡ false
unfolding completes
lone p h = by p.more (p.start == 0) refl h
  where
    by : (m z : Bool) → (p.start == 0) ≡ z → (m || not z) ≡ true
        → option_map_or (λ n. covers_below (p ∷ []) (block_count n)) (if m then None else Some (end_of p)) false ≡ false
    by false false e k =
        let far : 0 < p.start = grind (arith, nat_tests) in
        let out : holds p 0 ≡ false = grind (arith, nat_tests) in
        covers_below-some (p ∷ []) (block_count (end_of p)) 0 (omega (arith, far)) (ap (λ (b : Bool). b || false) out)
    by m z e k = grind (arith, true≢false)

-- what was found is what the bytes spell
found_fields : (bytes : List ℕ) (whole : Bool) (h : HeaderFields) (x : List ℕ) → read_of bytes whole ≡ found h x
    → fields_of bytes ≡ h
unfolding read_of ended_in_header
found_fields bytes whole h x g = grind arith

-- a fragment that was found has MF set, or doesn't begin at 0
part_by : (bytes : List ℕ) (f : Fragment) (b : Bool) → is_fragment bytes ≡ b
    → (if b then Some (record { start = offset bytes; length = data_length bytes; more = more_fragments bytes })
    else None) ≡ Some f → (f.more || not (f.start == 0)) ≡ true
unfolding is_fragment
part_by bytes f b e g = grind arith

part : (bytes : List ℕ) (f : Fragment) → fragment_of bytes ≡ Some f → (f.more || not (f.start == 0)) ≡ true
unfolding fragment_of
part bytes f g = part_by bytes f (is_fragment bytes) refl g

IsPart : Classification → Type 0
IsPart (plain c) = Unit {0}
IsPart (datagram header captured) = Unit {0}
IsPart (fragment p) = completes (p ∷ []) ≡ false

part_of-by : (o : Option Fragment) (bytes : List ℕ) (h : HeaderFields) (x : List ℕ) (s : Stamped) → fields_of bytes ≡ h
    → h.fragment ≡ o → IsPart (classify_by o h x s)
unfolding fields_of piece_of IsPart
part_of-by o bytes h x s e g = grind (arith, lone, part)

part_in : (r : Reading) (bytes : List ℕ) (whole : Bool) (s : Stamped) → read_of bytes whole ≡ r
    → IsPart (classify_in r s)
unfolding IsPart
part_in (found h x) bytes whole s e = part_of-by h.fragment bytes h x s (found_fields bytes whole h x e) refl
part_in bad bytes whole s e = tt
part_in cut bytes whole s e = tt

pub no-lone : (place : ℕ) (x : Taken) (p : Piece) → classify place x ≡ fragment p → completes (p ∷ []) ≡ false
unfolding classify IsPart
no-lone place x p is = grind (arith, part_in)
