-- How many packets of each class there are, if a group of fragments is completed.
use Rattle.std.proofs.Common.{◌≡◌, ℕ, ◌+◌, ◌≤◌, ◌<◌, Bool, true, false, List, [], ◌∷◌, length, refl, sym, ◌∙◌, ap}
use Rattle.std.proofs.Common.{arith, cond, true≢false, Option, Some, None}
use Rattle.std.specs.Prelude.{if◌then◌else◌, map}
use Rattle.std.specs.List.{find}
use Rattle.std.specs.Option.{option_map_or}
use Rattle.cap_ip.specs.Header.{HeaderFields}
use Rattle.cap_ip.specs.Read.{Reading, found, bad, cut}
use Rattle.cap_ip.specs.declared.headers.Fragment.{Fragment}
use Rattle.cap_join.specs.Fragments.{Piece, piece_of}
use Rattle.cap_join.specs.declared.datagrams.Stamped.{Stamped}
use Rattle.cap_class.specs.Counting.{is_class, times}
use Rattle.cap_class.specs.Classes.{class_by, class_in, classes_in, group_class, has_place}
use Rattle.cap_join.specs.Completed.{one_at, occurs, occurs_in, comes}
use Rattle.cap_class.specs.Taken.{Taken, Classification, plain, datagram, fragment, classify_by, classify_in, classify}
use Rattle.cap_class.specs.Taken.{events_of}
use Rattle.cap_class.specs.declared.classes.Class.{Class}
use Rattle.cap_class.specs.declared.classes.Class.TheVariants as class

-- ---- places

-- what each of some packets is by itself
abbrev pub looks : List Taken → List Classification
looks [] = []
looks (x ∷ xs) = classify (length xs) x ∷ looks xs

-- how many fragments of those have a place
abbrev pub here : ℕ → List Classification → ℕ
here n [] = 0
here n (plain c ∷ ls) = here n ls
here n (datagram header captured ∷ ls) = here n ls
here n (fragment p ∷ ls) = one_at p.stamped.place n + here n ls

-- A fragment has that place.
abbrev HasPlace : ℕ → Classification → Type 0
HasPlace n (plain c) = Unit {0}
HasPlace n (datagram header captured) = Unit {0}
HasPlace n (fragment p) = p.stamped.place ≡ n

place_by : (o : Option Fragment) (header : HeaderFields) (captured : List ℕ) (s : Stamped)
    → HasPlace s.place (classify_by o header captured s)
unfolding piece_of
place_by o header captured s = grind arith

place_in : (r : Reading) (s : Stamped) → HasPlace s.place (classify_in r s)
place_in (found header captured) s = place_by header.fragment header captured s
place_in bad s = tt
place_in cut s = tt

pub place_of : (place : ℕ) (x : Taken) → HasPlace place (classify place x)
unfolding classify
place_of place x = grind (arith, place_in)

pub here_few : (n : ℕ) (xs : List Taken) → (n < length xs → here n (looks xs) ≤ 1)
    × (length xs ≤ n → here n (looks xs) ≡ 0)
here_few n [] = (λ h. omega arith, λ h. refl)
here_few n (x ∷ xs) = grind (arith, here_few n xs, place_of)

pub here_once : (n : ℕ) (xs : List Taken) → here n (looks xs) ≤ 1
here_once n xs = grind (arith, here_few)

pub comes_here : (n : ℕ) (xs : List Taken) → comes n (events_of xs) ≡ here n (looks xs)
unfolding events_of
comes_here n [] = refl
comes_here n (x ∷ xs) = grind (arith, comes_here n xs)

-- ---- a group among some packets

-- how many fragments of those are in a group
abbrev pub hits : List Piece → List Classification → ℕ
hits ps [] = 0
hits ps (plain c ∷ ls) = hits ps ls
hits ps (datagram header captured ∷ ls) = hits ps ls
hits ps (fragment p ∷ ls) = (if has_place p.stamped.place ps then 1 else 0) + hits ps ls

pub absent : (n : ℕ) (ps : List Piece) → occurs n ps ≡ 0 → has_place n ps ≡ false
absent n [] h = refl
absent n (p ∷ ps) h = grind (arith, absent n ps)

pub present : (n : ℕ) (ps : List Piece) → has_place n ps ≡ true → 1 ≤ occurs n ps
present n [] h = absurd (true≢false (sym h))
present n (p ∷ ps) h = grind (arith, present n ps)

hits_none : (ls : List Classification) → hits [] ls ≡ 0
hits_none [] = refl
hits_none (plain c ∷ ls) = hits_none ls
hits_none (datagram header captured ∷ ls) = hits_none ls
hits_none (fragment p ∷ ls) = omega (arith, hits_none ls)

-- one more fragment, whose place no other of the group has
hits_more : (p : Piece) (ps : List Piece) (ls : List Classification) → has_place p.stamped.place ps ≡ false
    → hits (p ∷ ps) ls ≡ here p.stamped.place ls + hits ps ls
hits_more p ps [] alone = omega arith
hits_more p ps (plain c ∷ ls) alone = hits_more p ps ls alone
hits_more p ps (datagram header captured ∷ ls) alone = hits_more p ps ls alone
hits_more p ps (fragment q ∷ ls) alone = grind (arith, hits_more p ps ls alone)

-- a group whose fragments came, each once, has as many as there are
pub hits_all : (ps : List Piece) (ls : List Classification) → ((n : ℕ) → occurs n ps ≤ here n ls)
    → ((n : ℕ) → here n ls ≤ 1)
    → hits ps ls ≡ length ps
hits_all [] ls came once = hits_none ls
hits_all (p ∷ ps) ls came once = grind (arith, hits_all ps ls, absent, hits_more)

-- a fragment that is in no group
pub found_none : (n : ℕ) (groups : List (List Piece)) → occurs_in n groups ≡ 0 → find (has_place n) groups ≡ None
found_none n [] h = refl
found_none n (ps ∷ groups) h = ap (λ (b : Bool). cond b (Some ps) (find (has_place n) groups))
    (absent n ps (omega (arith, h))) ∙ found_none n groups (omega (arith, h))

pub unjoined : (n : ℕ) (groups : List (List Piece)) → occurs_in n groups ≡ 0 → class_in groups n ≡ class.Unjoined
unjoined n groups h = ap (λ (g : Option (List Piece)). option_map_or group_class g class.Unjoined)
    (found_none n groups h)

-- ---- counts

pub classes_looks : (groups : List (List Piece)) (xs : List Taken)
    → classes_in groups xs ≡ map (class_by groups) (looks xs)
classes_looks groups [] = refl
classes_looks groups (x ∷ xs) = ap (λ cs. class_by groups (classify (length xs) x) ∷ cs) (classes_looks groups xs)

abbrev pub some_of : Class → Class → ℕ → ℕ
some_of c k n = if is_class c k then n else 0

-- if a group is completed, its fragments go from the unjoined ones to the class of its datagram
pub recount : (c : Class) (ps : List Piece) (groups : List (List Piece)) (ls : List Classification)
    → ((n : ℕ) → has_place n ps ≡ true → class_in groups n ≡ class.Unjoined)
    → times c (map (class_by (ps ∷ groups)) ls) + some_of c class.Unjoined (hits ps ls)
    ≡ times c (map (class_by groups) ls) + some_of c (group_class ps) (hits ps ls)
recount c ps groups [] fresh = grind arith
recount c ps groups (plain k ∷ ls) fresh = omega (arith, recount c ps groups ls fresh)
recount c ps groups (datagram header captured ∷ ls) fresh = omega (arith, recount c ps groups ls fresh)
recount c ps groups (fragment p ∷ ls) fresh =
    by (has_place p.stamped.place ps) refl (is_class c class.Unjoined) refl (is_class c (group_class ps)) refl
    (recount c ps groups ls fresh)
  where
    n : ℕ
    n = p.stamped.place

    rest : ℕ
    rest = times c (map (class_by groups) ls)

    new : ℕ
    new = times c (map (class_by (ps ∷ groups)) ls)

    Goal : Bool → Bool → Bool → Type 0
    Goal m a b =
        ((if is_class c (option_map_or group_class (cond m (Some ps) (find (has_place n) groups)) class.Unjoined) then 1
        else 0) + new)
        + (if a then (if m then 1 else 0) + hits ps ls else 0)
        ≡ ((if is_class c (class_in groups n) then 1 else 0) + rest) +
        (if b then (if m then 1 else 0) + hits ps ls else 0)

    by : (m : Bool) → has_place n ps ≡ m → (a : Bool) → is_class c class.Unjoined ≡ a → (b : Bool)
        → is_class c (group_class ps) ≡ b
        → new + (if a then hits ps ls else 0) ≡ rest + (if b then hits ps ls else 0) → Goal m a b
    by true e a f b g h = grind arith
    by false e a f b g h = grind arith
