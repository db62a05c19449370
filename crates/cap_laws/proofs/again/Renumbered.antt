-- The packets of a written file, numbered again.
use Rattle.std.proofs.Common.{rules, ◌^◌, subst, Option, ◌≡◌, ◌==◌, ◌&&◌, ℕ, zero, suc, ◌+◌, ◌≤◌, ◌<◌, map, min, nat_le}
use Rattle.std.proofs.Common.{nat_lt, not, List, [], ◌∷◌, ◌++◌, length, Bool, true, false, Some, None, refl, sym, ap}
use Rattle.std.proofs.Common.{◌∙◌, arith, length-append, if◌then◌else◌}
use Rattle.std.proofs.lemmas.Bool.{eq-eqb, ne_eqb, false≢true, lt-ltb, ltb-true, ltb-false}
use Rattle.std.proofs.lemmas.Bool.Decides.{nat_tests}
use Rattle.std.proofs.lemmas.List.Folds.{position_or_len_push}
use Rattle.std.specs.List.{list_any, position_or_len}
use Rattle.indexmap.specs.IndexSet.{insert_key}
use Rattle.cap_bytes.specs.declared.faults.Rule.{Rule}
use Rattle.cap_bytes.specs.declared.faults.Rule.TheVariants.{InterfaceLimit}
use Rattle.cap_bytes.specs.declared.faults.Tail.{Tail}
use Rattle.cap_bytes.specs.declared.numbers.Order.{Order}
use Rattle.cap_source.specs.Feed.{Item, packet, refused}
use Rattle.cap_source.specs.Items.{file_items}
use Rattle.cap_source.specs.declared.packets.Meta.{Meta}
use Rattle.cap_time.specs.declared.resolutions.Interface.{Interface}
use Rattle.cap_write.proofs.Feeding.{count_after-is}
use Rattle.cap_write.proofs.Places.{position_or_len-none, position_or_len-some}
use Rattle.cap_source.specs.Feed.{refusal_of}
use Rattle.cap_write.specs.Numbering.{Origin, Origins, own, shared, origin_of, is_origin, description_of}
use Rattle.cap_write.specs.Numbering.{is_description}
use Rattle.cap_write.specs.Numbering.{count_of, is_used, number_of, with_origin, write_fault}
use Rattle.cap_write.specs.Numbering.{Numbered, numbered_of, numbered_or, numbered, refusal_or, refusal_in}
use Rattle.cap_write.specs.Texts.{interface_part, packet_part, count_after, merged_bytes, sharing_bytes}
use Rattle.cap_laws.proofs.again.Files.{merged-again}
use Rattle.cap_laws.proofs.again.MergedAgain.{room_left, IsNumbered-given, AllFit-given, all_described-given}
use Rattle.cap_laws.specs.again.Laws.{AllHave, read_items, meta_again, instances, numbers, measured, MergedAgain}

-- the origins of that many interfaces of one file
abbrev pub file_origins : ℕ → ℕ → List Origin
file_origins file zero = []
file_origins file (suc k) = file_origins file k ++ (file, k) ∷ []

length-file_origins : (file count : ℕ) → length (file_origins file count) ≡ count
length-file_origins file zero = refl
length-file_origins file (suc k) = length-append (file_origins file k) ((file, k) ∷ [])
    ∙ omega (arith, length-file_origins file k)

-- where one of them stands
place_of : (file k count : ℕ) → position_or_len (is_origin (file, k)) (file_origins file count) ≡ min k count
place_of file k zero = omega arith
place_of file k (suc m) = grind (arith, place_of file k m, position_or_len_push, length-file_origins, min, eq-eqb)

-- whether it stands there
used_of : (file k count : ℕ) (used : Bool) → list_any (is_origin (file, k)) (file_origins file count) ≡ used
    → nat_lt k count ≡ used
used_of file k count true is = search (rules, lt-ltb, position_or_len-some, place_of, length-file_origins)
used_of file k count false is =
    not_below k count (omega (
      arith,
      position_or_len-none (is_origin (file, k)) (file_origins file count) is,
      place_of file k count,
      length-file_origins file count,
    ))
  where
    not_below : (a b : ℕ) → b ≤ a → nat_lt a b ≡ false
    not_below a b h = grind (arith, nat_tests)

-- The packets have the numbers of a file's interfaces in their order of first use.
abbrev pub InOrder : ℕ → List Numbered → Type 0
InOrder count [] = Unit {0}
InOrder count (n ∷ rest) = (n.number ≤ count) × ((n.number == count) ≡ true → count < 1024)
    × InOrder (count_after count n) rest

one_more : (k : ℕ) → suc k ≡ k + 1
one_more k = omega arith

-- the origins after a packet that was read again
origins_behind : (file count : ℕ) (n : Numbered) → n.number ≤ count
    → insert_key is_origin (file_origins file count) (file, n.number) ≡ file_origins file (count_after count n)
origins_behind file count n few = by (list_any (is_origin (file, n.number)) (file_origins file count)) refl
  where
    by : (used : Bool) → list_any (is_origin (file, n.number)) (file_origins file count) ≡ used
        → (if used then file_origins file count else file_origins file count ++ (file, n.number) ∷ [])
        ≡ file_origins file (count_after count n)
    by true is =
        let below = ltb-true n.number count (used_of file n.number count true is) in
        ap (λ b. file_origins file (if b then count + 1 else count))
        (sym (ne_eqb n.number count (λ e. absurd (omega (arith, below, e)))))
    by false is =
        let same : n.number ≡ count =
        omega (arith, ltb-false n.number count (used_of file n.number count false is), few) in
        ap (λ k. file_origins file count ++ (file, k) ∷ []) same
        ∙ (ap (file_origins file) (one_more count) ∙ ap (λ b. file_origins file (if b then count + 1 else count))
        (sym (eq-eqb n.number count same)))

never : (b : Bool) → (if b && false then Some InterfaceLimit else None) ≡ None
never b = grind arith

few_left : (n : ℕ) → n < 1024 → nat_le 1024 n ≡ false
few_left n h = grind (arith, nat_tests)

-- which isn't refused
unrefused : (file place count : ℕ) (n : Numbered) → n.number ≤ count → ((n.number == count) ≡ true → count < 1024)
    → write_fault (own (file_origins file count)) (meta_again file place n) ≡ None
unfolding write_fault
unrefused file place count n few room = by (list_any (is_origin (file, n.number)) (file_origins file count)) refl
  where
    by : (used : Bool) → list_any (is_origin (file, n.number)) (file_origins file count) ≡ used
        → (if nat_le 1024 (length (file_origins file count))
        && not (list_any (is_origin (file, n.number)) (file_origins file count)) then Some InterfaceLimit
        else None) ≡ None
    by true is = ap (λ u. if nat_le 1024 (length (file_origins file count)) && not u then Some InterfaceLimit else None)
        is ∙ never (nat_le 1024 (length (file_origins file count)))
    by false is =
        let same : n.number ≡ count =
        omega (arith, ltb-false n.number count (used_of file n.number count false is), few) in
        let left = room (eq-eqb n.number count same) in
        ap (λ b. if b && not (list_any (is_origin (file, n.number)) (file_origins file count)) then Some
        InterfaceLimit else None)
        (few_left (length (file_origins file count)) (omega (arith, left, length-file_origins file count)))

-- Packets that are read again have the numbers that they had, and as many captured bytes as they have, and none is
-- refused.
pub numbered-again : (order : Order) (file offset count : ℕ) (ns : List Numbered) → InOrder count ns
    → numbered (own (file_origins file count)) (read_items order file offset count ns) ≡ map measured ns
unfolding numbered read_items
numbered-again order file offset count [] in_order = refl
numbered-again order file offset count (n ∷ rest) in_order =
    let place = offset + length (interface_part order count n) in
    let next = place + length (packet_part order n) in
    let items = read_items order file next (count_after count n) rest in
    let number : position_or_len (is_origin (file, n.number)) (file_origins file count) ≡ n.number =
    place_of file n.number count ∙ omega (arith, in_order.0) in
    let before = own (file_origins file count) in
    ap (λ f. numbered_or f (numbered_of before (meta_again file place n) n.frame)
    (numbered (with_origin before (meta_again file place n)) items))
    (unrefused file place count n in_order.0 in_order.1)
    ∙ (ap (λ k. record {
      number = k;
      interface = n.interface;
      units = n.units;
      captured = length n.frame;
      original = n.original;
      frame = n.frame;
    }
    ∷ numbered (with_origin before (meta_again file place n)) items) number
    ∙ (ap (λ origins. measured n ∷ numbered (own origins) items) (origins_behind file count n in_order.0)
    ∙ ap (λ l. measured n ∷ l) (numbered-again order file next (count_after count n) rest in_order.2)))

pub refusal-again : (order : Order) (file offset count : ℕ) (ns : List Numbered) → InOrder count ns
    → refusal_in (own (file_origins file count)) (read_items order file offset count ns) ≡ None
unfolding refusal_in read_items
refusal-again order file offset count [] in_order = refl
refusal-again order file offset count (n ∷ rest) in_order =
    let place = offset + length (interface_part order count n) in
    let next = place + length (packet_part order n) in
    let items = read_items order file next (count_after count n) rest in
    ap (λ f. refusal_or f (meta_again file place n)
    (refusal_in (with_origin (own (file_origins file count)) (meta_again file place n)) items))
    (unrefused file place count n in_order.0 in_order.1)
    ∙ (ap (λ origins. refusal_in (own origins) items) (origins_behind file count n in_order.0)
    ∙ refusal-again order file next (count_after count n) rest in_order.2)

pub refusal_of-again : (order : Order) (file offset count : ℕ) (ns : List Numbered)
    → refusal_of (read_items order file offset count ns) ≡ None
unfolding refusal_of read_items
refusal_of-again order file offset count [] = refl
refusal_of-again order file offset count (n ∷ rest) =
    cc (refusal_of-again order file (offset + length (interface_part order count n) + length (packet_part order n))
    (count_after count n) rest)

-- and their instances are those numbers
pub instances-again : (order : Order) (file offset count : ℕ) (ns : List Numbered)
    → instances (read_items order file offset count ns) ≡ numbers ns
unfolding instances read_items
instances-again order file offset count [] = refl
instances-again order file offset count (n ∷ rest) =
    cc (instances-again order file (offset + length (interface_part order count n) + length (packet_part order n))
    (count_after count n) rest)

numbers-measured : (ns : List Numbered) → numbers (map measured ns) ≡ numbers ns
numbers-measured [] = refl
numbers-measured (n ∷ rest) = ap (λ l. n.number ∷ l) (numbers-measured rest)

-- a packet's number is one that is used, or the next one, and then there is room for it
number-within : (origins : Origins) (meta : Meta) (used : Bool) → is_used origins meta ≡ used
    → number_of origins meta ≤ count_of origins
number-within (own origins) meta true is = omega (arith, position_or_len-some (is_origin (origin_of meta)) origins is)
number-within (own origins) meta false is = omega (arith, position_or_len-none (is_origin (origin_of meta)) origins is)
number-within (shared descriptions) meta true is =
    omega (arith, position_or_len-some (is_description (description_of meta.interface)) descriptions is)
number-within (shared descriptions) meta false is =
    omega (arith, position_or_len-none (is_description (description_of meta.interface)) descriptions is)

number-below : (origins : Origins) (meta : Meta) → is_used origins meta ≡ true
    → number_of origins meta < count_of origins
number-below (own origins) meta is = position_or_len-some (is_origin (origin_of meta)) origins is
number-below (shared descriptions) meta is =
    position_or_len-some (is_description (description_of meta.interface)) descriptions is

number-room : (origins : Origins) (meta : Meta) (used : Bool) → is_used origins meta ≡ used
    → write_fault origins meta ≡ None
    → (number_of origins meta == count_of origins) ≡ true → count_of origins < 1024
number-room origins meta true is none next =
    let below = number-below origins meta is in
    absurd (false≢true (sym (ne_eqb (number_of origins meta) (count_of origins)
    (λ e. absurd (omega (arith, below, e)))) ∙ next))
number-room origins meta false is none next = room_left origins meta none is

-- what is numbered is in order
pub InOrder-numbered : (origins : Origins) (items : List Item) → InOrder (count_of origins) (numbered origins items)
unfolding numbered
InOrder-numbered origins [] = tt
InOrder-numbered origins (refused refusal ∷ items) = tt
InOrder-numbered origins (packet meta frame ∷ items) =
    by (write_fault origins meta) refl (InOrder-numbered (with_origin origins meta) items)
  where
    by : (fault : Option Rule) → write_fault origins meta ≡ fault
        → InOrder (count_of (with_origin origins meta)) (numbered (with_origin origins meta) items)
        → InOrder (count_of origins) (numbered_or fault (numbered_of origins meta frame)
        (numbered (with_origin origins meta) items))
    by (Some rule) is behind = tt
    by None is behind = (
      number-within origins meta (is_used origins meta) refl,
      number-room origins meta (is_used origins meta) refl is,
      subst (λ count. InOrder count (numbered (with_origin origins meta) items))
          (sym (count_after-is origins meta frame)) behind,
    )

-- Written packets that are in order are read again as those.
record IsAgain (ns : List Numbered) (again : List Item) : Type 0 where
  packets : numbered (own []) again ≡ map measured ns
  unrefused : refusal_in (own []) again ≡ None
  complete : refusal_of again ≡ None
  instances_are : instances again ≡ numbers (numbered (own []) again)

again-is : (order : Order) (file : ℕ) (ns : List Numbered) (again : List Item) → InOrder 0 ns
    → again ≡ read_items order file 28 0 ns → IsAgain ns again
again-is order file ns again in_order read =
    let same : numbered (own []) again ≡ map measured ns =
    ap (numbered (own [])) read ∙ numbered-again order file 28 0 ns in_order in
    record {
      packets = same;
      unrefused = ap (refusal_in (own [])) read ∙ refusal-again order file 28 0 ns in_order;
      complete = ap refusal_of read ∙ refusal_of-again order file 28 0 ns;
      instances_are = ap instances read
          ∙ (instances-again order file 28 0 ns ∙ (sym (numbers-measured ns) ∙ sym (ap numbers same)));
    }

-- What is written of a list is read again as what was numbered of it.
pub merged_again-law : MergedAgain
merged_again-law order tail file given items have limit =
    let ns = numbered (own []) items in
    let is = again-is order file ns (file_items tail file (merged_bytes order items)) (InOrder-numbered (own []) items)
    (merged-again order tail file ns (IsNumbered-given given (own []) items have)
    (AllFit-given given (own []) items have) (all_described-given given (own []) items have (omega arith)) limit) in
    (is.packets, is.unrefused, is.complete, is.instances_are)

-- the same, with shared interfaces
pub sharing_again-law : (order : Order) (tail : Tail) (file : ℕ) (given : Origin → Interface) (items : List Item)
    → AllHave given items
    → (let text = sharing_bytes order items in
    let again = file_items tail file text in
    length text ≤ 2 ^ 40
    → (numbered (own []) again ≡ map measured (numbered (shared []) items))
    × (refusal_in (own []) again ≡ None)
    × (refusal_of again ≡ None)
    × (instances again ≡ numbers (numbered (own []) again)))
sharing_again-law order tail file given items have limit =
    let ns = numbered (shared []) items in
    let is = again-is order file ns (file_items tail file (sharing_bytes order items))
    (InOrder-numbered (shared []) items)
    (merged-again order tail file ns (IsNumbered-given given (shared []) items have)
    (AllFit-given given (shared []) items have) (all_described-given given (shared []) items have (omega arith))
    limit) in
    (is.packets, is.unrefused, is.complete, is.instances_are)
