-- What a group is once one more fragment is put into it, and when it is complete.
use Rattle.std.proofs.Common.{◌≡◌, ℕ, zero, suc, ◌+◌, ◌*◌, ◌/◌, ◌<◌, ◌≤◌, Bool, true, false, List, [], ◌∷◌, length}
use Rattle.std.proofs.Common.{take, refl, sym, ◌∙◌, ap, arith, min, not, true≢false, Option, Some, None, length-take}
use Rattle.std.specs.Prelude.{nat_le, ◌==◌, if◌then◌else◌, IfSome, map}
use Rattle.std.specs.List.{range_with_len}
use Rattle.std.specs.Option.{option_map_or}
use Rattle.std.proofs.lemmas.Bool.{cases_lt}
use Rattle.std.proofs.lemmas.List.{get_or-take}
use Rattle.std.proofs.lemmas.List.FromFn.{fill_by_all}
use Rattle.cap_ip.specs.Header.{HeaderFields, IsPiece}
use Rattle.cap_ip.specs.declared.headers.Fragment.{Fragment}
use Rattle.cap_join.specs.declared.datagrams.Stamped.{Stamped}
use Rattle.cap_join.specs.declared.datagrams.Datagram.{Datagram}
use Rattle.cap_join.specs.Holes.{Span, in_hole, IsChain}
use Rattle.cap_join.specs.Fragments.{Piece, piece_of, end_of, IsShapedFragment, AreShaped}
use Rattle.cap_join.specs.ByteMap.{is_covered, covers_below, total_of, joined_header, byte_at, block_count, completes}
use Rattle.cap_join.specs.ByteMap.{joined_data}
use Rattle.cap_join.specs.ByteMap.{greatest_end}
use Rattle.cap_join.specs.inner.Buffers.{Maps}
use Rattle.cap_join.specs.Frames.{timed, earlier_stamped, later_stamped}
use Rattle.cap_join.specs.inner.Groups.{GroupState, IsGroupOf, IsDatagramOf}
use Rattle.cap_join.proofs.Chains.{in_hole-below}
use Rattle.cap_join.proofs.Punching.{IsChain-here}

-- the fragment that a header and its data are
module _ (header : HeaderFields) (bytes : List ℕ) (stamped : Stamped) (f : Fragment)
    (is : header.fragment ≡ Some f) where
  pub piece_of-start : (piece_of header bytes stamped).start ≡ f.start
  unfolding piece_of
  piece_of-start = ap (λ (o : Option Fragment). option_map_or (λ g. g.start) o 0) is

  pub piece_of-more : (piece_of header bytes stamped).more ≡ f.more
  unfolding piece_of
  piece_of-more = ap (λ (o : Option Fragment). option_map_or (λ g. g.more) o false) is

  pub piece_of-bytes : (piece_of header bytes stamped).bytes ≡ bytes
  unfolding piece_of
  piece_of-bytes = refl

  pub piece_of-header : (piece_of header bytes stamped).header ≡ header
  unfolding piece_of
  piece_of-header = refl

  pub piece_of-stamped : (piece_of header bytes stamped).stamped ≡ stamped
  unfolding piece_of
  piece_of-stamped = refl

  pub IsShaped-piece_of : IsPiece (length bytes) f → IsShapedFragment (piece_of header bytes stamped)
  IsShaped-piece_of shape = grind (arith, piece_of-bytes, piece_of-start, piece_of-more)

-- a group with one more fragment
pub IsGroupOf-more : (s t : GroupState) (p : Piece) (ps : List Piece) → IsGroupOf s ps → Maps t.buffer t.hole (p ∷ ps)
    → t.total ≡ (if p.more then s.total else Some (end_of p)) → t.header ≡ (if p.start == 0 then p.header else s.header)
    → t.frames ≡ s.frames + 1 → t.bytes ≡ s.bytes + p.stamped.original
    → t.first ≡ earlier_stamped s.first (timed p.stamped p.stamped.time)
    → t.last ≡ later_stamped s.last (timed p.stamped p.stamped.time)
    → IsGroupOf t (p ∷ ps)
IsGroupOf-more s t p ps g maps total header frames bytes first last = grind arith

-- the fragments end by 65,515
pub greatest_end-short : (ps : List Piece) → AreShaped ps → greatest_end ps ≤ 65515
greatest_end-short [] shaped = omega arith
greatest_end-short (p ∷ ps) shaped = grind (arith, greatest_end-short ps shaped.1)

pub Maps-short : (xs : List ℕ) (hole : ℕ) (ps : List Piece) → Maps xs hole ps → length xs ≤ 65520
Maps-short xs hole ps m = omega (arith, m.length_is, greatest_end-short ps m.shaped)

-- the length, if it is known, is one that the fragments reach, and isn't 0
pub total_of-reached : (ps : List Piece) (n : ℕ) → AreShaped ps → total_of ps ≡ Some n → (n ≤ greatest_end ps) × (0 < n)
total_of-reached [] n shaped h = cc
total_of-reached (p ∷ ps) n shaped h = grind (arith, total_of-reached ps n shaped.1)

-- it is within the part that is held
pub total-held : (s : GroupState) (ps : List Piece) (n : ℕ) → IsGroupOf s ps → s.total ≡ Some n → n ≤ length s.buffer
total-held s ps n g is = omega (arith, g.maps.length_is, (total_of-reached ps n g.maps.shaped (sym g.total ∙ is)).0)

-- blocks that are covered below a number
pub covers_below-all : (ps : List Piece) (n : ℕ) → ((k : ℕ) → k < n → is_covered ps k ≡ true) → covers_below ps n ≡ true
covers_below-all ps zero h = refl
covers_below-all ps (suc n) h = grind (arith, covers_below-all ps n)

pub covers_below-some : (ps : List Piece) (n k : ℕ) → k < n → is_covered ps k ≡ false → covers_below ps n ≡ false
covers_below-some ps zero k p h = absurd (omega arith)
covers_below-some ps (suc n) k p h = grind (arith, covers_below-some ps n k)

pub covers_below-each : (ps : List Piece) (n k : ℕ) → covers_below ps n ≡ true → k < n → is_covered ps k ≡ true
covers_below-each ps n k h p = grind (arith, covers_below-some)

flipped : (x : Bool) → not x ≡ false → x ≡ true
flipped x e = grind arith

-- a datagram is complete if no hole begins below its length
module _ (xs : List ℕ) (hole n : ℕ) (ps : List Piece) (m : Maps xs hole ps) (reached : n ≤ greatest_end ps) where
  covered_below : n ≤ hole → (k : ℕ) → k < block_count n → is_covered ps k ≡ true
  covered_below h k p =
      let short : 8 * k < length xs = omega (arith, m.length_is) in
      let low : 8 * k < hole = omega arith in
      let none : in_hole m.spans (8 * k) ≡ false = in_hole-below xs hole (length xs) hole m.spans (8 * k)
      (IsChain-here xs 0 (length xs) hole m.spans m.chain) low in
      let same : 8 * k / 8 ≡ k = omega arith in
      ap (is_covered ps) (sym same) ∙ flipped (is_covered ps (8 * k / 8)) (sym (m.holes (8 * k) short) ∙ none)

  uncovered_first : (ss : List Span) → m.spans ≡ ss → IsChain xs 0 (length xs) hole ss → hole < n
      → is_covered ps (hole / 8) ≡ false
  uncovered_first [] e chain h = absurd (omega (arith, chain, greatest_end-short ps m.shaped))
  uncovered_first (s ∷ ss) e chain h = grind arith

  pub covers_below-hole : nat_le n hole ≡ covers_below ps (block_count n)
  covers_below-hole = grind (arith, cases_lt, covers_below-some, uncovered_first, covers_below-all, covered_below)

pub completes-none : (ps : List Piece) → total_of ps ≡ None → false ≡ completes ps
unfolding completes
completes-none ps h = sym (ap (λ (o : Option ℕ). option_map_or (λ n. covers_below ps (block_count n)) o false) h)

pub completes-some : (ps : List Piece) (n : ℕ) → total_of ps ≡ Some n → covers_below ps (block_count n) ≡ completes ps
unfolding completes
completes-some ps n h = sym (ap (λ (o : Option ℕ). option_map_or (λ n. covers_below ps (block_count n)) o false) h)

data_of-some : (ps : List Piece) (n : ℕ) → total_of ps ≡ Some n → map (byte_at ps) (range_with_len 0 n) ≡ joined_data ps
unfolding joined_data
data_of-some ps n h = sym (ap (λ (o : Option ℕ). option_map_or (λ n. map (byte_at ps) (range_with_len 0 n)) o []) h)

-- the front of the buffer up to the length is the data
pub Maps-data : (xs : List ℕ) (hole n : ℕ) (ps : List Piece) → Maps xs hole ps → total_of ps ≡ Some n
    → completes ps ≡ true → take n xs ≡ joined_data ps
Maps-data xs hole n ps m total done =
    let reached : (n ≤ greatest_end ps) × (0 < n) = total_of-reached ps n m.shaped total in
    let all : covers_below ps (block_count n) ≡ true = completes-some ps n total ∙ done in
    let size : length (take n xs) ≡ n = length-take n xs
    ∙ shorter n (length xs) (omega (arith, m.length_is, reached.0)) in
    fill_by_all (byte_at ps) (take n xs) n 0 size
    (λ k h. get_or-take n xs k 0 h ∙ m.filled k (omega (arith, m.length_is, reached.0))
    (covers_below-each ps (block_count n) (k / 8) all (omega arith)))
    ∙ data_of-some ps n total
  where
    shorter : (a b : ℕ) → a ≤ b → min a b ≡ a
    shorter a b h = omega arith

-- if the first block is covered, a fragment begins at 0
pub header_of-covered : (ps : List Piece) (d : HeaderFields) → is_covered ps 0 ≡ true
    → IfSome (joined_header ps) (λ h. d ≡ h) → joined_header ps ≡ Some d
header_of-covered [] d h e = absurd (true≢false (sym h))
header_of-covered (p ∷ ps) d h e = grind (arith, header_of-covered ps d)

pub IsDatagramOf-group : (s : GroupState) (d : Datagram) (ps : List Piece) → IsGroupOf s ps → completes ps ≡ true
    → d.header ≡ s.header → ((n : ℕ) → s.total ≡ Some n → d.payload.items ≡ take n s.buffer)
    → d.frames ≡ s.frames → d.bytes ≡ s.bytes → d.first ≡ s.first → d.last ≡ s.last → IsDatagramOf d ps
IsDatagramOf-group s d ps g done header payload frames bytes first last = by (total_of ps) refl
  where
    by : (o : Option ℕ) → total_of ps ≡ o → IsDatagramOf d ps
    by None is = absurd (true≢false (sym done ∙ sym (completes-none ps is)))
    by (Some n) is =
        let reached : (n ≤ greatest_end ps) × (0 < n) = total_of-reached ps n g.maps.shaped is in
        let all : covers_below ps (block_count n) ≡ true = completes-some ps n is ∙ done in
        record {
          header = header_of-covered ps s.header (covers_below-each ps (block_count n) 0 all (omega (arith, reached.1)))
              g.header ∙ ap Some (sym header);
          payload = payload n (g.total ∙ is) ∙ Maps-data s.buffer s.hole n ps g.maps is done;
          frames = frames ∙ g.frames;
          bytes = bytes ∙ g.bytes;
          first = first ∙ g.first;
          last = last ∙ g.last;
        }

pub IsGroupOf-put : (s t : GroupState) (header : HeaderFields) (bytes : List ℕ) (stamped : Stamped) (f : Fragment)
    → header.fragment ≡ Some f → IsPiece (length bytes) f
    → ((p : Piece) (ps : List Piece) → p.start ≡ f.start → p.bytes ≡ bytes → IsShapedFragment p
    → Maps s.buffer s.hole ps
    → Maps t.buffer t.hole (p ∷ ps))
    → t.total ≡ (if f.more then s.total else Some (f.start + f.length))
    → t.header ≡ (if f.start == 0 then header else s.header)
    → t.frames ≡ s.frames + 1 → t.bytes ≡ s.bytes + stamped.original
    → t.first ≡ earlier_stamped s.first (timed stamped stamped.time)
    → t.last ≡ later_stamped s.last (timed stamped stamped.time)
    → (ps : List Piece) → IsGroupOf s ps → IsGroupOf t (piece_of header bytes stamped ∷ ps)
unfolding piece_of
IsGroupOf-put s t header bytes stamped f is shape maps total head frames sum first last ps g =
    let start : (piece_of header bytes stamped).start ≡ f.start = piece_of-start header bytes stamped f is in
    let more : (piece_of header bytes stamped).more ≡ f.more = piece_of-more header bytes stamped f is in
    let size : length bytes ≡ f.length = sym shape.all in
    IsGroupOf-more s t (piece_of header bytes stamped) ps g
    (maps (piece_of header bytes stamped) ps start refl (IsShaped-piece_of header bytes stamped f is shape) g.maps)
    (total ∙ sym (λ i. if more i then s.total else Some (start i + size i)))
    (head ∙ sym (λ i. if start i == 0 then header else s.header))
    frames sum first last
