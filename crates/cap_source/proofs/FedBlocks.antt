-- What comes next of a pcapng file that is fed, whatever is fed later.
use Rattle.std.proofs.Common.{◌≡◌, ℕ, ◌+◌, ◌-◌, ◌^◌, ◌≤◌, ◌<◌, ◌==◌, ◌&&◌, Bool, true, false, List}
use Rattle.std.proofs.Common.{◌∷◌, ◌++◌}
use Rattle.std.proofs.Common.{length, drop, Option, Some, None, Ok, Err, refl, sym, ap, ◌∙◌, subst, arith}
use Rattle.std.proofs.Common.{is_some}
use Rattle.std.proofs.Common.{length-append, length-drop, drop-drop, nat_lt}
use Rattle.std.proofs.Common.{◌⊎◌, inl, inr}
use Rattle.std.specs.Prelude.{Result}
use Rattle.std.proofs.lemmas.Bool.Decides.{nat_tests}
use Rattle.std.proofs.lemmas.List.{drop-append-le}
use Rattle.cap_blocks.proofs.Behind.{body_fault-cut, body_fault-trailer, body_fault-whole, no_version, unknown_section}
use Rattle.cap_blocks.proofs.Faults.{FieldsFit, FieldsFit-from_header, block_at-append, block_fault-body}
use Rattle.cap_blocks.proofs.Faults.{order_at-append, stop_at-whole, total-least}
use Rattle.cap_blocks.proofs.Items as blocks
use Rattle.cap_blocks.proofs.More.{body-there, header-there, lent-there, total-there}
use Rattle.cap_blocks.proofs.Whole.{fault-whole, order-at, total-at}
use Rattle.cap_blocks.specs.Grammar.{is_known_kind, is_total}
use Rattle.cap_blocks.specs.Split.{block_at, block_fault, block_items_from, block_order_at, body_at}
use Rattle.cap_blocks.specs.Split.{body_fault, body_in, fields_fault, first_fault, kind_at, total_at}
use Rattle.cap_blocks.specs.inner.Parsing.{ParsesBlockHeader}
use Rattle.cap_blocks.specs.declared.blocks.Block.{Block}
use Rattle.cap_bytes.proofs.Items.{stop_where-fault}
use Rattle.cap_bytes.proofs.Spelling.{number-append}
use Rattle.cap_bytes.specs.Items.{PieceItem, given, stop_by, stop_where}
use Rattle.cap_bytes.specs.Number.{number}
use Rattle.cap_bytes.specs.declared.faults.Rule.{Rule}
use Rattle.cap_bytes.specs.declared.faults.Rule.TheVariants.{BlockTrailer, Cut}
use Rattle.cap_bytes.specs.declared.faults.Tail.{Tail}
use Rattle.cap_bytes.specs.declared.formats.Format.TheVariants.{Pcapng}
use Rattle.cap_bytes.specs.declared.numbers.Order.{Order}
use Rattle.cap_bytes.specs.declared.stops.Stop.TheVariants as stops
use Rattle.cap_bytes.specs.declared.stops.Stop.{Stop}
use Rattle.cap_source.proofs.Bodies.{other}
use Rattle.cap_source.specs.Contents.{content_in}
use Rattle.cap_source.specs.Comments.{comments_in}
use Rattle.cap_source.specs.Fed.{FedRest, rest_of_blocks, rest_of_stop, skipped_rest}
use Rattle.cap_source.specs.Items.{SectionProgress, after, behind, counted_behind, ending_in, ending_with}
use Rattle.cap_source.specs.Items.{items_at_block, items_of_blocks, more_comments, unless_faulty, with_comments}
use Rattle.cap_source.specs.declared.contents.BlockContent.{BlockContent}
use Rattle.cap_source.specs.declared.contents.BlockContent.TheVariants as contents

module _ (file : ℕ) (progress : SectionProgress) (section : Option Order) (tail : Tail) (offset : ℕ) where
  -- what ends them
  pub blocks-stop : (w : List ℕ) (stop : Stop)
      → stop_where (is_some section) tail file offset w (block_fault section offset w) ≡ Some stop
      → rest_of_blocks file progress (block_items_from section tail file offset w)
      ≡ rest_of_stop Pcapng progress stop
  unfolding items_of_blocks ending_in
  blocks-stop w stop is =
      ap (rest_of_blocks file progress) (blocks.items_from-stop section tail file offset w stop is)

  pub block-some : (b : List ℕ) (rule : Rule) → block_fault section offset b ≡ Some rule → (rule ≡ Cut → ⊥)
      → 0 < length b
  unfolding block_fault first_fault fields_fault
  block-some b rule is other = grind (arith, nat_tests)

-- what comes from a block on that says this, before what comes after it
abbrev pub rest_at_block : ℕ → SectionProgress → Block → List ℕ → Result BlockContent Rule → FedRest → FedRest
rest_at_block file progress block body content rest =
    record {
      items = items_at_block file progress block body content rest.items;
      ending = unless_faulty content (ending_with progress None) rest.ending;
    }

-- comments that aren't counted change nothing
module _ (progress : SectionProgress) (uncounted : progress.comments ≡ None) where
  same-comments : (n : ℕ) → with_comments progress (more_comments progress.comments n) ≡ progress
  same-comments n =
      ap (λ (counted : Option ℕ). with_comments progress (more_comments counted n)) uncounted
      ∙ ap (with_comments progress) (sym uncounted)

  same-behind : (block : Block) (body : List ℕ) (content : Result BlockContent Rule)
      → counted_behind progress block body content ≡ behind progress content
  same-behind block body (Ok content) =
      ap (λ (p : SectionProgress). after p content)
      (same-comments (comments_in block.kind block.order content body))
  same-behind block body (Err rule) = refl

  given-rest : (file : ℕ) (block : Block) (body : List ℕ) (rest : List (PieceItem Block))
      → rest_of_blocks file progress (given block body ∷ rest)
      ≡ rest_at_block file progress block body (content_in progress.interfaces block.kind block.order body)
      (rest_of_blocks file (behind progress (content_in progress.interfaces block.kind block.order body)) rest)
  unfolding items_of_blocks ending_in
  given-rest file block body rest =
      let content = content_in progress.interfaces block.kind block.order body in
      ap (λ (p : SectionProgress). record {
        items = items_at_block file progress block body content (items_of_blocks file (behind progress content) rest);
        ending = unless_faulty content (ending_with progress None) (ending_in p rest);
      }) (same-behind block body content)

module _ (file : ℕ) (progress : SectionProgress) (uncounted : progress.comments ≡ None) (section : Option Order)
    (tail : Tail) (offset : ℕ) where
  said : (w : List ℕ) → Result BlockContent Rule
  said w = content_in progress.interfaces (block_at section offset w).kind (block_at section offset w).order
      (body_at section w)

  given-block : (w : List ℕ) → 0 < length w → block_fault section offset w ≡ None
      → rest_of_blocks file progress (block_items_from section tail file offset w)
      ≡ rest_at_block file progress (block_at section offset w) (body_at section w) (said w)
      (rest_of_blocks file (behind progress (said w))
      (block_items_from (Some (block_order_at section w)) tail file
      (offset + total_at (block_order_at section w) w) (drop (total_at (block_order_at section w) w) w)))
  unfolding said
  given-block w some none =
      ap (rest_of_blocks file progress)
      (blocks.items_from-block section tail file offset w (stop_at-whole section tail file offset w some none))
      ∙ given-rest progress uncounted file (block_at section offset w) (body_at section w) _

  -- an order, a total length and what follows by them
  abbrev pub given-by : Block → List ℕ → Order → ℕ → List ℕ → FedRest
  given-by block body order total rest =
      let content = content_in progress.interfaces block.kind block.order body in
      rest_at_block file progress block body content
      (rest_of_blocks file (behind progress content) (block_items_from (Some order) tail file (offset + total) rest))

  -- a block that stands whole
  pub block-fed : (b later : List ℕ) (block : Block) → ParsesBlockHeader section offset b (Ok block)
      → block.total ≤ length b → body_fault block.order b ≡ None
      → rest_of_blocks file progress (block_items_from section tail file offset (b ++ later))
      ≡ given-by block (body_in block.total b) block.order block.total (drop block.total b ++ later)
  unfolding said
  block-fed b later block p whole none =
      let f = FieldsFit-from_header section offset b p.0 in
      let order : block.order ≡ block_order_at section b = ap (λ (k : Block). k.order) p.1
      ∙ order-at section offset b in
      let total : block.total ≡ total_at (block_order_at section b) b =
      ap (λ (k : Block). k.total) p.1 ∙ total-at section offset b in
      let whole_at : total_at (block_order_at section b) b ≤ length b = omega (arith, whole, total) in
      let body : body_fault (block_order_at section b) b ≡ None =
      subst (λ (o : Order). body_fault o b ≡ None) order none in
      let there : block_fault section offset (b ++ later) ≡ None =
      block_fault-body section offset (b ++ later) None (header-there section offset b later p.0)
      (body-there section offset b later p.0 whole_at ∙ body) in
      let same_block : block_at section offset (b ++ later) ≡ block =
      block_at-append section offset b later f.head ∙ sym p.1 in
      let same_order : block_order_at section (b ++ later) ≡ block.order =
      order_at-append section b later f.head ∙ sym order in
      let same_total : total_at (block_order_at section (b ++ later)) (b ++ later) ≡ block.total =
      total-there section offset b later p.0 ∙ sym total in
      let same_body : body_at section (b ++ later) ≡ body_in block.total b =
      lent-there section offset b later p.0 whole_at ∙ ap (λ (n : ℕ). body_in n b) (sym total) in
      let rest : drop (total_at (block_order_at section (b ++ later)) (b ++ later)) (b ++ later)
      ≡ drop block.total b ++ later =
      ap (λ (n : ℕ). drop n (b ++ later)) same_total ∙ drop-append-le block.total b later whole in
      given-block (b ++ later) (omega (arith, f.head, length-append b later)) there
      ∙ (λ i. given-by (same_block i) (same_body i) (same_order i) (same_total i) (rest i))

  -- one that is skipped
  module _ (b later : List ℕ) (block : Block) (p : ParsesBlockHeader section offset b (Ok block))
      (unknown : is_known_kind block.kind ≡ false) (inside : is_some section ≡ true) where
    w : List ℕ
    w = b ++ later

    there : FieldsFit (block_order_at section w) offset w
    unfolding w
    there = FieldsFit-from_header section offset w (header-there section offset b later p.0)

    block-is : block ≡ block_at section offset w
    unfolding w
    block-is = p.1 ∙ sym (block_at-append section offset b later (FieldsFit-from_header section offset b p.0).head)

    header-is : ParsesBlockHeader section offset w (Ok block)
    unfolding w
    header-is = (header-there section offset b later p.0, block-is)

    order-is : block.order ≡ block_order_at section w
    order-is = ap (λ (k : Block). k.order) block-is ∙ order-at section offset w

    total-is : block.total ≡ total_at block.order w
    total-is =
        ap (λ (k : Block). k.total) block-is
        ∙ (total-at section offset w ∙ sym (ap (λ (o : Order). total_at o w) order-is))

    kind-is : block.kind ≡ kind_at block.order w
    unfolding block_at
    kind-is = ap (λ (k : Block). k.kind) block-is ∙ sym (ap (λ (o : Order). kind_at o w) order-is)

    least : 12 ≤ block.total
    least =
        let f = there in
        omega (
          arith,
          total-is,
          total-least (kind_at block.order w) (total_at block.order w)
              (subst (λ (o : Order). is_total (kind_at o w) (total_at o w) ≡ true) (sym order-is) f.allowed),
        )

    offset-is : block.offset ≡ offset
    unfolding block_at
    offset-is = ap (λ (k : Block). k.offset) block-is

    faulty : (rule : Rule) → body_fault block.order w ≡ Some rule
        → rest_of_blocks file progress (block_items_from section tail file offset w)
        ≡ rest_of_stop Pcapng progress (stop_by true tail file block.offset (length w) rule)
    faulty rule is =
        let fault : block_fault section offset w ≡ Some rule =
        fault-whole section offset w block (Some rule) header-is is in
        blocks-stop file progress section tail offset w (stop_by (is_some section) tail file offset (length w) rule)
        (stop_where-fault (is_some section) tail file offset w (block_fault section offset w) rule some fault)
        ∙ (λ i. rest_of_stop Pcapng progress (stop_by (inside i) tail file (sym offset-is i) (length w) rule))
      where
        some : (is_some section && (length w == 0)) ≡ false
        some = let f = there in grind (arith, nat_tests)

    skip-cut : length w < block.total
        → rest_of_blocks file progress (block_items_from section tail file offset w)
        ≡ skipped_rest file tail progress block (block.total - 4) w
    unfolding skipped_rest
    skip-cut few =
        let short : nat_lt (length w) ((block.total - 4) + 4) ≡ true =
        let l = least in grind (arith, nat_tests) in
        faulty Cut (body_fault-cut block.order w (omega (arith, few, total-is)))
        ∙ (ap (λ (n : ℕ). rest_of_stop Pcapng progress (stop_by true tail file block.offset n Cut))
        (all (block.total - 4) (length w)) ∙ sym (rw short refl))
      where
        all : (n m : ℕ) → m ≡ n - n + m
        all n m = omega arith

    skip-trailer : block.total ≤ length w → (number block.order 4 (drop (block.total - 4) w) ≡ block.total → ⊥)
        → rest_of_blocks file progress (block_items_from section tail file offset w)
        ≡ skipped_rest file tail progress block (block.total - 4) w
    unfolding skipped_rest
    skip-trailer whole other =
        let long : nat_lt (length w) ((block.total - 4) + 4) ≡ false =
        let l = least in grind (arith, nat_tests) in
        let differs : (number block.order 4 (drop (block.total - 4) w) == block.total) ≡ false =
        grind (arith, nat_tests) in
        faulty BlockTrailer
        (body_fault-trailer block.order w (omega (arith, whole, total-is))
        (λ same. other (subst (λ (n : ℕ). number block.order 4 (drop (n - 4) w) ≡ n) (sym total-is) same)))
        ∙ (trailer ∙ sym (rw (long, differs) refl))
      where
        by-trailer-rule : (n : ℕ) → stop_by true tail file block.offset n BlockTrailer
            ≡ stops.Refused (record { file = file; offset = block.offset; rule = BlockTrailer })
        by-trailer-rule n = grind arith

        trailer : rest_of_stop Pcapng progress (stop_by true tail file block.offset (length w) BlockTrailer)
            ≡ rest_of_stop Pcapng progress
            (stops.Refused (record { file = file; offset = block.offset; rule = BlockTrailer }))
        trailer = ap (rest_of_stop Pcapng progress) (by-trailer-rule (length w))

    skip-whole : block.total ≤ length w → number block.order 4 (drop (block.total - 4) w) ≡ block.total
        → rest_of_blocks file progress (block_items_from section tail file offset w)
        ≡ skipped_rest file tail progress block (block.total - 4) w
    unfolding skipped_rest said
    skip-whole whole same =
        let l = least in
        let long : nat_lt (length w) ((block.total - 4) + 4) ≡ false = grind (arith, nat_tests) in
        let equal : (number block.order 4 (drop (block.total - 4) w) == block.total)
        ≡ true = grind (arith, nat_tests) in
        let four : (block.total - 4) + 4 ≡ block.total = omega (arith, l) in
        let body : body_fault block.order w ≡ None =
        body_fault-whole block.order w (omega (arith, whole, total-is))
        (subst (λ (n : ℕ). number block.order 4 (drop (n - 4) w) ≡ n) total-is same)
        (no_version block.order w (λ is. unknown_section block.kind unknown (kind-is ∙ is))) in
        let fault : block_fault section offset w ≡ None = fault-whole section offset w block None header-is body in
        let f = there in
        let is_other : content_in progress.interfaces (block_at section offset w).kind (block_at section offset w).order
        (body_at section w) ≡ Ok (contents.Other block.kind) =
        other progress.interfaces (block_at section offset w).kind (block_at section offset w).order (body_at section w)
        (subst (λ (k : Block). is_known_kind k.kind ≡ false) block-is unknown)
        ∙ ap (λ (k : Block). Ok (contents.Other k.kind)) (sym block-is) in
        given-block w (omega (arith, f.head)) fault
        ∙ (rw is_other
        ((λ i. rest_of_blocks file (after progress (contents.Other block.kind))
        (block_items_from (Some (sym order-is i)) tail file (sym offset-is i + size i) (drop (size i) w)))
        ∙ sym (rw (long, equal, four) refl)))
      where
        size : total_at (block_order_at section w) w ≡ block.total
        size = ap (λ (o : Order). total_at o w) (sym order-is) ∙ sym total-is

    side : (n m : ℕ) → (n < m) ⊎ (m ≤ n)
    side n m = grind (arith, nat_tests)

    by-trailer : (same : Bool) → (number block.order 4 (drop (block.total - 4) w) == block.total) ≡ same
        → block.total ≤ length w
        → rest_of_blocks file progress (block_items_from section tail file offset w)
        ≡ skipped_rest file tail progress block (block.total - 4) w
    by-trailer true e whole = skip-whole whole (grind (arith, nat_tests))
    by-trailer false e whole = skip-trailer whole (λ same. grind (arith, nat_tests))

    by-length : (length w < block.total) ⊎ (block.total ≤ length w)
        → rest_of_blocks file progress (block_items_from section tail file offset w)
        ≡ skipped_rest file tail progress block (block.total - 4) w
    by-length (inl few) = skip-cut few
    by-length (inr whole) = by-trailer (number block.order 4 (drop (block.total - 4) w) == block.total) refl whole

    pub skip-entered : rest_of_blocks file progress (block_items_from section tail file offset (b ++ later))
        ≡ skipped_rest file tail progress block (block.total - 4) (b ++ later)
    unfolding w
    skip-entered = by-length (side (length w) block.total)

    pub skip-facts : (12 ≤ block.total) × (block.offset ≡ offset) × (offset + block.total ≤ 2 ^ 40)
    skip-facts =
        let f = there in
        (least, offset-is, omega (arith, f.limit, total-is, ap (λ (o : Order). total_at o w) order-is))

-- ---- on the way through a block that is skipped

module _ (file : ℕ) (tail : Tail) (progress : SectionProgress) (block : Block) where
  -- some bytes of it are passed
  behind-some : (left n m : ℕ) (w : List ℕ) → n ≤ left → n + m ≡ length w
      → nat_lt (length w) (left + 4) ≡ nat_lt m ((left - n) + 4)
  behind-some left n m w within is = grind (arith, nat_tests)

  pub skip-passed : (left n : ℕ) (b later : List ℕ) → n ≤ left → n ≤ length b → left + 4 ≤ block.total
      → skipped_rest file tail progress block left (b ++ later)
      ≡ skipped_rest file tail progress block (left - n) (drop n b ++ later)
  unfolding skipped_rest
  skip-passed left n b later within here room =
      let w = b ++ later in
      let rest : drop n w ≡ drop n b ++ later = drop-append-le n b later here in
      let size : n + length (drop n b ++ later) ≡ length w =
      omega (arith, length-append b later, length-append (drop n b) later, length-drop n b) in
      let few = behind-some left n (length (drop n b ++ later)) w within size in
      let at = λ (k : ℕ). drop-drop' n k w ∙ ap (drop k) rest in
      let one : drop left w ≡ drop (left - n) (drop n b ++ later) =
      ap (λ (k : ℕ). drop k w) (sum left n within) ∙ at (left - n) in
      let two : drop (left + 4) w ≡ drop ((left - n) + 4) (drop n b ++ later) =
      ap (λ (k : ℕ). drop k w) (more left n within) ∙ at ((left - n) + 4) in
      rw (
        few,
        one,
        two,
        sizes block.total left n (length w) (length (drop n b ++ later)) room within size,
      ) refl
    where
      sizes : (total left n all rest : ℕ) → left + 4 ≤ total → n ≤ left → n + rest ≡ all
          → total - 4 - left + all ≡ total - 4 - (left - n) + rest
      sizes total left n all rest room within is = omega arith

      drop-drop' : (n k : ℕ) (l : List ℕ) → drop (n + k) l ≡ drop k (drop n l)
      drop-drop' n k l = sym (drop-drop k n l)

      sum : (left n : ℕ) → n ≤ left → left ≡ n + (left - n)
      sum left n h = omega arith

      more : (left n : ℕ) → n ≤ left → left + 4 ≡ n + ((left - n) + 4)
      more left n h = omega arith

  -- too few bytes are left for its trailer, or it is another number
  pub skip-short : (left : ℕ) (w : List ℕ) (size : ℕ) → length w < left + 4
      → size ≡ block.total - 4 - left + length w
      → skipped_rest file tail progress block left w
      ≡ rest_of_stop Pcapng progress (stop_by true tail file block.offset size Cut)
  unfolding skipped_rest
  skip-short left w size few is =
      let short : nat_lt (length w) (left + 4) ≡ true = grind (arith, nat_tests) in
      rw (short, is) refl

  pub skip-other : (b later : List ℕ) (size : ℕ) → 4 ≤ length b → (number block.order 4 b ≡ block.total → ⊥)
      → skipped_rest file tail progress block 0 (b ++ later)
      ≡ rest_of_stop Pcapng progress (stop_by true tail file block.offset size BlockTrailer)
  unfolding skipped_rest
  skip-other b later size four differs =
      let long : nat_lt (length (b ++ later)) 4 ≡ false = grind (arith, nat_tests, length-append b later) in
      let same : number block.order 4 (b ++ later) ≡ number block.order 4 b = number-append block.order 4 b later four
      in
      let unequal : (number block.order 4 (b ++ later) == block.total) ≡ false = grind (arith, nat_tests) in
      rw (long, unequal) (ap (rest_of_stop Pcapng progress) (sym refused-by))
    where
      refused-by : stop_by true tail file block.offset size BlockTrailer
          ≡ stops.Refused (record { file = file; offset = block.offset; rule = BlockTrailer })
      refused-by = grind arith

  -- it is passed
  pub skip-done : (b later : List ℕ) → 4 ≤ length b → number block.order 4 b ≡ block.total
      → skipped_rest file tail progress block 0 (b ++ later)
      ≡ rest_of_blocks file (after progress (contents.Other block.kind))
      (block_items_from (Some block.order) tail file (block.offset + block.total) (drop 4 b ++ later))
  unfolding skipped_rest
  skip-done b later four is =
      let long : nat_lt (length (b ++ later)) 4 ≡ false = grind (arith, nat_tests, length-append b later) in
      let same : number block.order 4 (b ++ later) ≡ number block.order 4 b = number-append block.order 4 b later four
      in
      let equal : (number block.order 4 (b ++ later) == block.total) ≡ true = grind (arith, nat_tests) in
      let rest : drop 4 (b ++ later) ≡ drop 4 b ++ later = drop-append-le 4 b later four in
      rw (long, equal, rest) refl
