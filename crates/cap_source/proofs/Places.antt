-- What is known at a block goes by the blocks before it.
use Rattle.std.proofs.Common.{◌≡◌, ◌≤◌, ◌==◌, ◌&&◌, ◌+◌, ◌-◌, ℕ, not, true, false, Bool, List, [], ◌∷◌, ◌++◌, ◌||◌}
use Rattle.std.proofs.Common.{length, drop, slice_get, Some, Result, Ok, Err, IfOk, refl, sym, ap, ◌∙◌, subst, arith}
use Rattle.std.proofs.Common.{None, cond, if◌then◌else◌, length-append, append_assoc, append-nil}
use Rattle.std.specs.List.{filter, count_by, suffix_len, before_last, after_last}
use Rattle.std.proofs.lemmas.Bool.Decides.{nat_tests}
use Rattle.std.proofs.lemmas.List.{length-map, drop-append-le, drop_all, take-append-le, take_at, reverse-append}
use Rattle.std.proofs.lemmas.List.{map-append}
use Rattle.std.proofs.lemmas.List.Elements.{filter-append}
use Rattle.std.proofs.lemmas.List.Sums.{sum_by-append}
use Rattle.cap_bytes.specs.Items as pieces
use Rattle.cap_bytes.specs.declared.faults.Rule.{Rule}
use Rattle.cap_bytes.specs.Number.{number}
use Rattle.cap_bytes.specs.declared.numbers.Order.{Order}
use Rattle.cap_blocks.specs.Grammar.{obsolete_kind, simple_kind, enhanced_kind}
use Rattle.cap_blocks.specs.OptionList.{options_of}
use Rattle.cap_blocks.specs.declared.blocks.Block.{Block}
use Rattle.cap_source.specs.Contents.{of_body, timed_in, simple_in, described, content_in}
use Rattle.cap_source.specs.Items.{SectionProgress, fresh, first_or, after, behind, commented, items_at_block}
use Rattle.cap_source.specs.Items.{ending_with, ending_in, items_of_blocks, names_kind, secrets_kind}
use Rattle.cap_source.specs.Items.{unless_faulty, unless_item, first_in}
use Rattle.cap_source.specs.inner.Places.{Standing, is_header, is_interface, is_other, is_named_interface, told}
use Rattle.cap_source.specs.inner.Places.{interfaces_of, known_behind, items_behind, ending_behind, first_behind}
use Rattle.cap_source.specs.inner.Places.{is_names, is_secrets}
use Rattle.cap_source.specs.inner.Places.{ItemsByPlaces, EndingByPlaces, FirstByPlaces, KindsByPlaces, NumbersByPlaces}
use Rattle.cap_source.specs.TimeBases.{interface_in, interface_at, is_named}
use Rattle.cap_source.specs.declared.contents.BlockPacket.{BlockPacket}
use Rattle.cap_source.specs.declared.contents.BlockContent.{BlockContent}
use Rattle.cap_source.specs.declared.contents.BlockContent.TheVariants as contents
use Rattle.cap_source.specs.declared.feeds.SkippedKinds.{SkippedKinds}
use Rattle.cap_time.specs.declared.resolutions.Interface.{Interface}

-- one more element at the end of a list
from_end : {X : Type 0} (P : List X → Type 0) → P [] → ((xs : List X) (x : X) → P xs → P (xs ++ x ∷ []))
    → (xs : List X) → P xs
from_end P none more xs = go [] xs none
  where
    go : (ys xs : List _) → P ys → P (ys ++ xs)
    go ys [] h = subst P (sym (append-nil ys)) h
    go ys (x ∷ xs) h = subst P (append_assoc ys (x ∷ []) xs) (go (ys ++ x ∷ []) xs (more ys x h))

module _ {X : Type 0} (p : X → Bool) where
  suffix-more : (xs : List X) (x : X) → suffix_len p (xs ++ x ∷ []) ≡ cond (p x) (1 + suffix_len p xs) 0
  suffix-more xs x = rw (reverse-append xs (x ∷ [])) refl

  filter-more : (xs : List X) (x : X) → filter p (xs ++ x ∷ []) ≡ cond (p x) (filter p xs ++ x ∷ []) (filter p xs)
  filter-more xs x = grind (arith, filter-append, append-nil)

  count-more : (xs : List X) (x : X) → count_by p (xs ++ x ∷ []) ≡ count_by p xs + cond (p x) 1 0
  count-more xs x = sum_by-append (λ y. cond (p y) 1 0) xs (x ∷ []) ∙ omega arith

module _ {X : Type 0} (p : X → Bool) where
  after-more : (xs : List X) (x : X) → after_last p (xs ++ x ∷ []) ≡ cond (p x) [] (after_last p xs ++ x ∷ [])
  after-more xs x = by (p x) refl
    where
      by : (b : Bool) → p x ≡ b → after_last p (xs ++ x ∷ []) ≡ cond b [] (after_last p xs ++ x ∷ [])
      by true is =
          let e : length (xs ++ x ∷ []) - 0 ≡ length (xs ++ x ∷ []) = omega arith in
          rw (suffix-more (λ y. not (p y)) xs x, is, e) (drop_all (length (xs ++ x ∷ [])) (xs ++ x ∷ []) (omega arith))
      by false is =
          let n = suffix_len (λ y. not (p y)) xs in
          let e : length (xs ++ x ∷ []) - (1 + n) ≡ length xs - n = omega (arith, length-append xs (x ∷ [])) in
          rw (suffix-more (λ y. not (p y)) xs x, is, e) (drop-append-le (length xs - n) xs (x ∷ []) (omega arith))

  before-more : (xs : List X) (x : X) → before_last p (xs ++ x ∷ []) ≡ cond (p x) xs (before_last p xs)
  before-more xs x = by (p x) refl
    where
      by : (b : Bool) → p x ≡ b → before_last p (xs ++ x ∷ []) ≡ cond b xs (before_last p xs)
      by true is =
          let e : length (xs ++ x ∷ []) - 0 - 1 ≡ length xs = omega (arith, length-append xs (x ∷ [])) in
          rw (suffix-more (λ y. not (p y)) xs x, is, e) (take_at xs (x ∷ []) (length xs) refl)
      by false is =
          let n = suffix_len (λ y. not (p y)) xs in
          let e : length (xs ++ x ∷ []) - (1 + n) - 1 ≡ length xs - n - 1 = omega (arith, length-append xs (x ∷ [])) in
          rw (suffix-more (λ y. not (p y)) xs x, is, e) (take-append-le (length xs - n - 1) xs (x ∷ []) (omega arith))

  -- what passes the one test and not the other stands before the last that does, or after it
  apart-count : (q : X → Bool) → ((x : X) → p x ≡ true → q x ≡ false) → (xs : List X)
      → count_by q (before_last p xs) + length (filter q (after_last p xs)) ≡ count_by q xs
  apart-count q apart = from_end _ refl more
    where
      more : (xs : List X) (x : X) → count_by q (before_last p xs) + length (filter q (after_last p xs)) ≡ count_by q xs
          → count_by q (before_last p (xs ++ x ∷ [])) + length (filter q (after_last p (xs ++ x ∷ [])))
          ≡ count_by q (xs ++ x ∷ [])
      more xs x h = by (p x) (q x) refl refl
        where
          by : (a b : Bool) → p x ≡ a → q x ≡ b
              → count_by q (before_last p (xs ++ x ∷ [])) + length (filter q (after_last p (xs ++ x ∷ [])))
              ≡ count_by q (xs ++ x ∷ [])
          by true true is was = absurd (let e = apart x is in let f : true ≡ false = sym was ∙ e in grind arith)
          by true false is was = rw (after-more xs x, before-more xs x, count-more q xs x, is, was) (omega arith)
          by false true is was =
              rw (after-more xs x, before-more xs x, count-more q xs x, is, filter-more q (after_last p xs) x, was)
              (omega (arith, h, length-append (filter q (after_last p xs)) (x ∷ [])))
          by false false is was =
              rw (after-more xs x, before-more xs x, count-more q xs x, is, filter-more q (after_last p xs) x, was)
              (omega (arith, h))

-- ---- what a block tells of

header-apart : (b : Standing) → is_header b ≡ true → is_interface b ≡ false
header-apart b is = grind (arith, nat_tests)

interfaces-more : (bs : List Standing) (b : Standing)
    → interfaces_of (bs ++ b ∷ []) ≡ cond (is_interface b) (interfaces_of bs ++ told b ∷ []) (interfaces_of bs)
interfaces-more bs b = grind (arith, filter-more, map-append)

first-more : (is : List Interface) (i : Interface) → slice_get (is ++ i ∷ []) 0 ≡ Some (first_or (slice_get is 0) i)
first-more [] i = refl
first-more (j ∷ is) i = refl

pub numbers-law : NumbersByPlaces
unfolding known_behind
numbers-law before = rw (length-map (filter is_interface (after_last is_header before)) told)
    (apart-count is_header is_interface header-apart before)

-- a block of secrets or of names is one that is skipped, and not both
one-kind : (b : Standing) → cond (is_secrets b) 1 0 + cond (is_names b) 1 0 ≤ cond (is_other b) 1 0
one-kind b = grind (arith, nat_tests)

pub kinds-law : KindsByPlaces
unfolding known_behind
kinds-law = from_end _ (omega arith) more
  where
    more : (xs : List Standing) (x : Standing)
        → count_by is_secrets xs + count_by is_names xs ≤ count_by is_other xs
        → count_by is_secrets (xs ++ x ∷ []) + count_by is_names (xs ++ x ∷ []) ≤ count_by is_other (xs ++ x ∷ [])
    more xs x h =
        omega (
          arith,
          h,
          one-kind x,
          count-more is_secrets xs x,
          count-more is_names xs x,
          count-more is_other xs x,
        )

-- what a block's tests and its type tell of what it says; an interface is its own, and has a name or not
abbrev Tells : (header interface other : Bool) → ℕ → Interface → Bool → BlockContent → Type 0
Tells header interface other kind own named contents.Section = (header ≡ true) × (interface ≡ false) × (other ≡ false)
Tells header interface other kind own named (contents.Interface d) =
    (header ≡ false) × (interface ≡ true) × (other ≡ false) × (d.interface ≡ own) × (d.is_named ≡ named)
Tells header interface other kind own named (contents.Packet p) =
    (header ≡ false) × (interface ≡ false) × (other ≡ false)
Tells header interface other kind own named (contents.Other k) =
    (header ≡ false) × (interface ≡ false) × (other ≡ true) × (k ≡ kind)

by_kind : (a b c d e : Bool) (kind : ℕ) (own : Interface) (order : Order) (body : List ℕ) (i : Result Interface Rule)
    (x y z : Result BlockPacket Rule)
    → (a ≡ true → b ≡ false) → IfOk i (λ j. j ≡ own)
    → IfOk (if a then Ok contents.Section else if b then of_body (described order body) i else
    if c then of_body contents.Packet x else if d then of_body contents.Packet y else if e then of_body contents.Packet
    z else Ok (contents.Other kind))
    (Tells a b (not (a || b || d || e || c)) kind own (is_named order body))
by_kind a b c d e kind own order body i x y z apart is = grind arith

interface-own : (before : ℕ) (order : Order) (body : List ℕ)
    → IfOk (interface_in before order body) (λ i. i ≡ interface_at order body (options_of order (drop 8 body)))
unfolding interface_in
interface-own before order body = grind arith

-- the same of a block's own tests
abbrev TellsOf : Standing → BlockContent → Type 0
TellsOf b = Tells (is_header b) (is_interface b) (is_other b) b.0.kind (told b) (is_named b.0.order b.1)

content-tells : (interfaces : List Interface) (b : Standing)
    → IfOk (content_in interfaces b.0.kind b.0.order b.1) (TellsOf b)
unfolding content_in
content-tells interfaces b =
    by_kind (is_header b) (is_interface b) (b.0.kind == enhanced_kind) (b.0.kind == obsolete_kind)
    (b.0.kind == simple_kind) b.0.kind (told b) b.0.order b.1
    (interface_in (length interfaces) b.0.order b.1) (timed_in interfaces (number b.0.order 4 b.1) b.0.order b.1)
    (timed_in interfaces (number b.0.order 2 b.1) b.0.order b.1) (simple_in interfaces b.0.order b.1)
    (header-apart b) (interface-own (length interfaces) b.0.order b.1)

-- the interfaces of the section, how many stand before it, how many blocks are skipped, and the first interface, one
-- block on
here-more : (before : List Standing) (b : Standing)
    → interfaces_of (after_last is_header (before ++ b ∷ []))
    ≡ cond (is_header b) [] (cond (is_interface b) (interfaces_of (after_last is_header before) ++ told b ∷ [])
    (interfaces_of (after_last is_header before)))
here-more before b = by (is_header b) refl
  where
    by : (h : Bool) → is_header b ≡ h → interfaces_of (after_last is_header (before ++ b ∷ []))
        ≡ cond h [] (cond (is_interface b) (interfaces_of (after_last is_header before) ++ told b ∷ [])
        (interfaces_of (after_last is_header before)))
    by true is = ap interfaces_of (after-more is_header before b
        ∙ ap (λ h. cond h [] (after_last is_header before ++ b ∷ [])) is)
    by false is =
        ap interfaces_of (after-more is_header before b
        ∙ ap (λ h. cond h [] (after_last is_header before ++ b ∷ [])) is)
        ∙ interfaces-more (after_last is_header before) b

counted-none : (n m : ℕ) (b : Bool) → n ≡ m + cond b 1 0 → b ≡ false → m ≡ n
counted-none n m b is none = let e : n ≡ m + 0 = subst (λ b. n ≡ m + cond b 1 0) none is in omega (arith, e)

counted-one : (n m : ℕ) (b : Bool) → n ≡ m + cond b 1 0 → b ≡ true → m + 1 ≡ n
counted-one n m b is one = sym (subst (λ b. n ≡ m + cond b 1 0) one is)

-- two are the same if each of the seven is
same : {p q : SectionProgress} → p.interfaces ≡ q.interfaces → p.base ≡ q.base → p.skipped ≡ q.skipped
    → p.kinds ≡ q.kinds → p.named ≡ q.named → p.first ≡ q.first → p.comments ≡ q.comments → p ≡ q
same a b c k d e f = λ i. record {
  interfaces = a i;
  base = b i;
  skipped = c i;
  kinds = k i;
  named = d i;
  first = e i;
  comments = f i;
}

-- so are two numbers of skipped blocks, if both are
same-kinds : {p q : SkippedKinds} → p.secrets ≡ q.secrets → p.names ≡ q.names → p ≡ q
same-kinds s n = λ i. record { secrets = s i; names = n i }

-- a block of a known kind has neither secrets nor names
no-secrets : (b : Standing) → is_other b ≡ false → is_secrets b ≡ false
no-secrets b known = grind (arith, nat_tests)

no-names : (b : Standing) → is_other b ≡ false → is_names b ≡ false
no-names b known = grind (arith, nat_tests)

-- what one more block of a type adds to those of that type
counted-as : (n m k kind is : ℕ) → n ≡ m + cond (kind == is) 1 0 → k ≡ kind
    → m + (if k == is then 1 else 0) ≡ n
counted-as n m k kind is counted same = ap (λ x. m + (if x == is then 1 else 0)) same ∙ sym counted

-- a block of another kind has no interface with a name
unnamed : (b : Standing) → is_interface b ≡ false → is_named_interface b ≡ false
unnamed b is = ap (λ i. i && is_named b.0.order b.1) is

named-as : (b : Standing) (named : Bool) → is_interface b ≡ true → named ≡ is_named b.0.order b.1
    → is_named_interface b ≡ named
named-as b named is same = ap (λ i. i && is_named b.0.order b.1) is ∙ sym same

-- so what is known behind it is what it adds to what was known
step : (before : List Standing) (b : Standing) (content : BlockContent) → TellsOf b content
    → after (known_behind before) content ≡ known_behind (before ++ b ∷ [])
unfolding known_behind
step before b content t =
    same (here content t) (base content t) (skipped content t) (kinds content t) (named content t) (first content t)
    (comments content)
  where
    here : (content : BlockContent) → TellsOf b content
        → (after (known_behind before) content).interfaces ≡ interfaces_of (after_last is_header (before ++ b ∷ []))
    here contents.Section t = rw (here-more before b, t.0) refl
    here (contents.Interface i) t = rw (here-more before b, t.0, t.1, t.3) refl
    here (contents.Packet p) t = rw (here-more before b, t.0, t.1) refl
    here (contents.Other k) t = rw (here-more before b, t.0, t.1) refl

    base : (content : BlockContent) → TellsOf b content
        → (after (known_behind before) content).base ≡ count_by is_interface (before_last is_header (before ++ b ∷ []))
    base contents.Section t = rw (before-more is_header before b, t.0) (numbers-law before)
    base (contents.Interface i) t = rw (before-more is_header before b, t.0) refl
    base (contents.Packet p) t = rw (before-more is_header before b, t.0) refl
    base (contents.Other k) t = rw (before-more is_header before b, t.0) refl

    skipped : (content : BlockContent) → TellsOf b content
        → (after (known_behind before) content).skipped ≡ count_by is_other (before ++ b ∷ [])
    skipped contents.Section t = counted-none _ _ _ (count-more is_other before b) t.2
    skipped (contents.Interface i) t = counted-none _ _ _ (count-more is_other before b) t.2
    skipped (contents.Packet p) t = counted-none _ _ _ (count-more is_other before b) t.2
    skipped (contents.Other k) t = counted-one _ _ _ (count-more is_other before b) t.2

    known : is_other b ≡ false → (known_behind before).kinds ≡ (known_behind (before ++ b ∷ [])).kinds
    known is =
        same-kinds (counted-none _ _ _ (count-more is_secrets before b) (no-secrets b is))
        (counted-none _ _ _ (count-more is_names before b) (no-names b is))

    kinds : (content : BlockContent) → TellsOf b content
        → (after (known_behind before) content).kinds ≡ (known_behind (before ++ b ∷ [])).kinds
    kinds contents.Section t = known t.2
    kinds (contents.Interface i) t = known t.2
    kinds (contents.Packet p) t = known t.2
    kinds (contents.Other k) t =
        same-kinds (counted-as _ _ k b.0.kind secrets_kind (count-more is_secrets before b) t.3)
        (counted-as _ _ k b.0.kind names_kind (count-more is_names before b) t.3)

    named : (content : BlockContent) → TellsOf b content
        → (after (known_behind before) content).named ≡ count_by is_named_interface (before ++ b ∷ [])
    named contents.Section t = counted-none _ _ _ (count-more is_named_interface before b) (unnamed b t.1)
    named (contents.Interface d) t =
        sym (count-more is_named_interface before b
        ∙ ap (λ x. count_by is_named_interface before + cond x 1 0) (named-as b d.is_named t.1 t.4))
    named (contents.Packet p) t = counted-none _ _ _ (count-more is_named_interface before b) (unnamed b t.1)
    named (contents.Other k) t = counted-none _ _ _ (count-more is_named_interface before b) (unnamed b t.1)

    comments : (content : BlockContent) → (after (known_behind before) content).comments ≡ None
    comments contents.Section = refl
    comments (contents.Interface d) = refl
    comments (contents.Packet p) = refl
    comments (contents.Other k) = refl

    first : (content : BlockContent) → TellsOf b content
        → (after (known_behind before) content).first ≡ slice_get (interfaces_of (before ++ b ∷ [])) 0
    first contents.Section t = rw (interfaces-more before b, t.1) refl
    first (contents.Interface i) t = rw (interfaces-more before b, t.1, t.3)
        (sym (first-more (interfaces_of before) (told b)))
    first (contents.Packet p) t = rw (interfaces-more before b, t.1) refl
    first (contents.Other k) t = rw (interfaces-more before b, t.1) refl

-- ---- the laws, from any blocks on

-- what comes of a block and of those behind it, in a way that needs these only if the block breaks no rule
module _ {A : Type 0} (at : SectionProgress → Result BlockContent Rule → A → A)
    (at-faulty : (p : SectionProgress) (rule : Rule) (x y : A)
    → at p (Err rule) x ≡ at p (Err rule) y) where
  one : (before : List Standing) (b : Standing) (content : Result BlockContent Rule) (later : SectionProgress → A)
      (there : A)
      → IfOk content (TellsOf b) → later (known_behind (before ++ b ∷ [])) ≡ there
      → at (known_behind before) content (later (behind (known_behind before) content))
      ≡ at (known_behind before) content there
  one before b (Ok content) later there tells is =
      ap (at (known_behind before) (Ok content)) (ap later (step before b content tells) ∙ is)
  one before b (Err rule) later there tells is =
      at-faulty (known_behind before) rule (later (known_behind before)) there

items-from : (file : ℕ) (before : List Standing) (items : List (pieces.PieceItem Block))
    → items_of_blocks file (known_behind before) items ≡ items_behind file before items
unfolding items_of_blocks items_behind
items-from file before [] = refl
items-from file before (pieces.stopped stop ∷ rest) = refl
items-from file before (pieces.given block body ∷ rest) =
    one (λ p content later. items_at_block file p block body content later) (λ p rule x y. refl) before (block, body)
    (content_in (known_behind before).interfaces block.kind block.order body) (λ p. items_of_blocks file p rest)
    (items_behind file (before ++ (block, body) ∷ []) rest)
    (content-tells (known_behind before).interfaces (block, body)) (items-from file (before ++ (block, body) ∷ []) rest)

-- no comments are counted
uncounted : (before : List Standing) (block : Block) (body : List ℕ) (content : Result BlockContent Rule)
    → commented (known_behind before) block body content ≡ known_behind before
unfolding known_behind
uncounted before block body (Ok content) = refl
uncounted before block body (Err rule) = refl

ending-from : (before : List Standing) (items : List (pieces.PieceItem Block))
    → ending_in (known_behind before) items ≡ ending_behind before items
unfolding ending_in ending_behind
ending-from before [] = refl
ending-from before (pieces.stopped stop ∷ rest) = refl
ending-from before (pieces.given block body ∷ rest) =
    let content = content_in (known_behind before).interfaces block.kind block.order body in
    ap (λ q. unless_faulty content (ending_with (known_behind before) None) (ending_in (behind q content) rest))
    (uncounted before block body content)
    ∙ one (λ p content later. unless_faulty content (ending_with p None) later) (λ p rule x y. refl) before
    (block, body) content (λ p. ending_in p rest) (ending_behind (before ++ (block, body) ∷ []) rest)
    (content-tells (known_behind before).interfaces (block, body)) (ending-from (before ++ (block, body) ∷ []) rest)

first-from : (before : List Standing) (items : List (pieces.PieceItem Block))
    → first_in (known_behind before) items ≡ first_behind before items
unfolding first_in first_behind
first-from before [] = refl
first-from before (pieces.stopped stop ∷ rest) = refl
first-from before (pieces.given block body ∷ rest) =
    one (λ p content later. unless_item content p.first later) (λ p rule x y. refl) before (block, body)
    (content_in (known_behind before).interfaces block.kind block.order body) (λ p. first_in p rest)
    (first_behind (before ++ (block, body) ∷ []) rest)
    (content-tells (known_behind before).interfaces (block, body)) (first-from (before ++ (block, body) ∷ []) rest)

-- nothing is known behind no blocks
none-behind : known_behind [] ≡ fresh
unfolding known_behind
none-behind = refl

pub items-law : ItemsByPlaces
items-law file items = ap (λ p. items_of_blocks file p items) (sym none-behind) ∙ items-from file [] items

pub ending-law : EndingByPlaces
ending-law items = ap (λ p. ending_in p items) (sym none-behind) ∙ ending-from [] items

pub first-law : FirstByPlaces
first-law items = ap (λ p. first_in p items) (sym none-behind) ∙ first-from [] items
