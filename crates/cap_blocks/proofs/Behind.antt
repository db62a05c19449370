-- What the body of a block is refused by, and its total length after it.
use Rattle.std.proofs.Common.{◌≡◌, ℕ, ◌+◌, ◌-◌, ◌≤◌, ◌<◌, ◌==◌, not, List, ◌++◌, length, take, drop, Option, Some, None}
use Rattle.std.proofs.Common.{Bool, true, false, IsTrue, Ok, refl, sym, ◌∙◌, ap, subst, arith, drop-drop, length-append}
use Rattle.std.proofs.Common.{length-drop, nat_lt}
use Rattle.std.proofs.lemmas.Bool.Decides.{nat_tests}
use Rattle.std.proofs.lemmas.List.{take-append-drop, drop-append-le}
use Rattle.cap_bytes.specs.Number.{number}
use Rattle.cap_bytes.specs.inner.Reach.{ReachesTo}
use Rattle.cap_bytes.specs.inner.Window.{WindowState, Needs, WindowDrops, DropsAll, WindowPasses, coming, read_to}
use Rattle.cap_bytes.proofs.Parsing.{all_shown, Goes-trans}
use Rattle.cap_bytes.proofs.Reach.{ReachesTo-later, ReachesTo-ended}
use Rattle.cap_bytes.specs.declared.faults.Rule.{Rule}
use Rattle.cap_bytes.specs.declared.faults.Rule.TheVariants.{Cut, BlockTrailer, Version}
use Rattle.cap_bytes.specs.declared.numbers.Order.{Order}
use Rattle.cap_bytes.proofs.Spelling.{number-append, number-drop_append}
use Rattle.cap_blocks.specs.Grammar.{section_kind, is_known_kind, is_section_version}
use Rattle.cap_blocks.specs.inner.Parsing.{IsHeader, SeesBody}
use Rattle.cap_blocks.specs.Split.{kind_at, total_at, has_other_version, body_fault}
use Rattle.cap_blocks.specs.declared.blocks.Block.{Block}
use Rattle.cap_blocks.proofs.Faults.{total-section}

-- the body of a block, condition by condition
pub body_fault-cut : (order : Order) (bytes : List ℕ) → length bytes < total_at order bytes
    → body_fault order bytes ≡ Some Cut
unfolding body_fault
body_fault-cut order bytes few = grind (arith, nat_tests)

-- there are as many
pub there : (n m : ℕ) → m ≤ n → nat_lt n m ≡ false
there n m h = grind (arith, nat_tests)

pub differs : (a b : ℕ) → (a ≡ b → ⊥) → (a == b) ≡ false
differs a b h = grind (arith, nat_tests)

pub same : (a b : ℕ) → a ≡ b → (a == b) ≡ true
same a b h = grind (arith, nat_tests)

pub body_fault-trailer : (order : Order) (bytes : List ℕ) → total_at order bytes ≤ length bytes
    → (number order 4 (drop (total_at order bytes - 4) bytes) ≡ total_at order bytes → ⊥)
    → body_fault order bytes ≡ Some BlockTrailer
unfolding body_fault
body_fault-trailer order bytes whole other = search (there, differs)

pub body_fault-version : (order : Order) (bytes : List ℕ) → total_at order bytes ≤ length bytes
    → number order 4 (drop (total_at order bytes - 4) bytes) ≡ total_at order bytes
    → has_other_version order bytes ≡ true → body_fault order bytes ≡ Some Version
unfolding body_fault
body_fault-version order bytes whole trailer version = grind arith

pub body_fault-whole : (order : Order) (bytes : List ℕ) → total_at order bytes ≤ length bytes
    → number order 4 (drop (total_at order bytes - 4) bytes) ≡ total_at order bytes
    → has_other_version order bytes ≡ false → body_fault order bytes ≡ None
unfolding body_fault
body_fault-whole order bytes whole trailer version = grind arith

-- which blocks have another version
pub no_version : (order : Order) (bytes : List ℕ) → (kind_at order bytes ≡ section_kind → ⊥)
    → has_other_version order bytes ≡ false
no_version order bytes other = let e = differs _ _ other in rw e refl

pub version_is : (order : Order) (bytes : List ℕ) (read : Bool) → kind_at order bytes ≡ section_kind
    → is_section_version (number order 2 (drop 12 bytes)) (number order 2 (drop 14 bytes)) ≡ read
    → has_other_version order bytes ≡ not read
version_is order bytes read section is = let e = same _ _ section in rw (e, is) refl

pub unknown_section : (kind : ℕ) → is_known_kind kind ≡ false → kind ≡ section_kind → ⊥
unknown_section kind unknown is = grind (arith, nat_tests)

-- more bytes after a block make no difference
version_same : (here : Bool) (order : Order) (xs zs : List ℕ) → (kind_at order xs == section_kind) ≡ here
    → kind_at order zs ≡ kind_at order xs
    → (here ≡ true → number order 2 (drop 12 zs) ≡ number order 2 (drop 12 xs))
    → (here ≡ true → number order 2 (drop 14 zs) ≡ number order 2 (drop 14 xs))
    → has_other_version order zs ≡ has_other_version order xs
version_same here order xs zs is kind major minor = grind arith

pub body_fault-append : (order : Order) (xs ys : List ℕ) → 12 ≤ total_at order xs → total_at order xs ≤ length xs
    → (kind_at order xs ≡ section_kind → 28 ≤ total_at order xs) → body_fault order (xs ++ ys) ≡ body_fault order xs
unfolding body_fault
body_fault-append order xs ys least whole section =
    let total : total_at order (xs ++ ys) ≡ total_at order xs = number-drop_append order 4 4 xs ys (omega arith) in
    let trailer : number order 4 (drop (total_at order xs - 4) (xs ++ ys))
    ≡ number order 4 (drop (total_at order xs - 4) xs) =
    number-drop_append order 4 (total_at order xs - 4) xs ys (omega arith) in
    let size = λ (is : (kind_at order xs == section_kind) ≡ true). section (grind (arith, nat_tests)) in
    let version = version_same (kind_at order xs == section_kind) order xs (xs ++ ys) refl
    (number-append order 4 xs ys (omega arith))
    (λ is. number-drop_append order 2 12 xs ys (omega (arith, size is)))
    (λ is. number-drop_append order 2 14 xs ys (omega (arith, size is))) in
    let e = there (length xs) (total_at order xs) whole in
    let f = there (length (xs ++ ys)) (total_at order xs) (omega (arith, length-append xs ys)) in
    rw (total, trailer, version, e, f) refl

-- the first 12 bytes of a block are those of a longer list
pub IsHeader-append : (block : Block) (offset : ℕ) (xs ys : List ℕ) → IsHeader block offset xs
    → IsHeader block offset (xs ++ ys)
IsHeader-append block offset xs ys f = grind (arith, length-append, number-append, number-drop_append)

pub IsHeader-same : (block : Block) (offset later : ℕ) (xs zs : List ℕ) → IsHeader block offset xs
    → take (length xs) zs ≡ xs → later ≡ offset
    → IsHeader block later zs
IsHeader-same block offset later xs zs f front at =
    let whole : xs ++ drop (length xs) zs ≡ zs = ap (λ l. l ++ drop (length xs) zs) (sym front)
    ∙ take-append-drop (length xs) zs in
    subst (λ (n : ℕ). IsHeader block n zs) (sym at)
    (subst (λ (l : List ℕ). IsHeader block offset l) whole (IsHeader-append block offset xs (drop (length xs) zs) f))

-- a block that is there is not cut
not_cut : (order : Order) (bytes : List ℕ) → total_at order bytes ≤ length bytes → body_fault order bytes ≡ Some Cut
    → ⊥
unfolding body_fault
not_cut order bytes whole cut = grind (arith, there)

-- a block of a known kind is shown whole
pub SeesBody-known : (block : Block) (old new : WindowState) (fault : Option Rule) → IsHeader block old.offset old.shown
    → is_known_kind block.kind ≡ true
    → Needs block.total old (Ok true) new → fault ≡ body_fault block.order new.shown → SeesBody block fault old new
SeesBody-known block old new fault f known n is =
    let later = IsHeader-same block old.offset old.offset old.shown new.shown f n.0.front refl in
    let least = f.least in
    record {
      goes = n.0.goes;
      told_fault = λ t. ap (body_fault block.order) (sym (n.0.coming_same t))
          ∙ (body_fault-append block.order new.shown new.unread (omega (arith, later.total))
          (omega (arith, later.total, n.1))
          (λ section. omega (arith, later.total, total-section block.kind block.total f.allowed (later.kind ∙ section)))
          ∙ sym is);
      all_read = λ t cut. absurd (not_cut block.order new.shown (omega (arith, later.total, n.1)) (sym is ∙ cut));
      left = λ none. rw known (n.0.offset, n.1, n.0.coming_same);
    }

-- the input ends inside it
pub SeesBody-cut : (block : Block) (old new : WindowState) → IsHeader block old.offset old.shown
    → Needs block.total old (Ok false) new → SeesBody block (Some Cut) old new
SeesBody-cut block old new f n =
    let later = IsHeader-same block old.offset old.offset old.shown new.shown f n.0.front refl in
    record {
      goes = n.0.goes;
      told_fault = λ t. ap (body_fault block.order) (all_shown old new n.0 n.2 t)
          ∙ body_fault-cut block.order new.shown (omega (arith, later.total, n.1));
      all_read = λ t cut. omega (arith, n.0.offset, ap length (all_shown old new n.0 n.2 t));
      left = λ none. absurd (cc);
    }

-- a block that is skipped: the bytes to come before it
pub skipped_total : (block : Block) (old : WindowState) → IsHeader block old.offset old.shown
    → block.total ≡ total_at block.order (coming old)
skipped_total block old f = (IsHeader-append block old.offset old.shown old.unread f).total

pub skipped_kind : (block : Block) (old : WindowState) → IsHeader block old.offset old.shown
    → block.kind ≡ kind_at block.order (coming old)
skipped_kind block old f = (IsHeader-append block old.offset old.shown old.unread f).kind

-- the input ends in the part that is skipped
pub SeesBody-ended : (block : Block) (old new : WindowState) → IsHeader block old.offset old.shown
    → DropsAll (block.total - 4) old new
    → SeesBody block (Some Cut) old new
SeesBody-ended block old new f d = grind (arith, body_fault-cut, skipped_total)

-- the input ends in its trailer
pub SeesBody-short : (block : Block) (old mid new : WindowState) → IsHeader block old.offset old.shown
    → WindowDrops (block.total - 4) old mid
    → (IsTrue old.told → IsTrue mid.told) → Needs 4 mid (Ok false) new → SeesBody block (Some Cut) old new
SeesBody-short block old mid new f d told n = grind
    (arith, Goes-trans, all_shown, body_fault-cut, skipped_total, length-drop)

-- its trailer is shown
trailer_shown : (block : Block) (old mid new : WindowState) → IsHeader block old.offset old.shown
    → WindowDrops (block.total - 4) old mid
    → (IsTrue old.told → IsTrue mid.told) → Needs 4 mid (Ok true) new → IsTrue old.told
    → (total_at block.order (coming old) ≤ length (coming old))
    × (number block.order 4 (drop (total_at block.order (coming old) - 4) (coming old))
    ≡ number block.order 4 new.shown)
trailer_shown block old mid new f d told n t =
    let rest : new.shown ++ new.unread ≡ drop (block.total - 4) (coming old) = n.0.coming_same (told t)
    ∙ d.coming_dropped t in
    let total = skipped_total block old f in (
      omega (
        arith,
        total,
        ap length rest,
        length-append new.shown new.unread,
        length-drop (block.total - 4) (coming old),
        n.1,
        f.least,
      ),
      rw (← total, ← rest) (number-append block.order 4 new.shown new.unread n.1),
    )

pub SeesBody-other : (block : Block) (old mid new : WindowState) → IsHeader block old.offset old.shown
    → WindowDrops (block.total - 4) old mid
    → (IsTrue old.told → IsTrue mid.told) → Needs 4 mid (Ok true) new
    → (number block.order 4 new.shown ≡ block.total → ⊥)
    → SeesBody block (Some BlockTrailer) old new
SeesBody-other block old mid new f d told n other =
    grind (arith, Goes-trans, trailer_shown, body_fault-trailer, skipped_total)

pub SeesBody-skipped : (block : Block) (old mid new last : WindowState) → IsHeader block old.offset old.shown
    → is_known_kind block.kind ≡ false
    → WindowDrops (block.total - 4) old mid → (IsTrue old.told → IsTrue mid.told) → Needs 4 mid (Ok true) new
    → number block.order 4 new.shown ≡ block.total
    → WindowPasses 4 new last → SeesBody block None old last
SeesBody-skipped block old mid new last f unknown d told n trailer p = record {
  goes = Goes-trans old new last (Goes-trans old mid new d.goes n.0.goes)
      (record { before = n.0.goes.after; after = p.broken ∙ n.0.goes.after; failed = p.failed });
  told_fault = λ t.
      let e = trailer_shown block old mid new f d told n t in
      body_fault-whole block.order (coming old) e.0 (e.1 ∙ (trailer ∙ skipped_total block old f))
      (no_version block.order (coming old) (λ section. unknown_section block.kind unknown (skipped_kind block old f
      ∙ section)));
  all_read = λ t cut. absurd (cc);
  left = λ none. rw unknown (
    omega (arith, p.offset, n.0.offset, d.offset, f.least),
    λ t. ap (λ l. l ++ last.unread) p.shown ∙ (ap (λ l. drop 4 new.shown ++ l) p.unread
        ∙ (sym (drop-append-le 4 new.shown new.unread n.1)
        ∙ (ap (drop 4) (n.0.coming_same (told t) ∙ d.coming_dropped t)
        ∙ (drop-drop 4 (block.total - 4) (coming old) ∙ ap (λ k. drop k (coming old)) (omega (arith, f.least)))))),
  );
}

reached : (m most : Option ℕ) (n end r s : ℕ) → m ≡ most → n ≡ end → ReachesTo m n r s → ReachesTo most end r s
reached m most n end r s same is h = rw (same, is) at h

-- How far is read for a block that is skipped: the input ends in the part that is skipped, or its trailer comes too.
pub Reaches-ended : (block : Block) (old new : WindowState) → 12 ≤ block.total → DropsAll (block.total - 4) old new
    → ReachesTo old.most (old.offset + block.total) (read_to old) (read_to new)
Reaches-ended block old new least d = ReachesTo-ended old.most (old.offset + block.total) (read_to old) (read_to new)
    (omega (arith, d.least)) (omega (arith, d.fewer, ap length d.shown))

pub Reaches-trailer : (block : Block) (old mid new : WindowState) → 12 ≤ block.total
    → WindowDrops (block.total - 4) old mid
    → mid.most ≡ old.most
    → ReachesTo old.most (old.offset + (block.total - 4)) (read_to old) (read_to mid)
    → ReachesTo mid.most (mid.offset + 4) (read_to mid) (read_to new)
    → ReachesTo old.most (old.offset + block.total) (read_to old) (read_to new)
Reaches-trailer block old mid new least d same p q =
    let end : mid.offset + 4 ≡ old.offset + block.total = omega (arith, d.offset) in
    ReachesTo-later old.most (old.offset + (block.total - 4)) (old.offset + block.total) (read_to old) (read_to mid)
    (read_to new) (omega arith) p
    (reached mid.most old.most (mid.offset + 4) (old.offset + block.total) (read_to mid) (read_to new) same end q)
