-- The packets of a feed, taken into a digest one after another.
use Rattle.std.proofs.Common.{◌≡◌, ℕ, List, [], ◌∷◌, ◌++◌, drop, IsTrue, None, Some, Ok, refl, sym, ap, ◌∙◌}
use Rattle.std.proofs.Common.{append_assoc, append-nil, subst}
use Rattle.cap_digest.specs.Canonical.{canonical_text, canonical_head}
use Rattle.cap_source.specs.Feed.{Feed, FeedKeeps, FeedPasses, Item, packet}
use Rattle.cap_source.specs.inner.Walk.{ShowsItem}
use Rattle.cap_source.specs.declared.packets.Meta.{Meta}

-- A feed that was `old` gave some packets, and what holds texts holds their canonical text.
pub record Digesting (old new : Feed) (Holds : List ℕ → Type 0) : Type 0 where
  pub text : List ℕ
  pub held : Holds text
  pub rest : text ++ canonical_text new.items ≡ canonical_text old.items

-- no packet yet
pub Digesting-none : (old : Feed) (Holds : List ℕ → Type 0) → Holds [] → Digesting old old Holds
Digesting-none old Holds empty = record { text = []; held = empty; rest = refl }

text_of-packet : (items : List Item) (meta : Meta) (frame : List ℕ) (rest : List Item)
    → items ≡ packet meta frame ∷ rest
    → canonical_text items ≡ canonical_head meta ++ frame ++ canonical_text rest
unfolding canonical_text
text_of-packet items meta frame rest is = ap canonical_text is

regroup : (m head frame rest : List ℕ) → m ++ head ++ frame ++ rest ≡ m ++ (head ++ frame ++ rest)
regroup m head frame rest = ap (λ (l : List ℕ). l ++ rest) (append_assoc m head frame)
    ∙ append_assoc m (head ++ frame) rest

-- one packet more
pub Digesting-more : (old mid shown new : Feed) (Before After : List ℕ → Type 0) (meta : Meta)
    → Digesting old mid Before
    → IsTrue mid.told → FeedKeeps mid shown → ShowsItem mid (Ok (Some meta)) shown → FeedPasses shown new
    → ((text : List ℕ) → Before text → After (text ++ canonical_head meta ++ shown.frame))
    → Digesting old new After
Digesting-more old mid shown new Before After meta d told asked shows passes takes =
    let head = canonical_head meta in
    let next : mid.items ≡ packet meta shown.frame ∷ new.items =
    shows.1 ∙ ap (λ (l : List Item). packet meta shown.frame ∷ l)
    (sym (passes.items (asked.told told) ∙ ap (drop 1) shows.0.items)) in
    record {
      text = d.text ++ head ++ shown.frame;
      held = takes d.text d.held;
      rest =
          regroup d.text head shown.frame (canonical_text new.items)
          ∙ (ap (λ (l : List ℕ). d.text ++ l) (sym (text_of-packet mid.items meta shown.frame new.items next))
          ∙ d.rest);
    }

-- the feed ends
pub Digesting-end : (old mid shown : Feed) (Holds : List ℕ → Type 0) → Digesting old mid Holds
    → ShowsItem mid (Ok None) shown → Holds (canonical_text old.items)
unfolding canonical_text
Digesting-end old mid shown Holds d shows =
    subst Holds
    (sym (append-nil d.text) ∙ (ap (λ (l : List Item). d.text ++ canonical_text l) (sym shows.1) ∙ d.rest)) d.held
