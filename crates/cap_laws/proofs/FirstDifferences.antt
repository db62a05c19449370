-- What `diff` says of two captures is what comes after the packets that are the same in both.
use Rattle.std.proofs.Common.{◌≡◌, ℕ, ◌+◌, Bool, true, false, not, List, [], ◌∷◌, ◌++◌, length, Some}
use Rattle.std.proofs.Common.{None, refl, sym, ap, ◌∙◌, subst, arith, inl, inr}
use Rattle.std.proofs.lemmas.Bool.{false≢true}
use Rattle.std.proofs.lemmas.Bool.Decides.{Decides-eqb}
use Rattle.std.proofs.lemmas.Slice.Eq.{bytes_eq-Decides}
use Rattle.std.specs.Bool.{Decides}
use Rattle.std.specs.List.{AllZip}
use Rattle.std.specs.Prelude.{if◌then◌else◌, IsTrue, ◌↔◌, ⊤}
use Rattle.cap_source.specs.Feed.{Item, packet, refused}
use Rattle.cap_source.specs.Items.{file_items}
use Rattle.cap_source.specs.Times.{meta_time}
use Rattle.cap_source.specs.declared.packets.Meta.{Meta}
use Rattle.cap_commands.specs.DiffText.{Compared, Comparison, compared, differences_of, do_differ}
use Rattle.cap_commands.specs.DiffText.{nothing_ignored, other_packet, same_packets, stopped_by}
use Rattle.cap_laws.proofs.Diffs.{chosen_by, like, time-law, unlike}
use Rattle.cap_laws.specs.again.Laws.{IsSamePacket, SamePackets}
use Rattle.cap_laws.specs.FirstDifferences.{DifferencesNamed, FirstDifference, IsComparison, IsSaid}

-- packets that are the same are passed, and counted
past-front : (n : ℕ) (front front_too rest others : List Item) → AllZip SamePackets front front_too
    → compared nothing_ignored n (front ++ rest) (front_too ++ others)
    ≡ compared nothing_ignored (n + length front) rest others
unfolding compared
past-front n [] [] rest others all = ap (λ k. compared nothing_ignored k rest others) (omega arith)
past-front n (packet m f ∷ xs) (packet o g ∷ ys) rest others all =
    chosen_by _ _ (compared nothing_ignored (n + 1) (xs ++ rest) (ys ++ others)) (unlike m o f g all.0)
    ∙ (past-front (n + 1) xs ys rest others all.1 ∙ ap (λ k. compared nothing_ignored k rest others) (omega arith))
past-front n xs ys rest others all = grind arith

-- where the comparison stops: the next two items aren't packets that are the same
Stops : List Item → List Item → Type 0
Stops (packet m f ∷ xs) (packet o g ∷ ys) =
    do_differ (differences_of (record { meta = m; frame = f }) (record { meta = o; frame = g })) ≡ true
Stops (packet m f ∷ xs) ys = ⊤
Stops (refused r ∷ xs) ys = ⊤
Stops [] ys = ⊤

-- two captures, up to where the comparison stops
record Stopped (first second : List Item) : Type 0 where
  pub front : List Item
  pub front_too : List Item
  pub rest : List Item
  pub others : List Item
  pub first_is : first ≡ front ++ rest
  pub second_is : second ≡ front_too ++ others
  pub same : AllZip SamePackets front front_too
  pub stops : Stops rest others

at-once : (xs ys : List Item) → Stops xs ys → Stopped xs ys
at-once xs ys stops = record {
  front = [];
  front_too = [];
  rest = xs;
  others = ys;
  first_is = refl;
  second_is = refl;
  same = tt;
  stops = stops;
}

later : (m o : Meta) (f g : List ℕ) (xs ys : List Item) (b : Bool)
    → do_differ (differences_of (record { meta = m; frame = f }) (record { meta = o; frame = g })) ≡ b
    → Stopped xs ys → Stopped (packet m f ∷ xs) (packet o g ∷ ys)
unfolding Stops
later m o f g xs ys true e found = at-once (packet m f ∷ xs) (packet o g ∷ ys) e
later m o f g xs ys false e found = record {
  front = packet m f ∷ found.front;
  front_too = packet o g ∷ found.front_too;
  rest = found.rest;
  others = found.others;
  first_is = ap (λ (it : List Item). packet m f ∷ it) found.first_is;
  second_is = ap (λ (it : List Item). packet o g ∷ it) found.second_is;
  same = (like m o f g e, found.same);
  stops = found.stops;
}

where-stopped : (xs ys : List Item) → Stopped xs ys
unfolding Stops
where-stopped [] ys = at-once [] ys tt
where-stopped (refused r ∷ xs) ys = at-once (refused r ∷ xs) ys tt
where-stopped (packet m f ∷ xs) [] = at-once (packet m f ∷ xs) [] tt
where-stopped (packet m f ∷ xs) (refused r ∷ ys) = at-once (packet m f ∷ xs) (refused r ∷ ys) tt
where-stopped (packet m f ∷ xs) (packet o g ∷ ys) = later m o f g xs ys _ refl (where-stopped xs ys)

taken_by : (b : Bool) (c d : Comparison) → b ≡ true → (if b then c else d) ≡ c
taken_by b c d e = rw e refl

-- what is said there is what comes next
said-there : (n : ℕ) (rest others : List Item) → Stops rest others
    → IsSaid n rest others (compared nothing_ignored n rest others)
unfolding compared Stops
said-there n [] [] stops = (refl, refl, refl)
said-there n [] (packet o g ∷ ys) stops = (refl, refl, (ys, refl), tt)
said-there n [] (refused r ∷ ys) stops = inr (tt, (ys, refl))
said-there n (refused r ∷ xs) ys stops = inl (xs, refl)
said-there n (packet m f ∷ xs) [] stops = (refl, (xs, refl), refl, tt)
said-there n (packet m f ∷ xs) (refused r ∷ ys) stops = inr (tt, (ys, refl))
said-there n (packet m f ∷ xs) (packet o g ∷ ys) stops =
    let a : Compared = record { meta = m; frame = f } in
    let b : Compared = record { meta = o; frame = g } in
    let differ = other_packet (n + 1) (Some a) (Some b) in
    subst (λ (c : Comparison). IsSaid n (packet m f ∷ xs) (packet o g ∷ ys) c)
    (sym
    (taken_by (do_differ (differences_of a b)) differ (compared nothing_ignored (n + 1) xs ys) stops))
    (refl, (xs, refl), (ys, refl), λ same. false≢true (sym (unlike m o f g same) ∙ stops))

-- two packets that aren't the same differ
differ-by : (a b : Compared) (x : Bool) → do_differ (differences_of a b) ≡ x
    → (IsSamePacket a.meta b.meta a.frame b.frame → ⊥) → do_differ (differences_of a b) ≡ true
differ-by a b true e other = e
differ-by a b false e other = absurd (other (like a.meta b.meta a.frame b.frame e))

-- and nothing else is said there
only-said : (n : ℕ) (rest others : List Item) (said : Comparison) → IsSaid n rest others said
    → compared nothing_ignored n rest others ≡ said
unfolding compared
only-said n rest others (same_packets count) is =
    rw (is.0, is.1) (ap same_packets (sym is.2))
only-said n rest others (other_packet number (Some a) (Some b)) is =
    rw (is.1.1, is.2.1) (taken_by _ _ (compared nothing_ignored (n + 1) is.1.0 is.2.0) (differ-by a b _ refl is.3)
    ∙ ap (λ k. other_packet k (Some a) (Some b)) (sym is.0))
only-said n rest others (other_packet number (Some a) None) is =
    rw (is.1.1, is.2) (ap (λ k. other_packet k (Some a) None) (sym is.0))
only-said n rest others (other_packet number None (Some b)) is =
    rw (is.1, is.2.1) (ap (λ k. other_packet k None (Some b)) (sym is.0))
only-said n rest others (other_packet number None None) is = absurd is.3
only-said n rest others (stopped_by r) (inl next) = rw next.1 refl
only-said n [] others (stopped_by r) (inr next) = rw next.1.1 refl
only-said n (packet m f ∷ xs) others (stopped_by r) (inr next) = rw next.1.1 refl
only-said n (refused q ∷ xs) others (stopped_by r) (inr next) = absurd next.0

compared-there : (first second front front_too rest others : List Item) → first ≡ front ++ rest
    → second ≡ front_too ++ others → AllZip SamePackets front front_too
    → compared nothing_ignored 0 first second ≡ compared nothing_ignored (length front) rest others
compared-there first second front front_too rest others first_is second_is same =
    rw (first_is, second_is) (past-front 0 front front_too rest others same
    ∙ ap (λ k. compared nothing_ignored k rest others) (omega arith))

said-of : (first second : List Item) → IsComparison first second (compared nothing_ignored 0 first second)
said-of first second =
    let it = where-stopped first second in
    let there = compared-there first second it.front it.front_too it.rest it.others it.first_is it.second_is it.same in
    record {
      front = it.front;
      front_too = it.front_too;
      rest = it.rest;
      others = it.others;
      first_is = it.first_is;
      second_is = it.second_is;
      same = it.same;
      next = subst (λ (c : Comparison). IsSaid (length it.front) it.rest it.others c) (sym there)
          (said-there (length it.front) it.rest it.others it.stops);
    }

pub first-difference : FirstDifference
first-difference tail first second said = (
  λ e. subst (λ (c : Comparison). IsComparison (file_items tail 1 first) (file_items tail 2 second) c) e
      (said-of (file_items tail 1 first) (file_items tail 2 second)),
  λ it. compared-there _ _ it.front it.front_too it.rest it.others it.first_is it.second_is it.same
      ∙ only-said (length it.front) it.rest it.others said it.next,
)

-- a field is named if its test fails
named-by : (b : Bool) (P : Type 0) → Decides b P → IsTrue (not b) ↔ (P → ⊥)
named-by true P d = (λ e. absurd (false≢true e), λ no. absurd (no (d.0 refl)))
named-by false P d = (λ e p. false≢true (d.1 p), λ no. refl)

pub differences-named : DifferencesNamed
differences-named a b = record {
  link = named-by _ _ (Decides-eqb a.meta.interface.link b.meta.interface.link);
  time = named-by _ _ (time-law (meta_time a.meta) (meta_time b.meta));
  captured = named-by _ _ (Decides-eqb a.meta.captured b.meta.captured);
  original = named-by _ _ (Decides-eqb a.meta.original b.meta.original);
  bytes = named-by _ _ (bytes_eq-Decides a.frame b.frame);
}
