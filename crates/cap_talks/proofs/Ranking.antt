-- Conversations by their places and bytes, put in order by these.
use Rattle.std.proofs.Common.{◌≡◌, ℕ, zero, suc, ◌+◌, ◌<◌, ◌≤◌, Bool, true, false, cond, List, [], ◌∷◌, ◌++◌, length}
use Rattle.std.proofs.Common.{take, drop, get_or, refl, sym, ap, subst, arith, Some}
use Rattle.std.specs.List.{AllZip}
use Rattle.std.specs.Ordering.{is_lt, nat_cmp}
use Rattle.std.specs.Prelude.{nat_lt, slice_get}
use Rattle.cap_talks.specs.inner.table.Ranked.{AreRanked, IsRanked}
use Rattle.cap_talks.specs.table.Conversations.{Conversation}
use Rattle.cap_talks.specs.table.Rows.{bytes_in, bytes_of_row}
use Rattle.cap_talks.specs.table.TopRows.{greatest_first, put_by, talk_bytes, top_rows}
use Rattle.cap_talks.specs.declared.table.top.Ranked.{Ranked}

-- Lists of two kinds, one by one, where those that belong together have the same number.
module _ {X Y : Type 0} (R : X → Y → Type 0) where
  pub zip-push : (xs : List X) (ys : List Y) (x : X) (y : Y) → AllZip R xs ys → R x y
      → AllZip R (xs ++ x ∷ []) (ys ++ y ∷ [])
  zip-push [] [] x y h r = (r, tt)
  zip-push [] (b ∷ ys) x y h r = absurd h
  zip-push (a ∷ xs) [] x y h r = absurd h
  zip-push (a ∷ xs) (b ∷ ys) x y h r = (h.0, zip-push xs ys x y h.1 r)

  pub zip-take : (n : ℕ) (xs : List X) (ys : List Y) → AllZip R xs ys → AllZip R (take n xs) (take n ys)
  zip-take zero xs ys h = tt
  zip-take (suc n) [] [] h = tt
  zip-take (suc n) [] (b ∷ ys) h = absurd h
  zip-take (suc n) (a ∷ xs) [] h = absurd h
  zip-take (suc n) (a ∷ xs) (b ∷ ys) h = (h.0, zip-take n xs ys h.1)

  module _ (m : X → ℕ) (n : Y → ℕ) (same : (x : X) (y : Y) → R x y → m x ≡ n y) where
    zip-put : (x : X) (y : Y) (xs : List X) (ys : List Y) → R x y → AllZip R xs ys
        → AllZip R (put_by m x xs) (put_by n y ys)
    zip-put x y [] [] r h = (r, tt)
    zip-put x y [] (b ∷ ys) r h = absurd h
    zip-put x y (a ∷ xs) [] r h = absurd h
    zip-put x y (a ∷ xs) (b ∷ ys) r h =
        subst (λ (t : Bool). AllZip R (cond (nat_lt (m x) (m a)) (a ∷ put_by m x xs) (x ∷ a ∷ xs))
        (cond t (b ∷ put_by n y ys) (y ∷ b ∷ ys)))
        (λ i. nat_lt (same x y r i) (same a b h.0 i))
        (by (nat_lt (m x) (m a)) (zip-put x y xs ys r h.1))
      where
        by : (t : Bool) → AllZip R (put_by m x xs) (put_by n y ys)
            → AllZip R (cond t (a ∷ put_by m x xs) (x ∷ a ∷ xs)) (cond t (b ∷ put_by n y ys) (y ∷ b ∷ ys))
        by true more = (h.0, more)
        by false more = (r, h)

    pub zip-greatest : (xs : List X) (ys : List Y) → AllZip R xs ys
        → AllZip R (greatest_first m xs) (greatest_first n ys)
    zip-greatest [] [] h = tt
    zip-greatest [] (b ∷ ys) h = absurd h
    zip-greatest (a ∷ xs) (b ∷ ys) h =
        zip-put a b (greatest_first m xs) (greatest_first n ys) h.0 (zip-greatest xs ys h.1)
    zip-greatest (a ∷ xs) [] h = absurd h

-- the conversation at a place
pub record HasAt (rows : List Conversation) (place : ℕ) : Type 0 where
  pub talk : Conversation
  pub is : slice_get rows place ≡ Some talk
  pub next : take (place + 1) rows ≡ take place rows ++ talk ∷ []
  pub behind : drop place rows ≡ talk ∷ drop (place + 1) rows

pub has-at : (rows : List Conversation) (place : ℕ) → place < length rows → HasAt rows place
has-at [] place l = absurd (omega (arith, l))
has-at (t ∷ rows) zero l = record { talk = t; is = refl; next = refl; behind = refl }
has-at (t ∷ rows) (suc place) l =
    let h = has-at rows place (omega (arith, l)) in
    let more : suc (place + 1) ≡ suc place + 1 = omega arith in
    record {
      talk = h.talk;
      is = h.is;
      next = subst (λ (n : ℕ). take n (t ∷ rows) ≡ take (suc place) (t ∷ rows) ++ h.talk ∷ []) more
          (ap (λ l. t ∷ l) h.next);
      behind = subst (λ (n : ℕ). drop (suc place) (t ∷ rows) ≡ h.talk ∷ drop n (t ∷ rows)) more h.behind;
    }

-- a conversation has no more bytes than all
pub bytes-at : (rows : List Conversation) (place : ℕ) (talk : Conversation) → slice_get rows place ≡ Some talk
    → bytes_of_row talk.1 ≤ bytes_in rows
bytes-at [] place talk e = cc
bytes-at (t ∷ rows) zero talk e = by t talk e
  where
    by : (t talk : Conversation) → Some t ≡ Some talk → bytes_of_row talk.1 ≤ bytes_of_row t.1 + bytes_in rows
    by t talk e =
        let same : t ≡ talk = cc in
        subst (λ (x : Conversation). bytes_of_row x.1 ≤ bytes_of_row t.1 + bytes_in rows) same (omega arith)
bytes-at (t ∷ rows) (suc place) talk e = omega (arith, bytes-at rows place talk e)

-- one conversation more, with its bytes
pub ranked-more : (rows : List Conversation) (ranked : List Ranked) (it : Ranked)
    → it.place < length rows
    → ((talk : Conversation) → slice_get rows it.place ≡ Some talk → it.bytes ≡ talk_bytes talk)
    → AreRanked rows ranked (take it.place rows) → AreRanked rows (ranked ++ it ∷ []) (take (it.place + 1) rows)
ranked-more rows ranked it l bytes r =
    let h = has-at rows it.place l in
    subst (AreRanked rows (ranked ++ it ∷ [])) (sym h.next)
    (zip-push (IsRanked rows) ranked (take it.place rows) it h.talk r
    (record { place = h.is; bytes = bytes h.talk h.is }))

-- those with the most bytes
pub ranked-top : (most : ℕ) (rows talks : List Conversation) (ranked : List Ranked) → AreRanked rows ranked talks
    → AreRanked rows (take most (greatest_first (λ it. it.bytes) ranked)) (top_rows most talks)
ranked-top most rows talks ranked r =
    zip-take (IsRanked rows) most _ _
    (zip-greatest (IsRanked rows) (λ it. it.bytes) talk_bytes (λ it talk is. is.bytes) ranked talks r)

-- a named place is one of the table
pub ranked-place : (rows talks : List Conversation) (ranked : List Ranked) (k : ℕ) (d it : Ranked)
    → AreRanked rows ranked talks → k < length ranked → it ≡ get_or ranked k d → it.place < length rows
ranked-place rows [] [] k d it r l is = absurd (omega (arith, l))
ranked-place rows (t ∷ talks) [] k d it r l is = absurd (omega (arith, l))
ranked-place rows [] (a ∷ ranked) k d it r l is = absurd r
ranked-place rows (t ∷ talks) (a ∷ ranked) zero d it r l is =
    subst (λ (x : Ranked). x.place < length rows) (sym is) (there rows a.place r.0.place)
  where
    there : (rows : List Conversation) (place : ℕ) → slice_get rows place ≡ Some t → place < length rows
    there [] place e = cc
    there (s ∷ rows) zero e = omega arith
    there (s ∷ rows) (suc place) e = omega (arith, there rows place e)
ranked-place rows (t ∷ talks) (a ∷ ranked) (suc k) d it r l is =
    ranked-place rows talks ranked k d it r.1 (omega (arith, l)) is

-- what a comparison of bytes returns
pub is-less : (x y : ℕ) → is_lt (nat_cmp x y) ≡ nat_lt x y
is-less x y = grind arith
