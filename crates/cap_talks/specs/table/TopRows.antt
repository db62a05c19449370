-- The conversations with the most bytes.
use Rattle.std.specs.Prelude.{◌≡◌, ◌==◌, ◌≤◌, ℕ, List, [], ◌∷◌, nat_lt, take, drop, filter, Option, Some, None, ⊤}
use Rattle.std.specs.Prelude.{if◌then◌else◌, IsPermutation}
use Rattle.std.specs.List.{AllByRecursion}
use Rattle.cap_talks.specs.table.Conversations.{Conversation}
use Rattle.cap_talks.specs.table.Rows.{bytes_of_row}

-- an item is put before the first of some items whose number isn't greater than its own
abbrev pub put_by : {A : Type 0} → (A → ℕ) → A → List A → List A
put_by number x [] = x ∷ []
put_by number x (y ∷ ys) = if nat_lt (number x) (number y) then y ∷ put_by number x ys else x ∷ y ∷ ys

-- items by a number of each, the greatest first; items of equal numbers keep their order
abbrev pub greatest_first : {A : Type 0} → (A → ℕ) → List A → List A
greatest_first number [] = []
greatest_first number (x ∷ xs) = put_by number x (greatest_first number xs)

-- how many bytes a conversation has, both ways
abbrev pub talk_bytes : Conversation → ℕ
talk_bytes talk = bytes_of_row talk.1

-- the conversations with the most bytes, so many of them, the greatest first; equal ones keep the table's order
abbrev pub top_rows : ℕ → List Conversation → List Conversation
top_rows most talks = take most (greatest_first talk_bytes talks)

-- the conversations of which a report has a line: all in the table's order, or those with the most bytes
abbrev pub shown_rows : Option ℕ → List Conversation → List Conversation
shown_rows None talks = talks
shown_rows (Some most) talks = top_rows most talks

-- each of the items has no smaller number than those after it
abbrev pub Falls : {A : Type 0} → (A → ℕ) → List A → Type 0
Falls number [] = ⊤
Falls number (x ∷ xs) = AllByRecursion (λ y. number y ≤ number x) xs × Falls number xs

-- Those conversations are the front of all of them in an order. In this order each is as often as in the table, none
-- has fewer bytes than one after it, and those of equal bytes stand as in the table. None behind the front has more
-- bytes than one of the front.
pub record IsTop (most : ℕ) (talks : List Conversation) : Type 0 where
  pub order : List Conversation
  pub front : top_rows most talks ≡ take most order
  pub same : IsPermutation talks order
  pub falls : Falls talk_bytes order
  pub stable : (bytes : ℕ)
      → filter (λ talk. talk_bytes talk == bytes) order ≡ filter (λ talk. talk_bytes talk == bytes) talks
  pub rest : AllByRecursion (λ out. AllByRecursion (λ shown. talk_bytes out ≤ talk_bytes shown)
      (top_rows most talks)) (drop most order)
