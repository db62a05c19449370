-- The lines of a list, read one by one.
use Rattle.std.proofs.Common.{◌≡◌, ◌<◌, ◌+◌, ℕ, suc, List, [], ◌∷◌}
use Rattle.std.proofs.Common.{◌++◌, Option, Some, None, map, length, refl, sym, ap}
use Rattle.std.proofs.Common.{◌∙◌, arith, append-nil, append_assoc, true, false}
use Rattle.std.specs.List.{position, position_or_len}
use Rattle.std.specs.Prelude.{is_none, string_bytes, cond, nat_lt}
use Rattle.std.proofs.lemmas.List.{length-append, length-map, map-append}
use Rattle.cap_tool.specs.DigestLines.{Entry, IsFirstOther, entries_in, entry_in, entry_of}
use Rattle.cap_tool.specs.ListedNames.{pieces}
use Rattle.cap_tool.specs.declared.digest_lines.DigestLine.{DigestLine}

-- what some lines have that were read
abbrev pub read : List DigestLine → List (Option Entry)
read lines = map (λ l. Some (entry_of l)) lines

-- one line more is read, which is at the front
pub lines-more : (lines : List DigestLine) (line : DigestLine) (rest piece behind : List ℕ) (all : List (Option Entry))
    → read lines ++ entries_in rest ≡ all → pieces 10 rest ≡ piece ∷ pieces 10 behind
    → Some (entry_of line) ≡ entry_in piece → read (lines ++ line ∷ []) ++ entries_in behind ≡ all
lines-more lines line rest piece behind all so_far split is =
    ap (λ l. l ++ entries_in behind) (map-append (λ l. Some (entry_of l)) lines (line ∷ []))
    ∙ (append_assoc (read lines) (Some (entry_of line) ∷ []) (entries_in behind)
    ∙ (ap (λ e. read lines ++ e ∷ entries_in behind) is
    ∙ (sym (ap (λ l. read lines ++ map entry_in l) split) ∙ so_far)))

-- all are
pub lines-all : (lines : List DigestLine) (rest : List ℕ) (all : List (Option Entry)) → length rest ≡ 0
    → read lines ++ entries_in rest ≡ all → read lines ≡ all
unfolding pieces
lines-all lines [] all over is = sym (append-nil (read lines)) ∙ is
lines-all lines (b ∷ rest) all over is = absurd (none (length rest) over)
  where
    none : (n : ℕ) → suc n ≡ 0 → ⊥
    none n less = omega (arith, less)

-- the place of the first that is none, behind some lines
first-none : (lines : List DigestLine) (behind : List (Option Entry))
    → position_or_len is_none (read lines ++ None ∷ behind) ≡ length lines
first-none [] behind = refl
first-none (line ∷ lines) behind =
    let rest = first-none lines behind in
    let one : 1 + length lines ≡ suc (length lines) = omega arith in
    ap (λ n. 1 + n) rest ∙ one

pub lines-other : (list rest piece behind : List ℕ) (lines : List DigestLine) (number : ℕ)
    → read lines ++ entries_in rest ≡ entries_in list → pieces 10 rest ≡ piece ∷ pieces 10 behind
    → entry_in piece ≡ None → number ≡ length lines + 1 → IsFirstOther list number
lines-other list rest piece behind lines number so_far split other is =
    let all : entries_in list ≡ read lines ++ None ∷ entries_in behind =
    sym so_far ∙ (ap (λ l. read lines ++ map entry_in l) split ∙ ap (λ e. read lines ++ e ∷ entries_in behind) other) in
    let place = first-none lines (entries_in behind) in
    let long : length (read lines ++ None ∷ entries_in behind) ≡ length lines + suc (length (entries_in behind)) =
    length-append (read lines) (None ∷ entries_in behind)
    ∙ ap (λ n. n + suc (length (entries_in behind))) (length-map lines (λ l. Some (entry_of l))) in
    let below : nat_lt (length lines) (length (read lines ++ None ∷ entries_in behind)) ≡ true =
    grind (arith, long) in
    (length lines, rw (all, place, below) refl, is)

-- what they have, and their names
pub read-is : (lines : List DigestLine) → map Some (map entry_of lines) ≡ read lines
read-is [] = refl
read-is (line ∷ lines) = ap (λ l. Some (entry_of line) ∷ l) (read-is lines)

pub names-are : (lines : List DigestLine)
    → map (λ l. string_bytes l.name) lines ≡ map (λ e. e.name) (map entry_of lines)
names-are [] = refl
names-are (line ∷ lines) = ap (λ l. string_bytes line.name ∷ l) (names-are lines)
