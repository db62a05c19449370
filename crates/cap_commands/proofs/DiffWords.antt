-- The words of what differs, as they are put into a line.
use Rattle.std.proofs.Common.{◌≡◌, ◌++◌, ℕ, List, [], ◌∷◌, codes, decimal, Bool, true, false, if◌then◌else◌, refl, sym}
use Rattle.std.proofs.Common.{ap, ◌∙◌, append_assoc, append-nil, Option, None}
use Rattle.std.specs.Prelude.{◌||◌}
use Rattle.std.proofs.Math.Bool.{or-false}
use Rattle.cap_print.specs.declared.forms.Form.TheVariants.{Json, Text}
use Rattle.cap_print.specs.declared.forms.TimeForm.{TimeForm}
use Rattle.cap_commands.proofs.Pieces.{joined, joined-more}
use Rattle.cap_commands.specs.DiffText.{chosen, data_place_in, difference_line, quoted, spaced, words_of}
use Rattle.cap_commands.specs.inner.DiffWords.{quoted_if}
use Rattle.cap_commands.specs.declared.diff.Differences.{Differences}

none-chosen : chosen [] ≡ []
unfolding chosen
none-chosen = refl

-- one word more in text
spaced-chosen : (is_so : Bool) (word : List ℕ) (words : List (Bool × List ℕ))
    → spaced (chosen ((is_so, word) ∷ words))
    ≡ (if is_so then codes " " ++ word else []) ++ spaced (chosen words)
unfolding chosen
spaced-chosen true word words = refl
spaced-chosen false word words = refl

-- the words of what differs in text, one by one
abbrev pub spaced_parts : Differences → List (List ℕ)
spaced_parts it =
    (if it.link then codes " link" else []) ∷ (if it.time then codes " time" else [])
    ∷ (if it.captured then codes " captured" else []) ∷ (if it.original then codes " original" else [])
    ∷ (if it.bytes then codes " data" else []) ∷ []

spaced-words : (it : Differences) → spaced (words_of it) ≡ joined (spaced_parts it) []
spaced-words it =
    let five : List (Bool × List ℕ) = [] in
    let four : List (Bool × List ℕ) = (it.bytes, codes "data") ∷ five in
    let three : List (Bool × List ℕ) = (it.original, codes "original") ∷ four in
    let two : List (Bool × List ℕ) = (it.captured, codes "captured") ∷ three in
    let one : List (Bool × List ℕ) = (it.time, codes "time") ∷ two in
    let a = spaced-chosen it.link (codes "link") one in
    let b = spaced-chosen it.time (codes "time") two in
    let c = spaced-chosen it.captured (codes "captured") three in
    let d = spaced-chosen it.original (codes "original") four in
    let e = spaced-chosen it.bytes (codes "data") five in
    rw (a, b, c, d, e, none-chosen) refl

-- the first line of a difference in text, part by part
pub text-line : (times : TimeForm) (n : ℕ) (it : Differences) (place : Option ℕ)
    → codes "differ packet " ++ (decimal n ++ joined (spaced_parts it) (data_place_in (Text times) place (codes "\n")))
    ≡ difference_line (Text times) n (words_of it) place
text-line times n it place =
    let end = data_place_in (Text times) place (codes "\n") in
    rw (spaced-words it)
    (ap (λ l. codes "differ packet " ++ l)
    (ap (λ l. decimal n ++ l) (joined-more (spaced_parts it) [] end)
    ∙ sym (append_assoc (decimal n) (joined (spaced_parts it) []) end)))

-- whether a word is chosen
abbrev pub is_any : List (Bool × List ℕ) → Bool
is_any [] = false
is_any (word ∷ words) = word.0 || is_any words

abbrev has_some : List (List ℕ) → Bool
has_some [] = false
has_some (word ∷ words) = true

any-chosen : (words : List (Bool × List ℕ)) → is_any words ≡ has_some (chosen words)
unfolding chosen
any-chosen [] = refl
any-chosen (word ∷ words) = by word.0 word.1 (any-chosen words) where
  by : (is_so : Bool) (text : List ℕ) → is_any words ≡ has_some (chosen words)
      → (is_so || is_any words) ≡ has_some (if is_so then text ∷ chosen words else chosen words)
  by true text rest = refl
  by false text rest = rest

-- one word more in JSON
quoted-more : (word : List ℕ) (words : List (List ℕ))
    → quoted (word ∷ words) ≡ quoted_if true word (has_some words) ++ quoted words
quoted-more word [] = simp (append_assoc, append-nil)
quoted-more word (next ∷ words) = simp append_assoc

quoted-chosen : (is_so : Bool) (word : List ℕ) (words : List (Bool × List ℕ))
    → quoted (chosen ((is_so, word) ∷ words)) ≡ quoted_if is_so word (is_any words) ++ quoted (chosen words)
unfolding chosen
quoted-chosen true word words =
    quoted-more word (chosen words)
    ∙ ap (λ any. quoted_if true word any ++ quoted (chosen words)) (sym (any-chosen words))
quoted-chosen false word words = refl

-- the words of what differs in JSON, one by one
abbrev pub quoted_parts : Differences → List (List ℕ)
quoted_parts it =
    quoted_if it.link (codes "link") (it.time || (it.captured || (it.original || it.bytes)))
    ∷ quoted_if it.time (codes "time") (it.captured || (it.original || it.bytes))
    ∷ quoted_if it.captured (codes "captured") (it.original || it.bytes)
    ∷ quoted_if it.original (codes "original") it.bytes ∷ quoted_if it.bytes (codes "data") false ∷ []

quoted-words : (it : Differences) → quoted (words_of it) ≡ joined (quoted_parts it) []
quoted-words it =
    let five : List (Bool × List ℕ) = [] in
    let four : List (Bool × List ℕ) = (it.bytes, codes "data") ∷ five in
    let three : List (Bool × List ℕ) = (it.original, codes "original") ∷ four in
    let two : List (Bool × List ℕ) = (it.captured, codes "captured") ∷ three in
    let one : List (Bool × List ℕ) = (it.time, codes "time") ∷ two in
    let a = quoted-chosen it.link (codes "link") one in
    let b = quoted-chosen it.time (codes "time") two in
    let c = quoted-chosen it.captured (codes "captured") three in
    let d = quoted-chosen it.original (codes "original") four in
    let e = quoted-chosen it.bytes (codes "data") five in
    rw (a, b, c, d, e, none-chosen, or-false it.bytes) refl

-- the first line of a difference in JSON, part by part
pub json-line : (times : TimeForm) (n : ℕ) (it : Differences) (place : Option ℕ)
    → codes "{\"type\":\"differ\",\"packet\":" ++ (decimal n ++ (codes ",\"differs\":["
    ++ joined (quoted_parts it) (codes "]" ++ data_place_in (Json times) place (codes "}\n"))))
    ≡ difference_line (Json times) n (words_of it) place
json-line times n it place =
    let words = joined (quoted_parts it) [] in
    let end = codes "]" ++ data_place_in (Json times) place (codes "}\n") in
    let before = codes ",\"differs\":[" in
    rw (quoted-words it)
    (ap (λ l. codes "{\"type\":\"differ\",\"packet\":" ++ l)
    (ap (λ l. decimal n ++ (before ++ l)) (joined-more (quoted_parts it) [] end)
    ∙ (sym (append_assoc (decimal n) before (words ++ end))
    ∙ sym (append_assoc (decimal n ++ before) words end))))

-- the line in JSON of a packet that one file lacks, part by part
pub end-line : (times : TimeForm) (n : ℕ)
    → codes "{\"type\":\"differ\",\"packet\":" ++ (decimal n ++ codes ",\"differs\":[\"end\"]}\n")
    ≡ difference_line (Json times) n (codes "end" ∷ []) None
end-line times n =
    let before = codes ",\"differs\":[" in
    let word = codes "\"end\"" in
    let end = codes "]}\n" in
    ap (λ l. codes "{\"type\":\"differ\",\"packet\":" ++ l)
    (sym (append_assoc (decimal n) before (word ++ end)) ∙ sym (append_assoc (decimal n ++ before) word end))
