-- A word that is being written as it stands in a string of JSON, character by character.
use Rattle.std.proofs.Common.{◌≡◌, ◌||◌, false, ℕ, List, [], ◌++◌, chars, encode_utf8, length, IsTrue, IsUtf8}
use Rattle.std.proofs.Common.{Err, append_assoc, append-nil, sym, ◌∙◌, ap, refl}
use Rattle.std.specs.List.{flat_map}
use Rattle.std.proofs.lemmas.List.{nil_from_length}
use Rattle.std.proofs.lemmas.Str.{chars-nil, chars_past_char}
use Rattle.std.proofs.Math.Bool.{or-false}
use Rattle.cap_bytes.proofs.Putting.{Puts-first, Puts-second}
use Rattle.cap_bytes.specs.Device.{Puts, Writer, WriterKeeps}
use Rattle.cap_bytes.specs.declared.faults.Fault.{Fault}
use Rattle.cap_tool.specs.Objects.{escaped_character}

abbrev escaped : List ℕ → List ℕ
escaped text = flat_map escaped_character (chars text)

-- what was written so far is the front of the word's string, and `rest` is what is left of the word
pub record Escaping (old mid : Writer) (text rest : List ℕ) : Type 0 where
  pub head : List ℕ
  pub utf8 : IsUtf8 rest
  pub whole : flat_map escaped_character (chars text) ≡ head ++ flat_map escaped_character (chars rest)
  pub written : IsTrue old.told → mid.held ≡ old.held ++ head
  pub told : IsTrue old.told → IsTrue mid.told
  pub failed : mid.failed ≡ old.failed
  pub cannot : IsTrue mid.can_fail → IsTrue old.can_fail

-- the string of nothing, and that of a word with one more character
pub escaped-nil : (rest : List ℕ) → length rest ≡ 0 → flat_map escaped_character (chars rest) ≡ []
escaped-nil rest none = rw (nil_from_length rest none, chars-nil) refl

pub escaped-step : (rest behind : List ℕ) (c : ℕ) → IsUtf8 rest → rest ≡ encode_utf8 c ++ behind
    → flat_map escaped_character (chars rest) ≡ escaped_character c ++ flat_map escaped_character (chars behind)
escaped-step rest behind c utf8 parts = rw (chars_past_char rest behind c utf8 parts) refl

-- one more character is written
pub Escaping-more : (old mid new : Writer) (text rest behind : List ℕ) (c : ℕ) → Escaping old mid text rest
    → IsUtf8 behind → rest ≡ encode_utf8 c ++ behind
    → (IsTrue mid.told → new.held ≡ mid.held ++ escaped_character c)
    → WriterKeeps mid false new → Escaping old new text behind
Escaping-more old mid new text rest behind c p utf8 parts more keeps = record {
  head = p.head ++ escaped_character c;
  utf8 = utf8;
  whole = p.whole ∙ (ap (λ l. p.head ++ l) (escaped-step rest behind c p.utf8 parts)
      ∙ sym (append_assoc p.head (escaped_character c) (escaped behind)));
  written = λ t. more (p.told t) ∙ (ap (λ l. l ++ escaped_character c) (p.written t)
      ∙ append_assoc old.held p.head (escaped_character c));
  told = λ t. keeps.told (p.told t);
  failed = keeps.failed ∙ ap (λ b. b || false) p.failed ∙ or-false old.failed;
  cannot = λ t. p.cannot (keeps.cannot t);
}

-- nothing is left of the word
pub Escaping-ends : (old mid : Writer) (text rest : List ℕ) → Escaping old mid text rest → length rest ≡ 0
    → IsTrue old.told → mid.held ≡ old.held ++ flat_map escaped_character (chars text)
Escaping-ends old mid text rest p none t =
    let nothing : escaped rest ≡ [] = escaped-nil rest none in
    let whole : escaped text ≡ p.head = p.whole ∙ (ap (λ l. p.head ++ l) nothing ∙ append-nil p.head) in
    rw whole (p.written t)

-- the writer failed in a character
pub Escaping-fails : (old mid : Writer) (held text rest behind : List ℕ) (c : ℕ) (fault : Fault)
    → Escaping old mid text rest → rest ≡ encode_utf8 c ++ behind
    → (IsTrue mid.told → Puts {A = Unit {0}} mid.held (Err fault) held (escaped_character c))
    → IsTrue old.told → Puts {A = Unit {0}} old.held (Err fault) held (flat_map escaped_character (chars text))
Escaping-fails old mid held text rest behind c fault p parts fails t =
    rw p.whole (Puts-second (Unit {0}) old.held mid.held held p.head (escaped rest) (Err fault) (p.written t)
    (rw (escaped-step rest behind c p.utf8 parts)
    (Puts-first (Unit {0}) mid.held held (escaped_character c) (escaped behind) fault (fails (p.told t)))))
