-- Readers of files in memory are known by the files' bytes.
use Rattle.std.specs.Prelude.{◌≡◌, ◌∷◌, [], List, true, false, ℕ, map}
use Rattle.std.proofs.Common.{refl, ap, ◌∙◌, sym}
use Rattle.cap_merge.specs.inner.Readers.{ReaderFacts, reader_of}
use Rattle.capt_c.specs.Texts.{file_bytes}
use Rattle.capt_c.specs.Sources.{rest_of}
use Rattle.capt_c.specs.Tables.{reader_of_file}
use Rattle.capt_c.specs.declared.texts.Bytes.{Bytes}
use Rattle.capt_c.specs.declared.sources.Slice.{Slice}

abbrev reader : List ℕ → ReaderFacts
reader bytes = record { told = true; can_fail = false; bytes = bytes }

by_rests : (slices : List Slice) → map (reader_of (λ _. true) (λ _. false) rest_of) slices
    ≡ map reader (map rest_of slices)
by_rests [] = refl
by_rests (slice ∷ slices) = ap (λ (rs : List ReaderFacts). reader (rest_of slice) ∷ rs) (by_rests slices)

by_bytes : (files : List Bytes) → map reader_of_file files ≡ map reader (map file_bytes files)
by_bytes [] = refl
by_bytes (file ∷ files) = ap (λ (rs : List ReaderFacts). reader (file_bytes file) ∷ rs) (by_bytes files)

pub same-readers : (slices : List Slice) (files : List Bytes) → map rest_of slices ≡ map file_bytes files
    → map (reader_of (λ _. true) (λ _. false) rest_of) slices ≡ map reader_of_file files
same-readers slices files same = by_rests slices ∙ ap (λ (bs : List (List ℕ)). map reader bs) same
    ∙ sym (by_bytes files)
