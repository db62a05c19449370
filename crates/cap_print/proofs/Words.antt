-- A word that is put piece by piece.
use Rattle.std.proofs.Common.{◌≡◌, ℕ, List, ◌++◌, Some, refl, append_assoc}
use Rattle.cap_print.specs.Facts.{word_in}
use Rattle.cap_print.specs.declared.forms.Form.{Form}
use Rattle.cap_print.specs.declared.forms.Form.TheVariants.{Json, Text}
use Rattle.cap_print.specs.inner.Parts.{quote_in}

-- between its quotes it is the word
pub quoted-word : (form : Form) (known rest : List ℕ)
    → quote_in form (known ++ quote_in form rest) ≡ word_in form (Some known) ++ rest
quoted-word (Text times) known rest = refl
quoted-word (Json times) known rest = simp append_assoc
