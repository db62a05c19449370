-- The parts of a line are the line.
use Rattle.std.proofs.Common.{◌≡◌, ℕ, List, [], ◌∷◌, ◌++◌, codes, drop, map, refl, ap, ◌∙◌, arith, append_assoc}
use Rattle.cap_print.specs.Facts.{Fact, Field, Value, begin_in, close_in, end_in, fact_in, facts_in, fields_in, open_in}
use Rattle.cap_print.specs.Facts.{coded, flag, group, hex, moment, number, one, value_in, word}
use Rattle.cap_print.specs.declared.forms.Form.{Form}
use Rattle.cap_print.specs.declared.forms.Form.TheVariants.{Text, Json}
use Rattle.cap_print.specs.declared.forms.TimeForm.{TimeForm}
use Rattle.cap_check.specs.CheckText.{check_facts, check_line_in, digest_fields, held_facts, odd_fields}
use Rattle.cap_check.specs.inner.Parts.{counts_in, odd_in, unnamed_in}
use Rattle.cap_check.specs.declared.checked.Check.{Check}
use Rattle.cap_check.specs.declared.checked.CheckLine.{CheckLine}
use Rattle.cap_check.specs.declared.checked.CheckLine.TheVariants.{Counts, CountsAndDigest, Digest}

-- a value, and then two texts
value-then : (form : Form) (label key : List ℕ) (value : Value) (text rest : List ℕ)
    → value_in form label key value (text ++ rest) ≡ value_in form label key value text ++ rest
value-then (Text times) label key (number n) text rest = grind (arith, append_assoc)
value-then (Text times) label key (coded t n) text rest = grind (arith, append_assoc)
value-then (Text times) label key (word known) text rest = grind (arith, append_assoc)
value-then (Text times) label key (moment at) text rest = grind (arith, append_assoc)
value-then (Text times) label key (hex shown) text rest = grind (arith, append_assoc)
value-then (Text times) label key (flag is_so) text rest = grind (arith, append_assoc)
value-then (Json times) label key (number n) text rest = grind (arith, append_assoc)
value-then (Json times) label key (coded t n) text rest = grind (arith, append_assoc)
value-then (Json times) label key (word known) text rest = grind (arith, append_assoc)
value-then (Json times) label key (moment at) text rest = grind (arith, append_assoc)
value-then (Json times) label key (hex shown) text rest = grind (arith, append_assoc)
value-then (Json times) label key (flag is_so) text rest = grind (arith, append_assoc)

-- some facts, and then two texts
facts-then : (form : Form) (facts : List Fact) (text rest : List ℕ)
    → facts_in form facts (text ++ rest) ≡ facts_in form facts text ++ rest
facts-then form [] text rest = refl
facts-then form (fact ∷ facts) text rest =
    ap (fact_in form fact) (facts-then form facts text rest)
    ∙ value-then form fact.label fact.key fact.value (facts_in form facts text) rest

-- in JSON a value begins with a comma, which a group takes away
comma-then : (times : TimeForm) (label key : List ℕ) (value : Value) (text rest : List ℕ)
    → drop 1 (value_in (Json times) label key value text ++ rest)
    ≡ drop 1 (value_in (Json times) label key value text) ++ rest
comma-then times label key (number n) text rest = refl
comma-then times label key (coded t n) text rest = refl
comma-then times label key (word known) text rest = refl
comma-then times label key (moment at) text rest = refl
comma-then times label key (hex shown) text rest = refl
comma-then times label key (flag is_so) text rest = refl

open-then : (form : Form) (key : List ℕ) (fact : Fact) (text rest : List ℕ)
    → open_in form key (fact_in form fact text ++ rest) ≡ open_in form key (fact_in form fact text) ++ rest
open-then (Text times) key fact text rest = refl
open-then (Json times) key fact text rest =
    ap (λ l. codes ",\"" ++ key ++ codes "\":{" ++ l) (comma-then times fact.label fact.key fact.value text rest)
    ∙ grind (arith, append_assoc)

close-then : (form : Form) (text rest : List ℕ) → close_in form (text ++ rest) ≡ close_in form text ++ rest
close-then (Text times) text rest = refl
close-then (Json times) text rest = refl

-- some fields, and then the rest of the line
fields-then : (form : Form) (fields : List Field) (rest : List ℕ)
    → fields_in form fields rest ≡ fields_in form fields [] ++ rest
fields-then form [] rest = refl
fields-then form (one fact ∷ fields) rest =
    ap (fact_in form fact) (fields-then form fields rest)
    ∙ value-then form fact.label fact.key fact.value (fields_in form fields []) rest
fields-then form (group key fact facts ∷ fields) rest =
    let behind = fields_in form fields [] in
    let closed = close_in form behind in
    ap (λ l. open_in form key (fact_in form fact (facts_in form facts (close_in form l))))
    (fields-then form fields rest)
    ∙ (ap (λ l. open_in form key (fact_in form fact (facts_in form facts l))) (close-then form behind rest)
    ∙ (ap (λ l. open_in form key (fact_in form fact l)) (facts-then form facts closed rest)
    ∙ (ap (open_in form key) (value-then form fact.label fact.key fact.value (facts_in form facts closed) rest)
    ∙ open-then form key fact (facts_in form facts closed) rest)))

-- as fields they are the same
facts-fields : (form : Form) (facts : List Fact) (fields : List Field) (rest : List ℕ)
    → fields_in form (map one facts ++ fields) rest ≡ facts_in form facts (fields_in form fields rest)
facts-fields form [] fields rest = refl
facts-fields form (fact ∷ facts) fields rest = ap (fact_in form fact) (facts-fields form facts fields rest)

begin-then : (form : Form) (kind text rest : List ℕ)
    → begin_in form kind (text ++ rest) ≡ begin_in form kind text ++ rest
begin-then (Text times) kind text rest = grind (arith, append_assoc)
begin-then (Json times) kind text rest = grind (arith, append_assoc)

-- a line of what is counted, in two parts
pub counts-parts : (which : CheckLine) (form : Form) (file : ℕ) (check : Check)
    → begin_in form (codes "check") (fields_in form (map one (held_facts file check) ++ odd_fields which check) [])
    ≡ counts_in which form file check
counts-parts which form file check =
    let facts = held_facts file check in
    let odd = odd_in which form check in
    ap (begin_in form (codes "check"))
    (facts-fields form facts (odd_fields which check) [] ∙ facts-then form facts [] odd)
    ∙ begin-then form (codes "check") (facts_in form facts []) odd

-- a line, and its end
pub line-parts : (which : CheckLine) (form : Form) (file : ℕ) (name : List ℕ) (check : Check)
    → check_line_in which form file name check ≡ unnamed_in which form file check ++ (name ++ end_in form)
line-parts which form file name check =
    let facts = check_facts which file check in
    let rest = name ++ end_in form in
    ap (begin_in form facts.kind) (fields-then form facts.fields rest)
    ∙ begin-then form facts.kind (fields_in form facts.fields []) rest

-- the digest's field, and those behind it
pub digest-then : (which : CheckLine) (form : Form) (check : Check) (fields : List Field)
    → fields_in form (digest_fields which check ++ fields) []
    ≡ fields_in form (digest_fields which check) (fields_in form fields [])
digest-then Counts form check fields = refl
digest-then CountsAndDigest form check fields = refl
digest-then Digest form check fields = refl
