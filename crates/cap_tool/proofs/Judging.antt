-- What is said of lines, one by one.
use Rattle.std.proofs.Common.{◌≡◌, ◌∙◌, ◌<◌, ◌+◌, ℕ, suc, zero, Bool}
use Rattle.std.proofs.Common.{true, false, List, [], ◌∷◌, ◌++◌, map, length, Option}
use Rattle.std.proofs.Math.Seq.{take-append-add}
use Rattle.std.proofs.Common.{Result, Ok, Err, get_or, take, refl, sym, ap, subst, arith, append_assoc, append-nil}
use Rattle.std.specs.Prelude.{◌||◌}
use Rattle.std.specs.List.{list_any}
use Rattle.std.proofs.lemmas.List.{get_or-map, length-append, length-map, map-append}
use Rattle.cap_bytes.specs.Printing.{PrintsFront}
use Rattle.cap_bytes.specs.declared.faults.Fault.{Fault}
use Rattle.cap_bytes.specs.declared.faults.Fault.TheVariants as faults
use Rattle.cap_bytes.specs.declared.faults.Tail.{Tail}
use Rattle.cap_check.specs.Checking.{Opened}
use Rattle.cap_commands.specs.declared.jobs.Finding.{Finding}
use Rattle.cap_commands.specs.declared.jobs.Finding.TheVariants.{Difference, Nothing, NotWhole}
use Rattle.cap_print.specs.declared.forms.Form.{Form}
use Rattle.cap_tool.proofs.CheckedFiles.{AreGiven-more}
use Rattle.cap_tool.specs.CheckedNames.{AreGiven}
use Rattle.cap_tool.specs.DigestLines.{Entry}
use Rattle.cap_tool.specs.Verdicts.{AreVerdicts, IsVerdict, JudgesLine}
use Rattle.cap_tool.specs.Verdicts.{Verifies, finding_after, is_differing, is_missing}
use Rattle.cap_tool.specs.Verdicts.{verdict_line, verdict_lines, worst_of}
use Rattle.cap_tool.specs.declared.verify.Verdict.{Verdict}
use Rattle.cap_tool.specs.declared.verify.Verdict.TheVariants.{Same, Differs, Missing}

-- one line more
verdicts-more : (tail : Tail) (entries : List Entry) (files : List (Option Opened)) (verdicts : List Verdict)
    (entry none : Entry) (file : Option Opened) (verdict : Verdict)
    → AreVerdicts tail entries files verdicts → length verdicts < length entries
    → entry ≡ get_or entries (length verdicts) none → IsVerdict tail entry file verdict
    → AreVerdicts tail entries (files ++ file ∷ []) (verdicts ++ verdict ∷ [])
verdicts-more tail [] files verdicts entry none file verdict are below is one = absurd (nothing (length verdicts) below)
  where
    nothing : (n : ℕ) → n < 0 → ⊥
    nothing n below = omega (arith, below)
verdicts-more tail (e ∷ entries) [] [] entry none file verdict are below is one =
    (subst (λ e. IsVerdict tail e file verdict) is one, tt)
verdicts-more tail (e ∷ entries) [] (v ∷ verdicts) entry none file verdict are below is one = absurd are
verdicts-more tail (e ∷ entries) (f ∷ files) [] entry none file verdict are below is one = absurd are
verdicts-more tail (e ∷ entries) (f ∷ files) (v ∷ verdicts) entry none file verdict are below is one =
    (are.0, verdicts-more tail entries files verdicts entry none file verdict are.1 (omega (arith, below)) is one)

lines-more : (form : Form) (entries : List Entry) (verdicts : List Verdict) (entry none : Entry) (verdict : Verdict)
    → length verdicts < length entries → entry ≡ get_or entries (length verdicts) none
    → verdict_lines form entries (verdicts ++ verdict ∷ [])
    ≡ verdict_lines form entries verdicts ++ verdict_line form entry verdict
lines-more form [] verdicts entry none verdict below is = absurd (nothing (length verdicts) below)
  where
    nothing : (n : ℕ) → n < 0 → ⊥
    nothing n below = omega (arith, below)
lines-more form (e ∷ entries) [] entry none verdict below is =
    append-nil (verdict_line form e verdict) ∙ ap (λ e. verdict_line form e verdict) (sym is)
lines-more form (e ∷ entries) (v ∷ verdicts) entry none verdict below is =
    ap (λ l. verdict_line form e v ++ l)
    (lines-more form entries verdicts entry none verdict (omega (arith, below)) is)
    ∙ sym (append_assoc (verdict_line form e v) (verdict_lines form entries verdicts) (verdict_line form entry verdict))

any-more : (test : Verdict → Bool) (verdicts : List Verdict) (verdict : Verdict)
    → list_any test (verdicts ++ verdict ∷ []) ≡ (list_any test verdicts || test verdict)
any-more test [] verdict = grind arith
any-more test (v ∷ verdicts) verdict = grind (arith, any-more test verdicts verdict)

found-more : (verdicts : List Verdict) (verdict : Verdict)
    → finding_after (verdicts ++ verdict ∷ []) ≡ worst_of (finding_after verdicts) verdict
found-more verdicts Same = rw (any-more is_missing verdicts Same, any-more is_differing verdicts Same) (grind arith)
found-more verdicts Differs =
    rw (any-more is_missing verdicts Differs, any-more is_differing verdicts Differs) (grind arith)
found-more verdicts Missing =
    rw (any-more is_missing verdicts Missing, any-more is_differing verdicts Missing) (grind arith)

-- a prefix of what is behind a text
behind : (old mid new head text : List ℕ) → mid ≡ old ++ head → PrintsFront text mid new
    → PrintsFront (head ++ text) old new
behind old mid new head text first p = (
  length head + p.0,
  p.1
      ∙ (ap (λ l. l ++ take p.0 text) first
      ∙ (append_assoc old head (take p.0 text) ∙ ap (λ l. old ++ l) (sym (take-append-add head text p.0)))),
)

-- no line
pub no_entry : Entry
no_entry = record { number = 0; name = []; text = [] }

-- What is said of the first of some lines is written.
pub record AreJudged {R : Type 0} (gives : List ℕ → Option R → Type 0) (known : Option R → Option Opened) (tail : Tail)
    (form : Form) (entries : List Entry) (place : ℕ) (found : Finding) (old held : List ℕ) : Type 0 where
  pub readers : List (Option R)
  pub verdicts : List Verdict
  pub opened : AreGiven gives (map (λ e. e.name) entries) readers
  pub judged : AreVerdicts tail entries (map known readers) verdicts
  pub files : length readers ≡ place
  pub count : length verdicts ≡ place
  pub finds : found ≡ finding_after verdicts
  pub written : held ≡ old ++ verdict_lines form entries verdicts

pub judged-none : {R : Type 0} (gives : List ℕ → Option R → Type 0) (known : Option R → Option Opened) (tail : Tail)
    (form : Form) (entries : List Entry) (held : List ℕ)
    → AreJudged gives known tail form entries 0 Nothing held held
judged-none gives known tail form entries held = record {
  readers = [];
  verdicts = [];
  opened = tt;
  judged = tt;
  files = refl;
  count = refl;
  finds = refl;
  written = sym (append-nil held);
}

-- one line more is
pub judged-more : {R : Type 0} (gives : List ℕ → Option R → Type 0) (known : Option R → Option Opened) (tail : Tail)
    (form : Form) (entries : List Entry) (entry none : Entry) (place : ℕ) (found : Finding) (verdict : Verdict)
    (old mid new : List ℕ)
    → place < length entries → entry ≡ get_or entries place none
    → AreJudged gives known tail form entries place found old mid
    → JudgesLine gives known tail form entry mid (Ok verdict) new
    → AreJudged gives known tail form entries (place + 1) (worst_of found verdict) old new
judged-more gives known tail form entries entry none place found verdict old mid new within at a next =
    let here : entry ≡ get_or entries (length a.verdicts) none = at ∙ ap (λ n. get_or entries n none) (sym a.count) in
    let below : length a.verdicts < length entries = omega (arith, within, a.count) in
    let names = map (λ e. e.name) entries in
    let name : entry.name ≡ get_or names (length a.readers) [] =
    ap (λ e. e.name) (at ∙ ap (λ n. get_or entries n none) (sym a.files))
    ∙ sym (get_or-map (λ e. e.name) entries (length a.readers) none [] (omega (arith, within, a.files))) in
    record {
      readers = a.readers ++ next.0 ∷ [];
      verdicts = a.verdicts ++ verdict ∷ [];
      opened = AreGiven-more gives names a.readers entry.name next.0 a.opened
          (omega (arith, within, a.files, length-map entries (λ e. e.name))) name next.1;
      judged = subst (λ l. AreVerdicts tail entries l (a.verdicts ++ verdict ∷ []))
          (sym (map-append known a.readers (next.0 ∷ [])))
          (verdicts-more tail entries (map known a.readers) a.verdicts entry none (known next.0) verdict a.judged below
          here next.2);
      files = length-append a.readers (next.0 ∷ []) ∙ ap (λ n. n + 1) a.files;
      count = length-append a.verdicts (verdict ∷ []) ∙ ap (λ n. n + 1) a.count;
      finds = ap (λ f. worst_of f verdict) a.finds ∙ sym (found-more a.verdicts verdict);
      written = next.3
          ∙ (ap (λ l. l ++ verdict_line form entry verdict) a.written
          ∙ (append_assoc old (verdict_lines form entries a.verdicts) (verdict_line form entry verdict)
          ∙ ap (λ l. old ++ l) (sym (lines-more form entries a.verdicts entry none verdict below here))));
    }

-- a growth is refused or a write fails
pub judged-fault : {R : Type 0} (gives : List ℕ → Option R → Type 0) (known : Option R → Option Opened) (tail : Tail)
    (form : Form) (entries : List Entry) (entry none : Entry) (place : ℕ) (found : Finding) (fault : Fault)
    (old mid new : List ℕ)
    → place < length entries → entry ≡ get_or entries place none
    → AreJudged gives known tail form entries place found old mid
    → JudgesLine gives known tail form entry mid (Err fault) new
    → Verifies gives known tail form entries old (Err fault) new
judged-fault gives known tail form entries entry none place found (faults.Refused r) old mid new within at a next =
    absurd next
judged-fault gives known tail form entries entry none place found (faults.Read f o) old mid new within at a next =
    absurd next
judged-fault gives known tail form entries entry none place found faults.Memory old mid new within at a next = record {
  readers = a.readers;
  verdicts = a.verdicts;
  opened = a.opened;
  judged = a.judged;
  written = next ∙ a.written;
}
judged-fault gives known tail form entries entry none place found faults.Write old mid new within at a next =
    let here : entry ≡ get_or entries (length a.verdicts) none = at ∙ ap (λ n. get_or entries n none) (sym a.count) in
    let below : length a.verdicts < length entries = omega (arith, within, a.count) in
    let names = map (λ e. e.name) entries in
    let name : entry.name ≡ get_or names (length a.readers) [] =
    ap (λ e. e.name) (at ∙ ap (λ n. get_or entries n none) (sym a.files))
    ∙ sym (get_or-map (λ e. e.name) entries (length a.readers) none [] (omega (arith, within, a.files))) in
    let all = lines-more form entries a.verdicts entry none next.1 below here in
    record {
      readers = a.readers ++ next.0 ∷ [];
      verdicts = a.verdicts ++ next.1 ∷ [];
      opened = AreGiven-more gives names a.readers entry.name next.0 a.opened
          (omega (arith, within, a.files, length-map entries (λ e. e.name))) name next.2;
      judged = subst (λ l. AreVerdicts tail entries l (a.verdicts ++ next.1 ∷ []))
          (sym (map-append known a.readers (next.0 ∷ [])))
          (verdicts-more tail entries (map known a.readers) a.verdicts entry none (known next.0) next.1 a.judged below
          here next.3);
      written = rw all
          (behind old mid new (verdict_lines form entries a.verdicts) (verdict_line form entry next.1) a.written
          next.4);
    }

-- all are
pub judged-all : {R : Type 0} (gives : List ℕ → Option R → Type 0) (known : Option R → Option Opened) (tail : Tail)
    (form : Form) (entries : List Entry) (place : ℕ) (found : Finding) (old new : List ℕ)
    → place ≡ length entries → AreJudged gives known tail form entries place found old new
    → Verifies gives known tail form entries old (Ok found) new
judged-all gives known tail form entries place found old new over a = record {
  readers = a.readers;
  verdicts = a.verdicts;
  opened = a.opened;
  judged = a.judged;
  written = (a.count ∙ over, a.finds, a.written);
}

-- a prefix of it is written
pub judges-write : {R : Type 0} (gives : List ℕ → Option R → Type 0) (known : Option R → Option Opened) (tail : Tail)
    (form : Form) (entry : Entry) (old new text : List ℕ) (fault : Fault) (reader : Option R) (verdict : Verdict)
    → fault ≡ faults.Write → gives entry.name reader → IsVerdict tail entry (known reader) verdict
    → text ≡ verdict_line form entry verdict → PrintsFront text old new
    → JudgesLine gives known tail form entry old (Err fault) new
judges-write gives known tail form entry old new text fault reader verdict is given judged text_is front =
    subst (λ f. JudgesLine gives known tail form entry old (Err f) new) (sym is)
    (reader, verdict, given, judged, subst (λ t. PrintsFront t old new) text_is front)

-- all of it is
pub judges-line : {R : Type 0} (gives : List ℕ → Option R → Type 0) (known : Option R → Option Opened) (tail : Tail)
    (form : Form) (entry : Entry) (old new text : List ℕ) (reader : Option R) (verdict : Verdict)
    → gives entry.name reader → IsVerdict tail entry (known reader) verdict → text ≡ verdict_line form entry verdict
    → new ≡ old ++ text → JudgesLine gives known tail form entry old (Ok verdict) new
judges-line gives known tail form entry old new text reader verdict given judged text_is all =
    (reader, given, judged, all ∙ ap (λ t. old ++ t) text_is)

-- what is given for the name of a line
pub given-line : {R : Type 0} (gives : List ℕ → Option R → Type 0) (entry name : List ℕ) (found reader : Option R)
    → gives name found → name ≡ entry → reader ≡ found → gives entry reader
given-line gives entry name found reader given same is =
    subst (λ r. gives entry r) (sym is) (subst (λ n. gives n found) same given)
