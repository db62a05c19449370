-- `digest --verify` reads the lines that `digest --names` printed, and says `same` of the same files.
use Rattle.std.proofs.Common.{◌≡◌, ◌==◌, ◌≤◌, ◌+◌, ◌-◌, ◌/◌, ◌%◌, ℕ, zero, suc, Bool, true, false, List, [], ◌∷◌, ◌++◌}
use Rattle.std.proofs.Common.{not, Option, Some, None, codes, length, map, get_or, if◌then◌else◌, nat_lt, chars}
use Rattle.std.proofs.Common.{refl, sym, ap, subst, ◌∙◌, arith, append_assoc, append-nil, IsTrue, IsFalse, IsUtf8, All}
use Rattle.std.proofs.lemmas.Str.{IsUtf8-append, IsUtf8-from_ascii, encodes-chars}
use Rattle.std.specs.List.{AllByRecursion, list_all}
use Rattle.std.specs.Prelude.{decimal}
use Rattle.std.specs.Str.{IsAscii, bytes_eq}
use Rattle.hex.specs.Hex.{encode_with, lower_digits}
use Rattle.cap_bytes.specs.Rules.{rule_name, rule_number}
use Rattle.cap_bytes.specs.declared.faults.Rule.{Rule}
use Rattle.cap_bytes.specs.declared.faults.Rule.TheVariants as rules
use Rattle.cap_bytes.specs.declared.faults.Tail.{Tail}
use Rattle.cap_check.specs.CheckText.{check_line_in, check_lines, digest_end_fields}
use Rattle.cap_check.specs.Checking.{AreChecked, FailsIf, IsChecked, IsCounted, Opened, checked_after, end_digest}
use Rattle.cap_check.specs.Checking.{nothing_checked}
use Rattle.cap_check.specs.declared.checked.Check.{Check}
use Rattle.cap_check.specs.declared.checked.CheckEnd.{CheckEnd}
use Rattle.cap_check.specs.declared.checked.CheckEnd.TheVariants.{Opening, Reading, Refusing, Whole}
use Rattle.cap_check.specs.declared.checked.Checked.{Checked}
use Rattle.cap_check.specs.declared.checked.CheckLine.TheVariants.{Digest}
use Rattle.cap_digest.specs.DigestText.{digest_value, whole_fields}
use Rattle.cap_line.proofs.Escapes.{shown_chars, shown_same, shown_seen, shown_utf8}
use Rattle.cap_line.proofs.ShownNames.{text-back}
use Rattle.cap_line.specs.Shown.{is_escaped, shown_text, spells_hidden, unshown_text}
use Rattle.cap_print.specs.Facts.{bytes_text, fields_in}
use Rattle.cap_print.specs.declared.forms.Form.TheVariants.{Text}
use Rattle.cap_print.specs.declared.forms.TimeForm.TheVariants.{Exact}
use Rattle.cap_source.specs.Feed.{refusal_of}
use Rattle.cap_source.specs.Items.{file_ending, file_items}
use Rattle.cap_source.specs.declared.feeds.FileEnd.{FileEnd}
use Rattle.cap_bytes.specs.declared.faults.Refusal.{Refusal}
use Rattle.cap_tool.proofs.LineParts.{entry-is, entry-text, fields-some}
use Rattle.cap_tool.specs.CheckedNames.{name_fields}
use Rattle.cap_tool.specs.DigestLines.{Entry, entries_in, entry_by, entry_in, fields_of, number_before, split_first}
use Rattle.cap_tool.specs.ListedNames.{pieces}
use Rattle.cap_tool.specs.NameFields.{name_field}
use Rattle.cap_tool.specs.Verdicts.{AreVerdicts, IsVerdict, digest_line, verdict_by}
use Rattle.cap_tool.specs.declared.verify.Verdict.{Verdict}
use Rattle.cap_tool.specs.declared.verify.Verdict.TheVariants.{Same, Differs}
use Rattle.cap_laws.proofs.LineWords.{Front, before_name, encodes-lacks, front-append, front-nil, front-number}
use Rattle.cap_laws.proofs.LineWords.{front-word, hex-quiet, is_quiet, lacks, number-back, pieces-line, same-bytes}
use Rattle.cap_laws.proofs.LineWords.{all-append, split-clear, split-here}
use Rattle.cap_laws.specs.VerifiedLines.{IsPlainName, IsReadable, VerifiesAsSame}

-- ---- what stands before the name of a file in its line

abbrev end_front : Check → CheckEnd → List ℕ
end_front check end = fields_in (Text Exact) (digest_end_fields check end) []

abbrev line_front : ℕ → Check → List ℕ
line_front n check = codes "digest" ++ ((32 ∷ decimal n) ++ end_front check check.end)

whole-rest : (digest : Option (List ℕ)) (packets : ℕ) (was_cut : Bool) (rest : List ℕ)
    → fields_in (Text Exact) (whole_fields digest packets was_cut) rest
    ≡ fields_in (Text Exact) (whole_fields digest packets was_cut) [] ++ rest
whole-rest None packets was_cut rest = grind (arith, append_assoc)
whole-rest (Some digest) packets was_cut rest = grind (arith, append_assoc)

end-rest : (check : Check) (end : CheckEnd) (rest : List ℕ)
    → fields_in (Text Exact) (digest_end_fields check end) rest ≡ end_front check end ++ rest
end-rest check (Whole end) rest = whole-rest check.digest check.counts.packets _ rest
end-rest check (Refusing refusal end) rest = grind (arith, append_assoc)
end-rest check (Reading offset end) rest = grind (arith, append_assoc)
end-rest check Opening rest = refl

-- each part can stand before a name
rule-front : (rule : Rule) → Front (32 ∷ rule_name rule)
rule-front rules.Magic = record { clear = refl; line = refl; plain = refl }
rule-front rules.Version = record { clear = refl; line = refl; plain = refl }
rule-front rules.Cut = record { clear = refl; line = refl; plain = refl }
rule-front rules.PacketLong = record { clear = refl; line = refl; plain = refl }
rule-front rules.BlockLength = record { clear = refl; line = refl; plain = refl }
rule-front rules.BlockTrailer = record { clear = refl; line = refl; plain = refl }
rule-front rules.OrderMagic = record { clear = refl; line = refl; plain = refl }
rule-front rules.Captured = record { clear = refl; line = refl; plain = refl }
rule-front rules.InterfaceUnknown = record { clear = refl; line = refl; plain = refl }
rule-front rules.OptionEnd = record { clear = refl; line = refl; plain = refl }
rule-front rules.OptionLength = record { clear = refl; line = refl; plain = refl }
rule-front rules.Resolution = record { clear = refl; line = refl; plain = refl }
rule-front rules.InterfaceLimit = record { clear = refl; line = refl; plain = refl }
rule-front rules.FileLimit = record { clear = refl; line = refl; plain = refl }
rule-front rules.OpenLimit = record { clear = refl; line = refl; plain = refl }
rule-front rules.TalkLimit = record { clear = refl; line = refl; plain = refl }
rule-front rules.NoTime = record { clear = refl; line = refl; plain = refl }
rule-front rules.LinkMixed = record { clear = refl; line = refl; plain = refl }
rule-front rules.Inexact = record { clear = refl; line = refl; plain = refl }
rule-front rules.TimeRange = record { clear = refl; line = refl; plain = refl }
rule-front rules.NoInterface = record { clear = refl; line = refl; plain = refl }

-- the digits of a digest, with a blank before them
hex-front : (bytes : List ℕ) → Front (32 ∷ bytes_text bytes)
unfolding encode_with
hex-front [] = record { clear = refl; line = refl; plain = refl }
hex-front (b ∷ bytes) =
    front-word (get_or lower_digits (b / 16) 0) (get_or lower_digits (b % 16) 0 ∷ encode_with lower_digits bytes)
    (hex-quiet (b ∷ bytes))

cut-front : (was_cut : Bool) → Front ((if was_cut then codes " cut" else []) ++ [])
cut-front true = record { clear = refl; line = refl; plain = refl }
cut-front false = front-nil

packets-front : (packets : ℕ) (was_cut : Bool)
    → Front (codes " packets" ++ ((32 ∷ decimal packets) ++ ((if was_cut then codes " cut" else []) ++ [])))
packets-front packets was_cut =
    front-append {xs = codes " packets"} (record { clear = refl; line = refl; plain = refl })
    (front-append (front-number packets) (cut-front was_cut))

whole-front : (digest : Option (List ℕ)) (packets : ℕ) (was_cut : Bool)
    → Front (fields_in (Text Exact) (whole_fields digest packets was_cut) [])
whole-front None packets was_cut =
    front-append {xs = codes " sha256 -"} (record { clear = refl; line = refl; plain = refl })
    (packets-front packets was_cut)
whole-front (Some digest) packets was_cut =
    front-append {xs = codes " sha256"} (record { clear = refl; line = refl; plain = refl })
    (front-append (hex-front digest) (packets-front packets was_cut))

end-front : (check : Check) (end : CheckEnd) → Front (end_front check end)
end-front check (Whole end) = whole-front check.digest check.counts.packets _
end-front check (Refusing refusal end) =
    front-append {xs = codes " refused offset"} (record { clear = refl; line = refl; plain = refl })
    (front-append (front-number refusal.offset)
    (front-append {xs = codes " rule"} (record { clear = refl; line = refl; plain = refl })
    (front-append (front-number (rule_number refusal.rule)) (front-append (rule-front refusal.rule) front-nil))))
end-front check (Reading offset end) =
    front-append {xs = codes " read offset"} (record { clear = refl; line = refl; plain = refl })
    (front-append (front-number offset) front-nil)
end-front check Opening = record { clear = refl; line = refl; plain = refl }

all-front : (n : ℕ) (check : Check) → Front (line_front n check)
all-front n check =
    front-append {xs = codes "digest"} (record { clear = refl; line = refl; plain = refl })
    (front-append (front-number n) (end-front check check.end))

-- ---- a line is read back

-- the line without its end
abbrev line_text : ℕ → List ℕ → Check → List ℕ
line_text n name check = line_front n check ++ (before_name ++ shown_text false name)

abbrev entry_for : ℕ → List ℕ → Check → Entry
entry_for n name check = record { number = n; name = name; text = line_text n name check ++ codes "\n" }

join-parts : (d e s z : List ℕ) → codes "digest" ++ ((32 ∷ d) ++ (e ++ (s ++ z)))
    ≡ ((codes "digest" ++ ((32 ∷ d) ++ e)) ++ s) ++ z
join-parts d e s z = grind (arith, append_assoc)

line-is : (n : ℕ) (name : List ℕ) (check : Check)
    → digest_line n name check ≡ line_text n name check ++ codes "\n"
line-is n name check =
    let shown = before_name ++ shown_text false name in
    ap (λ l. codes "digest" ++ ((32 ∷ decimal n) ++ l)) (end-rest check check.end (shown ++ codes "\n"))
    ∙ join-parts (decimal n) (end_front check check.end) shown (codes "\n")

-- a blank stands behind the number
whole-blank : (digest : Option (List ℕ)) (packets : ℕ) (was_cut : Bool)
    → (more : List ℕ) × (fields_in (Text Exact) (whole_fields digest packets was_cut) [] ≡ 32 ∷ more)
whole-blank None packets was_cut = (_, refl)
whole-blank (Some digest) packets was_cut = (_, refl)

end-blank : (check : Check) (end : CheckEnd) → (more : List ℕ) × (end_front check end ≡ 32 ∷ more)
end-blank check (Whole end) = whole-blank check.digest check.counts.packets _
end-blank check (Refusing refusal end) = (_, refl)
end-blank check (Reading offset end) = (_, refl)
end-blank check Opening = (_, refl)

front-number-back : (n : ℕ) (check : Check) → 1 ≤ n → n ≤ 4294967295 → number_before (line_front n check) ≡ Some n
front-number-back n check some small =
    let blank = end-blank check check.end in
    ap (λ e. number_before (codes "digest" ++ ((32 ∷ decimal n) ++ e))) blank.1 ∙ number-back n blank.0 some small

-- ASCII is text
ascii-of : (bytes : List ℕ) → list_all (λ b. nat_lt b 128) bytes ≡ true → IsAscii bytes
ascii-of [] all i = omega arith
ascii-of (b ∷ bytes) all zero = grind (arith, all)
ascii-of (b ∷ bytes) all (suc i) = ascii-of bytes (grind (arith, all)) i

line-utf8 : (n : ℕ) (name : List ℕ) (check : Check) → IsUtf8 name → IsUtf8 (line_text n name check)
line-utf8 n name check utf8 =
    IsUtf8-append (line_front n check) (before_name ++ shown_text false name)
    (IsUtf8-from_ascii (line_front n check) (ascii-of (line_front n check) (all-front n check).plain))
    (IsUtf8-append before_name (shown_text false name) (IsUtf8-from_ascii before_name (ascii-of before_name refl))
    (shown_utf8 false name utf8))

-- what is shown of a name is on one line
shown-lined : (name : List ℕ) → IsUtf8 name → lacks 10 (shown_text false name) ≡ true
shown-lined name utf8 =
    let seen = shown_seen false name utf8 in
    let text = shown_text false name in
    subst (λ t. lacks 10 t ≡ true) (encodes-chars text (shown_utf8 false name utf8))
    (encodes-lacks (chars text) (λ k d less e. hidden-line _ e (seen k d less)))
  where
    hidden-line : (c : ℕ) → c ≡ 10 → IsFalse (is_escaped false c) → ⊥
    hidden-line c e is = grind (arith, e, is)

line-lined : (n : ℕ) (name : List ℕ) (check : Check) → IsUtf8 name → lacks 10 (line_text n name check) ≡ true
line-lined n name check utf8 =
    all-append (λ c. not (c == 10)) (line_front n check) (before_name ++ shown_text false name) (all-front n check).line
    (all-append (λ c. not (c == 10)) before_name (shown_text false name) refl (shown-lined name utf8))

line-fields : (n : ℕ) (name : List ℕ) (check : Check) → 1 ≤ n → n ≤ 4294967295
    → fields_of (line_text n name check) ≡ Some (n, shown_text false name)
line-fields n name check some small =
    let front = line_front n check in
    let shown = shown_text false name in
    let split = split-clear before_name front (before_name ++ shown) [] shown (all-front n check).clear
    (split-here 32 (codes "name ") shown) in
    fields-some (line_text n name check) front shown n (split ∙ ap (λ l. Some (l, shown)) (append-nil front))
    (front-number-back n check some small)

entry-back : (n : ℕ) (name : List ℕ) (check : Check) → 1 ≤ n → n ≤ 4294967295 → IsPlainName name
    → entry_in (line_text n name check) ≡ Some (entry_for n name check)
entry-back n name check some small plain =
    let line = line_text n name check in
    let shown = shown_text false name in
    let again : shown ≡ shown_text false shown =
    sym (shown_same false shown (shown_utf8 false name plain.0) (shown_seen false name plain.0)) in
    let same : false ≡ not (bytes_eq shown shown) = ap not (sym (same-bytes shown)) in
    let fields = line-fields n name check some small in
    sym (entry-text line line (Some (n, shown)) refl (line-utf8 n name check plain.0) fields)
    ∙ sym (entry-is line shown shown name (line ++ codes "\n") n again same
    (sym (text-back name shown plain.0 plain.1 refl)) refl)

-- ---- all lines

abbrev entries_from : ℕ → List (List ℕ) → List Check → List Entry
entries_from n [] checks = []
entries_from n (name ∷ names) [] = []
entries_from n (name ∷ names) (check ∷ checks) = entry_for n name check ∷ entries_from (n + 1) names checks

first-line : (n : ℕ) (name : List ℕ) (check : Check) (field rest : List ℕ) → IsUtf8 name
    → field ≡ name_field (Text Exact) true name
    → pieces 10 (check_line_in Digest (Text Exact) n field check ++ rest) ≡ line_text n name check ∷ pieces 10 rest
first-line n name check field rest utf8 named =
    let line = line_text n name check in
    let text = ap (λ f. check_line_in Digest (Text Exact) n f check) named ∙ line-is n name check in
    ap (λ t. pieces 10 (t ++ rest)) text
    ∙ (ap (pieces 10) (append_assoc line (codes "\n") rest) ∙ pieces-line 10 line rest (line-lined n name check utf8))

lines-back : (tail : Tail) (names : List (List ℕ)) (files : List Opened) (checks : List Check) (n : ℕ)
    (field : ℕ → List ℕ) → AllByRecursion IsPlainName names → length names ≡ length files → 1 ≤ n
    → n + length files ≤ 4294967296 → ((i : ℕ) → field (n + i) ≡ name_field (Text Exact) true (get_or names i []))
    → AreChecked tail true n (map Some files) checks
    → entries_in (check_lines Digest (Text Exact) field n checks) ≡ map Some (entries_from n names checks)
unfolding pieces
lines-back tail [] [] [] n field plain same some few named checked = refl
lines-back tail [] [] (check ∷ checks) n field plain same some few named checked = absurd checked
lines-back tail [] (file ∷ files) checks n field plain same some few named checked = absurd (omega (arith, same))
lines-back tail (name ∷ names) [] checks n field plain same some few named checked = absurd (omega (arith, same))
lines-back tail (name ∷ names) (file ∷ files) [] n field plain same some few named checked = absurd checked
lines-back tail (name ∷ names) (file ∷ files) (check ∷ checks) n field plain same some few named checked =
    let own : field n ≡ name_field (Text Exact) true name = ap field (omega arith) ∙ named 0 in
    let rest = check_lines Digest (Text Exact) field (n + 1) checks in
    let more = lines-back tail names files checks (n + 1) field plain.1 (omega (arith, same)) (omega (arith, some))
    (omega (arith, few)) (λ i. ap field (omega arith) ∙ named (suc i)) checked.1 in
    let first = entry-back n name check some (omega (arith, few)) plain.0 in
    ap (map entry_in) (first-line n name check (field n) rest plain.0.0 own) ∙ (λ i. first i ∷ more i)

names-back : (tail : Tail) (names : List (List ℕ)) (files : List Opened) (checks : List Check) (n : ℕ)
    → length names ≡ length files → AreChecked tail true n (map Some files) checks
    → map (λ entry. entry.name) (entries_from n names checks) ≡ names
names-back tail [] files checks n same checked = refl
names-back tail (name ∷ names) [] checks n same checked = absurd (omega (arith, same))
names-back tail (name ∷ names) (file ∷ files) [] n same checked = absurd checked
names-back tail (name ∷ names) (file ∷ files) (check ∷ checks) n same checked =
    ap (λ l. name ∷ l) (names-back tail names files checks (n + 1) (omega (arith, same)) checked.1)

-- ---- the same files

-- how a file ends of which no read fails
abbrev end_by : Option Refusal → FileEnd → CheckEnd
end_by None end = Whole end
end_by (Some refusal) end = Refusing refusal end

end-known : (tail : Tail) (file : ℕ) (bytes : List ℕ) (counts : Checked) (end : CheckEnd) (can_fail : Bool)
    → IsFalse can_fail → FailsIf can_fail end → IsCounted tail file bytes counts end
    → (counts ≡ checked_after nothing_checked (file_items tail file bytes))
    × (end ≡ end_by (refusal_of (file_items tail file bytes)) (file_ending tail file bytes))
end-known tail file bytes counts (Whole end) can_fail sure fails is =
    (is.1, λ i. end_by (sym is.0 i) (is.2 i))
end-known tail file bytes counts (Refusing refusal end) can_fail sure fails is =
    (is.1, λ i. end_by (sym is.0 i) (is.2 i))
end-known tail file bytes counts (Reading offset end) can_fail sure fails is = absurd (no can_fail sure fails)
  where
    no : (b : Bool) → IsFalse b → IsTrue b → ⊥
    no b is other = grind (arith, is, other)
end-known tail file bytes counts Opening can_fail sure fails is = absurd is

abbrev check_by : Tail → ℕ → List ℕ → Check
check_by tail file bytes =
    record {
      counts = checked_after nothing_checked (file_items tail file bytes);
      digest = end_digest true (file_items tail file bytes)
          (end_by (refusal_of (file_items tail file bytes)) (file_ending tail file bytes));
      end = end_by (refusal_of (file_items tail file bytes)) (file_ending tail file bytes);
    }

check-known : (tail : Tail) (file : ℕ) (opened : Opened) (check : Check) → IsReadable opened
    → IsChecked tail true file (Some opened) check → check ≡ check_by tail file opened.bytes
check-known tail file opened check readable checked =
    let counted = checked.1 readable.0 in
    let known = end-known tail file opened.bytes check.counts check.end opened.can_fail readable.1 checked.0 counted in
    let digest = checked.2 readable.0 ∙ ap (end_digest true (file_items tail file opened.bytes)) known.1 in
    λ i. record { counts = known.0 i; digest = digest i; end = known.1 i }

verdict-same : (tail : Tail) (n : ℕ) (name : List ℕ) (opened : Opened) (check : Check) (verdict : Verdict)
    → IsReadable opened → IsChecked tail true n (Some opened) check
    → IsVerdict tail (entry_for n name check) (Some opened) verdict → verdict ≡ Same
verdict-same tail n name opened check verdict readable checked judged =
    let same = check-known tail n opened judged.0 readable judged.1
    ∙ sym (check-known tail n opened check readable checked) in
    let equal : bytes_eq (digest_line n name check) (line_text n name check ++ codes "\n") ≡ true =
    subst (λ t. bytes_eq t (line_text n name check ++ codes "\n") ≡ true) (sym (line-is n name check))
    (same-bytes (line_text n name check ++ codes "\n")) in
    judged.2 ∙ (ap (verdict_by (entry_for n name check)) same ∙ ap (λ b. if b then Same else Differs) equal)

verdicts-same : (tail : Tail) (names : List (List ℕ)) (files : List Opened) (checks : List Check)
    (verdicts : List Verdict) (n : ℕ) → AllByRecursion IsReadable files → length names ≡ length files
    → AreChecked tail true n (map Some files) checks
    → AreVerdicts tail (entries_from n names checks) (map Some files) verdicts
    → AllByRecursion (λ verdict. verdict ≡ Same) verdicts
verdicts-same tail names [] checks [] n readable same checked judged = tt
verdicts-same tail [] [] checks (verdict ∷ verdicts) n readable same checked judged = absurd judged
verdicts-same tail (name ∷ names) [] checks verdicts n readable same checked judged = absurd (omega (arith, same))
verdicts-same tail [] (file ∷ files) checks verdicts n readable same checked judged = absurd (omega (arith, same))
verdicts-same tail (name ∷ names) (file ∷ files) [] verdicts n readable same checked judged = absurd checked
verdicts-same tail (name ∷ names) (file ∷ files) (check ∷ checks) [] n readable same checked judged = absurd judged
verdicts-same tail (name ∷ names) (file ∷ files) (check ∷ checks) (verdict ∷ verdicts) n readable same checked
    judged = (
      verdict-same tail n name file check verdict readable.0 checked.0 judged.0,
      verdicts-same tail names files checks verdicts (n + 1) readable.1 (omega (arith, same)) checked.1 judged.1,
    )

pub verifies-as-same : VerifiesAsSame
verifies-as-same tail names files checks plain readable same few checked = (
  entries_from 1 names checks,
  lines-back tail names files checks 1 (name_fields (Text Exact) true names) plain same (omega arith)
      (omega (arith, few))
      (λ i. ap (λ k. name_field (Text Exact) true (get_or names k [])) (omega arith)) checked,
  names-back tail names files checks 1 same checked,
  λ verdicts. verdicts-same tail names files checks verdicts 1 readable same checked,
)
