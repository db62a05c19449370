-- The lines of faults, and of what explains them, are texts of JSON.
use Rattle.std.proofs.Common.{◌≡◌, ◌<◌, ◌^◌, ℕ, List, [], ◌∷◌, ◌++◌, refl, sym, ap, ◌∙◌, arith, append_assoc, Some}
use Rattle.std.proofs.Common.{None, true, false}
use Rattle.std.specs.Prelude.{chars, codes, decimal, flat_map, map, pos, Option, option_to_list}
use lib.Utf8.{encode}
use Rattle.cap_bytes.specs.Rules.{rule_name, rule_number}
use Rattle.cap_bytes.specs.declared.faults.Rule.{Rule}
use Rattle.cap_bytes.specs.declared.faults.Rule.TheVariants.{Magic, Version, Cut, PacketLong, BlockLength}
use Rattle.cap_bytes.specs.declared.faults.Rule.TheVariants.{BlockTrailer}
use Rattle.cap_bytes.specs.declared.faults.Rule.TheVariants.{OrderMagic, Captured, InterfaceUnknown, OptionEnd}
use Rattle.cap_bytes.specs.declared.faults.Rule.TheVariants.{OptionLength, Resolution}
use Rattle.cap_bytes.specs.declared.faults.Rule.TheVariants.{InterfaceLimit, FileLimit, OpenLimit, TalkLimit, NoTime}
use Rattle.cap_bytes.specs.declared.faults.Rule.TheVariants.{LinkMixed}
use Rattle.cap_bytes.specs.declared.faults.Rule.TheVariants.{Inexact, TimeRange, NoInterface}
use Rattle.cap_laws.proofs.JsonLines.{after-commas, comma-then, object-first, path-is}
use Rattle.cap_laws.proofs.JsonNumbers.{decimal-whole}
use Rattle.cap_laws.proofs.JsonStrings.{string-then}
use Rattle.cap_laws.specs.JsonFaults.{IsCutLine, IsHintLine, IsListLine, IsNetworkLine, IsOpenLine, IsReadLine}
use Rattle.cap_laws.specs.JsonFaults.{IsRefusedLine}
use Rattle.cap_laws.specs.JsonLines.{JsonValue, json_text, object, string, whole, whole_text}
use Rattle.cap_print.specs.declared.forms.Form.TheVariants.{Json}
use Rattle.cap_print.specs.declared.forms.TimeForm.{TimeForm}
use Rattle.cap_talks.specs.declared.table.others.OtherCounts.{OtherCounts}
use Rattle.cap_tool.specs.NetworkLine.{networks_in}
use Rattle.cap_tool.specs.Objects.{escaped_character, path_json}

-- the name of a rule has no character that is escaped
pub rule-plain : (rule : Rule) → flat_map escaped_character (rule_name rule) ≡ rule_name rule
unfolding encode
rule-plain Magic = refl
rule-plain Version = refl
rule-plain Cut = refl
rule-plain PacketLong = refl
rule-plain BlockLength = refl
rule-plain BlockTrailer = refl
rule-plain OrderMagic = refl
rule-plain Captured = refl
rule-plain InterfaceUnknown = refl
rule-plain OptionEnd = refl
rule-plain OptionLength = refl
rule-plain Resolution = refl
rule-plain InterfaceLimit = refl
rule-plain FileLimit = refl
rule-plain OpenLimit = refl
rule-plain TalkLimit = refl
rule-plain NoTime = refl
rule-plain LinkMixed = refl
rule-plain Inexact = refl
rule-plain TimeRange = refl
rule-plain NoInterface = refl

rule-small : (rule : Rule) → rule_number rule < 10 ^ 64
rule-small Magic = omega arith
rule-small Version = omega arith
rule-small Cut = omega arith
rule-small PacketLong = omega arith
rule-small BlockLength = omega arith
rule-small BlockTrailer = omega arith
rule-small OrderMagic = omega arith
rule-small Captured = omega arith
rule-small InterfaceUnknown = omega arith
rule-small OptionEnd = omega arith
rule-small OptionLength = omega arith
rule-small Resolution = omega arith
rule-small InterfaceLimit = omega arith
rule-small FileLimit = omega arith
rule-small OpenLimit = omega arith
rule-small TalkLimit = omega arith
rule-small NoTime = omega arith
rule-small LinkMixed = omega arith
rule-small Inexact = omega arith
rule-small TimeRange = omega arith
rule-small NoInterface = omega arith

-- the word that named a file, if there is one, as a member
abbrev path-member : Option (List ℕ) → List (List ℕ × JsonValue 1)
path-member path = map (λ word. (codes "path", string (chars word))) (option_to_list path)

path-behind : (path : Option (List ℕ)) (rest : List ℕ)
    → path_json path ++ rest ≡ after-commas 1 (path-member path) ++ rest
unfolding after-commas
path-behind None rest = refl
path-behind (Some path) rest = path-is 0 path rest

-- the text of fields, part by part
pub parts-4 : (a b c d rest : List ℕ) → (a ++ b ++ c ++ d) ++ rest ≡ a ++ (b ++ (c ++ (d ++ rest)))
parts-4 a b c d rest =
    append_assoc (a ++ b ++ c) d rest
    ∙ append_assoc (a ++ b) c (d ++ rest)
    ∙ append_assoc a b (c ++ (d ++ rest))

parts-9 : (a b c d e f g h i rest : List ℕ) → (a ++ b ++ c ++ d ++ e ++ f ++ g ++ h ++ i) ++ rest
    ≡ a ++ (b ++ (c ++ (d ++ (e ++ (f ++ (g ++ (h ++ (i ++ rest))))))))
parts-9 a b c d e f g h i rest =
    append_assoc (a ++ b ++ c ++ d ++ e ++ f ++ g ++ h) i rest
    ∙ append_assoc (a ++ b ++ c ++ d ++ e ++ f ++ g) h (i ++ rest)
    ∙ append_assoc (a ++ b ++ c ++ d ++ e ++ f) g (h ++ (i ++ rest))
    ∙ append_assoc (a ++ b ++ c ++ d ++ e) f (g ++ (h ++ (i ++ rest)))
    ∙ append_assoc (a ++ b ++ c ++ d) e (f ++ (g ++ (h ++ (i ++ rest))))
    ∙ parts-4 a b c d (e ++ (f ++ (g ++ (h ++ (i ++ rest)))))

pub open-line : IsOpenLine
unfolding encode
open-line file path small =
    let behind : List (List ℕ × JsonValue 1) = path-member path in
    let number : List ℕ × JsonValue 1 = (codes "file", whole (pos file)) in
    let left : List ℕ = codes "{\"type\":\"fault\",\"fault\":\"open\"" in
    ap (λ l. codes "{" ++ l)
    (append_assoc (codes "\"type\":\"fault\",\"fault\":\"open\",\"file\":") (decimal file)
    (path_json path ++ codes "}\n"))
    ∙ (λ i. left ++ (codes ",\"file\":" ++ (decimal-whole file small i ++ path-behind path (codes "}\n") i)))
    ∙ ap (λ l. left ++ l) (sym (comma-then 1 number behind (codes "}\n")))
    ∙ ap (λ l. codes "{\"type\":\"fault\"" ++ l)
    (sym (comma-then 1 (codes "fault", string (codes "open")) (number ∷ behind) (codes "}\n")))
    ∙ sym (object-first 1 (codes "type", string (codes "fault"))
    ((codes "fault", string (codes "open")) ∷ number ∷ behind) (codes "\n"))

pub read-line : IsReadLine
unfolding encode
read-line file offset path small few =
    let behind : List (List ℕ × JsonValue 1) = path-member path in
    let number : List ℕ × JsonValue 1 = (codes "file", whole (pos file)) in
    let place : List ℕ × JsonValue 1 = (codes "offset", whole (pos offset)) in
    let left : List ℕ = codes "{\"type\":\"fault\",\"fault\":\"read\"" in
    ap (λ l. codes "{" ++ l)
    (parts-4 (codes "\"type\":\"fault\",\"fault\":\"read\",\"file\":") (decimal file) (codes ",\"offset\":")
    (decimal offset) (path_json path ++ codes "}\n"))
    ∙ (λ i. left ++ (codes ",\"file\":" ++ (decimal-whole file small i ++ (codes ",\"offset\":"
    ++ (decimal-whole offset few i ++ path-behind path (codes "}\n") i)))))
    ∙ ap (λ l. left ++ (codes ",\"file\":" ++ (whole_text (pos file) ++ l)))
    (sym (comma-then 1 place behind (codes "}\n")))
    ∙ ap (λ l. left ++ l) (sym (comma-then 1 number (place ∷ behind) (codes "}\n")))
    ∙ ap (λ l. codes "{\"type\":\"fault\"" ++ l)
    (sym (comma-then 1 (codes "fault", string (codes "read")) (number ∷ place ∷ behind) (codes "}\n")))
    ∙ sym (object-first 1 (codes "type", string (codes "fault"))
    ((codes "fault", string (codes "read")) ∷ number ∷ place ∷ behind) (codes "\n"))

parts-5 : (a b c d e rest : List ℕ) → (a ++ b ++ c ++ d ++ e) ++ rest ≡ a ++ (b ++ (c ++ (d ++ (e ++ rest))))
parts-5 a b c d e rest = append_assoc (a ++ b ++ c ++ d) e rest ∙ parts-4 a b c d (e ++ rest)

parts-6 : (a b c d e f rest : List ℕ)
    → (a ++ b ++ c ++ d ++ e ++ f) ++ rest ≡ a ++ (b ++ (c ++ (d ++ (e ++ (f ++ rest)))))
parts-6 a b c d e f rest =
    append_assoc (a ++ b ++ c ++ d ++ e) f rest
    ∙ append_assoc (a ++ b ++ c ++ d) e (f ++ rest)
    ∙ parts-4 a b c d (e ++ (f ++ rest))

pub cut-line : IsCutLine
unfolding encode
cut-line file cut path small few short =
    let behind : List (List ℕ × JsonValue 1) = path-member path in
    let number : List ℕ × JsonValue 1 = (codes "file", whole (pos file)) in
    let place : List ℕ × JsonValue 1 = (codes "offset", whole (pos cut.offset)) in
    let count : List ℕ × JsonValue 1 = (codes "bytes", whole (pos cut.size)) in
    let left : List ℕ = codes "{\"type\":\"cut\"" in
    ap (λ l. codes "{" ++ l)
    (parts-6 (codes "\"type\":\"cut\",\"file\":") (decimal file) (codes ",\"offset\":") (decimal cut.offset)
    (codes ",\"bytes\":") (decimal cut.size) (path_json path ++ codes "}\n"))
    ∙ (λ i. left ++ (codes ",\"file\":" ++ (decimal-whole file small i ++ (codes ",\"offset\":"
    ++ (decimal-whole cut.offset few i ++ (codes ",\"bytes\":"
    ++ (decimal-whole cut.size short i ++ path-behind path (codes "}\n") i)))))))
    ∙ ap (λ l. left ++ (codes ",\"file\":" ++ (whole_text (pos file) ++ (codes ",\"offset\":"
    ++ (whole_text (pos cut.offset) ++ l)))))
    (sym (comma-then 1 count behind (codes "}\n")))
    ∙ ap (λ l. left ++ (codes ",\"file\":" ++ (whole_text (pos file) ++ l)))
    (sym (comma-then 1 place (count ∷ behind) (codes "}\n")))
    ∙ ap (λ l. left ++ l) (sym (comma-then 1 number (place ∷ count ∷ behind) (codes "}\n")))
    ∙ sym (object-first 1 (codes "type", string (codes "cut")) (number ∷ place ∷ count ∷ behind) (codes "\n"))

pub list-line : IsListLine
unfolding encode after-commas
list-line line small =
    let number : List ℕ × JsonValue 1 = (codes "line", whole (pos line)) in
    let left : List ℕ = codes "{\"type\":\"fault\",\"fault\":\"list\"" in
    append_assoc (codes "{\"type\":\"fault\",\"fault\":\"list\",\"line\":") (decimal line) (codes "}\n")
    ∙ (λ i. left ++ (codes ",\"line\":" ++ (decimal-whole line small i ++ codes "}\n")))
    ∙ ap (λ l. left ++ l) (sym (comma-then 1 number [] (codes "}\n")))
    ∙ ap (λ l. codes "{\"type\":\"fault\"" ++ l)
    (sym (comma-then 1 (codes "fault", string (codes "list")) (number ∷ []) (codes "}\n")))
    ∙ sym (object-first 1 (codes "type", string (codes "fault"))
    ((codes "fault", string (codes "list")) ∷ number ∷ []) (codes "\n"))

-- of a report that doesn't read IPv6 packets
abbrev IsIpv4Line : OtherCounts → TimeForm → Type 0
IsIpv4Line n times = networks_in false (Json times) n
    ≡ json_text 2 (object ((codes "type", string (codes "not_ipv4")) ∷ (codes "ipv6", whole (pos n.ipv6))
    ∷ (codes "arp", whole (pos n.arp)) ∷ (codes "other", whole (pos n.other)) ∷ [])) ++ codes "\n"

ipv4-line : (times : TimeForm) (n : OtherCounts) → n.ipv6 < 10 ^ 64 → n.arp < 10 ^ 64 → n.other < 10 ^ 64
    → IsIpv4Line n times
unfolding encode after-commas
ipv4-line times n small few some =
    let six : List ℕ × JsonValue 1 = (codes "ipv6", whole (pos n.ipv6)) in
    let arp : List ℕ × JsonValue 1 = (codes "arp", whole (pos n.arp)) in
    let other : List ℕ × JsonValue 1 = (codes "other", whole (pos n.other)) in
    let left : List ℕ = codes "{\"type\":\"not_ipv4\"" in
    parts-6 (codes "{\"type\":\"not_ipv4\",\"ipv6\":") (decimal n.ipv6) (codes ",\"arp\":") (decimal n.arp)
    (codes ",\"other\":") (decimal n.other) (codes "}\n")
    ∙ (λ i. left ++ (codes ",\"ipv6\":" ++ (decimal-whole n.ipv6 small i ++ (codes ",\"arp\":"
    ++ (decimal-whole n.arp few i ++ (codes ",\"other\":" ++ (decimal-whole n.other some i ++ codes "}\n")))))))
    ∙ ap (λ l. left ++ (codes ",\"ipv6\":" ++ (whole_text (pos n.ipv6) ++ (codes ",\"arp\":"
    ++ (whole_text (pos n.arp) ++ l)))))
    (sym (comma-then 1 other [] (codes "}\n")))
    ∙ ap (λ l. left ++ (codes ",\"ipv6\":" ++ (whole_text (pos n.ipv6) ++ l)))
    (sym (comma-then 1 arp (other ∷ []) (codes "}\n")))
    ∙ ap (λ l. left ++ l) (sym (comma-then 1 six (arp ∷ other ∷ []) (codes "}\n")))
    ∙ sym (object-first 1 (codes "type", string (codes "not_ipv4")) (six ∷ arp ∷ other ∷ []) (codes "\n"))

-- of one that does
abbrev IsIpLine : OtherCounts → TimeForm → Type 0
IsIpLine n times = networks_in true (Json times) n
    ≡ json_text 2 (object ((codes "type", string (codes "not_ip")) ∷ (codes "arp", whole (pos n.arp))
    ∷ (codes "other", whole (pos n.other)) ∷ [])) ++ codes "\n"

ip-line : (times : TimeForm) (n : OtherCounts) → n.arp < 10 ^ 64 → n.other < 10 ^ 64 → IsIpLine n times
unfolding encode after-commas
ip-line times n few some =
    let arp : List ℕ × JsonValue 1 = (codes "arp", whole (pos n.arp)) in
    let other : List ℕ × JsonValue 1 = (codes "other", whole (pos n.other)) in
    let left : List ℕ = codes "{\"type\":\"not_ip\"" in
    parts-5 left (codes ",\"arp\":") (decimal n.arp) (codes ",\"other\":") (decimal n.other) (codes "}\n")
    ∙ (λ i. left ++ (codes ",\"arp\":" ++ (decimal-whole n.arp few i ++ (codes ",\"other\":"
    ++ (decimal-whole n.other some i ++ codes "}\n")))))
    ∙ ap (λ l. left ++ (codes ",\"arp\":" ++ (whole_text (pos n.arp) ++ l))) (sym (comma-then 1 other [] (codes "}\n")))
    ∙ ap (λ l. left ++ l) (sym (comma-then 1 arp (other ∷ []) (codes "}\n")))
    ∙ sym (object-first 1 (codes "type", string (codes "not_ip")) (arp ∷ other ∷ []) (codes "\n"))

pub network-line : IsNetworkLine
network-line times n small few some = (ipv4-line times n small few some, ip-line times n few some)

pub refused-line : IsRefusedLine
unfolding encode
refused-line refusal path small few =
    let behind : List (List ℕ × JsonValue 1) = path-member path in
    let number : List ℕ × JsonValue 1 = (codes "file", whole (pos refusal.file)) in
    let place : List ℕ × JsonValue 1 = (codes "offset", whole (pos refusal.offset)) in
    let rule : List ℕ × JsonValue 1 = (codes "rule", whole (pos (rule_number refusal.rule))) in
    let name : List ℕ × JsonValue 1 = (codes "name", string (rule_name refusal.rule)) in
    let end : List ℕ = after-commas 1 behind ++ codes "}\n" in
    let plain : rule_name refusal.rule ≡ flat_map escaped_character (rule_name refusal.rule) =
    sym (rule-plain refusal.rule) in
    let left : List ℕ = codes "{\"type\":\"refused\"" in
    ap (λ l. codes "{" ++ l)
    (parts-9 (codes "\"type\":\"refused\",\"file\":") (decimal refusal.file) (codes ",\"offset\":")
    (decimal refusal.offset) (codes ",\"rule\":") (decimal (rule_number refusal.rule)) (codes ",\"name\":\"")
    (rule_name refusal.rule) (codes "\"") (path_json path ++ codes "}\n"))
    ∙ (λ i. left ++ (codes ",\"file\":" ++ (decimal-whole refusal.file small i ++ (codes ",\"offset\":"
    ++ (decimal-whole refusal.offset few i ++ (codes ",\"rule\":"
    ++ (decimal-whole (rule_number refusal.rule) (rule-small refusal.rule) i ++ (codes ",\"name\":\""
    ++ (plain i ++ (codes "\"" ++ path-behind path (codes "}\n") i))))))))))
    ∙ ap (λ l. left ++ (codes ",\"file\":" ++ (whole_text (pos refusal.file) ++ (codes ",\"offset\":"
    ++ (whole_text (pos refusal.offset) ++ (codes ",\"rule\":"
    ++ (whole_text (pos (rule_number refusal.rule)) ++ (codes ",\"name\":" ++ l))))))))
    (sym (string-then (rule_name refusal.rule) end))
    ∙ ap (λ l. left ++ (codes ",\"file\":" ++ (whole_text (pos refusal.file) ++ (codes ",\"offset\":"
    ++ (whole_text (pos refusal.offset) ++ (codes ",\"rule\":"
    ++ (whole_text (pos (rule_number refusal.rule)) ++ l)))))))
    (sym (comma-then 1 name behind (codes "}\n")))
    ∙ ap (λ l. left ++ (codes ",\"file\":" ++ (whole_text (pos refusal.file) ++ (codes ",\"offset\":"
    ++ (whole_text (pos refusal.offset) ++ l)))))
    (sym (comma-then 1 rule (name ∷ behind) (codes "}\n")))
    ∙ ap (λ l. left ++ (codes ",\"file\":" ++ (whole_text (pos refusal.file) ++ l)))
    (sym (comma-then 1 place (rule ∷ name ∷ behind) (codes "}\n")))
    ∙ ap (λ l. left ++ l) (sym (comma-then 1 number (place ∷ rule ∷ name ∷ behind) (codes "}\n")))
    ∙ sym (object-first 1 (codes "type", string (codes "refused")) (number ∷ place ∷ rule ∷ name ∷ behind) (codes "\n"))

pub hint-line : IsHintLine
unfolding encode after-commas
hint-line text =
    let said : List ℕ × JsonValue 1 = (codes "hint", string (chars text)) in
    ap (λ l. codes "{\"type\":\"hint\",\"hint\":" ++ l) (sym (string-then (chars text) (codes "}\n")))
    ∙ ap (λ l. codes "{\"type\":\"hint\"" ++ l) (sym (comma-then 1 said [] (codes "}\n")))
    ∙ sym (object-first 1 (codes "type", string (codes "hint")) (said ∷ []) (codes "\n"))
