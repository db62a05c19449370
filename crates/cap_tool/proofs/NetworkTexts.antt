-- The line that tells the networks of packets, as it is put.
use Rattle.std.proofs.Common.{◌≡◌, ℕ, ◌+◌, Bool, List, [], ◌++◌, ap, ◌∙◌, append_assoc}
use Rattle.std.specs.Prelude.{codes}
use Rattle.cap_print.specs.declared.forms.Form.TheVariants.{Text}
use Rattle.cap_print.specs.declared.forms.TimeForm.TheVariants.{Exact}
use Rattle.cap_talks.specs.declared.table.others.OtherCounts.{OtherCounts}
use Rattle.cap_tool.specs.LeftOutLine.{class_text}
use Rattle.cap_tool.specs.NetworkLine.{class_name, networks_in, networks_text, unread_networks}

assoc-three : (a b c t : List ℕ) → a ++ (b ++ (c ++ t)) ≡ a ++ b ++ c ++ t
assoc-three a b c t = simp append_assoc

assoc-two : (a b c : List ℕ) → a ++ (b ++ c) ≡ a ++ b ++ c
assoc-two a b c = simp append_assoc

-- the networks, put from the last on
pub networks-put : (n : OtherCounts) (ipv6 arp : ℕ) (t t1 t2 t3 : List ℕ) → ipv6 ≡ n.ipv6 → arp ≡ n.ipv6 + n.arp
    → t1 ≡ class_text arp (codes "other ") n.other ++ t
    → t2 ≡ class_text ipv6 (codes "arp ") n.arp ++ t1
    → t3 ≡ class_text 0 (codes "ipv6 ") n.ipv6 ++ t2
    → t3 ≡ networks_text n ++ t
networks-put n ipv6 arp t t1 t2 t3 iv ia e1 e2 e3 =
    let o = λ (b : ℕ). class_text b (codes "other ") n.other in
    let a = λ (b : ℕ). class_text b (codes "arp ") n.arp in
    let v = class_text 0 (codes "ipv6 ") n.ipv6 in
    e3 ∙ (ap (λ m. v ++ m) (e2 ∙ (λ i. a (iv i) ++ (e1 ∙ ap (λ q. o q ++ t) ia) i))
    ∙ assoc-three v (a n.ipv6) (o (n.ipv6 + n.arp)) t)

-- the whole line in text
pub line-put : (reads : Bool) (n m : OtherCounts) (t t1 t2 t3 : List ℕ) → m ≡ unread_networks reads n → t ≡ []
    → t1 ≡ codes "\n" ++ t → t2 ≡ networks_text m ++ t1 → t3 ≡ class_name reads ++ t2
    → t3 ≡ networks_in reads (Text Exact) n
line-put reads n m t t1 t2 t3 is none e1 e2 e3 =
    e3 ∙ (ap (λ l. class_name reads ++ l)
    (e2 ∙ (λ i. networks_text (is i) ++ (e1 ∙ ap (λ l. codes "\n" ++ l) none) i))
    ∙ assoc-two (class_name reads) (networks_text (unread_networks reads n)) (codes "\n"))
