-- The line that tells which packets are left out, as it is put.
use Rattle.std.proofs.Common.{◌≡◌, ℕ, ◌+◌, Bool, false, List, [], ◌++◌, sym, ap, ◌∙◌, append_assoc, arith}
use Rattle.std.specs.Prelude.{◌==◌, codes, if◌then◌else◌}
use Rattle.cap_class.specs.declared.counts.ClassCounts.{ClassCounts}
use Rattle.cap_tool.specs.LeftOutLine.{class_text, classes_text, headline_text, packets_left_out, left_packets_text}
use Rattle.cap_tool.specs.LeftOutLine.{unjoined_and_before}
use Rattle.cap_write.specs.declared.left_out.LeftOut.{LeftOut}

assoc-six : (a b c d e f t : List ℕ) → a ++ (b ++ (c ++ (d ++ (e ++ (f ++ t))))) ≡ a ++ b ++ c ++ d ++ e ++ f ++ t
assoc-six a b c d e f t = simp append_assoc

assoc-four : (a b c d : List ℕ) → a ++ (b ++ (c ++ d)) ≡ a ++ b ++ c ++ d
assoc-four a b c d = simp append_assoc

some-left : (n : ℕ) → (n ≡ 0 → ⊥) → (n == 0) ≡ false
some-left n some = grind arith

-- the classes, put from the last on
pub classes-put : (n : ClassCounts) (link network short cut bad : ℕ) (t t1 t2 t3 t4 t5 t6 : List ℕ)
    → link ≡ n.other_link → network ≡ n.other_link + n.not_ipv4 → short ≡ n.other_link + n.not_ipv4 + n.short
    → cut ≡ n.other_link + n.not_ipv4 + n.short + n.cut
    → bad ≡ n.other_link + n.not_ipv4 + n.short + n.cut + n.bad
    → t1 ≡ class_text bad (codes "unjoined ") n.unjoined ++ t
    → t2 ≡ class_text cut (codes "bad ") n.bad ++ t1
    → t3 ≡ class_text short (codes "cut ") n.cut ++ t2
    → t4 ≡ class_text network (codes "short ") n.short ++ t3
    → t5 ≡ class_text link (codes "not-ipv4 ") n.not_ipv4 ++ t4
    → t6 ≡ class_text 0 (codes "other-link ") n.other_link ++ t5
    → t6 ≡ classes_text n ++ t
classes-put n link network short cut bad t t1 t2 t3 t4 t5 t6 il iw is ic ib e1 e2 e3 e4 e5 e6 =
    let u = λ (b : ℕ). class_text b (codes "unjoined ") n.unjoined in
    let b = λ (b : ℕ). class_text b (codes "bad ") n.bad in
    let c = λ (b : ℕ). class_text b (codes "cut ") n.cut in
    let s = λ (b : ℕ). class_text b (codes "short ") n.short in
    let w = λ (b : ℕ). class_text b (codes "not-ipv4 ") n.not_ipv4 in
    let l = class_text 0 (codes "other-link ") n.other_link in
    e6 ∙ ap (λ m. l ++ m)
    (e5 ∙ (λ i. w (il i) ++ (e4 ∙ (λ j. s (iw j) ++ (e3 ∙ (λ k. c (is k) ++ (e2
    ∙ (λ m. b (ic m) ++ (e1 ∙ ap (λ q. u q ++ t) ib) m)) k)) j)) i))
    ∙ assoc-six l (w n.other_link) (s (n.other_link + n.not_ipv4)) (c (n.other_link + n.not_ipv4 + n.short))
    (b (n.other_link + n.not_ipv4 + n.short + n.cut))
    (u (n.other_link + n.not_ipv4 + n.short + n.cut + n.bad)) t

-- the whole line
pub packets-put : (left : LeftOut) (before all : ℕ) (t t1 t2 t3 t4 : List ℕ)
    → before ≡ unjoined_and_before left.classes → all ≡ before + left.truncated → (all ≡ 0 → ⊥) → t ≡ []
    → t1 ≡ codes "\n" ++ t → t2 ≡ class_text before (codes "truncated ") left.truncated ++ t1
    → t3 ≡ classes_text left.classes ++ t2 → t4 ≡ headline_text all ++ t3
    → t4 ≡ left_packets_text left
packets-put left before all t t1 t2 t3 t4 ib ia some none e1 e2 e3 e4 =
    let last = λ (b : ℕ). class_text b (codes "truncated ") left.truncated in
    let same : all ≡ packets_left_out left = ia ∙ ap (λ n. n + left.truncated) ib in
    let end : t1 ≡ codes "\n" = e1 ∙ ap (λ m. codes "\n" ++ m) none in
    let text = headline_text (packets_left_out left) ++ classes_text left.classes
    ++ last (unjoined_and_before left.classes) ++ codes "\n" in
    e4 ∙ (λ i. headline_text (same i)
    ++ (e3 ∙ (λ j. classes_text left.classes ++ (e2 ∙ (λ k. last (ib k) ++ end k)) j)) i)
    ∙ (assoc-four (headline_text (packets_left_out left)) (classes_text left.classes)
    (last (unjoined_and_before left.classes)) (codes "\n")
    ∙ sym (ap (λ (b : Bool). if b then [] else text)
    (ap (λ n. n == 0) (sym same) ∙ some-left all some)))
