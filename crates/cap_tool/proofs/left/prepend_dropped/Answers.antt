use Rattle.std.proofs.Common.{◌≡◌, ◌++◌, ◌∙◌, ℕ, List, refl, sym, append_assoc}
use Rattle.std.specs.Prelude.{codes}
use Rattle.cap_print.specs.Lines.{text_in}
use Rattle.cap_tool.specs.LeftLines.{comments_label, count_text, name_blocks_text, names_label, no_blocks, no_kinds}
use Rattle.cap_tool.specs.LeftLines.{no_names, no_secrets, other_blocks, other_blocks_text}
use Rattle.cap_tool.proofs.left.prepend_dropped.Goals as goal

-- six texts that are put in front of one, the last of them first
parts : (a b c d e f old : List ℕ) → a ++ (b ++ (c ++ (d ++ (e ++ (f ++ old))))) ≡ a ++ b ++ c ++ d ++ e ++ f ++ old
parts a b c d e f old =
    rw (
      append_assoc (a ++ b ++ c ++ d ++ e) f old,
      append_assoc (a ++ b ++ c ++ d) e (f ++ old),
      append_assoc (a ++ b ++ c) d (e ++ (f ++ old)),
      append_assoc (a ++ b) c (d ++ (e ++ (f ++ old))),
      append_assoc a b (c ++ (d ++ (e ++ (f ++ old)))),
    ) refl

pub returns : goal.returns
returns c =
    let left = c.args.left.now in
    let some = sym c.drops_nothing.ensures ∙ c.if-drops_nothing.false in
    rw (
      c.prepend_count-3.ensures.text,
      c.prepend_name_blocks.ensures.text,
      c.prepend_other_blocks.ensures.text,
      c.prepend_count-2.ensures.text,
      c.prepend_count.ensures.text,
      c.prepend_text.ensures.text,
      c.names_label.ensures,
      c.comments_label.ensures,
      c.no_names.ensures,
      c.no_blocks.ensures,
      c.no_kinds.ensures,
      c.no_secrets.ensures,
      c.other_blocks.ensures,
      some,
    )
    (parts
    (count_text (codes "not carried on: ") left.secret_blocks (codes " block of secrets") (codes " blocks of secrets"))
    (name_blocks_text (no_secrets left) left.name_blocks) (other_blocks_text (no_kinds left) (other_blocks left))
    (count_text (names_label (no_blocks left)) left.named (codes " interface") (codes " interfaces"))
    (count_text (comments_label (no_names left)) left.comments (codes " comment") (codes " comments")) (codes "\n")
    (text_in c.args.line.now))
