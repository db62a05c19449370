use Rattle.cap_commands.proofs.DiffWords.{text-line}
use Rattle.cap_commands.proofs.diff_lines.differ_text.Goals as goal

pub returns : goal.returns
returns c =
    simp (
      c.prepend_field.ensures.text,
      c.prepend_if-5.ensures.text,
      c.prepend_if-4.ensures.text,
      c.prepend_if-3.ensures.text,
      c.prepend_if-2.ensures.text,
      c.prepend_if.ensures.text,
      c.put_place.ensures.text,
      c.prepend_text.ensures.text,
      c.new-line.ensures.text,
    ) (text-line c.args.times c.args.n c.args.it c.args.place)
