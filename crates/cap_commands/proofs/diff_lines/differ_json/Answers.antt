use Rattle.cap_commands.proofs.DiffWords.{json-line}
use Rattle.cap_commands.proofs.diff_lines.differ_json.Goals as goal

pub returns : goal.returns
returns c =
    simp (
      c.prepend_field.ensures.text,
      c.prepend_text-3.ensures.text,
      c.prepend_quoted-5.ensures.text,
      c.prepend_quoted-4.ensures.text,
      c.prepend_quoted-3.ensures.text,
      c.prepend_quoted-2.ensures.text,
      c.prepend_quoted.ensures.text,
      c.prepend_text-2.ensures.text,
      c.put_place.ensures.text,
      c.prepend_text.ensures.text,
      c.new-line.ensures.text,
      c.either-time.ensures,
      c.either-captured.ensures,
      c.either-original.ensures,
    ) (json-line c.args.times c.args.n c.args.it c.args.place)
