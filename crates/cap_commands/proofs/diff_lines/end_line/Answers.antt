use Rattle.cap_commands.proofs.DiffWords.{end-line}
use Rattle.cap_commands.proofs.diff_lines.end_line.Goals as goal

pub returns-in-Json : goal.returns-in-Json
returns-in-Json c =
    rw c.in-Json.is
    (simp (
      c.prepend_field-in-Json.ensures.text,
      c.prepend_text-in-Json.ensures.text,
      c.new-line.ensures.text,
    ) (end-line c.in-Json.field-0 c.args.n))
