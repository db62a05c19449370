use Rattle.cap_commands.proofs.diff_lines.side_head.Goals as goal

pub returns-in-Json : goal.returns-in-Json
returns-in-Json c =
    rw c.in-Json.is
    (simp (
      c.prepend_text-in-Json-4.ensures.text,
      c.prepend_text-in-Json-3.ensures.text,
      c.prepend_text-in-Json-2.ensures.text,
      c.put_from.ensures.text,
      c.prepend_text-in-Json.ensures.text,
      c.new-line.ensures.text,
    ))
