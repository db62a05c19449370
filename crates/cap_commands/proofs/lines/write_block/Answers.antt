use Rattle.cap_commands.proofs.lines.write_block.Goals as goal

pub returns : goal.returns
returns c =
    simp (
      c.put_kind.ensures,
      c.put_number_as.ensures.text,
      c.put_number-2.ensures.text,
      c.put_word.ensures.text,
      c.order_name.ensures,
      c.put_block_kind.ensures.text,
      c.put_number.ensures.text,
      c.clear_to_end.ensures.text,
    )
