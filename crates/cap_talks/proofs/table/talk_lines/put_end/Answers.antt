use Rattle.std.proofs.Common.{refl}
use Rattle.cap_print.proofs.Words.{quoted-word}
use Rattle.cap_talks.proofs.table.talk_lines.put_end.Goals as goal

pub returns-clause-text : goal.returns-clause-text
returns-clause-text c =
    rw (
      c.put_group.ensures.text,
      c.put_address_name.ensures.text,
      c.put_quote-2.ensures.text,
      c.prepend_address.ensures.text,
      c.put_quote.ensures.text,
      quoted-word,
      c.put_port.ensures.text,
      c.put_group_end.ensures.text,
    ) refl
